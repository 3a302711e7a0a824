use Rattle.std.proofs.Common.{◌≡◌, length, refl, ◌∙◌, arith}
use Rattle.lp_tree.specs.TreeView.{tree_of}
use Rattle.lp_codegen_flow.proofs.Forms.{hides, hides_none}
use Rattle.lp_codegen_flow.proofs.stmt.gen_hidden.Goals as goal

pub returns-in_ok-append : goal.returns-in_ok-append
returns-in_ok-append c =
    hides (tree_of c.args.e.now) c.args.seen c.in_ok-hidden.hidden.items (record { layout = c.args.scope.now.layout; locals = c.split_off.new.self }) refl c.in_ok-hidden.ensures.items c.in_ok-hidden.ensures.tail c.in_ok-gen_expr.ensures refl c.in_ok-append.ensures.items

pub returns-in_ok-gen_expr-2 : goal.returns-in_ok-gen_expr-2
returns-in_ok-gen_expr-2 c =
    let long : c.len.result ≡ length c.args.scope.now.locals.items = c.len.ensures ∙ c.args.scope.now.locals.ok.0 in
    hides_none (tree_of c.args.e.now) c.args.seen (omega (arith, long, c.if-seen-len.false)) c.in_ok-gen_expr-2.ensures
