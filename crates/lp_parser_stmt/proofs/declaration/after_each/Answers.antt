use Rattle.std.proofs.Common.{◌≡◌, [], sym, subst, ◌∙◌, true}
use Rattle.std.specs.Prelude.{Ok, Some, None, bytes_eq, codes, if◌then◌else◌}
use Rattle.lp_parser_expr.specs.Machine.{Need as expr_need}
use Rattle.lp_parser_stmt.specs.Machine.{Reading, each_named, over}
use Rattle.lp_parser_stmt.specs.Moves.{Steps}
use Rattle.lp_parser_stmt.proofs.declaration.after_each.Goals as goal

pub returns-then-is_in : goal.returns-then-is_in
returns-then-is_in c = λ s.
    let role = over c.args.line c.args.first c.args.each in
    let r = Ok c.begin_over.result in
    let whole = subst (λ y. Steps (Some (Reading (expr_need []) y s)) s r) c.over.ensures (c.begin_over.ensures s) in
    let is : true ≡ bytes_eq c.in-Name.name (codes "in") = sym c.if-is_in.true ∙ c.is_in.ensures in
    subst (λ k. Steps (each_named k c.args.line c.args.first c.args.each s) s r) (sym c.in-Name.is) (subst (λ b. Steps (if b then Some (Reading (expr_need []) role s) else None) s r) is whole)

pub returns-in-Mark : goal.returns-in-Mark
returns-in-Mark c = λ s. subst (λ k. Steps (each_named k c.args.line c.args.first c.args.each s) s (Ok c.after_each_mark.result)) (sym c.in-Mark.is) (c.after_each_mark.ensures s)
