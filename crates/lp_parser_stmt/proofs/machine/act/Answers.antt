use Rattle.std.proofs.Common.{◌∙◌, ap, subst, sym}
use Rattle.std.specs.Prelude.{Ok}
use Rattle.lp_tree.specs.StatementView.{stmt_of}
use Rattle.lp_parser_stmt.specs.Machine.{Inside, act}
use Rattle.lp_parser_stmt.specs.Moves.{Steps}
use Rattle.lp_parser_stmt.specs.StackView.{stack_of}
use Rattle.lp_parser_stmt.specs.View.{frame_of}
use Rattle.lp_parser_stmt.proofs.machine.act.Goals as goal

pub returns-in-Some-DoBody : goal.returns-in-Some-DoBody
returns-in-Some-DoBody c =
    let s = stack_of c.pop.new.self in
    subst (λ t. Steps (act c.args.seen (stmt_of c.args.stmt.value) t) s (Ok c.after_body.result)) (sym (c.in-Some-DoBody.ensures.some ∙ ap (λ f. Inside (frame_of f) s) c.in-Some-DoBody.field-0-is)) (c.after_body.ensures s)
