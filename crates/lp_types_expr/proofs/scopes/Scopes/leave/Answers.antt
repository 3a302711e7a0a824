use Rattle.std.proofs.Common.{ap, ◌∙◌}
use Rattle.lp_types_expr.specs.declared.mark.Mark.{Mark}
use Rattle.lp_types_expr.specs.Scopes.{declaring, inside, left}
use Rattle.lp_types_expr.proofs.Blocks.{left_view, left_back}
use Rattle.lp_types_expr.proofs.scopes.Scopes.leave.Goals as goal

pub returns-clause-left : goal.returns-clause-left
returns-clause-left c =
    left_view c.self.inside.answer c.self.inside.rows.items c.keep-self-inside.new.rows.items c.self.inside.outer c.keep-self-inside.result c.args.mark c.keep-self-inside.ensures.rows c.keep-self-inside.ensures.outer
    ∙ ap (left c.args.mark) c.self.view_is

pub returns-clause-back : goal.returns-clause-back
returns-clause-back c = λ before more m o.
    left_view c.self.inside.answer c.self.inside.rows.items c.keep-self-inside.new.rows.items c.self.inside.outer c.keep-self-inside.result c.args.mark c.keep-self-inside.ensures.rows c.keep-self-inside.ensures.outer
    ∙ ap (left c.args.mark) (c.self.view_is ∙ o) ∙ ap (λ (z : Mark). left z (declaring (inside before) more)) m ∙ left_back before more
