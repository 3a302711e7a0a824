use Rattle.std.proofs.Common.{◌∙◌, ap, sym}
use Rattle.std.specs.Str.{chars}
use Rattle.lp_meaning.specs.Askers.{cause_text}
use Rattle.lp_asking.specs.Endings.{cause_of}
use Rattle.lp_targets.proofs.Lookups.{if_ok}
use Rattle.lp_beginning.proofs.report.cause_text.Goals as goal

pub returns-in-Thrown : goal.returns-in-Thrown
unfolding chars
returns-in-Thrown c = if_ok c.code_points.result (λ v e. e ∙ ap (λ x. cause_text (cause_of x)) (sym c.in-Thrown.is)) c.code_points.ensures

pub returns-in-Spent : goal.returns-in-Spent
unfolding chars
returns-in-Spent c = if_ok c.code_points-in-Spent.result (λ v e. e ∙ ap (λ x. cause_text (cause_of x)) (sym c.in-Spent.is)) c.code_points-in-Spent.ensures
