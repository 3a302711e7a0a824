use Rattle.std.proofs.Common.{◌∙◌, ap, is_some}
use Rattle.lp_part_laws.specs.Parts.{reached_in}
use Rattle.lp_masking.proofs.Rows.{reach_some}
use Rattle.lp_masking.proofs.masking.has_function.Goals as goal

pub returns-in-Some : goal.returns-in-Some
returns-in-Some c = reach_some c.in-Some.slot.now ∙ ap (λ o. is_some (reached_in o)) c.in-Some.ensures

pub returns-in-None : goal.returns-in-None
returns-in-None c = ap (λ o. is_some (reached_in o)) c.in-None.ensures
