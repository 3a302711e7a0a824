use Rattle.std.proofs.Common.{◌∙◌, ◌++◌, ap, arith}
use Rattle.std.specs.Prelude.{codes}
use Rattle.lp_script.proofs.Numerals.{decimal-numeral}
use Rattle.lp_workload.proofs.event.name_of_box.Goals as goal

pub returns : goal.returns
returns c = c.from_string.ensures ∙ c.in_ok-name.ensures.ok ∙ ap (λ xs. codes "/obj/box#" ++ xs) (decimal-numeral _ (omega arith))
