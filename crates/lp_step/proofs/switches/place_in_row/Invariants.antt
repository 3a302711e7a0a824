use Rattle.std.proofs.Common.{◌≡◌, drop}
use Rattle.lp_isa.specs.Machine.{table_place}
use Rattle.lp_step.specs.Switches.{with_texts}
use Rattle.lp_step.proofs.switches.place_in_row.Given as goal

abbrev pub invariant-loop-case : goal.invariant-loop-case
invariant-loop-case l = table_place (with_texts l.texts) l.v l.cases l.other ≡ table_place (with_texts l.texts) l.v (drop l.case-index l.cases) l.other
