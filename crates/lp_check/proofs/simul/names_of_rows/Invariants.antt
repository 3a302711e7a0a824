use Rattle.std.proofs.Common.{◌≡◌, take}
use Rattle.lp_check.specs.Report.{callable_names}
use Rattle.lp_check.proofs.simul.names_of_rows.Given as goal

abbrev pub invariant-loop-slot : goal.invariant-loop-slot
invariant-loop-slot l = l.names.items ≡ callable_names (take l.slot-index l.slots)
