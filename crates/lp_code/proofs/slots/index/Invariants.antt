use Rattle.std.proofs.Common.{take}
use Rattle.lp_code.specs.Slots.{IsIndex}
use Rattle.lp_code.proofs.slots.index.Given as goal

abbrev pub invariant-loop-i : goal.invariant-loop-i
invariant-loop-i l = IsIndex (take l.i l.rows) l.places
