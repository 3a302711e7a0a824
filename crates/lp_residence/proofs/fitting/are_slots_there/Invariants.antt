use Rattle.std.proofs.Common.{All, take}
use Rattle.lp_residence.specs.Programs.{IsSlotAmong}
use Rattle.lp_residence.proofs.fitting.are_slots_there.Given as goal

abbrev pub invariant-loop-slot : goal.invariant-loop-slot
invariant-loop-slot l = All (IsSlotAmong l.counts) (take l.slot-index l.slots)
