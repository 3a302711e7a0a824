use Rattle.lp_cells.specs.Slots.{IsNumbered}
use Rattle.lp_cells.proofs.slots.number_all.Given as goal

abbrev pub invariant-loop-s : goal.invariant-loop-s
invariant-loop-s l = IsNumbered l.s l.places.entries l.slots
