use Rattle.std.proofs.Common.{take}
use Rattle.lp_code.specs.Names.{HasPlaces}
use Rattle.lp_code.proofs.names.Names2.from_vec.Given as goal

abbrev pub invariant-loop-i : goal.invariant-loop-i
invariant-loop-i l = HasPlaces (take l.i l.names.items) l.places
