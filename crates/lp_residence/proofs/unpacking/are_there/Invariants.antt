use Rattle.std.proofs.Common.{All, take}
use Rattle.lp_cells.specs.Cells.{IsThere}
use Rattle.lp_residence.proofs.unpacking.are_there.Given as goal

abbrev pub invariant-loop-v : goal.invariant-loop-v
invariant-loop-v l = All (IsThere l.cells) (take l.v-index l.values)
