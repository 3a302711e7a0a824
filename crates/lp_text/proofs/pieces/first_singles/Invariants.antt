use Rattle.std.proofs.Common.{◌≡◌, length}
use Rattle.lp_text.specs.Singles.{AreSingles}
use Rattle.lp_text.proofs.pieces.first_singles.Given as goal

abbrev pub invariant-loop-k : goal.invariant-loop-k
invariant-loop-k l = (length l.all.items ≡ l.k) × AreSingles l.all.items
