use Rattle.std.proofs.Common.{◌≡◌, ◌+◌, ◌++◌, drop, map}
use Rattle.lp_tree.specs.StatementView.{declarator_of}
use Rattle.lp_layout.specs.Pieces.{ones_pieces, seen}
use Rattle.lp_layout.proofs.pieces.add_ones.Given as goal

abbrev pub invariant-loop-one : goal.invariant-loop-one
invariant-loop-one l = seen l.initial.into.items ++ ones_pieces (map declarator_of l.ones) ≡ seen l.into.items ++ ones_pieces (map declarator_of (drop l.one-index l.ones))
