use Rattle.std.proofs.Common.{◌≡◌, ◌≤◌, ◌+◌, drop}
use Rattle.lp_layout.specs.Pieces.{locals_in, seen}
use Rattle.lp_layout.proofs.pieces.are_more.Given as goal

abbrev pub invariant-loop-piece : goal.invariant-loop-piece
invariant-loop-piece l = record { left : l.left ≤ l.most; rest : l.left + locals_in (seen l.pieces) ≡ l.most + locals_in (seen (drop l.piece-index l.pieces)) }
