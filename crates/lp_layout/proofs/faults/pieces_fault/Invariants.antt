use Rattle.std.proofs.Common.{◌≡◌, drop}
use Rattle.lp_layout.specs.LayoutFaults.{call_guilt, first_fault, limits}
use Rattle.lp_layout.specs.Pieces.{calls_in, seen}
use Rattle.lp_layout.proofs.faults.pieces_fault.Given as goal

abbrev pub invariant-loop-i : goal.invariant-loop-i
invariant-loop-i l = first_fault (calls_in (call_guilt limits l.parents) (seen l.pieces)) ≡ first_fault (calls_in (call_guilt limits l.parents) (seen (drop l.i l.pieces)))
