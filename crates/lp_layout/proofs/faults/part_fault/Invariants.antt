use Rattle.std.proofs.Common.{◌≡◌, drop}
use Rattle.lp_types_expr.specs.Visits.{judged, visited}
use Rattle.lp_layout.specs.LayoutFaults.{call_guilt, first_fault, limits}
use Rattle.lp_layout.proofs.faults.part_fault.Given as goal

abbrev pub invariant-loop-i : goal.invariant-loop-i
invariant-loop-i l = first_fault (judged (call_guilt limits l.parents) (visited l.parts)) ≡ first_fault (judged (call_guilt limits l.parents) (visited (drop l.i l.parts)))
