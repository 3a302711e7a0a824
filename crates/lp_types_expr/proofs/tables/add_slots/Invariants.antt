use Rattle.std.proofs.Common.{◌≡◌, ℕ, List, take}
use Rattle.lp_types_expr.specs.NameMaps.{named}
use Rattle.lp_types_expr.specs.Signatures.{row_named, shown_if, or_else}
use Rattle.lp_types_expr.proofs.tables.add_slots.Given as goal

abbrev pub invariant-loop-i : goal.invariant-loop-i
invariant-loop-i l = (w : List ℕ) → named l.map w ≡ or_else (shown_if l.bodies (row_named (take l.i l.slots) w)) (named l.fn.map w)
