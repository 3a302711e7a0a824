use Rattle.std.proofs.Common.{◌≡◌, ℕ, List, take}
use Rattle.lp_types_expr.specs.Signatures.{or_else}
use Rattle.lp_layout.specs.Layout.{slot_named, slot_shown}
use Rattle.lp_layout.specs.Origins.{rowed}
use Rattle.lp_layout.proofs.shown.add_slots.Given as goal

abbrev pub invariant-loop-i : goal.invariant-loop-i
invariant-loop-i l = (w : List ℕ) → rowed l.origins w ≡ or_else (rowed l.fn.origins w) (slot_shown l.bodies l.first (slot_named (take l.i l.slots) w))
