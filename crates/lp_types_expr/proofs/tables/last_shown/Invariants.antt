use Rattle.std.proofs.Common.{◌≡◌, ℕ, List, take}
use Rattle.lp_types_expr.specs.NameMaps.{named}
use Rattle.lp_types_expr.specs.Signatures.{last_shown}
use Rattle.lp_types_expr.proofs.tables.last_shown.Given as goal

abbrev pub invariant-loop-parent : goal.invariant-loop-parent
invariant-loop-parent l = (w : List ℕ) → named l.map w ≡ last_shown l.bodies (take l.parent-index l.parents) w
