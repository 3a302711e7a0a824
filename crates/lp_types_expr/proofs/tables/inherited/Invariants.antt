use Rattle.std.proofs.Common.{◌≡◌, ℕ, List, take}
use Rattle.lp_types_expr.specs.NameMaps.{named}
use Rattle.lp_types_expr.specs.Signatures.{inherited_kind}
use Rattle.lp_types_expr.proofs.tables.inherited.Given as goal

abbrev pub invariant-loop-parent : goal.invariant-loop-parent
invariant-loop-parent l = (w : List ℕ) → named l.kinds w ≡ inherited_kind (take l.parent-index l.parents) w
