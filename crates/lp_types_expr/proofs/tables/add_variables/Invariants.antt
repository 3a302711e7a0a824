use Rattle.std.proofs.Common.{◌≡◌, ℕ, List, take}
use Rattle.lp_types_expr.specs.NameMaps.{named}
use Rattle.lp_types_expr.specs.Signatures.{row_kind, or_else}
use Rattle.lp_types_expr.proofs.tables.add_variables.Given as goal

abbrev pub invariant-loop-row : goal.invariant-loop-row
invariant-loop-row l = (w : List ℕ) → named l.kinds w ≡ or_else (row_kind (take l.row-index l.rows) w) (named l.fn.kinds w)
