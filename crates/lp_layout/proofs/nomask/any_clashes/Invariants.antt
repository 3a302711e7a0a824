use Rattle.std.proofs.Common.{◌≡◌, false, take}
use Rattle.std.specs.List.{list_any}
use Rattle.lp_types_expr.specs.NameMaps.{named}
use Rattle.lp_layout.specs.LayoutFaults.{source}
use Rattle.lp_layout.specs.Standing.{clashes}
use Rattle.lp_layout.proofs.nomask.any_clashes.Given as goal

abbrev pub invariant-loop-row : goal.invariant-loop-row
invariant-loop-row l = list_any (λ s. clashes (named l.known s.name) (source l.parent s.name)) (take l.row-index l.rows) ≡ false
