use Rattle.std.proofs.Common.{◌≡◌, ◌+◌, length, drop}
use Rattle.std.specs.Prelude.{filter}
use Rattle.lp_types_expr.specs.Known.{has_path}
use Rattle.lp_layout.specs.Layout.{digit}
use Rattle.lp_layout.proofs.faults.is_ambiguous.Given as goal

abbrev pub invariant-loop-parent : goal.invariant-loop-parent
invariant-loop-parent l = digit l.is_found + length (filter (has_path l.name) (drop l.parent-index l.parents)) ≡ length (filter (has_path l.name) l.parents)
