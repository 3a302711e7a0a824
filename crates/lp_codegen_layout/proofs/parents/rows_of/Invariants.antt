use Rattle.std.proofs.Common.{◌≡◌, map, take}
use Rattle.lp_codegen_layout.specs.Laid.{row_names}
use Rattle.lp_codegen_layout.proofs.parents.rows_of.Given as goal

abbrev pub invariant-loop-parent : goal.invariant-loop-parent
invariant-loop-parent l = l.all.items ≡ map (λ t. row_names t.slots) (take l.parent-index l.parents)
