use Rattle.std.proofs.Common.{take}
use Rattle.std.specs.List.{AllZip}
use Rattle.lp_types_expr.specs.ParentRows.{IsParent}
use Rattle.lp_types_expr.proofs.named.each_of.Given as goal

abbrev pub invariant-loop-parent : goal.invariant-loop-parent
invariant-loop-parent l = AllZip IsParent (take l.parent-index l.parents) l.each.items
