use Rattle.std.proofs.Common.{take}
use Rattle.std.specs.Prelude.{filter}
use Rattle.lp_types_expr.specs.ParentRows.{Chooses, parent_has}
use Rattle.lp_types_expr.proofs.named.chosen_of.Given as goal

abbrev pub invariant-loop-i : goal.invariant-loop-i
invariant-loop-i l = Chooses l.each (filter (parent_has l.name) (take l.i l.each)) l.chosen
