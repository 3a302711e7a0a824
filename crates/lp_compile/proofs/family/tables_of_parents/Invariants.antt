use Rattle.std.proofs.Common.{drop}
use Rattle.lp_compile.specs.Known.{IsOnTheWay}
use Rattle.lp_compile.proofs.family.tables_of_parents.Given as goal

abbrev pub invariant-loop-parent : goal.invariant-loop-parent
invariant-loop-parent g l = IsOnTheWay (g.L.Loaded.known l.loaded) (drop l.parent-index l.parents) l.parents l.parent-index l.all.items
