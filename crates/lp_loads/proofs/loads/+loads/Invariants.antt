use Rattle.std.proofs.Common.{◌≡◌, ◌+◌, ◌*◌, ◌-◌, length}
use Rattle.lp_loads.specs.Family.{IsUnderWay}
use Rattle.lp_loads.proofs.loads.+loads.Given as goal

abbrev pub decreases-load : goal.decreases-load
decreases-load l = 4 * (65 - length l.under.now.items) + 3

abbrev pub decreases-load_declared : goal.decreases-load_declared
decreases-load_declared l = 4 * (65 - length l.under.now.items) + 2

abbrev pub decreases-load_parents : goal.decreases-load_parents
decreases-load_parents l = 4 * (66 - length l.under.now.items) + 1

abbrev pub decreases-load_parent : goal.decreases-load_parent
decreases-load_parent l = 4 * (66 - length l.under.now.items)

abbrev pub invariant-load_parents-loop-parent : goal.invariant-load_parents-loop-parent
invariant-load_parents-loop-parent l =
    (l.under.items ≡ l.fn.under.items) × IsUnderWay l.files l.simuls l.fn.under.items l.parents l.parent-index l.tables.items l.fn.known l.known
