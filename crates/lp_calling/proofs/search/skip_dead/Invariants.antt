use Rattle.std.proofs.Common.{◌-◌, ◌≤◌, length}
use Rattle.lp_calling.specs.Searches.{ArePassed}
use Rattle.lp_calling.proofs.search.skip_dead.Given as goal

abbrev pub invariant-loop-n : goal.invariant-loop-n
invariant-loop-n l = record { passed : ArePassed l.live l.objects.items l.done l.n; more : l.done ≤ l.n }

abbrev pub decreases-loop-n : goal.decreases-loop-n
decreases-loop-n l = length l.objects.items - l.n
