use Rattle.std.proofs.Common.{◌≡◌, ◌-◌, [], length, drop}
use Rattle.lp_preproc.specs.Directives.{more_parameters}
use Rattle.lp_preproc.proofs.definitions.more_parameters.Given as goal

abbrev pub invariant-names : goal.invariant-names
invariant-names l = more_parameters l.names (drop l.i l.words) ≡ more_parameters [] l.words

abbrev pub decreases-names : goal.decreases-names
decreases-names l = length l.words - l.i
