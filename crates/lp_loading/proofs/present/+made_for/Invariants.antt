use Rattle.std.proofs.Common.{length}
use Rattle.lp_loading.proofs.present.+made_for.Given as goal

abbrev pub decreases-made_for : goal.decreases-made_for
decreases-made_for l = length l.made.now
