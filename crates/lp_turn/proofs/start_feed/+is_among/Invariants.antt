use Rattle.std.proofs.Common.{length}
use Rattle.lp_turn.proofs.start_feed.+is_among.Given as goal

abbrev pub decreases-is_among : goal.decreases-is_among
decreases-is_among l = length l.objects.now
