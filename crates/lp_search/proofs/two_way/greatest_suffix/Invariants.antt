use Rattle.std.proofs.Common.{slice_index, ◌+◌, ◌-◌, ◌*◌, length}
use Rattle.lp_search.specs.Cuts.{Precedes}
use Rattle.lp_search.proofs.SuffixLemmas.{IsScan}
use Rattle.lp_search.proofs.two_way.greatest_suffix.Given as goal

abbrev pub invariant-loop-candidate : goal.invariant-loop-candidate
invariant-loop-candidate l = IsScan (Precedes l.kind) (slice_index l.needle) (length l.needle) l.pos l.period l.candidate l.offset

abbrev pub decreases-loop-candidate : goal.decreases-loop-candidate
decreases-loop-candidate l = 2 * length l.needle + 1 - (l.pos + l.candidate + l.offset)
