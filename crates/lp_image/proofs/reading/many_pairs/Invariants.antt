use Rattle.std.proofs.Common.{◌≡◌, ◌-◌}
use Rattle.lp_image.specs.Reading.{many_at, pair_at}
use Rattle.lp_image.proofs.Loop.{with_front}
use Rattle.lp_image.proofs.reading.many_pairs.Given as goal

abbrev pub invariant-loop : goal.invariant-loop
invariant-loop l = with_front pair_at l.pairs.items (many_at pair_at (l.count - l.counter) l.rest) ≡ many_at pair_at l.count l.bytes
