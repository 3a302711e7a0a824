use Rattle.std.proofs.Common.{◌≡◌, ◌-◌}
use Rattle.lp_image.specs.Reading.{many_at, value_at}
use Rattle.lp_image.proofs.Loop.{with_front}
use Rattle.lp_image.proofs.reading.many_values.Given as goal

abbrev pub invariant-loop : goal.invariant-loop
invariant-loop l = with_front value_at l.values.items (many_at value_at (l.count - l.counter) l.rest) ≡ many_at value_at l.count l.bytes
