use Rattle.std.proofs.Common.{◌≡◌, ◌-◌}
use Rattle.lp_image.specs.Reading.{many_at, cell_at}
use Rattle.lp_image.proofs.Loop.{with_front}
use Rattle.lp_image.proofs.reading.many_cells.Given as goal

abbrev pub invariant-loop : goal.invariant-loop
invariant-loop l = with_front cell_at l.cells.items (many_at cell_at (l.count - l.counter) l.rest) ≡ many_at cell_at l.count l.bytes
