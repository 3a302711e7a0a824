use Rattle.std.proofs.Common.{◌≡◌, ◌+◌, ◌-◌, ◌≤◌, drop, length, map}
use Rattle.lp_text.specs.Pieces.{pieces}
use Rattle.lp_save.specs.Desks.{as_line, newline, rest_of}
use Rattle.lp_save.specs.Reading.{lines_at, lines_from}
use Rattle.lp_save.proofs.restore.read_lines.Given as goal

abbrev pub invariant-loop-at : goal.invariant-loop-at
invariant-loop-at l = record {
  so_far : lines_from (pieces newline l.bytes) (rest_of l.fn.reader) ≡ lines_at l.number (map as_line l.lines.items) (pieces newline (drop l.at l.bytes)) (rest_of l.reader);
  within : l.at ≤ length l.bytes;
  small : l.number ≤ l.at + 1;
  base : l.reader.base ≡ l.fn.reader.base;
}

abbrev pub decreases-loop-at : goal.decreases-loop-at
decreases-loop-at l = length l.bytes - l.at
