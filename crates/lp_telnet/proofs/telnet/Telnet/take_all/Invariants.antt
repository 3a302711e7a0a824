use Rattle.std.proofs.Common.{◌≡◌, List, ◌++◌, ℕ, drop}
use Rattle.lp_telnet.specs.Lines.{BeginsWith, first_line, lines_from}
use Rattle.lp_telnet.proofs.telnet.Telnet.take_all.Given as goal

abbrev pub invariant-loop-byte : goal.invariant-loop-byte
invariant-loop-byte l = record {
  ok : (rest : List ℕ) → l.lines.items ++ lines_from l.self (drop l.byte-index l.bytes ++ rest) ≡ l.fn.lines.items ++ lines_from l.fn.self (l.bytes ++ rest);
  begun : BeginsWith (first_line l.fn.lines.items l.fn.self.line) (first_line l.lines.items l.self.line);
}
