use Rattle.std.proofs.Common.{◌≡◌, ◌≤◌, take}
use Rattle.std.specs.Prelude.{Some}
use Rattle.lp_parser.specs.Machine.{start, walk}
use Rattle.lp_parser.specs.Depth.{least}
use Rattle.lp_parser.specs.Moves.{state_of}
use Rattle.lp_parser.specs.Theorem.{sight}
use Rattle.lp_parser.specs.View.{before_of}
use Rattle.lp_parser.proofs.reading.read.Given as goal

abbrev pub invariant-loop-i : goal.invariant-loop-i
invariant-loop-i l = record {
  walked : walk start (sight (take l.i l.tokens)) ≡ Some (state_of l.focus (before_of l.before));
  shallow : least (state_of l.focus (before_of l.before)) ≤ l.limit;
}
