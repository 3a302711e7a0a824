use Rattle.std.proofs.Common.{◌≡◌, ◌≤◌, ◌<◌, [], take}
use Rattle.std.specs.Prelude.{Some}
use Rattle.lp_parser_expr.specs.Machine.{Need, walk}
use Rattle.lp_parser_expr.specs.Depth.{least}
use Rattle.lp_parser_expr.specs.Moves.{state_of}
use Rattle.lp_parser_expr.specs.StackView.{stack_of}
use Rattle.lp_parser_expr.specs.Theorem.{sight}
use Rattle.lp_parser_expr.proofs.reading.read.Given as goal

abbrev pub invariant-loop-i : goal.invariant-loop-i
invariant-loop-i l = record {
  walked : walk (Need []) (sight (take l.i l.tokens)) ≡ Some (state_of l.focus (stack_of l.stack));
  shallow : 0 < l.i → least (state_of l.focus (stack_of l.stack)) ≤ l.limit;
}
