use Rattle.std.proofs.Common.{◌+◌, ◌*◌, length}
use Rattle.lp_verify.specs.Walks.{facts}
use Rattle.lp_verify.specs.Work.{left}
use Rattle.lp_verify.proofs.Looking.{Begins, Solves}
use Rattle.lp_verify.proofs.solve.solve.Given as goal

abbrev pub invariant-loop-row : goal.invariant-loop-row
invariant-loop-row l = Begins l.body l.row-index l.walk

abbrev pub invariant-loop-at : goal.invariant-loop-at
invariant-loop-at l = Solves l.body l.walk

abbrev pub decreases-loop-at : goal.decreases-loop-at
decreases-loop-at l = 2 * left (facts l.walk) + length l.walk.todo.items
