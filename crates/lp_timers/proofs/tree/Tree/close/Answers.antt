use Rattle.std.proofs.Common.{arith}
use Rattle.lp_timers.proofs.LineLemmas.{from_joined, from_lower}
use Rattle.lp_timers.specs.Tree.{lines_of}
use Rattle.lp_timers.proofs.tree.Tree.close.Goals as goal

pub returns-clause-knows : goal.returns-clause-knows
returns-clause-knows c = (
  from_joined c.min-soonest.result (lines_of c.args.o.left) c.args.o.line (lines_of c.args.o.right)
      (from_lower c.soonest.result _ (lines_of c.args.o.left) (omega arith) c.soonest.ensures) (omega arith)
      (from_lower c.soonest-2.result _ (lines_of c.args.o.right) (omega arith) c.soonest-2.ensures),
  c.requires.left,
  c.requires.right,
)
