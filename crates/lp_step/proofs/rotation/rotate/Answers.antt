use Rattle.lp_step.proofs.Brought.{brought, brought_fit}
use Rattle.lp_step.proofs.rotation.rotate.Goals as goal

pub returns : goal.returns
returns c = record {
  table = λ live budget a m h fine named. brought a live _ _ c.args.frame.now budget m c.args.n h c.requires.some c.requires.operands c.in_ok-bring.ensures fine;
  keeps = λ live f. (brought_fit live _ _ c.args.n c.in_ok-bring.ensures f, tt);
}
