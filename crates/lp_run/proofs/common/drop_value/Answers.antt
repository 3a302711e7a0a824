use Rattle.std.proofs.Common.{ap, ◌+◌}
use Rattle.lp_step.specs.Steps.{LeadsTo}
use Rattle.lp_step.specs.declared.next.Next.TheVariants as nexts
use Rattle.lp_isa.specs.Machine.{goes}
use Rattle.lp_step.proofs.Moves.{again, on_one_leads}
use Rattle.lp_step.proofs.Fits.{popped_fit}
use Rattle.lp_run.specs.Takes.{at_place}
use Rattle.lp_run.proofs.common.drop_value.Goals as goal

pub returns : goal.returns
returns c = λ live budget. record {
  table = λ a m h fine named.
      on_one_leads (LeadsTo a nexts.Again live c.pop-v.new.stack.items (at_place c.args.frame.now (c.args.at.now + 1)) budget) (λ v rest. goes (m.place + 1) rest m.catches m.state) _ m.stack _ _ _ h.sits.lies c.pop-v.ensures fine
      (λ ops e f. again a live _ _ (at_place c.args.frame.now c.args.at.now) budget m ops _ _ h e (ap (λ n. n + 1) h.sits.place));
  keeps = λ f. ((popped_fit live _ _ _ c.pop-v.ensures f).0, tt);
}
