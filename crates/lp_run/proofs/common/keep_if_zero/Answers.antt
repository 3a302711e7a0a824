use Rattle.std.proofs.Common.{refl, ap, sym, ◌∙◌, ◌+◌, ◌∷◌}
use Rattle.std.proofs.Common.{true, false}
use Rattle.lp_step.specs.Steps.{LeadsTo}
use Rattle.lp_step.specs.declared.next.Next.TheVariants as nexts
use Rattle.lp_isa.specs.Machine.{goes}
use Rattle.lp_step.proofs.Moves.{again, last, on_zero}
use Rattle.lp_step.proofs.Fits.{popped_fit}
use Rattle.lp_run.specs.Takes.{at_place}
use Rattle.lp_run.proofs.common.keep_if_zero.Goals as goal

pub returns-then-is_top_zero : goal.returns-then-is_top_zero
returns-then-is_top_zero c = λ budget. record {
  table = λ a m h fine named.
      on_zero (LeadsTo a nexts.Again c.args.live.now c.args.stack.now.items (at_place c.args.frame.now c.args.to) budget) a c.args.live.now c.args.stack.now.items (at_place c.args.frame.now c.args.at.now) budget m (λ v rest. goes c.args.to (v ∷ rest) m.catches m.state) (λ v rest. goes (m.place + 1) rest m.catches m.state) c.is_top_zero.result true h c.if-is_top_zero.true c.is_top_zero.ensures fine
      (λ v ops l. again a c.args.live.now _ _ (at_place c.args.frame.now c.args.at.now) budget m (v ∷ ops) _ _ h l refl);
  keeps = λ f. (f, tt);
}

pub returns : goal.returns
returns c = λ budget. record {
  table = λ a m h fine named.
      on_zero (LeadsTo a nexts.Again c.args.live.now c.pop-v.new.stack.items (at_place c.args.frame.now (c.args.at.now + 1)) budget) a c.args.live.now c.args.stack.now.items (at_place c.args.frame.now c.args.at.now) budget m (λ v rest. goes c.args.to (v ∷ rest) m.catches m.state) (λ v rest. goes (m.place + 1) rest m.catches m.state) c.is_top_zero.result false h c.if-is_top_zero.false c.is_top_zero.ensures fine
      (λ v ops l. again a c.args.live.now _ _ (at_place c.args.frame.now c.args.at.now) budget m ops _ _ h (last _ _ _ _ (sym c.pop-v.ensures ∙ l)).0 (ap (λ n. n + 1) h.sits.place));
  keeps = λ f. ((popped_fit c.args.live.now _ _ _ c.pop-v.ensures f).0, tt);
}
