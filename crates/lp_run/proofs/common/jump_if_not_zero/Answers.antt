use Rattle.std.proofs.Common.{refl, ap, sym, ◌∙◌, ◌+◌}
use Rattle.lp_step.proofs.Moves.{jumped}
use Rattle.lp_step.proofs.Fits.{popped_fit}
use Rattle.lp_run.specs.Takes.{at_place}
use Rattle.lp_run.proofs.common.jump_if_not_zero.Goals as goal

pub returns-then-is_zero : goal.returns-then-is_zero
returns-then-is_zero c = λ budget. record {
  table = λ a m h fine named. jumped a c.args.live.now _ _ (at_place c.args.frame.now c.args.at.now) budget m (m.place + 1) c.args.to _ c.pop-v.result _ h c.pop-v.ensures (sym c.if-is_zero.true ∙ c.is_zero.ensures) (ap (λ n. n + 1) h.sits.place) fine;
  keeps = λ f. ((popped_fit c.args.live.now _ _ _ c.pop-v.ensures f).0, tt);
}

pub returns : goal.returns
returns c = λ budget. record {
  table = λ a m h fine named. jumped a c.args.live.now _ _ (at_place c.args.frame.now c.args.at.now) budget m (m.place + 1) c.args.to _ c.pop-v.result _ h c.pop-v.ensures (sym c.if-is_zero.false ∙ c.is_zero.ensures) refl fine;
  keeps = λ f. ((popped_fit c.args.live.now _ _ _ c.pop-v.ensures f).0, tt);
}
