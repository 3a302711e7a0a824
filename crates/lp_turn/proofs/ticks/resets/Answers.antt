use Rattle.std.proofs.Common.{◌∙◌, ap}
use Rattle.lp_turn.proofs.Watched.{resets_begin}
use Rattle.lp_turn.proofs.ticks.resets.Goals as goal

pub returns : goal.returns
returns c = record {
  begins = resets_begin c.args.live.now c.args.moment c.due_objects.result (c.due_objects.ensures ∙ ap (λ os. record { moment = c.args.moment; objects = os }) c.in_ok-due.ensures);
}
