use Rattle.std.proofs.Common.{ap, ◌∙◌}
use Rattle.lp_residence.specs.Idling.{together}
use Rattle.lp_residence.proofs.IdleLemmas.{one_more, told_after}
use Rattle.lp_residence.proofs.idling.put_one.Goals as goal

pub returns-in-Ok-clause-put : goal.returns-in-Ok-clause-put
returns-in-Ok-clause-put g c = record {
  answer = c.in-Ok.answer;
  put = c.in-Ok.ensures.answer;
  faults = c.in-Ok.ensures.faults;
  counts = c.count.ensures;
  moved = ap together c.count.ensures ∙ one_more c.args.who c.args.live.now c.put_out.new.live (g.W.SwapFile.content c.put_out.new.swap) c.in-Ok.answer c.args.counts.now c.in-Ok.ensures.answer c.requires.there c.requires.here;
}

pub returns-in-Ok-clause-stands : goal.returns-in-Ok-clause-stands
returns-in-Ok-clause-stands g c = λ is. (told_after c.args.who c.args.live.now (g.W.SwapFile.content c.args.swap.now) (g.W.SwapFile.content c.put_out.new.swap) c.in-Ok.ensures.written is, c.in-Ok.ensures.stands is)

pub returns-in-Err-clause-stands : goal.returns-in-Err-clause-stands
returns-in-Err-clause-stands g c = λ is. (told_after c.args.who c.args.live.now (g.W.SwapFile.content c.args.swap.now) (g.W.SwapFile.content c.put_out.new.swap) c.in-Err.ensures.written is, c.in-Err.ensures.stands is)
