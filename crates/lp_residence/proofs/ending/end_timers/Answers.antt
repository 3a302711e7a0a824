use Rattle.std.proofs.Common.{◌∙◌}
use Rattle.lp_timers.specs.Waiting.{call_out_of}
use Rattle.lp_residence.proofs.CallOutLemmas.{loop_ends, loop_goes_on}
use Rattle.lp_residence.proofs.ending.end_timers.Goals as goal

pub loop-smaller : goal.loop-smaller
loop-smaller c = (loop_goes_on call_out_of c.drop_of.result c.is_some.result c.loop.timers c.drop_of.new.self c.args.ob c.is_some.ensures c.if-is_some.true c.drop_of.ensures.earliest c.drop_of.ensures.left c.loop.invariant.once).fewer

pub loop-preserved : goal.loop-preserved
loop-preserved c =
    let g = loop_goes_on call_out_of c.drop_of.result c.is_some.result c.loop.timers c.drop_of.new.self c.args.ob c.is_some.ensures c.if-is_some.true c.drop_of.ensures.earliest c.drop_of.ensures.left c.loop.invariant.once in
    record {
      next = g.next ∙ c.loop.invariant.next;
      beats = g.beats ∙ c.loop.invariant.beats;
      watches = g.watches ∙ c.loop.invariant.watches;
      once = g.once;
      others = g.others ∙ c.loop.invariant.others;
    }

pub returns : goal.returns
returns c =
    loop_ends call_out_of c.drop_of.result c.is_some.result c.args.timers.now c.loop.timers c.drop_of.new.self c.args.ob c.is_some.ensures c.if-is_some.false c.drop_of.ensures.earliest c.drop_of.ensures.left
    c.loop.invariant.next c.loop.invariant.beats c.loop.invariant.watches c.loop.invariant.others
