use Rattle.lp_targets.proofs.Kept.{kept_closed, kept_more, kept_same, kept_stands, kept_stays}
use Rattle.lp_targets.proofs.internal.keep.Goals as goal

pub returns-in-Ok-clause-closed : goal.returns-in-Ok-clause-closed
returns-in-Ok-clause-closed c = kept_closed c.args.live.now _ c.args.version c.args.part c.args.slot c.args.answer c.requires.closed (kept_more _ _ _ _ _ _ c.in-Ok.ensures.ok) c.requires.answer

pub returns-in-Ok-clause-stays : goal.returns-in-Ok-clause-stays
returns-in-Ok-clause-stays c = kept_stays c.args.live.now _ c.args.version.0 c.args.part c.args.slot c.args.answer (kept_more _ _ _ _ _ _ c.in-Ok.ensures.ok)

pub returns-in-Ok-clause-stands : goal.returns-in-Ok-clause-stands
returns-in-Ok-clause-stands c = λ told programs w h is. kept_stands told programs c.args.live.now w _ c.args.version c.args.part c.args.slot c.args.answer h (kept_more _ _ _ _ _ _ c.in-Ok.ensures.ok) is

pub returns-in-Err-clause-closed : goal.returns-in-Err-clause-closed
returns-in-Err-clause-closed c = kept_closed c.args.live.now _ c.args.version c.args.part c.args.slot c.args.answer c.requires.closed (kept_same _ _ _ _ _ _ c.in-Err.ensures.err) c.requires.answer

pub returns-in-Err-clause-stays : goal.returns-in-Err-clause-stays
returns-in-Err-clause-stays c = kept_stays c.args.live.now _ c.args.version.0 c.args.part c.args.slot c.args.answer (kept_same _ _ _ _ _ _ c.in-Err.ensures.err)

pub returns-in-Err-clause-stands : goal.returns-in-Err-clause-stands
returns-in-Err-clause-stands c = λ told programs w h is. kept_stands told programs c.args.live.now w _ c.args.version c.args.part c.args.slot c.args.answer h (kept_same _ _ _ _ _ _ c.in-Err.ensures.err) is
