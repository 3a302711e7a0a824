use Rattle.std.proofs.Common.{◌∙◌, ap, sym}
use Rattle.lp_world.proofs.Keeping.{live_same}
use Rattle.lp_making.proofs.Reloaded.{dead_stays, live_ends}
use Rattle.lp_making.proofs.files.destruct.Goals as goal

pub returns-then-is_live-clause-stands : goal.returns-then-is_live-clause-stands
returns-then-is_live-clause-stands c = live_ends c.args.live.now c.destroy.new.live c.args.ob c.destroy.result
    (λ told programs w h. ap (λ l. l c.args.ob) (sym (live_same told programs c.args.live.now w h)) ∙ sym c.is_live.ensures ∙ c.if-is_live.true)
    c.destroy.ensures.stands

pub returns-clause-stands : goal.returns-clause-stands
returns-clause-stands c = dead_stays c.args.live.now c.args.ob
    (λ told programs w h. ap (λ l. l c.args.ob) (sym (live_same told programs c.args.live.now w h)) ∙ sym c.is_live.ensures ∙ c.if-is_live.false)
