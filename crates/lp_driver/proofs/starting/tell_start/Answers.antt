use Rattle.std.proofs.Common.{ap, subst, sym}
use Rattle.lp_world.specs.declared.live.Live.{Live}
use Rattle.lp_turn.specs.Starting.{IsStartThere}
use Rattle.lp_driver.proofs.starting.tell_start.Goals as goal

pub returns-clause-there : goal.returns-clause-there
returns-clause-there g c =
    subst (λ cells. IsStartThere cells c.in_ok-going.going) (sym (ap (λ (l : Live). l.cells) c.in_ok-going.ensures.brings.stays.others)) (c.in_ok-going.ensures.there c.args.live.now.cells c.requires.there)
