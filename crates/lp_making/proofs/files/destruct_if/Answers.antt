use Rattle.std.proofs.Common.{None, subst, sym}
use Rattle.lp_making.specs.Reloads.{StandsDestructed}
use Rattle.lp_making.proofs.Reloaded.{none_stays}
use Rattle.lp_making.proofs.files.destruct_if.Goals as goal

pub returns-in-Some-clause-stands : goal.returns-in-Some-clause-stands
returns-in-Some-clause-stands c = subst (λ o. StandsDestructed c.args.live.now c.destruct.new.live o c.destruct.result) (sym c.in-Some.is) c.destruct.ensures.stands

pub returns-in-None-clause-stands : goal.returns-in-None-clause-stands
returns-in-None-clause-stands c = subst (λ o. StandsDestructed c.args.live.now c.args.live.now o None) (sym c.in-None.is) (none_stays c.args.live.now)
