use Rattle.std.proofs.Common.{subst, sym}
use Rattle.lp_loading.specs.Going.{Takes}
use Rattle.lp_loading.proofs.SeenNames.{if_ok}
use Rattle.lp_loading.proofs.feed.feed.Goals as goal

pub returns-in_ok-take_simul-in-Simul-clause-takes : goal.returns-in_ok-take_simul-in-Simul-clause-takes
returns-in_ok-take_simul-in-Simul-clause-takes c = λ told turn budget.
    subst (λ w. Takes c.in_ok-take_simul-in-Simul.field-0 c.args.job.now w c.args.answer told c.args.live.now c.args.job.now turn budget) (sym c.in-Simul.is) (c.in_ok-take_simul-in-Simul.ensures.takes told turn budget)

pub returns-in-Parent-clause-takes : goal.returns-in-Parent-clause-takes
returns-in-Parent-clause-takes c =
    if_ok c.take_parent.result _ _
    (λ r f told turn budget. subst (λ w. Takes r c.args.job.now w c.args.answer told c.args.live.now c.take_parent.new.job turn budget) (sym c.in-Parent.is) (f told turn budget))
    c.take_parent.ensures.takes
