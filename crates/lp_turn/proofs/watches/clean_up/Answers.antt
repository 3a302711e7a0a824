use Rattle.std.proofs.Common.{◌∙◌, ◌+◌, ap, refl, subst}
use Rattle.lp_timers.specs.Timers.{CleanUp}
use Rattle.lp_turn.specs.TickSteps.{HasWatchAt}
use Rattle.lp_turn.specs.declared.job.Asked.TheVariants as asks
use Rattle.lp_turn.proofs.Watched.{clean_up_begins, one_there}
use Rattle.lp_turn.proofs.Words.{chars-clean_up}
use Rattle.lp_turn.proofs.watches.clean_up.Goals as goal

pub returns-clause-begins : goal.returns-clause-begins
returns-clause-begins c =
    clean_up_begins c.args.live.now c.set_watch.new.live c.args.o c.args.due c.in_ok-argument.argument _ c.in_ok-argument.ensures.value c.requires.live
    (subst (λ t. HasWatchAt CleanUp c.args.o (t + 3600) c.args.live.now c.set_watch.new.live) c.moment.ensures.value c.in_ok-set_watch.ensures.set) (ap (λ t. asks.Apply c.args.o t) (c.in_ok-name.ensures ∙ chars-clean_up)) refl refl c.in_ok-arguments.ensures

pub returns-clause-there : goal.returns-clause-there
returns-clause-there c = λ cells. one_there cells c.in_ok-argument.argument c.in_ok-arguments.arguments.items c.in_ok-arguments.ensures (c.in_ok-argument.ensures.there cells)
