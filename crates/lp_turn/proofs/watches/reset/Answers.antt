use Rattle.std.proofs.Common.{◌∙◌, ◌+◌, ap, refl, subst}
use Rattle.lp_timers.specs.Timers.{Reset}
use Rattle.lp_turn.specs.TickSteps.{HasWatchAt}
use Rattle.lp_turn.specs.declared.job.Asked.TheVariants as asks
use Rattle.lp_turn.proofs.Watched.{reset_begins}
use Rattle.lp_turn.proofs.Words.{chars-reset}
use Rattle.lp_turn.proofs.watches.reset.Goals as goal

pub returns-clause-begins : goal.returns-clause-begins
returns-clause-begins c =
    reset_begins c.args.live.now c.set_watch.new.live c.args.o c.args.due _ c.requires.live
    (subst (λ t. HasWatchAt Reset c.args.o (t + 1800) c.args.live.now c.set_watch.new.live) c.moment.ensures.value c.in_ok-set_watch.ensures.set) (ap (λ t. asks.Apply c.args.o t) (c.in_ok-name.ensures ∙ chars-reset)) refl refl c.new.ensures.items
