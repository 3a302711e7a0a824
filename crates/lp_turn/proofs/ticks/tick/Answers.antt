use Rattle.std.proofs.Common.{◌∙◌, subst, sym}
use Rattle.lp_lasting_laws.specs.Numbers.{calls_due}
use Rattle.lp_turn.specs.Going.{BeginsAs}
use Rattle.lp_turn.specs.declared.job.Going.TheVariants as goings
use Rattle.lp_turn.specs.declared.tick_job.TickGoing.TheVariants as tick_goings
use Rattle.lp_turn.proofs.CalledOut.{calls_begin}
use Rattle.lp_turn.proofs.Timed.{have_numbers}
use Rattle.lp_turn.proofs.ticks.tick.Goals as goal

pub returns-in_err-due-clause-numbered : goal.returns-in_err-due-clause-numbered
returns-in_err-due-clause-numbered c = have_numbers c.args.live.now c.requires.closed

pub returns-clause-begins : goal.returns-clause-begins
returns-clause-begins c =
    subst (λ l. BeginsAs (calls_due c.args.moment) c.args.live.now l (goings.Tick (tick_goings.CallOuts c.numbers.result))) (sym c.set_clock.ensures.set)
    (calls_begin c.args.live.now c.args.moment c.numbers.result (c.numbers.ensures ∙ c.in_ok-due.ensures))

pub returns-clause-numbered : goal.returns-clause-numbered
returns-clause-numbered c = have_numbers c.args.live.now c.requires.closed
