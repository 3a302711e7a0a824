use Rattle.std.proofs.Common.{subst, sym}
use Rattle.std.proofs.lemmas.Result.{IfOk-weaker}
use Rattle.lp_turn.specs.Going.{Goes}
use Rattle.lp_turn.specs.declared.job.Going.TheVariants as goings
use Rattle.lp_turn.specs.declared.tick_job.TickGoing.TheVariants as tick_goings
use Rattle.lp_turn.proofs.heart_beats.beat_after.Goals as goal

pub returns-then-is_uncaught-clause-goes : goal.returns-then-is_uncaught-clause-goes
returns-then-is_uncaught-clause-goes c =
    IfOk-weaker c.beat_without.result _ _
    (λ r b. subst (λ u. Goes r (goings.Tick (tick_goings.Beaten c.args.o u c.args.due)) c.args.live.now c.beat_without.new.live) (sym c.if-is_uncaught.true) b) c.beat_without.ensures.goes

pub returns-clause-goes : goal.returns-clause-goes
returns-clause-goes c =
    IfOk-weaker c.beat_next.result _ _ (λ r b. subst (λ u. Goes r (goings.Tick (tick_goings.Beaten c.args.o u c.args.due)) c.args.live.now c.beat_next.new.live) (sym c.if-is_uncaught.false) b) c.beat_next.ensures.goes
