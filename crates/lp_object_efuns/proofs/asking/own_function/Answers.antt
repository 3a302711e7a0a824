use Rattle.std.proofs.lemmas.Result.{IfOk-weaker}
use Rattle.std.proofs.Common.{subst}
use Rattle.lp_efuns.specs.Plain.{IsDidThere}
use Rattle.lp_putting.specs.Plans.{IsFitPlanned, IsPlanned, IsPlannedThere}
use Rattle.lp_object_efuns.specs.Called.{AnswersOver}
use Rattle.lp_object_efuns.proofs.Over.{ended_over, planned_over}
use Rattle.lp_object_efuns.proofs.asking.own_function.Goals as goal

pub ask-requires-clause-fit : goal.ask-requires-clause-fit
ask-requires-clause-fit g c = subst IsFitPlanned c.in-Asks.is c.in-Ok.ensures.fit

pub returns-in-Ends-clause-does : goal.returns-in-Ends-clause-does
returns-in-Ends-clause-does g c = λ t.
    ended_over c.args.efun c.args.caller.now c.args.args.now (g.W.SwapFile.content c.args.swap.now) c.args.live.now c.args.turn.now c.in-Ends.d
    (subst (IsPlanned c.args.efun c.args.caller.now c.args.args.now c.args.live.now c.args.turn.now) c.in-Ends.is c.in-Ok.ensures.planned)

pub returns-in-Asks-clause-does : goal.returns-in-Asks-clause-does
returns-in-Asks-clause-does g c = λ t.
    IfOk-weaker c.ask.result (λ d. AnswersOver c.in-Asks.plan c.args.caller.now.this c.args.args.now (g.W.SwapFile.content c.args.swap.now) c.args.live.now d c.ask.new.live) _
    (λ d k. planned_over c.args.efun c.args.caller.now c.args.args.now (g.W.SwapFile.content c.args.swap.now) c.args.live.now c.ask.new.live c.args.turn.now c.in-Asks.plan d c.requires.own
    (subst (IsPlanned c.args.efun c.args.caller.now c.args.args.now c.args.live.now c.args.turn.now) c.in-Asks.is c.in-Ok.ensures.planned) k) (c.ask.ensures.does t)

pub returns-in-Ends-clause-there : goal.returns-in-Ends-clause-there
returns-in-Ends-clause-there g c = subst (IsPlannedThere c.args.live.now.cells) c.in-Ends.is (c.in-Ok.ensures.there c.args.live.now.cells)

pub returns-in-Asks-clause-there : goal.returns-in-Asks-clause-there
returns-in-Asks-clause-there g c = IfOk-weaker c.ask.result _ (λ d. IsDidThere c.ask.new.live.cells d) (λ d k. k c.ask.new.live.cells) c.ask.ensures.there
