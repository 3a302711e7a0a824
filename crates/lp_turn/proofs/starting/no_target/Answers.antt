use Rattle.std.proofs.Common.{◌∙◌, ◌++◌, ◌∷◌, [], ap}
use Rattle.std.specs.Prelude.{codes}
use Rattle.std.proofs.lemmas.Result.{IfOk-weaker}
use Rattle.lp_events.specs.declared.out.Out.TheVariants as outs
use Rattle.lp_meaning.specs.EventTurns.{with_epilog}
use Rattle.lp_turn.proofs.Initial.{told_first}
use Rattle.lp_turn.proofs.Words.{chars-target}
use Rattle.lp_turn.proofs.starting.no_target.Goals as goal

pub returns-clause-begins : goal.returns-clause-begins
returns-clause-begins c =
    IfOk-weaker c.call_master.result _ _
    (λ r b. told_first with_epilog c.args.live.now c.tell.new.live c.tell.new.live (outs.Log (codes "error: Bad target")) r
    (c.in_ok-tell.ensures.told ∙ ap (λ t. record c.args.live.now { outputs = c.args.live.now.outputs ++ outs.Log t ∷ [] }) (c.in_ok-text.ensures ∙ chars-target)) b) c.call_master.ensures.goes
