use Rattle.std.proofs.Common.{◌∙◌, ap, subst, sym}
use Rattle.std.proofs.lemmas.Result.{IfOk-weaker}
use Rattle.lp_meaning.specs.WorldSteps.{as_name}
use Rattle.lp_turn.specs.StartSteps.{HasSimul}
use Rattle.lp_turn.proofs.Initial.{simul_named}
use Rattle.lp_turn.proofs.starting.name_simul.Goals as goal

pub returns-clause-begins : goal.returns-clause-begins
returns-clause-begins c =
    let live = c.args.live.now in
    let name = c.as_slice-3.result.now in
    IfOk-weaker c.set_simul.result _ _
    (λ r b. simul_named live c.note_simul.new.live c.set_simul.new.live c.args.t.now name r (c.as_slice-3.ensures.value ∙ c.in_ok-name.ensures ∙ ap as_name c.as_slice.ensures)
    (subst (λ n. HasSimul n live c.note_simul.new.live) (c.in_ok-known.ensures ∙ c.as_slice-2.ensures.value ∙ sym c.as_slice-3.ensures.value) c.note_simul.ensures.named) b) c.set_simul.ensures.begins
