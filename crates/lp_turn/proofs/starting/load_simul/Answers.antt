use Rattle.std.proofs.Common.{◌∙◌, ap, subst, sym}
use Rattle.std.specs.Str.{chars}
use Rattle.std.proofs.lemmas.Result.{IfOk-weaker}
use Rattle.lp_meaning.specs.WorldSteps.{as_name, is_clone_name}
use Rattle.lp_turn.specs.StartSteps.{LoadsSimul}
use Rattle.lp_turn.proofs.Initial.{named_by, simul_asked, simul_clone, simul_lives}
use Rattle.lp_turn.proofs.starting.load_simul.Goals as goal

pub returns-then-is_some-clause-begins : goal.returns-then-is_some-clause-begins
returns-then-is_some-clause-begins c =
    let live = c.args.live.now in
    let spelled = ap chars c.as_str.ensures.value ∙ sym c.in_ok-text.ensures ∙ c.as_slice.ensures.value ∙ c.in_ok-meant.ensures in
    let named = named_by live c.as_str.result.now (as_name c.args.name.now) c.find.result c.find.ensures spelled in
    IfOk-weaker c.call_master.result _ _ (λ r b. simul_lives live live c.args.name.now r c.find.result named (sym c.is_some.ensures ∙ c.if-is_some.true) b) c.call_master.ensures.goes

pub returns-then-is_clone_name-clause-begins : goal.returns-then-is_clone_name-clause-begins
returns-then-is_clone_name-clause-begins c =
    let live = c.args.live.now in
    let spelled = ap chars c.as_str.ensures.value ∙ sym c.in_ok-text.ensures ∙ c.as_slice.ensures.value ∙ c.in_ok-meant.ensures in
    let named = named_by live c.as_str.result.now (as_name c.args.name.now) c.find.result c.find.ensures spelled in
    IfOk-weaker c.no_target.result _ _
    (λ r b. simul_clone live c.no_target.new.live c.args.name.now r c.find.result named (sym c.is_some.ensures ∙ c.if-is_some.false)
    (ap is_clone_name (sym (c.as_slice-2.ensures.value ∙ c.in_ok-meant.ensures)) ∙ sym c.is_clone_name.ensures ∙ c.if-is_clone_name.true) b) c.no_target.ensures.begins

pub returns-clause-begins : goal.returns-clause-begins
returns-clause-begins c =
    let live = c.args.live.now in
    let spelled = ap chars c.as_str.ensures.value ∙ sym c.in_ok-text.ensures ∙ c.as_slice.ensures.value ∙ c.in_ok-meant.ensures in
    let named = named_by live c.as_str.result.now (as_name c.args.name.now) c.find.result c.find.ensures spelled in
    IfOk-weaker c.ask_simul.result _ _
    (λ r a. simul_asked live c.args.name.now r c.find.result named (sym c.is_some.ensures ∙ c.if-is_some.false)
    (ap is_clone_name (sym (c.as_slice-2.ensures.value ∙ c.in_ok-meant.ensures)) ∙ sym c.is_clone_name.ensures ∙ c.if-is_clone_name.false)
    (subst (λ n. LoadsSimul n r) (c.as_slice-3.ensures.value ∙ c.in_ok-meant.ensures) a)) c.ask_simul.ensures.loads
