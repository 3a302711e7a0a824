use Rattle.std.proofs.Common.{◌∙◌, ap, sym}
use Rattle.std.specs.Str.{chars}
use Rattle.std.proofs.lemmas.Result.{IfOk-weaker}
use Rattle.lp_turn.proofs.Initial.{named_by, set_lives, set_missing}
use Rattle.lp_turn.proofs.starting.set_simul.Goals as goal

pub returns-then-is_some-clause-begins : goal.returns-then-is_some-clause-begins
returns-then-is_some-clause-begins c =
    let live = c.args.live.now in
    let named = named_by live c.as_str.result.now c.args.name.now c.find.result c.find.ensures (ap chars c.as_str.ensures.value ∙ sym c.in_ok-text.ensures) in
    IfOk-weaker c.call_master.result _ _ (λ r b. set_lives live live c.args.name.now r c.find.result named (sym c.is_some.ensures ∙ c.if-is_some.true) b) c.call_master.ensures.goes

pub returns-clause-begins : goal.returns-clause-begins
returns-clause-begins c =
    let live = c.args.live.now in
    let named = named_by live c.as_str.result.now c.args.name.now c.find.result c.find.ensures (ap chars c.as_str.ensures.value ∙ sym c.in_ok-text.ensures) in
    IfOk-weaker c.load_simul.result _ _ (λ r b. set_missing live c.load_simul.new.live c.args.name.now r c.find.result named (sym c.is_some.ensures ∙ c.if-is_some.false) b) c.load_simul.ensures.begins
