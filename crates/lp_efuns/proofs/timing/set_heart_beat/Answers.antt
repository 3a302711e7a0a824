use Rattle.std.proofs.Common.{◌∙◌, sym}
use Rattle.lp_efuns.proofs.Timed.{beat_does, dead_beat}
use Rattle.lp_efuns.proofs.timing.set_heart_beat.Goals as goal

pub returns-then-not-is_live-clause-does : goal.returns-then-not-is_live-clause-does
returns-then-not-is_live-clause-does c = λ turn.
    dead_beat c.args.caller.now c.args.args.now c.args.live.now turn c.truth_did.result (sym c.is_live.ensures ∙ c.if-not-is_live.true) c.truth_did.ensures.value

pub returns-clause-does : goal.returns-clause-does
returns-clause-does c = λ turn.
    beat_does c.args.caller.now c.args.args.now c.args.live.now turn c.switches_on-on.result c.in_ok-changed.changed c.truth_did-2.result c.beat.new.self (sym c.is_live.ensures ∙ c.if-not-is_live.false)
    c.switches_on-on.ensures c.in_ok-changed.ensures.ok.0 c.in_ok-changed.ensures.ok.1 c.truth_did-2.ensures.value
