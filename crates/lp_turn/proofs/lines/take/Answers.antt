use Rattle.std.proofs.Common.{◌∙◌, ap, sym}
use Rattle.lp_turn.specs.declared.job.Call.{Call}
use Rattle.lp_turn.proofs.Lined.{not_taken, taken}
use Rattle.lp_turn.proofs.lines.take.Goals as goal

pub returns-then-not-is_live-clause-begins : goal.returns-then-not-is_live-clause-begins
returns-then-not-is_live-clause-begins c =
    not_taken c.args.live.now c.show.new.live c.take_line.new.live c.args.number c.args.o c.args.x c.args.text c.in_ok-show.ensures.shown c.take_line.ensures.takes (sym c.is_live.ensures ∙ c.if-not-is_live.true)

pub returns-clause-begins : goal.returns-clause-begins
returns-clause-begins c =
    let e = c.in_ok-call_of.ensures in
    taken c.args.live.now c.show.new.live c.take_line.new.live c.args.number c.args.o c.args.x c.args.text c.in_ok-call_of.field-0 c.in_ok-show.ensures.shown c.take_line.ensures.takes (sym c.is_live.ensures ∙ c.if-not-is_live.false)
    (ap (λ (x : Call). x.asked) e.0) (ap (λ (x : Call). x.player) e.0) (ap (λ (x : Call). x.interactive) e.0) e.1
