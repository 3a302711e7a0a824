use Rattle.std.proofs.Common.{sym, ◌∙◌}
use Rattle.lp_timers.proofs.TimingLemmas.{turned_none, turned_off, turned_on}
use Rattle.lp_timers.proofs.timers.Timers.beat.Goals as goal

pub returns-then-not-on-clause-ok : goal.returns-then-not-on-clause-ok
returns-then-not-on-clause-ok c =
    rw (← c.self.view_is) (turned_off c.self.inside.call_outs c.self.inside.moments c.remove.new.self c.args.ob c.args.on c.args.now c.has-beats.result c.if-not-on.true c.has-beats.ensures c.remove.ensures)

pub returns-then-beats-clause-ok : goal.returns-then-beats-clause-ok
returns-then-beats-clause-ok c =
    rw (← c.self.view_is) (turned_none c.self.inside.call_outs c.self.inside.moments c.self.inside.moments c.args.ob c.args.on c.args.now c.if-not-on.false (sym c.if-beats.true ∙ c.has-beats.ensures))

pub returns-clause-ok : goal.returns-clause-ok
returns-clause-ok c =
    rw (← c.self.view_is) (turned_on c.self.inside.call_outs c.self.inside.moments c.put.new.self c.args.ob c.args.on c.args.now c.if-not-on.false (sym c.if-beats.false ∙ c.has-beats.ensures) c.in_ok-put.ensures.ok)
