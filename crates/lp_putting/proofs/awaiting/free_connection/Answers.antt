use Rattle.std.proofs.Common.{◌∙◌, ap, sym}
use Rattle.lp_meaning.specs.WorldEfuns.{free_connection}
use Rattle.lp_putting.proofs.Planned.{free_of}
use Rattle.lp_putting.proofs.awaiting.free_connection.Goals as goal

pub returns-in-Some : goal.returns-in-Some
returns-in-Some c = λ g turn b s h.
    free_of g c.args.live.now turn b s c.in-Some.p c.of.result c.unless_awaited.result h c.of.ensures (c.unless_awaited.ensures g turn b s h) ∙ ap (free_connection s.world) (sym c.in-Some.is)
