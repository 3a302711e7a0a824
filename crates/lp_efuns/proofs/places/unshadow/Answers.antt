use Rattle.lp_places.specs.Places.{unshadowed}
use Rattle.lp_efuns.proofs.Changed.{unshadow_does}
use Rattle.lp_efuns.proofs.Rested.{closed_places}
use Rattle.lp_efuns.proofs.places.unshadow.Goals as goal

pub returns-clause-does : goal.returns-clause-does
returns-clause-does c = λ vs turn. unshadow_does c.args.caller.now vs c.args.live.now turn c.unshadow.new.self c.unshadow.ensures

pub returns-clause-closed : goal.returns-clause-closed
returns-clause-closed c =
    let placed = c.requires.closed.placed in
    closed_places c.args.live.now c.unshadow.new.self c.requires.closed (record {
      lyings = placed.lyings;
      shadowings = unshadowed placed.shadowings c.args.caller.now.this;
      stands = c.unshadow.ensures placed.lyings placed.shadowings placed.stands;
    })
