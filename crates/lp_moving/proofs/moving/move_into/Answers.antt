use Rattle.std.proofs.Common.{◌∙◌, ap}
use Rattle.lp_moving.specs.Moving.{calls_among}
use Rattle.lp_moving.proofs.Moved.{calls_same}
use Rattle.lp_moving.proofs.moving.move_into.Goals as goal

pub returns-clause-moves : goal.returns-clause-moves
returns-clause-moves c = λ told programs w h.
    let m = c.in_ok-relocate.ensures.moves told programs w h in record {
      may = m.0;
      stands = m.1;
      follow = c.in_ok-calls.ensures ∙ ap (calls_among c.args.item c.args.dest) (c.inventory.ensures w.places w.shadows h.rest.places) ∙ calls_same w.places c.args.item c.args.dest;
    }
