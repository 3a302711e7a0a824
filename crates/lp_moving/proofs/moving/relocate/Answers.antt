use Rattle.std.proofs.Common.{subst, sym}
use Rattle.lp_places.specs.Places.{may_move, moved}
use Rattle.lp_world.proofs.Closing.{closed_with_places}
use Rattle.lp_moving.specs.Moving.{IsRefused}
use Rattle.lp_moving.proofs.Moved.{closed_moved, refused_same, stands_moved, stands_placed}
use Rattle.lp_moving.proofs.moving.relocate.Goals as goal

pub drop_unreached-requires : goal.drop_unreached-requires
drop_unreached-requires c =
    let p = c.requires.closed.placed in
    record { lyings = moved p.lyings c.args.item c.args.dest; shadowings = p.shadowings; stands = (c.in-Ok.ensures.moved p.lyings p.shadowings p.stands).after }

pub returns-in-Ok-clause-moves : goal.returns-in-Ok-clause-moves
returns-in-Ok-clause-moves c = λ told programs w h.
    let m = c.in-Ok.ensures.moved w.places w.shadows h.rest.places in
    (m.may, stands_moved told programs c.args.live.now w c.args.item c.args.dest c.put.new.self c.drop_unreached.new.actions m.after (c.drop_unreached.ensures.kept (moved w.places c.args.item c.args.dest) w.shadows w.sentences m.after h.rest.sentences) c.drop_unreached.ensures.next h)

pub returns-in-Ok-clause-closed : goal.returns-in-Ok-clause-closed
returns-in-Ok-clause-closed c =
    let p = c.requires.closed.placed in
    closed_moved c.args.live.now c.put.new.self c.drop_unreached.new.actions c.requires.closed (record { lyings = moved p.lyings c.args.item c.args.dest; shadowings = p.shadowings; stands = (c.in-Ok.ensures.moved p.lyings p.shadowings p.stands).after })

pub returns-in-Err-clause-refused : goal.returns-in-Err-clause-refused
returns-in-Err-clause-refused c = λ told programs w h.
    subst (λ e. IsRefused e (may_move w.places w.shadows c.args.item c.args.dest)) (sym c.fault_of.ensures)
    (refused_same c.in-Err.fault (may_move w.places w.shadows c.args.item c.args.dest) (c.in-Err.ensures.refused w.places w.shadows h.rest.places).reason)

pub returns-in-Err-clause-same : goal.returns-in-Err-clause-same
returns-in-Err-clause-same c = λ told programs w h. stands_placed told programs c.args.live.now w c.put.new.self (c.in-Err.ensures.refused w.places w.shadows h.rest.places).after h

pub returns-in-Err-clause-closed : goal.returns-in-Err-clause-closed
returns-in-Err-clause-closed c =
    let p = c.requires.closed.placed in
    closed_with_places c.args.live.now c.put.new.self c.requires.closed (record { lyings = p.lyings; shadowings = p.shadowings; stands = (c.in-Err.ensures.refused p.lyings p.shadowings p.stands).after })
