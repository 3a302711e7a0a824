use Rattle.std.proofs.Common.{IsSome, refl, subst, sym}
use Rattle.lp_meaning.specs.WorldSteps.{destructed}
use Rattle.lp_places.specs.Places.{places_without, shadows_without}
use Rattle.lp_world.specs.Closed.{ArePlaced, IsClosed}
use Rattle.lp_world.specs.Stands.{Stands}
use Rattle.lp_residence.proofs.Destroyed.{closed_destroyed, live_row, same_ended, stands_destroyed}
use Rattle.lp_residence.proofs.Entered.{object_can_give_back}
use Rattle.lp_residence.proofs.RowChanges.{row_there}
use Rattle.lp_residence.proofs.ending.destroy.Goals as goal

pub end_timers-requires : goal.end_timers-requires
end_timers-requires c = c.requires.closed.numbered.once

pub leave-requires : goal.leave-requires
leave-requires c = c.requires.closed.placed

pub free_room-requires : goal.free_room-requires
free_room-requires c = object_can_give_back c.args.live.now c.args.ob c.requires.closed c.law.ensures.taken

pub kill-requires-2 : goal.kill-requires-2
kill-requires-2 c = let r = live_row c.args.live.now.objects c.args.ob c.requires.live in subst IsSome (sym r.1) refl

pub returns-clause-stands : goal.returns-clause-stands
returns-clause-stands c = λ told programs w h.
    let live = c.args.live.now in
    let r = live_row live.objects c.args.ob c.requires.live in
    let is = same_ended live c.args.ob c.kill.new.self c.leave.new.places c.leave.new.actions c.of-connection.result c.free_room.new.swapper c.kill-2.new.self c.end_timers.new.timers c.close.new.connections
    c.kill-2.ensures c.end_timers.ensures c.close.ensures in
    let d = stands_destroyed told programs live w c.args.ob r.0 c.kill.new.self c.leave.new.places c.leave.new.actions c.kill.result c.of-connection.result c.free_room.new.swapper (record {
      killed = c.kill.ensures.killed;
      was = c.kill.ensures.was;
      clones = c.kill.ensures.clones;
      left = c.leave.ensures.places;
      kept = c.leave.ensures.actions;
      sentences = c.leave.ensures.next;
      number = c.of-connection.ensures;
    }) (row_there live.objects c.args.ob.0 r.0 r.1) r.2 h in
    (subst (λ l. Stands told programs l (destructed w c.args.ob)) (sym is) d.0, d.1)

pub returns-clause-closed : goal.returns-clause-closed
returns-clause-closed c =
    let live = c.args.live.now in
    let placed = c.requires.closed.placed in
    let left : ArePlaced c.leave.new.places = record {
      lyings = places_without placed.lyings c.args.ob;
      shadowings = shadows_without placed.shadowings c.args.ob;
      stands = c.leave.ensures.places placed.lyings placed.shadowings placed.stands;
    } in
    let r = live_row live.objects c.args.ob c.requires.live in
    let is = same_ended live c.args.ob c.kill.new.self c.leave.new.places c.leave.new.actions c.of-connection.result c.free_room.new.swapper c.kill-2.new.self c.end_timers.new.timers c.close.new.connections
    c.kill-2.ensures c.end_timers.ensures c.close.ensures in
    subst IsClosed (sym is) (closed_destroyed live c.args.ob r.0 c.kill.new.self c.leave.new.places c.leave.new.actions c.of-connection.result c.free_room.new.swapper c.requires.closed left r.1 c.free_room.ensures.taken)
