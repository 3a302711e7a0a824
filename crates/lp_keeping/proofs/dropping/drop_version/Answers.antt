use Rattle.std.proofs.Common.{subst, sym}
use Rattle.lp_swapfile.specs.Room.{AreTaken}
use Rattle.lp_world.specs.Closed.{extents_of}
use Rattle.lp_keeping.proofs.Dropped.{can_give_back, still_taken}
use Rattle.lp_keeping.proofs.dropping.drop_version.Goals as goal

pub free_room-requires : goal.free_room-requires
free_room-requires c = can_give_back c.args.live.now.objects c.args.live.now.versions c.args.p.0 c.args.live.now.swapper c.requires.room c.law.ensures.taken

pub returns-clause-room : goal.returns-clause-room
returns-clause-room c =
    let live = c.args.live.now in
    subst (λ vs. AreTaken (extents_of live.objects vs) c.free_room.new.swapper) (sym c.forget.ensures)
    (still_taken live.objects live.versions c.args.p.0 live.swapper c.free_room.new.swapper c.requires.room c.free_room.ensures)
