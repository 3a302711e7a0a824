use Rattle.std.proofs.Common.{◌≡◌, true, rules}
use Rattle.lp_cells.specs.Mapping.{has_room_for}
use Rattle.lp_cells.proofs.MappingLemmas.{room_not_full, put_with_room}
use Rattle.lp_cells.proofs.pairs.Pairs.put_read.Goals as goal

pub returns-then-has_room_for : goal.returns-then-has_room_for
returns-then-has_room_for g c =
    let h : has_room_for (g.L.Living.live c.args.live.now) c.args.self.now c.args.key ≡ true = search rules in
    (room_not_full (g.L.Living.live c.args.live.now) c.args.self.now c.args.key h, rw (put_with_room (g.L.Living.live c.args.live.now) c.args.self.now c.args.key c.args.v h, ← c.into_read.ensures) c.in_ok-put.ensures.ok)
