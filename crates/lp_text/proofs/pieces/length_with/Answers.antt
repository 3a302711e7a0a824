use Rattle.std.proofs.Common.{◌≡◌, ℕ, List, length, ap, arith}
use Rattle.lp_text.proofs.PieceLemmas.{too_long}
use Rattle.lp_text.proofs.pieces.length_with.Goals as goal
use Rattle.lp_text.proofs.pieces.length_with.Goals.{then-by-room-via-then-by-room, then-by-room-via-else-by-room+then-more-room}

pub returns-then-by-room : goal.returns-then-by-room
returns-then-by-room c =
    let m : length c.as_slice-more.result.now ≡ length c.part-item.result = ap (λ (l : List ℕ). length l) c.as_slice-more.ensures in
    too_long c.args.by.now c.args.rest.now c.loop-part.part-index c.args.start c.loop-part.total c.part-item.result c.loop-part-test.true c.part-item.is c.loop-part.invariant.1
    (elim c.then-by-room.branch [ then-by-room-via-then-by-room w ↦ omega (arith, w.if-by-room.true, c.loop-part.invariant.0) | then-by-room-via-else-by-room+then-more-room w ↦ omega (arith, w.if-by-room.false, w.if-more-room.true, m, c.loop-part.invariant.0) ])
