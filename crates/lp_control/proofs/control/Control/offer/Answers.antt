use Rattle.std.proofs.Common.{sym, ◌<◌, ◌≤◌, length, arith}
use Rattle.lp_wire.specs.Heard.{most_pending}
use Rattle.lp_control.proofs.Offering.{one_of_parts, last_of_parts}
use Rattle.lp_control.proofs.control.Control.offer.Goals as goal

pub returns-then-pending-gt-MOST_PENDING-clause-tells : goal.returns-then-pending-gt-MOST_PENDING-clause-tells
unfolding most_pending
returns-then-pending-gt-MOST_PENDING-clause-tells g c =
    let many : most_pending < length c.offer.new.self = omega (arith, c.pending.ensures, c.if-pending-gt-MOST_PENDING.true) in
    last_of_parts c.args.self.now c.self.inside.telnet c.self.inside.outbox _ _ c.self.inside.is_closed _ _ _ (sym c.self.view_is) c.if-self.false many c.offer.ensures.offers c.close.ensures.closed c.clear.ensures

pub returns-else-pending-gt-MOST_PENDING-clause-tells : goal.returns-else-pending-gt-MOST_PENDING-clause-tells
unfolding most_pending
returns-else-pending-gt-MOST_PENDING-clause-tells g c =
    let few : length c.offer.new.self ≤ most_pending = omega (arith, c.pending.ensures, c.if-pending-gt-MOST_PENDING.false) in
    one_of_parts c.args.self.now c.self.inside.telnet c.self.inside.outbox _ c.self.inside.is_closed _ _ (sym c.self.view_is) c.if-self.false few c.offer.ensures.offers
