use Rattle.std.proofs.Common.{◌≡◌, Some, ap, subst, sym}
use Rattle.lp_world.specs.Closed.{IsClosed}
use Rattle.lp_world.specs.Rows.{row_at, state_in}
use Rattle.lp_world.specs.Stands.{Stands}
use Rattle.lp_residence.specs.Entering.{AreTakenWithout, object_back}
use Rattle.lp_residence.specs.Owners.{ticket_of_state}
use Rattle.lp_residence.proofs.Entered.{closed_back, object_can_give_back, stands_back}
use Rattle.lp_residence.proofs.entering.enter.Goals as goal

pub bring_back-requires-clause-taken : goal.bring_back-requires-clause-taken
bring_back-requires-clause-taken g c = object_can_give_back c.args.live.now c.args.ob c.requires.closed c.law.ensures.taken

pub returns-in-Ok-clause-closed : goal.returns-in-Ok-clause-closed
returns-in-Ok-clause-closed g c =
    let live = c.args.live.now in
    let t = c.in-Some.ticket.now in
    let e : ticket_of_state (state_in (row_at live.objects c.args.ob.0)) ≡ Some t = sym c.in-Some.ensures in
    let is : c.bring_back.new.live ≡ object_back live c.args.ob c.in-Ok.values t = c.bring_back.ensures.after t e in
    let taken = subst (λ k. AreTakenWithout k live.swapper c.bring_back.new.live.swapper) e c.bring_back.ensures.taken in
    subst IsClosed (sym is) (closed_back live c.args.ob c.in-Ok.values c.count_of-count.result t c.requires.closed e c.count_of-count.ensures c.in-Ok.ensures.fit
    (subst (λ r. AreTakenWithout (Some t) live.swapper r) (ap (λ l. l.swapper) is) taken))

pub returns-in-Ok-clause-stands : goal.returns-in-Ok-clause-stands
returns-in-Ok-clause-stands g c = λ true programs w h.
    let live = c.args.live.now in
    let t = c.in-Some.ticket.now in
    let e : ticket_of_state (state_in (row_at live.objects c.args.ob.0)) ≡ Some t = sym c.in-Some.ensures in
    let is : c.bring_back.new.live ≡ object_back live c.args.ob c.in-Ok.values t = c.bring_back.ensures.after t e in
    subst (λ k. Stands k programs c.bring_back.new.live w) (sym c.in-Ok.ensures.kept)
    (subst (λ l. Stands (g.W.SwapFile.content c.args.swap.now) programs l w) (sym is)
    (stands_back (g.W.SwapFile.content c.args.swap.now) programs live w c.args.ob c.in-Ok.values t c.requires.closed e (λ was out. (c.in-Ok.ensures.truthful true).1 was out) h))
