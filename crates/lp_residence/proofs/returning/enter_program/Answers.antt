use Rattle.std.proofs.Common.{◌≡◌, Some, ap, subst, sym}
use Rattle.lp_world.specs.Closed.{IsClosed}
use Rattle.lp_world.specs.Rows.{row_at, version_state}
use Rattle.lp_world.specs.Stands.{Stands}
use Rattle.lp_residence.specs.Entering.{AreTakenWithout, version_back}
use Rattle.lp_residence.specs.Owners.{ticket_of_version}
use Rattle.lp_residence.proofs.Returned.{closed_returned, one_ticket, stands_returned, version_bytes, version_can_give_back}
use Rattle.lp_residence.proofs.returning.enter_program.Goals as goal

pub bring_back-requires-clause-taken : goal.bring_back-requires-clause-taken
bring_back-requires-clause-taken g c = version_can_give_back c.args.live.now c.args.p c.requires.closed c.law.ensures.taken

pub returns-in-Ok-Some-clause-closed : goal.returns-in-Ok-Some-clause-closed
returns-in-Ok-Some-clause-closed g c =
    let live = c.args.live.now in
    let k = one_ticket (ticket_of_version (version_state (row_at live.versions c.args.p.0))) (λ n. let r = (c.enter_version.ensures.in_memory n).0 in let s = c.in-Ok-Some.is in let f = c.in-Ok-Some.field-0-is in cc) in
    let t = k.0 in
    let is : c.bring_back.new.live ≡ version_back live c.args.p c.in-Ok-Some.program t = c.bring_back.ensures.after t k.1 in
    let taken = subst (λ x. AreTakenWithout x live.swapper c.bring_back.new.live.swapper) k.1 c.bring_back.ensures.taken in
    subst IsClosed (sym is) (closed_returned live c.args.p c.in-Ok-Some.program t c.requires.closed k.1 (λ v q. c.in-Ok-Some.ensures.fits c.in-Ok-Some.program c.in-Ok-Some.field-0-is v q)
    (subst (λ r. AreTakenWithout (Some t) live.swapper r) (ap (λ l. l.swapper) is) taken))

pub returns-in-Ok-Some-clause-stands : goal.returns-in-Ok-Some-clause-stands
returns-in-Ok-Some-clause-stands g c = λ true programs w h.
    let live = c.args.live.now in
    let k = one_ticket (ticket_of_version (version_state (row_at live.versions c.args.p.0))) (λ n. let r = (c.enter_version.ensures.in_memory n).0 in let s = c.in-Ok-Some.is in let f = c.in-Ok-Some.field-0-is in cc) in
    let t = k.0 in
    let is : c.bring_back.new.live ≡ version_back live c.args.p c.in-Ok-Some.program t = c.bring_back.ensures.after t k.1 in
    subst (λ x. Stands x programs c.bring_back.new.live w) (sym c.in-Ok-Some.ensures.kept)
    (subst (λ l. Stands (g.W.SwapFile.content c.args.swap.now) programs l w) (sym is)
    (stands_returned (g.W.SwapFile.content c.args.swap.now) programs live w c.args.p c.in-Ok-Some.program t k.1 (λ was out. (c.in-Ok-Some.ensures.truthful true).1 t was k.1 out c.in-Ok-Some.program c.in-Ok-Some.field-0-is) h))

pub returns-in-Err-clause-honest : goal.returns-in-Err-clause-honest
returns-in-Err-clause-honest g c = λ honest. (
  (c.in-Err.ensures.honest honest).0,
  λ programs w h.
      let live = c.args.live.now in
      let k = one_ticket (ticket_of_version (version_state (row_at live.versions c.args.p.0))) (λ n. let r = (c.enter_version.ensures.in_memory n).0 in let s = c.in-Err.is in cc) in
      let b = version_bytes (g.W.SwapFile.content c.args.swap.now) programs live w c.args.p k.0 h k.1 in
      (c.in-Err.ensures.honest honest).1 k.0 b.0 k.1 b.1,
)
