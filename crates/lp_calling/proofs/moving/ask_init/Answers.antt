use Rattle.std.proofs.Common.{◌≡◌, ◌∙◌, Some, slice_get, subst, sym}
use Rattle.lp_efuns.proofs.Enabled.{row_there}
use Rattle.lp_calling.specs.Moving.{IsNextMade}
use Rattle.lp_calling.proofs.Lists.{got_read}
use Rattle.lp_calling.proofs.Visits.{found_inside, init_asks}
use Rattle.lp_calling.proofs.moving.ask_init.Goals as goal

pub returns-clause-goes : goal.returns-clause-goes
returns-clause-goes c = λ efun budget.
    let a = c.args in
    let v = a.visits.now in
    let p = c.requires.poised in
    let x = c.index-call.result.now in
    let read : slice_get v.calls.items v.done ≡ Some x = got_read v.calls.items v.done x (found_inside v.calls.items v.done p.call p.is) c.index-call.ensures in
    init_asks efun v x a.low a.stack.now.items a.live.now a.turn.now budget c.requires.low read (subst (λ o. IsNextMade a.live.now v.item v.dest o) (sym p.is ∙ read) p.made) p.back

pub returns-clause-asked : goal.returns-clause-asked
returns-clause-asked c =
    let a = c.args in
    let v = a.visits.now in
    let p = c.requires.poised in
    let x = c.index-call.result.now in
    let read : slice_get v.calls.items v.done ≡ Some x = got_read v.calls.items v.done x (found_inside v.calls.items v.done p.call p.is) c.index-call.ensures in
    let made : IsNextMade a.live.now v.item v.dest (Some x) = subst (λ o. IsNextMade a.live.now v.item v.dest o) (sym p.is ∙ read) p.made in
    row_there a.live.now.objects x.of made.1
