use Rattle.std.proofs.Common.{◌≡◌, ◌<◌, ℕ, List, Some, length, sym, ap, subst, ◌∙◌, arith}
use Rattle.std.specs.Prelude.{slice_get}
use Rattle.lp_code.specs.declared.tables.Slot.{Slot}
use Rattle.lp_code.specs.Slots.{first_place}
use Rattle.lp_layout.specs.LayoutFaults.{source_of}
use Rattle.lp_types_expr.proofs.Showing.{get_from}
use Rattle.lp_layout.proofs.Beside.{row_at, slot_place}
use Rattle.lp_layout.proofs.nomask.source.Goals as goal

pub returns-in-None : goal.returns-in-None
returns-in-None c =
    let t = c.args.parent.now in
    let e : c.place.result ≡ first_place c.args.name.now t.slots = c.place.ensures.is ∙ ap (λ (n : List ℕ). first_place n t.slots) c.as_str.ensures in
    sym (ap (source_of t) (slot_place t.slots c.args.name.now ∙ ap (row_at t.slots) (sym e ∙ c.in-None.is)))

pub returns-in-Some : goal.returns-in-Some
returns-in-Some c =
    let t = c.args.parent.now in
    let e : c.place.result ≡ first_place c.args.name.now t.slots = c.place.ensures.is ∙ ap (λ (n : List ℕ). first_place n t.slots) c.as_str.ensures in
    let rows : c.as_slice-rows.result.now ≡ t.slots = c.as_slice-rows.ensures in
    let inside : c.in-Some.place < length c.as_slice-rows.result.now = omega (arith, ap length rows, c.in-Some.ensures.inside) in
    let there : slice_get t.slots c.in-Some.place ≡ Some c.index-rows-place.result = subst (λ (l : List Slot). slice_get l c.in-Some.place ≡ Some c.index-rows-place.result) rows (get_from c.as_slice-rows.result.now c.in-Some.place c.index-rows-place.result inside c.index-rows-place.is) in
    c.source_of.ensures ∙ ap (source_of t) (sym (slot_place t.slots c.args.name.now ∙ ap (row_at t.slots) (sym e ∙ c.in-Some.is) ∙ there))
