use Rattle.std.proofs.Common.{◌≡◌, ◌<◌, ◌∙◌, List, Some, length, sym, ap, subst, arith}
use Rattle.std.specs.Prelude.{slice_get}
use Rattle.lp_code.specs.declared.tables.Slot.{Slot}
use Rattle.lp_types_expr.proofs.Showing.{get_from}
use Rattle.lp_making.proofs.NewObject.{function_none, function_some}
use Rattle.lp_making.proofs.objects.has_function.Goals as goal

pub returns-in-None : goal.returns-in-None
returns-in-None c = sym (function_none c.args.raw.now c.args.name.now (sym c.place.ensures.is ∙ c.in-None.is))

pub returns-in-Some : goal.returns-in-Some
returns-in-Some c =
    let rows : c.as_slice.result.now ≡ c.args.raw.now.tables.slots = c.as_slice.ensures in
    let inside : c.in-Some.place < length c.as_slice.result.now = omega (arith, ap length rows, c.in-Some.ensures.inside) in
    let there : slice_get c.args.raw.now.tables.slots c.in-Some.place ≡ Some c.index-as_slice-place.result =
    subst (λ (l : List Slot). slice_get l c.in-Some.place ≡ Some c.index-as_slice-place.result) rows (get_from c.as_slice.result.now c.in-Some.place c.index-as_slice-place.result inside c.index-as_slice-place.is) in
    c.is_function.ensures ∙ sym (function_some c.args.raw.now c.args.name.now c.in-Some.place c.index-as_slice-place.result (sym c.place.ensures.is ∙ c.in-Some.is) there)
