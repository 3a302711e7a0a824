use Rattle.std.proofs.Common.{◌≡◌, ◌+◌, ◌<◌, ◌∷◌, [], ◌++◌, length, get_or, map, take, refl, sym, ap, ◌∙◌, subst, arith}
use Rattle.std.proofs.lemmas.List.{take_all, take_more, map_push}
use Rattle.lp_tree.specs.UnitView.{item_of}
use Rattle.lp_isa.specs.Programs.{own_functions}
use Rattle.lp_codegen_expr.specs.Names.{layout_of}
use Rattle.lp_codegen_expr.proofs.Refusals.{at_exit}
use Rattle.lp_codegen_unit.specs.Stands.{AreClear, option_list}
use Rattle.lp_codegen_unit.proofs.Sparing.{item_clear}
use Rattle.lp_codegen_unit.proofs.Standing.{functions_as, functions_none, items_more}
use Rattle.lp_codegen_unit.proofs.functions.gen_functions.Goals as goal

pub loop-item-init : goal.loop-item-init
loop-item-init c = functions_as refl (sym c.new-rows.ensures.items) (functions_none c.args.scope.now _)

pub loop-item-preserved : goal.loop-item-preserved
loop-item-preserved c =
    let all = c.args.items.now.items in
    let i = c.loop-item.item-index in
    let x = c.item-item.result in
    let lt : i < length all = omega (arith, ap length c.deref-item-items.ensures.value) in
    let is : get_or all i x ≡ x = ap (λ l. get_or l i x) (sym c.deref-item-items.ensures.value) ∙ sym c.item-item.is in
    let more : take (i + 1) all ≡ take i all ++ x ∷ [] = take_more all i x lt ∙ ap (λ y. take i all ++ y ∷ []) is in
    functions_as (ap own_functions (sym (ap (map item_of) more ∙ map_push item_of (take i all) x))) (sym c.in_ok-add_row.ensures) (items_more _ (map item_of (take i all)) (item_of x) c.loop-item.rows.items (option_list c.in_ok-row.row) c.loop-item.invariant c.in_ok-row.ensures)

pub returns : goal.returns
returns c =
    let all = c.args.items.now.items in
    functions_as (ap (λ l. own_functions (map item_of l)) (take_all c.loop-item.item-index all (omega (arith, ap length c.deref-item-items.ensures.value)))) refl c.loop-item.invariant

pub returns-in_err-row : goal.returns-in_err-row
returns-in_err-row c =
    let all = c.args.items.now.items in
    let i = c.loop-item.item-index in
    let x = c.item-item.result in
    let lt : i < length all = omega (arith, c.loop-item-test.true, ap length c.deref-item-items.ensures.value) in
    let is : x ≡ get_or all i x = c.item-item.is ∙ ap (λ l. get_or l i x) c.deref-item-items.ensures.value in
    at_exit _ _ _ _ c.from_residual.ensures.1
    (λ u k. c.in_err-row.ensures u (subst (λ y. AreClear (layout_of y) (own_functions (item_of x ∷ []))) (sym c.loop-item.invariant.layout) (item_clear (layout_of c.args.scope.now.layout) all i x lt is k)))
