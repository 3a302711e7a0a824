use Rattle.std.proofs.Common.{◌≡◌, ◌+◌, ◌<◌, ◌∷◌, [], ◌++◌, length, get_or, map, take, sym, ap, ◌∙◌, arith}
use Rattle.std.proofs.lemmas.List.{take_all, take_more, map_push}
use Rattle.lp_tree.specs.UnitView.{item_of}
use Rattle.lp_language.specs.Resolve.{own_variables}
use Rattle.lp_codegen_expr.specs.Names.{layout_of}
use Rattle.lp_codegen_expr.proofs.Refusals.{at_exit}
use Rattle.lp_codegen_flow.proofs.Initialising.{init_as, init_none, items_more}
use Rattle.lp_codegen_flow.proofs.Sparing.{item_of_all}
use Rattle.lp_codegen_flow.proofs.globals.gen_items.Goals as goal

pub loop-item-init : goal.loop-item-init
loop-item-init c = init_none c.args.first c.args.scope.now _

pub loop-item-preserved : goal.loop-item-preserved
loop-item-preserved c =
    let all = c.args.items.now.items in
    let i = c.loop-item.item-index in
    let x = c.item-item.result in
    let lt : i < length all = omega (arith, ap length c.deref-item-items.ensures.value) in
    let is : get_or all i x ≡ x = ap (λ l. get_or l i x) (sym c.deref-item-items.ensures.value) ∙ sym c.item-item.is in
    let more : take (i + 1) all ≡ take i all ++ x ∷ [] = take_more all i x lt ∙ ap (λ y. take i all ++ y ∷ []) is in
    init_as c.args.scope.now (ap own_variables (sym (ap (map item_of) more ∙ map_push item_of (take i all) x))) (items_more c.args.scope.now (map item_of (take i all)) (item_of x) c.loop-item.invariant c.in_ok-place.ensures)

pub returns : goal.returns
returns c =
    let all = c.args.items.now.items in
    init_as c.args.scope.now (ap (λ l. own_variables (map item_of l)) (take_all c.loop-item.item-index all (omega (arith, ap length c.deref-item-items.ensures.value)))) c.loop-item.invariant

pub returns-in_err-place : goal.returns-in_err-place
returns-in_err-place c =
    let all = c.args.items.now.items in
    let i = c.loop-item.item-index in
    let x = c.item-item.result in
    let s = c.args.scope.now in
    let lt : i < length all = omega (arith, ap length c.deref-item-items.ensures.value) in
    let is : get_or all i x ≡ x = ap (λ l. get_or l i x) (sym c.deref-item-items.ensures.value) ∙ sym c.item-item.is in
    at_exit _ _ _ _ c.from_residual.ensures.1 (λ u q. c.in_err-place.ensures u (item_of_all (layout_of s.layout) s.locals.items all i x lt is q))
