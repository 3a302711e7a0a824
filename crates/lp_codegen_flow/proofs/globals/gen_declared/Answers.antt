use Rattle.std.proofs.Common.{◌≡◌, ◌+◌, ◌<◌, ◌∷◌, [], ◌++◌, length, get_or, map, take, sym, ap, ◌∙◌, arith}
use Rattle.std.proofs.lemmas.List.{take_all, take_more, map_push}
use Rattle.lp_tree.specs.StatementView.{declarator_of}
use Rattle.lp_codegen_expr.specs.Names.{layout_of}
use Rattle.lp_codegen_expr.proofs.Refusals.{at_exit}
use Rattle.lp_codegen_flow.specs.Initialisers.{variables_of}
use Rattle.lp_codegen_flow.proofs.Initialising.{declared_more, init_as, init_none}
use Rattle.lp_codegen_flow.proofs.Sparing.{value_of_all}
use Rattle.lp_codegen_flow.proofs.globals.gen_declared.Goals as goal

pub loop-one-init : goal.loop-one-init
loop-one-init c = λ ms. init_none c.args.first c.args.scope.now _

pub loop-one-preserved : goal.loop-one-preserved
loop-one-preserved c =
    let all = c.args.ones.now.items in
    let i = c.loop-one.one-index in
    let x = c.one-item.result in
    let lt : i < length all = omega (arith, ap length c.deref-one-items.ensures.value) in
    let is : get_or all i x ≡ x = ap (λ l. get_or l i x) (sym c.deref-one-items.ensures.value) ∙ sym c.one-item.is in
    let more : take (i + 1) all ≡ take i all ++ x ∷ [] = take_more all i x lt ∙ ap (λ y. take i all ++ y ∷ []) is in
    λ ms. init_as c.args.scope.now (ap (variables_of ms) (sym (ap (map declarator_of) more ∙ map_push declarator_of (take i all) x))) (declared_more c.args.scope.now ms (map declarator_of (take i all)) (declarator_of x) (c.loop-one.invariant ms) c.in_ok-place.ensures c.in_ok-gen_initialiser.ensures)

pub returns : goal.returns
returns c =
    let all = c.args.ones.now.items in
    λ ms. init_as c.args.scope.now (ap (λ l. variables_of ms (map declarator_of l)) (take_all c.loop-one.one-index all (omega (arith, ap length c.deref-one-items.ensures.value)))) (c.loop-one.invariant ms)

pub returns-in_err-gen_initialiser : goal.returns-in_err-gen_initialiser
returns-in_err-gen_initialiser c =
    let all = c.args.ones.now.items in
    let i = c.loop-one.one-index in
    let x = c.one-item.result in
    let s = c.args.scope.now in
    let lt : i < length all = omega (arith, ap length c.deref-one-items.ensures.value) in
    let is : get_or all i x ≡ x = ap (λ l. get_or l i x) (sym c.deref-one-items.ensures.value) ∙ sym c.one-item.is in
    at_exit _ _ _ _ c.from_residual.ensures.1 (λ u q. c.in_err-gen_initialiser.ensures u (value_of_all (layout_of s.layout) s.locals.items [] all i x lt is (q [])))
