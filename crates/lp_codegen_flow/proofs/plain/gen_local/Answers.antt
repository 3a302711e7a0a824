use Rattle.std.proofs.Common.{◌≡◌, ◌+◌, ◌<◌, ◌∷◌, [], ◌++◌, length, get_or, map, take, sym, ap, ◌∙◌, arith}
use Rattle.std.specs.Prelude.{option_map}
use Rattle.std.proofs.lemmas.List.{take_all, take_more, map_push}
use Rattle.lp_tree.specs.TreeView.{tree_of}
use Rattle.lp_tree.specs.StatementView.{declarator_of}
use Rattle.lp_language.specs.Scope.{names_of}
use Rattle.lp_codegen_expr.specs.Names.{layout_of}
use Rattle.lp_codegen_expr.proofs.Refusals.{at_exit}
use Rattle.lp_codegen_flow.specs.Clear.{IsClearIf}
use Rattle.lp_codegen_flow.proofs.Scopes.{ones_none, ones_both, ones_as}
use Rattle.lp_codegen_flow.proofs.Sparing.{one_of, there}
use Rattle.lp_codegen_flow.proofs.plain.gen_local.Goals as goal

pub loop-one-init : goal.loop-one-init
loop-one-init c = ones_none

pub loop-one-preserved : goal.loop-one-preserved
loop-one-preserved c =
    let all = c.args.local.now.ones.items in
    let i = c.loop-one.one-index in
    let x = c.one-item.result in
    let lt : i < length all = omega (arith, ap length c.deref-one-items.ensures.value) in
    let is : get_or all i x ≡ x = ap (λ l. get_or l i x) (sym c.deref-one-items.ensures.value) ∙ sym c.one-item.is in
    let more : take (i + 1) all ≡ take i all ++ x ∷ [] = take_more all i x lt ∙ ap (λ y. take i all ++ y ∷ []) is in
    ones_as (sym (ap (map declarator_of) more ∙ map_push declarator_of (take i all) x)) (ones_both (map declarator_of (take i all)) (declarator_of x ∷ []) c.loop-one.invariant c.in_ok-gen_one.ensures)

pub returns : goal.returns
returns c =
    let all = c.args.local.now.ones.items in
    ones_as (ap (map declarator_of) (take_all c.loop-one.one-index all (omega (arith, ap length c.deref-one-items.ensures.value)))) c.loop-one.invariant

pub returns-in_err-gen_one : goal.returns-in_err-gen_one
returns-in_err-gen_one c =
    let all = c.args.local.now.ones.items in
    let i = c.loop-one.one-index in
    let x = c.one-item.result in
    let s0 = c.args.scope.now in
    let ns = s0.locals.items in
    let lt : i < length all = omega (arith, ap length c.deref-one-items.ensures.value) in
    let is : get_or all i x ≡ x = ap (λ l. get_or l i x) (sym c.deref-one-items.ensures.value) ∙ sym c.one-item.is in
    at_exit _ _ _ _ c.from_residual.ensures.1
    (λ u q. c.in_err-gen_one.ensures u
    (there (λ l ms. IsClearIf l ms (option_map tree_of x.value)) s0 c.loop-one.scope (ns ++ names_of (map declarator_of (take i all))) c.loop-one.invariant.layout c.loop-one.invariant.names (one_of (layout_of s0.layout) ns all i x lt is q)))
