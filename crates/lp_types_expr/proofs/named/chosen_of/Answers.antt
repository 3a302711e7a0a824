use Rattle.std.proofs.Common.{◌≡◌, List, [], ◌∷◌, ◌++◌, Bool, Some, cond, take, sym, ap, subst, ◌∙◌}
use Rattle.std.specs.Prelude.{filter, slice_get}
use Rattle.lp_types_expr.specs.declared.parent.Parent.{Parent}
use Rattle.lp_types_expr.specs.ParentRows.{Chooses, parent_has, path_fits}
use Rattle.lp_types_expr.proofs.Choosing.{all_taken, filter_next}
use Rattle.lp_types_expr.proofs.Showing.{get_from}
use Rattle.lp_types_expr.proofs.named.chosen_of.Goals as goal

pub loop-i-preserved : goal.loop-i-preserved
loop-i-preserved c =
    let q = c.index-each-i.result in
    let all = c.args.each.now in
    let qs = filter (parent_has c.args.name.now) (take c.loop-i.i all) in
    let there : slice_get all c.loop-i.i ≡ Some q = get_from all c.loop-i.i q c.loop-i-test.true c.index-each-i.is in
    let fit : c.path_fits-fits.result ≡ parent_has c.args.name.now q = c.path_fits-fits.ensures ∙ ap (path_fits c.args.name.now) c.as_slice.ensures.value ∙ ap (parent_has c.args.name.now) (sym c.index-each-i.is) in
    subst (λ (l : List Parent). Chooses all l c.choose-chosen.result) (sym (filter_next (parent_has c.args.name.now) all c.loop-i.i q c.loop-i-test.true c.index-each-i.is))
    (subst (λ (b : Bool). Chooses all (qs ++ cond b (q ∷ []) []) c.choose-chosen.result) fit (c.choose-chosen.ensures all qs q there c.loop-i.invariant))

pub returns : goal.returns
returns c = subst (λ (l : List Parent). Chooses c.args.each.now (filter (parent_has c.args.name.now) l) c.loop-i.chosen) (all_taken c.args.each.now c.loop-i.i c.loop-i-test.false) c.loop-i.invariant
