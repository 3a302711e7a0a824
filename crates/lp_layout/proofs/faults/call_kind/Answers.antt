use Rattle.std.proofs.Common.{map, sym, ap, ◌∙◌}
use Rattle.lp_tree.specs.declared.fault.FaultKind.TheVariants.{AmbiguousSuper}
use Rattle.lp_tree.specs.Trees.{trees}
use Rattle.lp_tree.specs.TreeView.{tree_of}
use Rattle.lp_tree.proofs.ExprNodes.{call_tree, efun_tree, named_tree, other_tree, parent_tree}
use Rattle.lp_types_expr.specs.ExprFaults.{when}
use Rattle.lp_types_expr.specs.Signatures.{or_else}
use Rattle.lp_layout.specs.Firsts.{first_kind}
use Rattle.lp_layout.specs.LayoutFaults.{call_guilt, count, is_ambiguous, limits, too_many}
use Rattle.lp_layout.proofs.FirstFaults.{counted, kind_both}
use Rattle.lp_layout.proofs.faults.call_kind.Goals as goal

pub returns-in-Call : goal.returns-in-Call
returns-in-Call c =
    let d = c.in-Call in
    counted d.args.items c.deref.result.now c.count_kind.result c.deref.ensures.value c.count_kind.ensures ∙ ap (λ z. first_kind (call_guilt limits c.args.parents.now z)) (sym (ap tree_of d.is ∙ call_tree d.line d.name d.args))

pub returns-in-EfunCall : goal.returns-in-EfunCall
returns-in-EfunCall c =
    let d = c.in-EfunCall in
    counted d.args.items c.deref-in-EfunCall.result.now c.count_kind-in-EfunCall.result c.deref-in-EfunCall.ensures.value c.count_kind-in-EfunCall.ensures ∙ ap (λ z. first_kind (call_guilt limits c.args.parents.now z)) (sym (ap tree_of d.is ∙ efun_tree d.line d.name d.args))

pub returns-in-ParentCall : goal.returns-in-ParentCall
returns-in-ParentCall c =
    let d = c.in-ParentCall in
    counted d.args.items c.deref-in-ParentCall.result.now c.count_kind-in-ParentCall.result c.deref-in-ParentCall.ensures.value c.count_kind-in-ParentCall.ensures ∙ ap (λ z. first_kind (call_guilt limits c.args.parents.now z)) (sym (ap tree_of d.is ∙ parent_tree d.line d.name d.args))

pub returns-in-CallOther : goal.returns-in-CallOther
returns-in-CallOther c =
    let d = c.in-CallOther in
    counted d.args.items c.deref-in-CallOther.result.now c.count_kind-in-CallOther.result c.deref-in-CallOther.ensures.value c.count_kind-in-CallOther.ensures ∙ ap (λ z. first_kind (call_guilt limits c.args.parents.now z)) (sym (ap tree_of d.is ∙ other_tree d.line d.of d.name d.args))

pub returns-in_ok-is_torn-in-NamedParentCall : goal.returns-in_ok-is_torn-in-NamedParentCall
returns-in_ok-is_torn-in-NamedParentCall c =
    let d = c.in-NamedParentCall in
    let hs = c.args.parents.now in
    let more = too_many 255 (count (trees (map tree_of d.args.items))) in
    c.earlier.ensures ∙ ap (λ z. or_else z c.count_kind-in-NamedParentCall.result) (c.when-first.ensures ∙ ap (λ b. first_kind (when b AmbiguousSuper)) c.in_ok-is_torn-in-NamedParentCall.ensures)
    ∙ ap (λ z. or_else (first_kind (when (is_ambiguous hs d.parent) AmbiguousSuper)) z) (counted d.args.items c.deref-in-NamedParentCall.result.now c.count_kind-in-NamedParentCall.result c.deref-in-NamedParentCall.ensures.value c.count_kind-in-NamedParentCall.ensures)
    ∙ sym (kind_both (when (is_ambiguous hs d.parent) AmbiguousSuper) more)
    ∙ ap (λ z. first_kind (call_guilt limits hs z)) (sym (ap tree_of d.is ∙ named_tree d.line d.parent d.name d.args))
