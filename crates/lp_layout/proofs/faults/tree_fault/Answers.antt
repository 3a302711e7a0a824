use Rattle.std.proofs.Common.{◌+◌, ◌++◌, List, ap, ◌∙◌}
use Rattle.lp_tree.specs.TreeView.{tree_of}
use Rattle.lp_types_expr.specs.Visits.{judged, visited, visits}
use Rattle.lp_types_expr.specs.declared.visit.Visit.{Visit}
use Rattle.lp_types_expr.proofs.Judged.{whole}
use Rattle.lp_layout.specs.LayoutFaults.{call_guilt, first_fault, limits}
use Rattle.lp_layout.proofs.faults.tree_fault.Goals as goal

pub returns : goal.returns
returns c =
    let f = call_guilt limits c.args.parents.now in
    let t = tree_of c.args.e.now in
    c.in_ok-fault.ensures ∙ ap (λ (l : List Visit). first_fault (judged f (visited l))) c.as_slice.ensures.value
    ∙ ap (λ l. first_fault (judged f l)) (c.in_ok-visits.ensures ∙ ap (λ (l : List Visit). visited l ++ visits t) c.new-parts.ensures.items)
    ∙ ap first_fault (whole f t)
