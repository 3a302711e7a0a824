use Rattle.std.proofs.Common.{◌+◌, ◌++◌, List, sym, ap, ◌∙◌}
use Rattle.lp_values.specs.declared.id.ProgId.{ProgId}
use Rattle.lp_layout.proofs.Listing.{parts_before_next}
use Rattle.lp_layout.proofs.tables.parts.Goals as goal

pub loop-parent-preserved : goal.loop-parent-preserved
loop-parent-preserved c =
    c.in_ok-add_parts.ensures ∙ ap (λ (l : List ProgId). c.loop-parent.parts.items ++ l) c.as_slice.ensures
    ∙ ap (λ (l : List ProgId). l ++ c.parent-item.result.parts) c.loop-parent.invariant
    ∙ sym (parts_before_next c.args.parents.now c.loop-parent.parent-index c.parent-item.result c.loop-parent-test.true c.parent-item.is)
