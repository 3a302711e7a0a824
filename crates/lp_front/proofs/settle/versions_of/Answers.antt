use Rattle.std.proofs.Common.{◌≡◌, ◌∙◌, ◌++◌, ◌-◌, [], List, Option, ap, sym, get_or, length, take}
use Rattle.std.specs.Prelude.{slice_get}
use Rattle.lp_values.specs.declared.id.ProgId.{ProgId}
use Rattle.lp_front.specs.Settling.{own_version, versions_of, with_version}
use Rattle.lp_front.proofs.Behind.{one_parent_more}
use Rattle.lp_front.proofs.settle.versions_of.Goals as goal

pub loop-parent-preserved : goal.loop-parent-preserved
loop-parent-preserved c =
    let own : c.copied.result ≡ own_version (get_or c.args.parents.now c.loop-parent.parent-index c.parent-item.result) =
    c.copied.ensures ∙ c.last.ensures.value ∙ ap (λ (ps : List ProgId). slice_get ps (length ps - 1)) c.as_slice.ensures ∙ ap own_version c.parent-item.is in
    c.in_ok-add_version.ensures
    ∙ ap (λ (vs : List ProgId). vs ++ with_version c.copied.result []) c.loop-parent.invariant
    ∙ ap (λ (o : Option ProgId). versions_of (take c.loop-parent.parent-index c.args.parents.now) ++ with_version o []) own
    ∙ sym (one_parent_more c.args.parents.now c.loop-parent.parent-index c.parent-item.result c.loop-parent-test.true)
