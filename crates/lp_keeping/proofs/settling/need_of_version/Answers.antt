use Rattle.std.proofs.Common.{◌∙◌, ap, sym}
use Rattle.lp_keeping.specs.Marks.{with_marks}
use Rattle.lp_keeping.specs.Needs.{parts_named}
use Rattle.lp_keeping.proofs.Marked.{marks_append}
use Rattle.lp_keeping.proofs.settling.need_of_version.Goals as goal

pub returns : goal.returns
returns c =
    let v = c.args.version.now in
    c.need_parts.ensures ∙ ap (λ ms. with_marks ms (parts_named v.state)) (c.mark_all.ensures ∙ ap (with_marks c.args.marks.now) c.as_slice.ensures)
    ∙ sym (marks_append c.args.marks.now v.outline.parents (parts_named v.state))
