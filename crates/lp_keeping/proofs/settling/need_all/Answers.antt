use Rattle.std.proofs.Common.{◌∙◌, ◌+◌, ◌<◌, ap, arith, drop, length}
use Rattle.lp_keeping.specs.Marks.{with_marks}
use Rattle.lp_keeping.specs.Needs.{version_of, versions_of}
use Rattle.lp_keeping.proofs.Named.{marked_row}
use Rattle.lp_keeping.proofs.settling.need_all.Goals as goal

pub loop-n-preserved : goal.loop-n-preserved
loop-n-preserved c =
    let rows = c.args.objects.now in
    let n = c.loop-n.n in
    let l : n < length rows = omega arith in
    ap (λ ms. with_marks ms (versions_of (drop (n + 1) rows))) (c.need_of_object.ensures ∙ ap (λ r. with_marks c.loop-n.marks (version_of r)) c.get.ensures)
    ∙ marked_row c.loop-n.marks (with_marks c.args.marks.now (versions_of rows)) rows n l c.loop-n.invariant
