use Rattle.std.proofs.Common.{◌∙◌, ◌+◌, ◌<◌, ap, arith, drop, length}
use Rattle.lp_report.specs.Needed.{live_versions, version_if_live, with_marks}
use Rattle.lp_report.proofs.Marks.{marked_row}
use Rattle.lp_report.proofs.marking.mark_live.Goals as goal

pub loop-n-preserved : goal.loop-n-preserved
loop-n-preserved c =
    let rows = c.args.objects.now in
    let n = c.loop-n.n in
    let l : n < length rows = omega arith in
    ap (λ ms. with_marks ms (live_versions (drop (n + 1) rows))) (c.mark_if_live.ensures ∙ ap (λ r. with_marks c.loop-n.marks (version_if_live r)) c.get.ensures)
    ∙ marked_row c.loop-n.marks (with_marks c.args.marks.now (live_versions rows)) rows n l c.loop-n.invariant
