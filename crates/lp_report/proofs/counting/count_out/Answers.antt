use Rattle.std.proofs.Common.{◌≡◌, ◌∙◌, ◌+◌, ◌<◌, ◌≤◌, ap, arith, cond, length, subst, sym}
use Rattle.lp_world.specs.Rows.{row_at}
use Rattle.lp_report.specs.Report.{is_out_object}
use Rattle.lp_report.proofs.Marks.{all_counted, at_most_one, counted_more}
use Rattle.lp_report.proofs.counting.count_out.Goals as goal

pub returns : goal.returns
returns c = all_counted is_out_object c.args.objects.now c.loop-n.n c.loop-n.count (omega arith) c.loop-n.invariant.counted

pub loop-n-preserved : goal.loop-n-preserved
loop-n-preserved c =
    let rows = c.args.objects.now in
    let n = c.loop-n.n in
    let test : c.is_out.result ≡ is_out_object (row_at rows n) = c.is_out.ensures ∙ ap is_out_object c.get.ensures in
    let l : n < length rows = omega arith in
    record {
      counted = c.counted-count.ensures ∙ ap (λ b. c.loop-n.count + cond b 1 0) test ∙ ap (λ k. k + cond (is_out_object (row_at rows n)) 1 0) c.loop-n.invariant.counted ∙ sym (counted_more is_out_object rows n l);
      few = subst (λ k. k ≤ n + 1) (sym c.counted-count.ensures) (at_most_one c.is_out.result c.loop-n.count n c.loop-n.invariant.few);
    }
