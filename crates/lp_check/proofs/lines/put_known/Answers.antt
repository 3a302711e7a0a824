use Rattle.std.proofs.Common.{◌∙◌, ◌++◌, ap, length, List, String, Global}
use Rattle.std.specs.Prelude.{flat_map}
use Rattle.lp_tree.specs.declared.fault.Fault.{Fault}
use Rattle.lp_loads.specs.declared.known.Ended.{Ended}
use Rattle.lp_check.specs.Report.{fault_line}
use Rattle.lp_check.proofs.Telling.{entries_faults, lines_more, count_more, all_told, none_left, none_left_counted, none_more}
use Rattle.lp_check.proofs.lines.put_known.Goals as goal

pub loop-path-init : goal.loop-path-init
loop-path-init c =
    let is = c.into_iter-path-iterator.ensures.into_iter_gives ∙ c.iter-path-items.ensures.rest in
    record {
      lines = ap (λ (es : List (String Global × Ended)). c.args.out.now.items ++ flat_map fault_line (entries_faults es)) is;
      counted = none_more _ _ (ap (λ (es : List (String Global × Ended)). length (entries_faults es)) is);
    }

pub loop-path-preserved : goal.loop-path-preserved
loop-path-preserved c = record {
  lines = lines_more c.loop-path.out.items c.put_faults.new.out.items _ c.as_slice-faults.result.now (c.in-Some._path.now, c.in-Some.ended.now) c.loop-path._path-iterator c.next.new.self c.in-Some.ensures.steps c.as_slice-faults.ensures.value
      c.in_ok-put_faults.ensures c.loop-path.invariant.lines;
  counted = count_more c.loop-path.count c.in_ok-count.count _ (length c.as_slice-faults.result.now) (c.in-Some._path.now, c.in-Some.ended.now) c.loop-path._path-iterator c.next.new.self c.in-Some.ensures.steps (ap (λ (fs : List Fault). length fs) c.as_slice-faults.ensures.value) c.in_ok-count.ensures
      c.loop-path.invariant.counted;
}

pub returns : goal.returns
returns c = λ ls k.
    all_told ls c.args.known.now.files c.args.out.now.items c.loop-path.out.items c.loop-path.count k.same c.iter-path-items.ensures.ordered c.iter-path-items.ensures.found
    (record {
      lines = none_left c.loop-path.out.items c.loop-path._path-iterator _ c.in-None.ensures.steps.0 c.loop-path.invariant.lines;
      counted = none_left_counted c.loop-path.count c.loop-path._path-iterator _ c.in-None.ensures.steps.0 c.loop-path.invariant.counted;
    })
