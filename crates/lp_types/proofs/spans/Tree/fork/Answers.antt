use Rattle.std.proofs.Common.{rules}
use Rattle.lp_types.specs.Spans.{spans_in}
use Rattle.lp_types.proofs.SpanLemmas.{summary_kept}
use Rattle.lp_types.proofs.spans.Tree.fork.Goals as goal

pub returns-clause-summed : goal.returns-clause-summed
returns-clause-summed c = (
  summary_kept (spans_in c.args.left) c.args.span (spans_in c.args.right) c.first-first.result c.last-last.result c.reach-reach.result c.first.result c.last.result c.reach.result
      (search rules) (search rules) (search rules) (search rules) (search rules) (search rules) (search rules) (search rules)
      c.first.ensures c.first-first.ensures c.last.ensures c.last-last.ensures c.reach.ensures c.reach-reach.ensures,
  c.requires.left,
  c.requires.right,
)
