use Rattle.std.proofs.Common.{length}
use Rattle.lp_types.specs.Spans.{spans_in}
use Rattle.lp_types.proofs.spans.Tree.+with.Given as goal

abbrev pub decreases-with : goal.decreases-with
decreases-with l = length (spans_in l.self)
