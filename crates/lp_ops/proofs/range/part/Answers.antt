use Rattle.std.proofs.Common.{rules}
use Rattle.lp_ops.proofs.ListLemmas.{part_is}
use Rattle.lp_ops.proofs.range.part.Goals as goal

pub returns : goal.returns
returns g c = search (rules, part_is)
