use Rattle.std.proofs.Common.{arith}
use Rattle.std.proofs.lemmas.Int.{ints}
use Rattle.lp_types.proofs.SpanLemmas.{wider_other, wider_one}
use Rattle.lp_types.proofs.spans.wider.Goals as goal

pub returns-then-one-other : goal.returns-then-one-other
returns-then-one-other c = wider_other c.args.one c.args.other c.requires (omega (arith, ints))

pub returns-else-one-other : goal.returns-else-one-other
returns-else-one-other c = wider_one c.args.one c.args.other c.requires (omega (arith, ints))
