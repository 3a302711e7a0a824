use Rattle.std.proofs.Common.{arith}
use Rattle.lp_text.proofs.ScanLemmas.{above}
use Rattle.lp_text.proofs.scan.magnitude.Goals as goal

pub returns-then-n-gt922337203685477580 : goal.returns-then-n-gt922337203685477580
returns-then-n-gt922337203685477580 c = above c.args.digits.now c.loop-c.c-index c.loop-c.n 9223372036854775808 c.c-item.result c.loop-c-test.true c.loop-c.invariant.1 (omega arith)

pub returns-then-n-gt9223372036854775808 : goal.returns-then-n-gt9223372036854775808
returns-then-n-gt9223372036854775808 c = above c.args.digits.now c.loop-c.c-index c.loop-c.n 9223372036854775808 c.c-item.result c.loop-c-test.true c.loop-c.invariant.1 (omega (arith, c.if-n-gt9223372036854775808.true, c.saturating_sub.ensures, c.c-item.is))
