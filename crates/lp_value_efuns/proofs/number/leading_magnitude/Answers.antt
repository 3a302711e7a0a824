use Rattle.std.proofs.Common.{◌∙◌, ap, sym, true, arith}
use Rattle.std.specs.Char.{is_ascii_digit}
use Rattle.lp_value_efuns.proofs.LeadingLemmas.{above_leading}
use Rattle.lp_value_efuns.proofs.number.leading_magnitude.Goals as goal

pub returns-then-n-gt922337203685477580 : goal.returns-then-n-gt922337203685477580
returns-then-n-gt922337203685477580 c =
    above_leading c.args.s.now c.loop-c.c-index c.loop-c.n 9223372036854775808 c.c-item.result c.loop-c-test.true (ap is_ascii_digit (sym c.c-item.is) ∙ sym c.is_ascii_digit.ensures.value ∙ c.if-not-is_ascii_digit.false) c.loop-c.invariant.2 c.loop-c.invariant.1 (omega arith)

pub returns-then-n-gt9223372036854775808 : goal.returns-then-n-gt9223372036854775808
returns-then-n-gt9223372036854775808 c =
    above_leading c.args.s.now c.loop-c.c-index c.loop-c.n 9223372036854775808 c.c-item.result c.loop-c-test.true (ap is_ascii_digit (sym c.c-item.is) ∙ sym c.is_ascii_digit.ensures.value ∙ c.if-not-is_ascii_digit.false) c.loop-c.invariant.2 c.loop-c.invariant.1 (omega (arith, c.if-n-gt9223372036854775808.true, c.saturating_sub.ensures, c.c-item.is))
