use Rattle.std.proofs.Common.{◌≡◌, ap, arith, length, sym, if◌then◌else◌}
use Rattle.std.specs.Prelude.{chars, nat_le}
use Rattle.std.proofs.lemmas.Result.{IfOk-weaker}
use Rattle.lp_values.specs.Limits.{max_code_points}
use Rattle.lp_values.specs.declared.value.Value.TheVariants.{Str}
use Rattle.lp_language.specs.Course.{zero_value}
use Rattle.lp_meaning.specs.FileEfuns.{text_or_zero}
use Rattle.lp_filing.proofs.Coming.{utf8_text}
use Rattle.lp_filing.proofs.Lengths.{long_text}
use Rattle.lp_filing.proofs.reading.text_or_zero.Goals as goal

pub returns-in-Ok-clause-value : goal.returns-in-Ok-clause-value
returns-in-Ok-clause-value c =
    let text = c.in-Ok.text.now in
    IfOk-weaker c.short_text.result (λ v. v ≡ (if nat_le (length (chars text)) max_code_points then Str (chars text) else zero_value)) (λ v. v ≡ text_or_zero c.args.bytes.now)
    (λ v e. utf8_text c.args.bytes.now text v c.in-Ok.ensures.cases.0 c.in-Ok.ensures.cases.1 e) c.short_text.ensures.value

pub returns-then-bytes-gt-MAX_CODE_POINTS-clause-value : goal.returns-then-bytes-gt-MAX_CODE_POINTS-clause-value
returns-then-bytes-gt-MAX_CODE_POINTS-clause-value c = ap (λ b. if b then Str (chars c.args.bytes.now) else zero_value) (sym (long_text max_code_points c.args.bytes.now (omega arith)))
