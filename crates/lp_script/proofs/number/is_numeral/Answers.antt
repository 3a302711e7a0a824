use Rattle.lp_script.proofs.NumberCode.{numeral_code}
use Rattle.std.proofs.Common.{◌∙◌, sym}
use Rattle.lp_script.proofs.number.is_numeral.Goals as goal

pub returns-then-first-ne48 : goal.returns-then-first-ne48
returns-then-first-ne48 c = numeral_code c.args.word.now c.in-len1-up.len_at_least (sym c.all_digits.ensures ∙ c.if-all_digits.true) c.if-first-ne48.true
