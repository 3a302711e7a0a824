use Rattle.std.proofs.Common.{◌∙◌, sym}
use Rattle.lp_script.specs.Reading.{value_from}
use Rattle.lp_script.proofs.NumberCode.{count_found, count_wrong}
use Rattle.lp_script.proofs.items.count_at.Goals as goal

pub returns-then-is_numeral : goal.returns-then-is_numeral
returns-then-is_numeral c = (value_from 0 c.in-Some.word.now, c.value.ensures, count_found c.args.bytes.now c.in-Some.word.now c.in-Some.rest.now c.in-Some.ensures (sym c.is_numeral.ensures ∙ c.if-is_numeral.true))

pub returns-else-is_numeral : goal.returns-else-is_numeral
returns-else-is_numeral c = count_wrong c.args.bytes.now c.in-Some.word.now c.in-Some.rest.now c.in-Some.ensures (sym c.is_numeral.ensures ∙ c.if-is_numeral.false)
