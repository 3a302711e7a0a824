use Rattle.std.proofs.Common.{◌∙◌, sym, arith}
use Rattle.lp_script.proofs.NumberCode.{named_none, one_of_none, one_of_some}
use Rattle.lp_script.proofs.connections.Connections.named.Goals as goal

pub returns-then-not-is_numeral : goal.returns-then-not-is_numeral
returns-then-not-is_numeral c = named_none _ c.args.word.now (sym c.is_numeral.ensures ∙ c.if-not-is_numeral.true)

pub overflow_cast-result : goal.overflow_cast-result
overflow_cast-result c = omega (arith, c.contains.ensures.small c.value-n.result (sym c.contains.ensures.value ∙ c.if-contains.true))

pub returns-then-contains : goal.returns-then-contains
returns-then-contains c = one_of_some c.args.self.now c.args.word.now c.value-n.result c.contains.ensures.small (sym c.is_numeral.ensures ∙ c.if-not-is_numeral.false) c.value-n.ensures (sym c.contains.ensures.value ∙ c.if-contains.true)

pub returns-else-contains : goal.returns-else-contains
returns-else-contains c = one_of_none c.args.self.now c.args.word.now c.value-n.result c.contains.ensures.small (sym c.is_numeral.ensures ∙ c.if-not-is_numeral.false) c.value-n.ensures (sym c.contains.ensures.value ∙ c.if-contains.false)
