use Rattle.std.proofs.Common.{◌∙◌, sym, arith, inl, inr}
use Rattle.lp_script.proofs.NumberCode.{named_none, between_outside, between_inside}
use Rattle.lp_script.proofs.number.number_between.Goals as goal
use Rattle.lp_script.proofs.number.number_between.Goals.{then-n-from-via-then-n-from, then-n-from-via-else-n-from+then-from-n}

pub returns-then-not-is_numeral : goal.returns-then-not-is_numeral
returns-then-not-is_numeral c = named_none _ c.args.word.now (sym c.is_numeral.ensures ∙ c.if-not-is_numeral.true)

pub returns-then-n-from : goal.returns-then-n-from
returns-then-n-from c = elim c.then-n-from.branch [
  | then-n-from-via-then-n-from w ↦ between_outside c.args.low c.args.high c.value-n.result c.args.word.now (omega arith) (omega arith) (sym c.is_numeral.ensures ∙ c.if-not-is_numeral.false) c.value-n.ensures (inl (omega (arith, w.if-n-from.true)))
  | then-n-from-via-else-n-from+then-from-n w ↦ between_outside c.args.low c.args.high c.value-n.result c.args.word.now (omega arith) (omega arith) (sym c.is_numeral.ensures ∙ c.if-not-is_numeral.false) c.value-n.ensures (inr (omega (arith, w.if-from-n.true, w.from-else-n-from.ensures)))
]

pub returns : goal.returns
returns c = between_inside c.args.low c.args.high c.value-n.result c.args.word.now (omega arith) (omega arith) (sym c.is_numeral.ensures ∙ c.if-not-is_numeral.false) c.value-n.ensures (omega arith) (omega arith)
