use Rattle.std.proofs.Common.{◌∙◌, sym, arith}
use Rattle.lp_script.proofs.NumberCode.{begins_above, empty_is, leb-of}
use Rattle.lp_script.proofs.number.begins_between.Goals as goal

pub returns-else-n-from : goal.returns-else-n-from
returns-else-n-from c = begins_above c.args.low c.args.high c.value-n.result c.args.word.now _ (omega arith) (empty_is c.args.word.now _ c.is_empty.ensures c.if-is_empty.false) (sym c.is_numeral.ensures ∙ c.if-not-is_numeral.false) c.value-n.ensures c.if-n-eq0.false (omega arith) (leb-of _ _ c.if-n-from.false)
