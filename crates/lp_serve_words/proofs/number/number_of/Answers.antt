use Rattle.std.proofs.Common.{◌∙◌, sym, arith}
use Rattle.lp_serve_words.proofs.Counting.{below_high, fit, misspelled, outside, unread}
use Rattle.lp_serve_words.proofs.number.number_of.Goals as goal

pub returns-in-Err-clause-value : goal.returns-in-Err-clause-value
returns-in-Err-clause-value c = unread c.args.low c.args.high c.args.word.now _ _ (omega arith) c.parse.ensures.value.0 c.in-Err.is

pub returns-then-not-is_spelling-clause-value : goal.returns-then-not-is_spelling-clause-value
returns-then-not-is_spelling-clause-value c = misspelled c.args.low c.args.high c.in-Ok.number c.args.word.now _ (omega arith) c.parse.ensures.value.0 c.in-Ok.is (sym c.is_spelling.ensures ∙ c.if-not-is_spelling.true)

pub returns-then-not-is_between-clause-value : goal.returns-then-not-is_between-clause-value
returns-then-not-is_between-clause-value c = outside c.args.low c.args.high c.in-Ok.number c.args.word.now _ (omega arith) c.parse.ensures.value.0 c.in-Ok.is (sym c.is_between.ensures ∙ c.if-not-is_between.true)

pub returns-clause-value : goal.returns-clause-value
returns-clause-value c = fit c.args.low c.args.high c.in-Ok.number c.args.word.now (omega arith) (sym c.is_spelling.ensures ∙ c.if-not-is_spelling.false) (sym c.is_between.ensures ∙ c.if-not-is_between.false)

pub returns-clause-within : goal.returns-clause-within
returns-clause-within c = below_high c.args.low c.args.high c.in-Ok.number (sym c.is_between.ensures ∙ c.if-not-is_between.false)
