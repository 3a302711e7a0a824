use Rattle.std.proofs.Common.{◌∙◌, ap, sym, map, string_bytes, Some, None, rules}
use Rattle.std.proofs.lemmas.Result.{IfOk-weaker}
use Rattle.lp_serve_words.specs.Serving.{serving_with, values_of}
use Rattle.lp_serve_words.proofs.Naming.{taken_is, taken_not}
use Rattle.lp_serve_words.proofs.words.taken_of.Goals as goal

pub returns-clause-named : goal.returns-clause-named
returns-clause-named c =
    IfOk-weaker c.serving_by.result _ _ (λ s h.
    taken_is (map string_bytes c.args.words.now) _ c.in_ok-matches.matches (values_of c.texts_of.result) (Some s) c.in_ok-line.ensures c.in_ok-matches.ensures.taken c.in_ok-matches.ensures.matches c.texts_of.ensures h) c.serving_by.ensures.named

pub returns-clause-refused : goal.returns-clause-refused
returns-clause-refused c = λ e.
    taken_is (map string_bytes c.args.words.now) _ c.in_ok-matches.matches (values_of c.texts_of.result) None c.in_ok-line.ensures c.in_ok-matches.ensures.taken c.in_ok-matches.ensures.matches c.texts_of.ensures (c.serving_by.ensures.refused e)

pub returns-in_err-matches-clause-refused : goal.returns-in_err-matches-clause-refused
returns-in_err-matches-clause-refused c = λ e.
    taken_not (map string_bytes c.args.words.now) _ c.in_ok-line.ensures (c.in_err-matches.ensures.refused (let is = c.in_err-matches.is in let gives = c.from_residual-in_err-matches.ensures in search (rules, e, is, gives)))
