use Rattle.std.proofs.Common.{◌∙◌, sym, Some}
use Rattle.std.proofs.lemmas.Result.{IfOk-weaker}
use Rattle.lp_serve_words.proofs.Naming.{word_refused, words_stand}
use Rattle.lp_serve_words.proofs.words.serving_of.Goals as goal

pub returns-then-not-may_all_stand-clause-refused :
    goal.returns-then-not-may_all_stand-clause-refused
returns-then-not-may_all_stand-clause-refused c = λ e.
    word_refused c.args.words.now (sym c.is_serve.ensures ∙ c.if-not-is_serve.false) (sym c.may_all_stand.ensures ∙ c.if-not-may_all_stand.true)

pub returns-clause-named : goal.returns-clause-named
returns-clause-named c =
    IfOk-weaker c.taken_of.result _ _ (λ s h. words_stand c.args.words.now (Some s) (sym c.is_serve.ensures ∙ c.if-not-is_serve.false) (sym c.may_all_stand.ensures ∙ c.if-not-may_all_stand.false) h) c.taken_of.ensures.named
