use Rattle.std.proofs.Common.{◌≡◌, ◌∙◌, ◌++◌, OnOk, ap, subst, sym}
use Rattle.lp_meaning.specs.Askers.{cause_text}
use Rattle.lp_asking.specs.Endings.{cause_of}
use Rattle.lp_records.proofs.Spelling.{chars-spent, chars-thrown}
use Rattle.lp_records.proofs.texts.put_cause.Goals as goal

pub returns-in-Thrown : goal.returns-in-Thrown
returns-in-Thrown c =
    subst (λ t. OnOk c.put_words.result (c.put_words.new.text.items ≡ c.args.text.now.items ++ t)) (chars-thrown ∙ ap (λ x. cause_text (cause_of x)) (sym c.in-Thrown.is)) c.put_words.ensures

pub returns-in-Spent : goal.returns-in-Spent
returns-in-Spent c =
    subst (λ t. OnOk c.put_words-in-Spent.result (c.put_words-in-Spent.new.text.items ≡ c.args.text.now.items ++ t)) (chars-spent ∙ ap (λ x. cause_text (cause_of x)) (sym c.in-Spent.is)) c.put_words-in-Spent.ensures
