use Rattle.std.proofs.Common.{◌∙◌, ◌++◌, ap}
use Rattle.std.specs.Prelude.{codes}
use Rattle.std.specs.Str.{chars}
use Rattle.std.proofs.lemmas.Result.{on_ok_weaker}
use Rattle.lp_language.specs.Resolve.{without_c}
use Rattle.lp_records.proofs.Placing.{parts_put}
use Rattle.lp_records.proofs.Spelling.{chars-close, chars-object, chars-of, chars-open}
use Rattle.lp_records.proofs.places.put_parts.Goals as goal

pub returns : goal.returns
returns c =
    let t0 = c.args.text.now.items in
    let t1 = c.put_words.new.text.items in
    let t2 = c.put_name.new.text.items in
    let t3 = c.put_words-2.new.text.items in
    let t4 = c.put_path.new.text.items in
    let t5 = c.put_words-3.new.text.items in
    let t6 = c.put_words-4.new.text.items in
    let t7 = c.put_words-5.new.text.items in
    on_ok_weaker c.put_words-5.result
    (λ e. parts_put (codes " [") (codes " of ") (codes ", object ") (codes "]") t0 t1 t2 t3 t4 t5 t6 t7 c.args.function.now (without_c c.args.path.now) (chars c.args.object.now)
    (c.in_ok-put_words.ensures ∙ ap (λ l. t0 ++ l) chars-open)
    (c.in_ok-put_name.ensures ∙ ap (λ l. t1 ++ l) (c.as_bytes.ensures.value ∙ c.as_str.ensures))
    (c.in_ok-put_words-2.ensures ∙ ap (λ l. t2 ++ l) chars-of)
    c.in_ok-put_path.ensures
    (c.in_ok-put_words-3.ensures ∙ ap (λ l. t4 ++ l) chars-object)
    c.in_ok-put_words-4.ensures
    (e ∙ ap (λ l. t6 ++ l) chars-close)) c.put_words-5.ensures
