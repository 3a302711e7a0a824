use Rattle.std.proofs.Common.{◌∙◌, ◌++◌, ap}
use Rattle.std.specs.Str.{chars}
use Rattle.std.proofs.lemmas.Result.{on_ok_weaker}
use Rattle.lp_loading.proofs.FaultTexts.{fault_put}
use Rattle.lp_loading.proofs.faults.put_fault.Goals as goal

pub returns : goal.returns
returns c =
    let t0 = c.args.text.now.items in
    let t1 = c.put_words.new.text.items in
    let t2 = c.put_words-2.new.text.items in
    let t3 = c.put_number.new.text.items in
    let t4 = c.put_words-3.new.text.items in
    let t5 = c.put_words-4.new.text.items in
    on_ok_weaker c.put_words-4.result
    (λ e. fault_put t0 t1 t2 t3 t4 t5 c.args.fault.now
    (c.in_ok-put_words.ensures ∙ ap (λ l. t0 ++ chars l) c.as_str.ensures)
    c.in_ok-put_words-2.ensures
    c.in_ok-put_number.ensures
    c.in_ok-put_words-3.ensures
    (e ∙ ap (λ l. t4 ++ chars l) c.text.ensures)) c.put_words-4.ensures
