use Rattle.std.proofs.Common.{◌∙◌, ◌++◌, Some, ap, sym}
use Rattle.std.specs.Str.{chars}
use Rattle.std.proofs.lemmas.Result.{on_ok_weaker}
use Rattle.lp_language.specs.Resolve.{without_c}
use Rattle.lp_meaning.specs.Askers.{place_text}
use Rattle.lp_records.proofs.Placing.{placed}
use Rattle.lp_records.proofs.places.put_function.Goals as goal

pub returns-in-Some-name : goal.returns-in-Some-name
returns-in-Some-name c =
    let path = c.in-Some.path.now in
    on_ok_weaker c.put_parts.result
    (λ e. placed c.args.live.now c.args.at c.args.function.now path (chars c.in-Some-name.object.now) c.args.text.now.items c.put_parts.new.text.items c.requires.function (sym c.in-Some.ensures) c.in-Some-name.ensures
    (e ∙ ap (λ p. c.args.text.now.items ++ place_text (Some (record { function = c.args.function.now; program = without_c p; object = chars c.in-Some-name.object.now }))) c.as_slice.ensures)) c.put_parts.ensures
