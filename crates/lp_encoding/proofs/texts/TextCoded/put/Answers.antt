use Rattle.std.proofs.Common.{◌≡◌, sym, ap, ◌∙◌}
use Rattle.std.specs.Str.{chars, encode_utf8_all}
use Rattle.std.proofs.lemmas.Str.{chars_from_encodes}
use Rattle.lp_encoding.proofs.Puts.{on_ok}
use Rattle.lp_encoding.proofs.texts.TextCoded.put.Goals as goal

pub returns-clause-fits : goal.returns-clause-fits
returns-clause-fits c =
    let bytes = c.as_str.result.now in
    let same : bytes ≡ encode_utf8_all c.args.self.now = c.as_str.ensures.value ∙ c.in_ok-value.ensures ∙ ap encode_utf8_all c.as_slice.ensures in
    let back : c.args.self.now ≡ chars bytes = chars_from_encodes c.args.self.now bytes c.as_str.utf8 (sym same) in
    on_ok c.put_str.result (λ h. (rw (← same) h, sym (back ∙ ap chars same))) c.put_str.ensures.fits
