use Rattle.std.proofs.Common.{◌≡◌, string_bytes, encode_utf8_all, rules}
use Rattle.std.proofs.lemmas.Str.{IsUtf8-string_bytes}
use Rattle.lp_image.proofs.Parts.{valid_text}
use Rattle.lp_image.proofs.packing.utf8_of.Goals as goal

pub returns-clause-valid : goal.returns-clause-valid
returns-clause-valid c =
    let e : string_bytes c.in_ok-spelled.spelled ≡ encode_utf8_all c.args.text.now = search rules in
    valid_text c.args.text.now (string_bytes c.in_ok-spelled.spelled) (IsUtf8-string_bytes c.in_ok-spelled.spelled) e
