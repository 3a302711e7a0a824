use Rattle.std.proofs.Common.{◌≡◌, Bool, true, false, refl}
use Rattle.std.specs.Str.{is_utf8}
use Rattle.std.proofs.lemmas.Str.{is_utf8-from_IsUtf8, IsUtf8-from_is_utf8}
use Rattle.lp_encoding.proofs.texts.take_str.Goals as goal

pub returns-in-Ok : goal.returns-in-Ok
returns-in-Ok c = rw (c.in_ok-bytes.ensures, is_utf8-from_IsUtf8 c.in_ok-bytes.bytes.now c.in-Ok.ensures.cases.1, c.in-Ok.ensures.cases.0) refl

pub returns-in-Err : goal.returns-in-Err
returns-in-Err c = rw (c.in_ok-bytes.ensures, refused (is_utf8 c.in_ok-bytes.bytes.now) (λ e. c.in-Err.ensures.cases.0 (IsUtf8-from_is_utf8 c.in_ok-bytes.bytes.now e))) refl
  where
    refused : (b : Bool) → (b ≡ true → ⊥) → b ≡ false
    refused true h = absurd (h refl)
    refused false h = refl
