-- Letters as bytes.
use Rattle.std.proofs.Common.{◌≡◌, ap, ◌∙◌, ℕ, ◌+◌, ◌<◌, List, [], ◌∷◌, ◌++◌, length, take, get_or}
use Rattle.std.specs.Char.{encode_utf8}
use Rattle.std.specs.Str.{encode_utf8_all}
use Rattle.std.proofs.lemmas.List.{take_more, append-nil}
use Rattle.std.proofs.lemmas.Str.{encodes-append}

-- one more letter
pub encoded_more : (chars : List ℕ) (i d : ℕ) → i < length chars → encode_utf8_all (take (i + 1) chars) ≡ encode_utf8_all (take i chars) ++ encode_utf8 (get_or chars i d)
encoded_more chars i d within =
    ap encode_utf8_all (take_more chars i d within) ∙ encodes-append (take i chars) (get_or chars i d ∷ []) ∙ ap (λ (xs : List ℕ). encode_utf8_all (take i chars) ++ xs) (append-nil (encode_utf8 (get_or chars i d)))
