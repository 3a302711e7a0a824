-- The text of an error, one code point after another.
use Rattle.std.specs.Prelude.{IfSome, MatchOption}
use Rattle.std.proofs.Common.{◌≡◌, ◌∙◌, Option, Some, None, ℕ, ◌+◌, ◌<◌, List, [], ◌∷◌, ◌++◌, ap, length, take, get_or}
use Rattle.std.specs.Char.{encode_utf8}
use Rattle.std.specs.Str.{encode_utf8_all}
use Rattle.std.proofs.lemmas.List.{take_more, append-nil, map_push}
use Rattle.std.proofs.lemmas.Str.{encodes-append}
use Rattle.lp_verdicts.specs.Verdicts.{shown, shown_point}

-- one more code point
pub shown_more : (points : List ℕ) (i d : ℕ) → i < length points → encode_utf8_all (shown (take (i + 1) points)) ≡ encode_utf8_all (shown (take i points)) ++ encode_utf8 (shown_point (get_or points i d))
shown_more points i d within =
    ap (λ xs. encode_utf8_all (shown xs)) (take_more points i d within)
    ∙ ap encode_utf8_all (map_push shown_point (take i points) (get_or points i d))
    ∙ encodes-append (shown (take i points)) (shown_point (get_or points i d) ∷ [])
    ∙ ap (λ (xs : List ℕ). encode_utf8_all (shown (take i points)) ++ xs) (append-nil (encode_utf8 (shown_point (get_or points i d))))

-- what holds of a value that there is
pub some_of : {A : Type 0} (o : Option A) (P : Type 0) (Q : A → Type 0) → MatchOption o P Q → IfSome o Q
some_of None P Q h = tt
some_of (Some x) P Q h = h
