-- Fixed words as texts, and the sign of clones in names.
use Rattle.std.proofs.Common.{◌≡◌, ◌≢◌, ◌++◌, ◌∙◌, ℕ, List, [], ◌∷◌, true, refl, ap, IsUtf8, ◌||◌}
use Rattle.std.specs.Prelude.{codes}
use Rattle.std.specs.Str.{chars}
use Rattle.std.proofs.Math.Utf8.{encode}
use Rattle.std.proofs.lemmas.Bool.{ne_eqb}
use Rattle.std.proofs.lemmas.Str.{chars-nil, chars_past_char}
use Rattle.lp_meaning.specs.WorldSteps.{is_clone_name}

pub array_chars : chars (codes "<ARRAY>") ≡ codes "<ARRAY>"
unfolding chars
array_chars = refl

pub mapping_chars : chars (codes "<MAPPING>") ≡ codes "<MAPPING>"
unfolding chars
mapping_chars = refl

pub empty_chars : chars [] ≡ []
empty_chars = chars-nil

-- the sign is the next letter
pub hash_here : (bs rest : List ℕ) (c : ℕ) → IsUtf8 bs → bs ≡ encode c ++ rest → c ≡ 35 → is_clone_name (chars bs) ≡ true
hash_here bs rest c u e h = ap is_clone_name (chars_past_char bs rest c u e) ∙ ap (λ d. is_clone_name (d ∷ chars rest)) h

-- it is not
pub hash_later : (bs rest : List ℕ) (c : ℕ) → IsUtf8 bs → bs ≡ encode c ++ rest → c ≢ 35 → is_clone_name (chars bs) ≡ is_clone_name (chars rest)
hash_later bs rest c u e h = ap is_clone_name (chars_past_char bs rest c u e) ∙ ap (λ b. b || is_clone_name (chars rest)) (ne_eqb c 35 h)
