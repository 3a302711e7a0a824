-- Places in texts.
use Rattle.std.proofs.Common.{◌≡◌, ◌≤◌, ◌<◌, ◌+◌, ℕ, Bool, true, false, List, [], ◌∷◌, Option, Some, None, refl, length, drop, arith, nat_eq, nat_lt, if◌then◌else◌}
use Rattle.std.specs.Prelude.{IfSome}
use Rattle.std.specs.List.{starts_with}
use Rattle.std.proofs.lemmas.List.{length-drop}
use Rattle.lp_text.specs.Texts.{place, place_from}

abbrev IsAtMost : ℕ → Option ℕ → Type 0
IsAtMost n r = IfSome r (λ k. k ≤ n)

choice : (b : Bool) (i n : ℕ) (r : Option ℕ) → i ≤ n → IsAtMost n r → IsAtMost n (if b then Some i else r)
choice true i n r le h = le
choice false i n r le h = h

later : (b : Bool) (n : ℕ) (r : Option ℕ) → IsAtMost n r → IsAtMost n (if b then None else r)
later true n r h = tt
later false n r h = h

in_rest : (t : List ℕ) (i : ℕ) (cs : List ℕ) (n : ℕ) → n ≡ i + length cs → IsAtMost n (place_from t i cs)
in_rest t i [] n e = choice (nat_eq (length t) 0) i n None (omega arith) tt
in_rest t i (c ∷ cs) n e = choice (starts_with nat_eq (c ∷ cs) t) i n (place_from t (i + 1) cs) (omega arith) (in_rest t (i + 1) cs n (omega arith))

below : (r : Option ℕ) (n m : ℕ) → IsAtMost n r → n < m → IfSome r (λ k. k < m)
below None n m h lt = tt
below (Some k) n m h lt = omega arith

-- a place that was found in a text of the machine from a place of the machine on
pub place_small : (t s : List ℕ) (from m : ℕ) → from < m → length s < m → IfSome (place t s from) (λ k. k < m)
place_small t s from m a b = below (place t s from) (from + length (drop from s)) m (later (nat_lt (length s) from) (from + length (drop from s)) (place_from t from (drop from s)) (in_rest t from (drop from s) (from + length (drop from s)) refl)) (rw (length-drop from s) (omega arith))
