-- The first place of a text in another, by the places where it stands.
use Rattle.std.proofs.Common.{◌≡◌, ◌∙◌, ℕ, zero, suc, ◌+◌, ◌-◌, ◌<◌, ◌≤◌, List, [], ◌∷◌, ◌++◌, Option, Some, None, Bool, true, false, cond, length, take, drop, get_or, refl, ap, sym, subst, arith, add-one, drop-cons, nat_eq, length-append, length-drop, length-take-le, get_or-take, get_or-drop, ext_get_or}
use Rattle.std.proofs.Math.ListN.{get_or-append}
use Rattle.std.specs.Prelude.{nat_lt}
use Rattle.std.specs.List.{starts_with}
use Rattle.std.specs.Cmp.Lexicographic.{bytes_decides}
use Rattle.std.proofs.lemmas.List.{take-append-drop}
use Rattle.lp_search.specs.Places.{IsFirst, Nowhere, Stands}
use Rattle.lp_text.specs.Texts.{place_from, place}

at_drop : (s : List ℕ) (i : ℕ) → i < length s → drop i s ≡ get_or s i 0 ∷ drop (i + 1) s
at_drop s i lt = rw (add-one, drop-cons s i 0 lt) refl

place_cons : (t s : List ℕ) (i : ℕ) (b : Bool) → i < length s → starts_with nat_eq (drop i s) t ≡ b → place_from t i (drop i s) ≡ cond b (Some i) (place_from t (i + 1) (drop (i + 1) s))
place_cons t s i b lt e =
    let f : starts_with nat_eq (get_or s i 0 ∷ drop (i + 1) s) t ≡ b = ap (λ (l : List ℕ). starts_with nat_eq l t) (sym (at_drop s i lt)) ∙ e in
    ap (place_from t i) (at_drop s i lt) ∙ ap (λ (c : Bool). cond c (Some i) (place_from t (i + 1) (drop (i + 1) s))) f

-- a rest that starts with the text has it at its place
stands_of : (t s : List ℕ) (i : ℕ) → 0 < length t → starts_with nat_eq (drop i s) t ≡ true → Stands t s i
stands_of t s i some e =
    let front : t ≡ take (length t) (drop i s) = (bytes_decides t (take (length t) (drop i s))).0 e in
    let rest = drop (length t) (drop i s) in
    let whole : drop i s ≡ t ++ rest = sym (take-append-drop (length t) (drop i s)) ∙ ap (λ l. l ++ rest) (sym front) in
    record {
      fits = omega (arith, ap length whole, length-append t rest, length-drop i s);
      reads = λ j l. sym (get_or-drop i s j 0) ∙ ap (λ l. get_or l j 0) whole ∙ get_or-append t rest 0 j l;
    }

-- and the other way
starts_at : (t s : List ℕ) (i : ℕ) → Stands t s i → starts_with nat_eq (drop i s) t ≡ true
starts_at t s i h =
    let fits = h.fits in
    let whole : length (take (length t) (drop i s)) ≡ length t = length-take-le (length t) (drop i s) (omega (arith, length-drop i s)) in
    let front : take (length t) (drop i s) ≡ t = ext_get_or 0 _ t whole (λ j l. get_or-take (length t) _ j 0 (omega arith) ∙ get_or-drop i s j 0 ∙ h.reads j (omega arith)) in
    (bytes_decides t (take (length t) (drop i s))).1 (sym front)

starts_not : (t s : List ℕ) (i : ℕ) → 0 < length t → (Stands t s i → ⊥) → starts_with nat_eq (drop i s) t ≡ false
starts_not t s i some h = by (starts_with nat_eq (drop i s) t) refl
  where
    by : (b : Bool) → starts_with nat_eq (drop i s) t ≡ b → starts_with nat_eq (drop i s) t ≡ false
    by true e = absurd (h (stands_of t s i some e))
    by false e = e

none_from : (t s : List ℕ) (n i : ℕ) → 0 < length t → i + n ≡ length s → Nowhere (Stands t s) i (length s + 1) → place_from t i (drop i s) ≡ None
none_from t s zero i some e h =
    let ended : drop i s ≡ [] = by_length (drop i s) (omega (arith, length-drop i s)) in
    let not_empty : nat_eq (length t) 0 ≡ false = search arith in
    rw (ended, not_empty) refl
  where
    by_length : (l : List ℕ) → length l ≡ 0 → l ≡ []
    by_length [] h = refl
    by_length (x ∷ l) h = absurd (omega arith)
none_from t s (suc n) i some e h =
    place_cons t s i false (omega arith) (starts_not t s i some (h i (omega arith) (omega arith)))
    ∙ none_from t s n (i + 1) some (omega arith) (λ k low high. h k (omega arith) high)

some_from : (t s : List ℕ) (n i k : ℕ) → 0 < length t → i + n ≡ k → Nowhere (Stands t s) i k → Stands t s k → place_from t i (drop i s) ≡ Some k
some_from t s zero i k some e h here =
    let same : k ≡ i = omega arith in
    let at : Stands t s i = subst (Stands t s) same here in
    let fits = at.fits in
    place_cons t s i true (omega arith) (starts_at t s i at) ∙ ap Some (sym same)
some_from t s (suc n) i k some e h here =
    let fits = here.fits in
    place_cons t s i false (omega arith) (starts_not t s i some (h i (omega arith) (omega arith)))
    ∙ some_from t s n (i + 1) k some (omega arith) (λ q low high. h q (omega arith) high) here

place_is : (t s : List ℕ) (from : ℕ) → 0 < length t → from ≤ length s → (r : Option ℕ) → IsFirst (Stands t s) from (length s + 1) r → place_from t from (drop from s) ≡ r
place_is t s from some le None h = none_from t s (length s - from) from some (omega arith) h
place_is t s from some le (Some k) h =
    let low = h.0.low in
    some_from t s (k - from) from k some (omega arith) h.0.before h.1

-- a place is looked for from where the search begins
pub not_past : (t s : List ℕ) (from : ℕ) → from ≤ length s → place t s from ≡ place_from t from (drop from s)
not_past t s from le = let e : nat_lt (length s) from ≡ false = search arith in rw e refl

-- the first place of a text that is not empty
pub is_place : (t s : List ℕ) (from : ℕ) → 0 < length t → from ≤ length s → (r : Option ℕ) → IsFirst (Stands t s) from (length s + 1) r → r ≡ place t s from
is_place t s from some le r h = sym (not_past t s from le ∙ place_is t s from some le r h)

empty_from : (t rest : List ℕ) (i : ℕ) → length t ≡ 0 → place_from t i rest ≡ Some i
empty_from [] [] i e = refl
empty_from [] (c ∷ rest) i e = refl
empty_from (x ∷ t) rest i e = absurd (omega arith)

-- an empty text stands where the search begins
pub is_empty_place : (t s : List ℕ) (from : ℕ) → length t ≡ 0 → from ≤ length s → Some from ≡ place t s from
is_empty_place t s from none le = sym (not_past t s from le ∙ empty_from t (drop from s) from none)
