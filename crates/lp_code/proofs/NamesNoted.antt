-- The names that a map knows.
use Rattle.std.proofs.Common.{◌≡◌, ◌<◌, ℕ, zero, suc, ◌+◌, refl, sym, ◌∙◌, ap, arith, Bool, true, false, cond, List, [], ◌∷◌, ◌++◌, length, take, get_or, Option, Some, None, is_some, ◌||◌}
use Rattle.std.specs.List.{list_any}
use Rattle.std.specs.Prelude.{bytes_eq}
use Rattle.lp_code.specs.Slots.{earlier}

any_more : (p : List ℕ → Bool) (xs : List (List ℕ)) (y : List ℕ) → list_any p (xs ++ (y ∷ [])) ≡ list_any p xs || p y
any_more p [] y = or_false (p y)
  where
    or_false : (b : Bool) → b || false ≡ b
    or_false true = refl
    or_false false = refl
any_more p (x ∷ xs) y = step (p x) (any_more p xs y)
  where
    step : (b : Bool) → list_any p (xs ++ (y ∷ [])) ≡ list_any p xs || p y → b || list_any p (xs ++ (y ∷ [])) ≡ (b || list_any p xs) || p y
    step true e = refl
    step false e = e

take_one : (xs : List (List ℕ)) (i : ℕ) (x : List ℕ) → i < length xs → x ≡ get_or xs i x → take (suc i) xs ≡ take i xs ++ (x ∷ [])
take_one [] i x h e = absurd (omega (arith, h))
take_one (y ∷ ys) zero x h e = let s : y ≡ x = sym e in ap (λ z. z ∷ []) s
take_one (y ∷ ys) (suc i) x h e = ap (λ z. y ∷ z) (take_one ys i x (omega (arith, h)) e)

noted : (x : Option ℕ) (b : Bool) (i : ℕ) → is_some (earlier x (cond b (Some i) None)) ≡ is_some x || b
noted (Some k) b i = refl
noted None true i = refl
noted None false i = refl

-- one name more is known
pub name_noted : (q : List ℕ) (names : List (List ℕ)) (i : ℕ) (x : List ℕ) (before after : Option ℕ) {name : List ℕ} → i < length names → x ≡ get_or names i x → name ≡ x → is_some before ≡ list_any (bytes_eq q) (take i names)
    → after ≡ earlier before (cond (bytes_eq q name) (Some i) None) → is_some after ≡ list_any (bytes_eq q) (take (i + 1) names)
name_noted q names i x before after {name} l e n b a = let f : i + 1 ≡ suc i = omega arith in
    ap is_some a ∙ noted before (bytes_eq q name) i ∙ ap (λ z. z || bytes_eq q name) b ∙ ap (λ z. list_any (bytes_eq q) (take i names) || bytes_eq q z) n
    ∙ sym (ap (λ k. list_any (bytes_eq q) (take k names)) f ∙ ap (list_any (bytes_eq q)) (take_one names i x l e) ∙ any_more (bytes_eq q) (take i names) x)
