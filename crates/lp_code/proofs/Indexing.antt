-- The first place of each name is noted.
use Rattle.std.proofs.Common.{◌≡◌, ◌≤◌, ◌<◌, ℕ, zero, suc, ◌+◌, refl, sym, ◌∙◌, ap, arith, Bool, true, false, cond, List, [], ◌∷◌, ◌++◌, length, take, get_or, Option, Some, None}
use Rattle.std.specs.Prelude.{bytes_eq, option_map, IfSome}
use Rattle.lp_code.specs.declared.tables.Slot.{Slot}
use Rattle.lp_code.specs.Slots.{first_place, earlier}

place_step : (q : List ℕ) (s : Slot) (b : Bool) (n m : ℕ) (x : Option ℕ) → n ≡ m → cond b (Some 0) (option_map suc (earlier x (cond (bytes_eq q s.name) (Some n) None))) ≡ earlier (cond b (Some 0) (option_map suc x)) (cond (bytes_eq q s.name) (Some (suc m)) None)
place_step q s true n m x e = refl
place_step q s false n m (Some k) e = refl
place_step q s false n m None e = go (bytes_eq q s.name)
  where
    go : (c : Bool) → option_map suc (cond c (Some n) None) ≡ cond c (Some (suc m)) None
    go true = ap (λ z. Some (suc z)) e
    go false = refl

-- one slot more
place_more : (q : List ℕ) (rows : List Slot) (s : Slot) → first_place q (rows ++ (s ∷ [])) ≡ earlier (first_place q rows) (cond (bytes_eq q s.name) (Some (length rows)) None)
place_more q [] s = refl
place_more q (r ∷ rows) s = ap (λ z. cond (bytes_eq q r.name) (Some 0) (option_map suc z)) (place_more q rows s) ∙ place_step q s (bytes_eq q r.name) (length rows) (length rows) (first_place q rows) refl

take_one : (rows : List Slot) (i : ℕ) (r : Slot) → i < length rows → r ≡ get_or rows i r → take (suc i) rows ≡ take i rows ++ (r ∷ [])
take_one [] i r h e = absurd (omega (arith, h))
take_one (x ∷ xs) zero r h e = let s : x ≡ r = sym e in ap (λ z. z ∷ []) s
take_one (x ∷ xs) (suc i) r h e = ap (λ z. x ∷ z) (take_one xs i r (omega (arith, h)) e)

long : (rows : List Slot) (i : ℕ) → i ≤ length rows → length (take i rows) ≡ i
long [] zero h = refl
long [] (suc i) h = absurd (omega (arith, h))
long (x ∷ xs) zero h = refl
long (x ∷ xs) (suc i) h = ap suc (long xs i (omega (arith, h)))

pub place_next : (q : List ℕ) (rows : List Slot) (i : ℕ) (s : Slot) → i < length rows → s ≡ get_or rows i s → first_place q (take (i + 1) rows) ≡ earlier (first_place q (take i rows)) (cond (bytes_eq q s.name) (Some i) None)
place_next q rows i s l e = let f : i + 1 ≡ suc i = omega arith in
    ap (λ n. first_place q (take n rows)) f ∙ ap (first_place q) (take_one rows i s l e) ∙ place_more q (take i rows) s
    ∙ ap (λ n. earlier (first_place q (take i rows)) (cond (bytes_eq q s.name) (Some n) None)) (long rows i (omega (arith, l)))

take_all : (rows : List Slot) (i : ℕ) → length rows ≤ i → take i rows ≡ rows
take_all [] zero h = refl
take_all [] (suc i) h = refl
take_all (x ∷ xs) zero h = absurd (omega (arith, h))
take_all (x ∷ xs) (suc i) h = ap (λ z. x ∷ z) (take_all xs i (omega (arith, h)))

pub place_all : (q : List ℕ) (rows : List Slot) (i : ℕ) → length rows ≤ i → first_place q (take i rows) ≡ first_place q rows
place_all q rows i h = ap (first_place q) (take_all rows i h)

-- a place is one of a slot
pub place_inside : (q : List ℕ) (rows : List Slot) → IfSome (first_place q rows) (λ k. k < length rows)
place_inside q [] = tt
place_inside q (r ∷ rows) = go (bytes_eq q r.name) (first_place q rows) (place_inside q rows)
  where
    go : (b : Bool) (x : Option ℕ) → IfSome x (λ k. k < length rows) → IfSome (cond b (Some 0) (option_map suc x)) (λ k. k < suc (length rows))
    go true x h = omega arith
    go false None h = tt
    go false (Some k) h = omega (arith, h)

-- one name more is noted
pub place_noted : (q : List ℕ) (rows : List Slot) (i : ℕ) (s : Slot) (before after : Option ℕ) {name : List ℕ} → i < length rows → s ≡ get_or rows i s → before ≡ first_place q (take i rows) → name ≡ (get_or rows i s).name
    → after ≡ earlier before (cond (bytes_eq q name) (Some i) None) → after ≡ first_place q (take (i + 1) rows)
place_noted q rows i s before after {name} l e b n a =
    a ∙ ap (λ z. earlier z (cond (bytes_eq q name) (Some i) None)) b ∙ ap (λ z. earlier (first_place q (take i rows)) (cond (bytes_eq q z) (Some i) None)) (n ∙ ap (λ (z : Slot). z.name) (sym e))
    ∙ sym (place_next q rows i s l e)
