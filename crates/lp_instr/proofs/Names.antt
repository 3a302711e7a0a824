-- Efuns are found by their names alone.
use Rattle.std.proofs.Common.{◌≡◌, ◌<◌, ◌≤◌, ℕ, zero, suc, ◌+◌, List, [], ◌∷◌, length, drop, get_or, Bool, true, false, cond, ◌&&◌, refl, sym, ap, ◌∙◌, arith, nat_eq, Some, Option, slice_get}
use Rattle.std.specs.Prelude.{filter}
use Rattle.std.specs.Cmp.Lexicographic.{as_long}
use Rattle.std.proofs.lemmas.Slice.Eq.{bytes_eq-Decides}
use Rattle.std.proofs.lemmas.Bool.{eq-eqb, eqb-true}
use Rattle.lp_instr.specs.declared.efun.Efun.{Efun}
use Rattle.lp_instr.specs.declared.efun.Efun.TheVariants.{ThisObject}
use Rattle.lp_instr.specs.EfunList.{efun_in, efun_name, efun_named, efuns, efuns_of_length, is_name, efun_number, AreNumbered}

and_left : (a b : Bool) → (a && b) ≡ true → a ≡ true
and_left true b h = refl
and_left false b h = h

and_right : (a b : Bool) → (a && b) ≡ true → b ≡ true
and_right true b h = h
and_right false b h = cc

-- one letter of each
name_step : (xs ys : List ℕ) (i : ℕ) → i < length xs → i < length ys → is_name (drop i xs) (drop i ys) ≡ (nat_eq (get_or xs i 0) (get_or ys i 0) && is_name (drop (suc i) xs) (drop (suc i) ys))
name_step [] ys i h g = absurd (omega (arith, h))
name_step (x ∷ xs) [] i h g = absurd (omega (arith, g))
name_step (x ∷ xs) (y ∷ ys) zero h g = refl
name_step (x ∷ xs) (y ∷ ys) (suc i) h g = name_step xs ys i (omega (arith, h)) (omega (arith, g))

letter_read : (ys : List ℕ) (i y : ℕ) → i < length ys → y ≡ get_or ys i y → get_or ys i 0 ≡ y
letter_read [] i y h e = absurd (omega (arith, h))
letter_read (z ∷ ys) zero y h e = sym e
letter_read (z ∷ ys) (suc i) y h e = letter_read ys i y (omega (arith, h)) e

at_letter : (xs ys : List ℕ) (i y : ℕ) (b : Bool) → i < length xs → length xs ≡ length ys → y ≡ get_or ys i y → nat_eq (get_or xs i 0) y ≡ b → is_name xs ys ≡ is_name (drop i xs) (drop i ys)
    → is_name xs ys ≡ (b && is_name (drop (suc i) xs) (drop (suc i) ys))
at_letter xs ys i y b h l e t s = let g : i < length ys = omega (arith, h, l) in
    s ∙ name_step xs ys i h g ∙ ap (λ z. nat_eq (get_or xs i 0) z && is_name (drop (suc i) xs) (drop (suc i) ys)) (letter_read ys i y g e) ∙ ap (λ z. z && is_name (drop (suc i) xs) (drop (suc i) ys)) t

-- a letter is the same
pub same_letter : (xs ys : List ℕ) (i y : ℕ) → i < length xs → length xs ≡ length ys → y ≡ get_or ys i y → get_or xs i 0 ≡ y → is_name xs ys ≡ is_name (drop i xs) (drop i ys)
    → is_name xs ys ≡ is_name (drop (i + 1) xs) (drop (i + 1) ys)
same_letter xs ys i y h l e t s = at_letter xs ys i y true h l e (eq-eqb (get_or xs i 0) y t) s ∙ (let f : suc i ≡ i + 1 = omega arith in ap (λ k. is_name (drop k xs) (drop k ys)) f)

-- a letter is another one
pub other_letter : (xs ys : List ℕ) (i y : ℕ) → i < length xs → length xs ≡ length ys → y ≡ get_or ys i y → (get_or xs i 0 ≡ y → ⊥) → is_name xs ys ≡ is_name (drop i xs) (drop i ys)
    → false ≡ is_name xs ys
other_letter xs ys i y h l e t s = sym (at_letter xs ys i y false h l e (none (nat_eq (get_or xs i 0) y) refl) s)
  where
    none : (b : Bool) → nat_eq (get_or xs i 0) y ≡ b → nat_eq (get_or xs i 0) y ≡ false
    none false f = f
    none true f = absurd (t (eqb-true (get_or xs i 0) y f))

past : (xs : List ℕ) (i : ℕ) → length xs ≤ i → drop i xs ≡ []
past [] zero h = refl
past [] (suc i) h = refl
past (x ∷ xs) zero h = absurd (omega (arith, h))
past (x ∷ xs) (suc i) h = past xs i (omega (arith, h))

-- no letter is left
pub same_letters : (xs ys : List ℕ) (i : ℕ) → length xs ≤ i → length xs ≡ length ys → is_name xs ys ≡ is_name (drop i xs) (drop i ys) → true ≡ is_name xs ys
same_letters xs ys i h l s = sym (s ∙ ap (λ z. is_name z (drop i ys)) (past xs i h) ∙ ap (λ z. is_name [] z) (past ys i (omega (arith, h, l))))

-- the names are not as long
pub other_lengths : (xs ys : List ℕ) → (length xs ≡ length ys → ⊥) → false ≡ is_name xs ys
other_lengths xs ys n = none (is_name xs ys) refl
  where
    none : (b : Bool) → is_name xs ys ≡ b → false ≡ is_name xs ys
    none false f = sym f
    none true f = absurd (n (as_long nat_eq xs ys f))

other_length : (e : Efun) (w : List ℕ) → nat_eq (length (efun_name e)) (length w) ≡ false → is_name (efun_name e) w ≡ false
other_length e w h = by (is_name (efun_name e) w) refl
  where
    by : (b : Bool) → is_name (efun_name e) w ≡ b → b ≡ false
    by false f = refl
    by true f = sym (eq-eqb (length (efun_name e)) (length w) (as_long nat_eq (efun_name e) w f)) ∙ h

-- a name is looked for among those of its length alone
pub among_length : (es : List Efun) (w : List ℕ) → efun_in (filter (λ e. nat_eq (length (efun_name e)) (length w)) es) w ≡ efun_in es w
among_length [] w = refl
among_length (e ∷ es) w = by (nat_eq (length (efun_name e)) (length w)) refl (among_length es w)
  where
    by : (b : Bool) → nat_eq (length (efun_name e)) (length w) ≡ b → efun_in (filter (λ e. nat_eq (length (efun_name e)) (length w)) es) w ≡ efun_in es w → efun_in (cond b (e ∷ filter (λ e. nat_eq (length (efun_name e)) (length w)) es) (filter (λ e. nat_eq (length (efun_name e)) (length w)) es)) w ≡ efun_in (e ∷ es) w
    by true f ih = ap (λ z. cond (is_name (efun_name e) w) (Some e) z) ih
    by false f ih = ih ∙ ap (λ z. cond z (Some e) (efun_in es w)) (sym (other_length e w f))

pub named_among : (w : List ℕ) → efun_in (efuns_of_length (length w)) w ≡ efun_named w
unfolding efun_named
named_among w = among_length efuns w

in_step : (e x : Efun) (w : List ℕ) (o : Option Efun) (b : Bool) → is_name (efun_name e) w ≡ b → cond b (Some e) o ≡ Some x → (o ≡ Some x → w ≡ efun_name x) → w ≡ efun_name x
in_step e x w o true h g ih = let f : e ≡ x = cc in sym ((bytes_eq-Decides (efun_name e) w).0 h) ∙ ap efun_name f
in_step e x w o false h g ih = ih g

in_gives : (es : List Efun) (w : List ℕ) (x : Efun) → efun_in es w ≡ Some x → w ≡ efun_name x
in_gives [] w x h = cc
in_gives (e ∷ es) w x h = in_step e x w (efun_in es w) (is_name (efun_name e) w) refl h (in_gives es w x)

pub named_only : (w : List ℕ) (e : Efun) → efun_named w ≡ Some e → w ≡ efun_name e
unfolding efun_named
named_only w e h = in_gives efuns w e h

pub named_found : (e : Efun) → efun_named (efun_name e) ≡ Some e
unfolding efun_named
named_found ThisObject = refl
named_found _ = refl

number_there : (e : Efun) → slice_get efuns (efun_number e) ≡ Some e
unfolding efun_number
number_there ThisObject = refl
number_there _ = refl

-- the numbers of a list of efuns count up from one on
count_up : (Efun → ℕ) → ℕ → List Efun → Bool
count_up f n [] = true
count_up f n (x ∷ xs) = nat_eq (f x) n && count_up f (suc n) xs

all_count_up : count_up efun_number 0 efuns ≡ true
unfolding count_up efun_number
all_count_up = refl

counts_at : (f : Efun → ℕ) (n i : ℕ) (es : List Efun) (e : Efun) → count_up f n es ≡ true → slice_get es i ≡ Some e → n + i ≡ f e
unfolding count_up
counts_at f n i [] e h g = cc
counts_at f n zero (x ∷ xs) e h g =
    let t = eqb-true (f x) n (and_left (nat_eq (f x) n) (count_up f (suc n) xs) h) in
    let s : x ≡ e = cc in let u = ap f s in omega (arith, t, u)
counts_at f n (suc i) (x ∷ xs) e h g =
    let t = counts_at f (suc n) i xs e (and_right (nat_eq (f x) n) (count_up f (suc n) xs) h) g in omega (arith, t)

number_only : (n : ℕ) (e : Efun) → slice_get efuns n ≡ Some e → n ≡ efun_number e
number_only n e h = let r = counts_at efun_number 0 n efuns e all_count_up h in omega (arith, r)

pub numbered : AreNumbered
numbered = record { there = number_there; only = number_only }
