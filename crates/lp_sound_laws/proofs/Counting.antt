-- That few intervals leave a number free.
use Rattle.std.proofs.Common.{◌≡◌, ℕ, zero, suc, ◌+◌, ◌-◌, ◌≤◌, ◌<◌, Bool, true, false, ◌&&◌, ◌||◌, List, [], ◌∷◌, Option, Some, None, refl, sym, ap, ◌∙◌, arith, ⊎_elim}
use Rattle.std.specs.Prelude.{slice_get, nat_lt, nat_le}
use Rattle.std.proofs.lemmas.Bool.{and_from, cases_Bool, leb-true, leb-false, lt-ltb, ltb-true, or_parts, true≢false}
use Rattle.lp_instr.specs.declared.instr.Instr.{Instr}
use Rattle.lp_instr.specs.Sound.{Shape, Shapes}
use Rattle.lp_sound_laws.specs.Heights.{gain, gains}

abbrev one_if : Bool → ℕ
one_if true = 1
one_if false = 0

-- of how many numbers from 1 up to n something is so
abbrev counted : (ℕ → Bool) → ℕ → ℕ
counted f zero = 0
counted f (suc n) = one_if (f (suc n)) + counted f n

one_or : (a b : Bool) → one_if (a || b) ≤ one_if a + one_if b
one_or true b = omega arith
one_or false true = omega arith
one_or false false = omega arith

counted_or : (f g : ℕ → Bool) (n : ℕ) → counted (λ t. f t || g t) n ≤ counted f n + counted g n
counted_or f g zero = omega arith
counted_or f g (suc n) = let a = one_or (f (suc n)) (g (suc n)) in let b = counted_or f g n in omega (arith, a, b)

counted_none : (n : ℕ) → counted (λ t. false) n ≡ 0
counted_none zero = refl
counted_none (suc n) = let e = counted_none n in omega (arith, e)

-- one that is left out
left_out : (f : ℕ → Bool) (n : ℕ) → counted f n < n → (t : ℕ) × (1 ≤ t) × (t ≤ n) × (f t ≡ false)
left_out f zero h = absurd (omega (arith, h))
left_out f (suc n) h = go (f (suc n)) refl h (left_out f n)
  where
    go : (b : Bool) → f (suc n) ≡ b → one_if (f (suc n)) + counted f n < suc n → (counted f n < n → (t : ℕ) × (1 ≤ t) × (t ≤ n) × (f t ≡ false)) → (t : ℕ) × (1 ≤ t) × (t ≤ suc n) × (f t ≡ false)
    go true e h ih =
        let one : one_if (f (suc n)) ≡ 1 = ap one_if e in
        let r = ih (omega (arith, h, one)) in
        let l = r.2 in
        (r.0, r.1, omega (arith, l), r.3)
    go false e h ih = (suc n, omega arith, omega arith, e)

-- t is more than h, and not more than h and g
abbrev pub crosses : ℕ → ℕ → ℕ → Bool
crosses h g t = nat_lt h t && nat_le t (h + g)

both_true : (a b : Bool) → (a && b) ≡ true → (a ≡ true) × (b ≡ true)
both_true true true e = (refl, refl)
both_true true false e = absurd cc
both_true false b e = absurd cc

few_cross : (h g n : ℕ) → (counted (crosses h g) n ≤ g) × (counted (crosses h g) n ≤ n - h)
few_cross h g zero = (omega arith, omega arith)
few_cross h g (suc n) = go (crosses h g (suc n)) refl (few_cross h g n)
  where
    go : (b : Bool) → crosses h g (suc n) ≡ b → (counted (crosses h g) n ≤ g) × (counted (crosses h g) n ≤ n - h) → (one_if (crosses h g (suc n)) + counted (crosses h g) n ≤ g) × (one_if (crosses h g (suc n)) + counted (crosses h g) n ≤ suc n - h)
    go true e ih =
        let q = both_true (nat_lt h (suc n)) (nat_le (suc n) (h + g)) e in
        let low = ltb-true h (suc n) q.0 in
        let high = leb-true (suc n) (h + g) q.1 in
        let one : one_if (crosses h g (suc n)) ≡ 1 = ap one_if e in
        let a = ih.1 in
        (omega (arith, one, low, high, a), omega (arith, one, low, a))
    go false e ih =
        let one : one_if (crosses h g (suc n)) ≡ 0 = ap one_if e in
        let a = ih.0 in
        let b = ih.1 in
        (omega (arith, one, a), omega (arith, one, b))

-- an instruction that is reached leads from below t to t or above
abbrev crossed : Option Shape → Instr → ℕ → Bool
crossed None i t = false
crossed (Some sh) i t = crosses sh.height (gain i) t

abbrev any_crossed : Shapes → ℕ → List Instr → ℕ → Bool
any_crossed shapes p [] t = false
any_crossed shapes p (i ∷ is) t = crossed (shapes p) i t || any_crossed shapes (suc p) is t

few_crossed : (o : Option Shape) (i : Instr) (n : ℕ) → counted (crossed o i) n ≤ gain i
few_crossed None i n = let e = counted_none n in omega (arith, e)
few_crossed (Some sh) i n = (few_cross sh.height (gain i) n).0

few_all : (shapes : Shapes) (p : ℕ) (is : List Instr) (n : ℕ) → counted (any_crossed shapes p is) n ≤ gains is
few_all shapes p [] n = let e = counted_none n in omega (arith, e)
few_all shapes p (i ∷ is) n =
    let a = counted_or (crossed (shapes p) i) (any_crossed shapes (suc p) is) n in
    let b = few_crossed (shapes p) i n in
    let c = few_all shapes (suc p) is n in
    omega (arith, a, b, c)

not_crosses : (h g t : ℕ) → crosses h g t ≡ false → h < t → h + g < t
not_crosses h g t e l =
    ⊎_elim
    (λ (y : nat_le t (h + g) ≡ true). absurd (true≢false (sym (and_from (nat_lt h t) (nat_le t (h + g)) (lt-ltb h t l) y) ∙ e)))
    (λ (n : nat_le t (h + g) ≡ false). leb-false t (h + g) n)
    (cases_Bool (nat_le t (h + g)))

not_crossed : (shapes : Shapes) (p : ℕ) (is : List Instr) (t : ℕ) → any_crossed shapes p is t ≡ false → (k q : ℕ) (i : Instr) (sh : Shape) → q ≡ p + k → slice_get is k ≡ Some i → shapes q ≡ Some sh → sh.height < t → sh.height + gain i < t
not_crossed shapes p [] t e k q i sh at is r l = absurd cc
not_crossed shapes p (x ∷ is) t e zero q i sh at here r l =
    let o = or_parts (crossed (shapes p) x t) (any_crossed shapes (suc p) is t) e in
    let same : x ≡ i = cc in
    let z : p ≡ q = omega (arith, at) in
    let is_here : shapes p ≡ Some sh = ap shapes z ∙ r in
    not_crosses sh.height (gain i) t (sym (ap (λ s. crossed s x t) is_here ∙ ap (λ y. crosses sh.height (gain y) t) same) ∙ o.0) l
not_crossed shapes p (x ∷ is) t e (suc k) q i sh at there r l =
    let o = or_parts (crossed (shapes p) x t) (any_crossed shapes (suc p) is t) e in
    not_crossed shapes (suc p) is t o.1 k q i sh (omega (arith, at)) there r l

-- a height that no instruction that is reached leads over
pub record Free (shapes : Shapes) (is : List Instr) : Type 0 where
  pub height : ℕ
  pub some : 1 ≤ height
  pub low : height ≤ suc (gains is)
  pub free : (p : ℕ) (i : Instr) (sh : Shape) → slice_get is p ≡ Some i → shapes p ≡ Some sh → sh.height < height → sh.height + gain i < height

pub free_height : (shapes : Shapes) (is : List Instr) → Free shapes is
free_height shapes is =
    let few = few_all shapes 0 is (suc (gains is)) in
    let r = left_out (any_crossed shapes 0 is) (suc (gains is)) (omega (arith, few)) in
    record {
      height = r.0;
      some = r.1;
      low = r.2;
      free = λ p i sh here reached l. not_crossed shapes 0 is r.0 r.3 p p i sh (let z : p ≡ 0 + p = omega arith in z) here reached l;
    }
