-- What a mismatch rules out in the search of Two-Way.
use Rattle.std.proofs.Common.{◌≡◌, ℕ, ◌+◌, ◌-◌, ◌<◌, ◌≤◌, List, length, slice_index, sym, ap, subst, ◌∙◌, arith, ⊎_elim}
use Rattle.std.proofs.lemmas.Bool.{cases_eq}
use Rattle.lp_search.specs.Critical.{IsPeriod, IsRepeat, IsCritical, NoPeriodBelow}
use Rattle.lp_search.specs.Places.{Nowhere, OccursIn, Stands}
use Rattle.lp_search.specs.Cuts.{IsShift}
use Rattle.lp_search.specs.declared.two_way.Shift.TheVariants.{Small, Large}
use Rattle.lp_search.proofs.PlaceLemmas.{Nowhere-then}

module _ (x : ℕ → ℕ) (m : ℕ) (h : ℕ → ℕ) (n : ℕ) where
  -- a mismatch right of the cut at place i: what matched from the cut cannot match further on
  pub Nowhere-right : (c : ℕ) → IsCritical x m c → (pos i : ℕ) → c ≤ i → i < m → ((k : ℕ) → c ≤ k → k < i → x k ≡ h (pos + k))
      → (x i ≡ h (pos + i) → ⊥) → Nowhere (OccursIn x m h n) pos (pos + (i - c + 1))
  Nowhere-right c critical pos i low high same differs q from below occurs =
      let d = q - pos in
      ⊎_elim
      (λ here.
      let place : pos ≡ q = omega arith in
      differs (sym (ap (λ p. h (p + i)) place ∙ occurs.reads i high)))
      (λ later.
      let rep : IsRepeat x m c d = λ k l a b.
      let place : pos + (k + d) ≡ q + k = omega arith in
      sym (occurs.reads k (omega arith)) ∙ ap h (sym place) ∙ sym (same (k + d) a (omega arith)) in
      let period = critical d (omega arith) rep (i - d) (omega arith) in
      let place : q + (i - d) ≡ pos + i = omega arith in
      let last : x (i - d + d) ≡ x i = ap x (omega arith) in
      differs (sym last ∙ sym period ∙ sym (occurs.reads (i - d) (omega arith)) ∙ ap h place))
      (cases_eq d 0)

  -- all right of the cut matched and the needle does not stand at pos: no place up to the next s holds it
  pub Nowhere-left : (c s : ℕ) → IsCritical x m c → NoPeriodBelow x m s → (pos : ℕ) → ((k : ℕ) → c ≤ k → k < m → x k ≡ h (pos + k))
      → (OccursIn x m h n pos → ⊥) → Nowhere (OccursIn x m h n) pos (pos + s)
  Nowhere-left c s critical short pos same differs q from below occurs =
      let d = q - pos in
      ⊎_elim
      (λ here.
      let place : q ≡ pos = omega arith in
      differs (subst (OccursIn x m h n) place occurs))
      (λ later.
      let rep : IsRepeat x m c d = λ k l a b.
      let place : pos + (k + d) ≡ q + k = omega arith in
      sym (occurs.reads k (omega arith)) ∙ ap h (sym place) ∙ sym (same (k + d) a b) in
      short d (omega arith) (omega arith) (critical d (omega arith) rep))
      (cases_eq d 0)

  -- what matched right of the cut, a period on
  pub known-next : (c p : ℕ) → IsPeriod x m p → c < p → (pos : ℕ) → ((k : ℕ) → c ≤ k → k < m → x k ≡ h (pos + k))
      → (k : ℕ) → k < m - p → x k ≡ h (pos + p + k)
  known-next c p period above pos same k l =
      let place : pos + (k + p) ≡ pos + p + k = omega arith in
      period k (omega arith) ∙ same (k + p) (omega arith) (omega arith) ∙ ap h place

  -- no match fits from here on
  pub Nowhere-end : (pos : ℕ) → n < pos + m → Nowhere (OccursIn x m h n) pos (n + 1)
  Nowhere-end pos past q from below occurs = omega (arith, occurs.fits)

-- a search for the first code point passed over no match
pub Nowhere-skipped : {P Q : ℕ → Type 0} {from p k : ℕ} → Nowhere Q from p → ((q : ℕ) → Q q → P q) → Nowhere P p k → Nowhere Q from k
Nowhere-skipped old hits skipped = Nowhere-then old (λ q a b occurs. skipped q a b (hits q occurs))

pub IsShift-large : {x : ℕ → ℕ} {m s : ℕ} (c : ℕ) → IsShift x m c (Large s) → (0 < s) × (s ≤ m) × NoPeriodBelow x m s
unfolding IsShift
IsShift-large c h = h

pub IsShift-small : {x : ℕ → ℕ} {m p : ℕ} (c : ℕ) → IsShift x m c (Small p) → (0 < p) × (c < p) × (p ≤ m) × IsPeriod x m p × NoPeriodBelow x m p
unfolding IsShift
IsShift-small c h = h

-- where the needle stands, its first code point does
pub begins : (needle hay : List ℕ) → 0 < length needle → (k : ℕ) → Stands needle hay k → slice_index hay k ≡ slice_index needle 0
begins needle hay some k s =
    let place : k ≡ k + 0 = omega arith in
    ap (slice_index hay) place ∙ s.reads 0 some
