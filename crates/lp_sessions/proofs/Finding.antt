-- What a binary search among rising numbers finds.
use Rattle.std.proofs.Common.{rules, ◌≡◌, ℕ, zero, suc, ◌+◌, ◌<◌, nat_eq, false, List, [], ◌∷◌, length, get_or, Ok, Err, arith, inl, inr}
use Rattle.std.specs.declared.cmp.Ordering.TheVariants.{Less, Greater}
use Rattle.std.specs.Ordering.{nat_cmp, ordering_index, is_lt}
use Rattle.std.specs.FinMap.{nat_cmp-IsAntisymmetric}
use Rattle.std.specs.List.Sorted.{IsSearchInRange, IsBinarySearchResult, IsNonDecreasingBy}
use Rattle.std.proofs.lemmas.Bool.{cases_lt}
use Rattle.std.proofs.lemmas.Cmp.{nat_cmp_total}
use Rattle.std.proofs.lemmas.List.Sorted.{searchable_from_sorted}
use Rattle.lp_sessions.specs.declared.session.Session.{Session}
use Rattle.lp_sessions.specs.All.{AreAbove, AreOther, numbers, number_of}

pub not_less : (a b : ℕ) → a < b → is_lt (nat_cmp b a) ≡ false
not_less a b below = search rules

each_above : (low : ℕ) (ss : List Session) → AreAbove low (numbers ss) → (k : ℕ) (d : Session) → suc k < length ss → is_lt (nat_cmp (get_or ss (suc k) d).number (get_or ss k d).number) ≡ false
each_above low [] above k d lt = absurd (omega (arith, lt))
each_above low (x ∷ []) above k d lt = absurd (omega (arith, lt))
each_above low (x ∷ y ∷ ss) above zero d lt = not_less x.number y.number above.1.0
each_above low (x ∷ y ∷ ss) above (suc k) d lt = each_above x.number (y ∷ ss) above.1 k d (omega (arith, lt))

comparisons_rise : (n : ℕ) (ss : List Session) → AreAbove 0 (numbers ss) → IsNonDecreasingBy (λ (s : Session). ordering_index (nat_cmp s.number n)) ss
comparisons_rise n ss above = searchable_from_sorted nat_cmp_total number_of ss n (λ k d low high.
    let next : k + 1 ≡ suc k = omega arith in
    rw next (each_above 0 ss above k d (omega (arith, low, high))))

less_apart : (a b : ℕ) → nat_cmp a b ≡ Less → nat_eq a b ≡ false
less_apart a b e = search rules

greater_apart : (a b : ℕ) → nat_cmp a b ≡ Greater → nat_eq a b ≡ false
greater_apart a b e = search rules

other_from : (n : ℕ) (ss : List Session) → ((j : ℕ) (d : Session) → j < length ss → nat_eq (get_or ss j d).number n ≡ false) → AreOther n ss
other_from n [] apart = tt
other_from n (s ∷ ss) apart = (apart 0 s (omega arith), other_from n ss (λ j d lt. apart (suc j) d (omega (arith, lt))))

pub found : (n : ℕ) (ss : List Session) (i : ℕ) → IsSearchInRange (Ok i) (length ss) → IsBinarySearchResult (λ (s : Session). nat_cmp s.number n) ss (Ok i) → (d : Session) → (get_or ss i d).number ≡ n
found n ss i range equal d = nat_cmp-IsAntisymmetric _ _ (equal d)

pub within : (ss : List Session) (i : ℕ) → IsSearchInRange (Ok i) (length ss) → i < length ss
within ss i range = range

pub none : (n : ℕ) (ss : List Session) (i : ℕ) → AreAbove 0 (numbers ss) → IsBinarySearchResult (λ (s : Session). nat_cmp s.number n) ss (Err i) → AreOther n ss
none n ss i above parted =
    let parts = parted (comparisons_rise n ss above) in
    other_from n ss (λ j d lt. elim (cases_lt j i) [
      | inl below ↦ less_apart (get_or ss j d).number n (parts.0 j d (omega arith) below)
      | inr from ↦ greater_apart (get_or ss j d).number n (parts.1 j d from lt)
    ])
