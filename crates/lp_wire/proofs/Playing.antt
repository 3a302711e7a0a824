-- What comes next of a wire in memory, and the bound of its next send.
use Rattle.std.proofs.Common.{◌≡◌, ℕ, zero, suc, ◌<◌, ◌≤◌, ◌+◌, ◌-◌, List, [], ◌∷◌, length, drop, refl, sym, arith}
use Rattle.std.proofs.lemmas.List.{drop-drop}
use Rattle.lp_wire.specs.declared.happening.Happening.{Happening}
use Rattle.lp_wire.specs.InMemory.{after_send}

pub one_passed : (i : ℕ) (hs : List Happening) → drop (i + 1) hs ≡ drop 1 (drop i hs)
one_passed i hs = sym (drop-drop 1 i hs)

next : (i : ℕ) → i + 1 ≡ suc i
next i = omega arith

-- another bound follows
more_bounds : (i : ℕ) (ns : List ℕ) → 1 < length ns - i → drop (suc i) ns ≡ after_send (drop i ns)
more_bounds zero [] more = absurd (omega (arith, more))
more_bounds zero (n ∷ []) more = absurd (omega (arith, more))
more_bounds zero (n ∷ m ∷ ns) more = refl
more_bounds (suc i) [] more = absurd (omega (arith, more))
more_bounds (suc i) (n ∷ ns) more = more_bounds i ns (omega (arith, more))

pub bound_passed : (i : ℕ) (ns : List ℕ) → 1 < length ns - i → drop (i + 1) ns ≡ after_send (drop i ns)
bound_passed i ns more = rw (next i) (more_bounds i ns more)

-- the last bound stays
pub bound_stays : (i : ℕ) (ns : List ℕ) → length ns - i ≤ 1 → drop i ns ≡ after_send (drop i ns)
bound_stays zero [] last = refl
bound_stays zero (n ∷ []) last = refl
bound_stays zero (n ∷ m ∷ ns) last = absurd (omega (arith, last))
bound_stays (suc i) [] last = refl
bound_stays (suc i) (n ∷ ns) last = bound_stays i ns (omega (arith, last))
