-- Tokens spell one unit, or have one first fault.
use Rattle.std.proofs.Common.{◌≡◌, ◌≤◌, ◌<◌, ◌+◌, ◌∙◌, inl, inr, ℕ, List, ◌++◌, refl, sym, ap, subst, length, take, drop, append_assoc, arith}
use Rattle.std.proofs.lemmas.Bool.{cases_lt, cases_order}
use Rattle.std.proofs.lemmas.List.{take-take, take-append-drop}
use Rattle.lp_tree.specs.declared.fault.FaultKind.{FaultKind}
use Rattle.lp_tree.specs.declared.fault.FaultKind.TheVariants as kinds
use Rattle.lp_tree.specs.declared.seen.Seen.{Seen}
use Rattle.lp_tree.specs.declared.token.Token.{Token}
use Rattle.lp_tree.specs.Units.{ItemTree, SpellsUnit, Begins, BeginsWithin, IsUnexpected, IsTooNested, line_at, unit_height}
use Rattle.lp_parser.specs.Theorem.{sight, deepest}
use Rattle.lp_front.specs.Reading.{IsUnitFault}

-- what begins with more tokens begins with fewer
split_front : (i j : ℕ) (ts others : List Seen) → i ≤ j → take j ts ++ others ≡ take i ts ++ (drop i (take j ts) ++ others)
split_front i j ts others le =
    ap (λ (xs : List Seen). xs ++ others) (sym (take-append-drop i (take j ts))) ∙ append_assoc (take i (take j ts)) (drop i (take j ts)) others ∙ ap (λ (xs : List Seen). xs ++ (drop i (take j ts) ++ others)) (take-take i j ts le)

fewer : (i j : ℕ) (ts : List Seen) → i ≤ j → Begins (take j ts) → Begins (take i ts)
fewer i j ts le h = (drop i (take j ts) ++ h.0, h.1, subst (SpellsUnit h.1) (split_front i j ts h.0 le) h.2)

fewer_within : (n i j : ℕ) (ts : List Seen) → i ≤ j → BeginsWithin n (take j ts) → BeginsWithin n (take i ts)
fewer_within n i j ts le h = (drop i (take j ts) ++ h.0, h.1, subst (SpellsUnit h.1) (split_front i j ts h.0 le) h.2, h.3)

-- no fault stands behind another
unexpected_first : (n a b : ℕ) (ts : List Seen) → IsUnexpected n ts a → BeginsWithin n (take b ts) → b ≤ length ts → a < b → ⊥
unexpected_first n a b ts u h w lt = u.not_so (omega (arith, lt, w)) (fewer (a + 1) b ts (omega (arith, lt)) (h.0, h.1, h.2))

nested_first : (n a b : ℕ) (ts : List Seen) → IsTooNested n ts a → BeginsWithin n (take b ts) → a < b → ⊥
nested_first n a b ts t h lt = t.not_within (fewer_within n (a + 1) b ts (omega (arith, lt)) h)

one_unexpected : (n a b : ℕ) (ts : List Seen) → IsUnexpected n ts a → IsUnexpected n ts b → a ≡ b
one_unexpected n a b ts u v =
    elim (cases_order a b) [
      | inl e ↦ e
      | inr (inl lt) ↦ absurd (unexpected_first n a b ts u v.before v.within lt)
      | inr (inr gt) ↦ absurd (unexpected_first n b a ts v u.before u.within gt)
    ]

one_nested : (n a b : ℕ) (ts : List Seen) → IsTooNested n ts a → IsTooNested n ts b → a ≡ b
one_nested n a b ts t u =
    elim (cases_order a b) [
      | inl e ↦ e
      | inr (inl lt) ↦ absurd (nested_first n a b ts t u.before lt)
      | inr (inr gt) ↦ absurd (nested_first n b a ts u t.before gt)
    ]

unexpected_or_nested : (n a b : ℕ) (ts : List Seen) → IsUnexpected n ts a → IsTooNested n ts b → ⊥
unexpected_or_nested n a b ts u t =
    elim (cases_lt b a) [
      | inl lt ↦ nested_first n b a ts t u.before lt
      | inr ge ↦ u.not_so (omega (arith, ge, t.within)) (fewer (a + 1) (b + 1) ts (omega (arith, ge)) t.so)
    ]

-- a fault of tokens is of one of two kinds
data Fault (ts : List Token) (kind : FaultKind) (line : ℕ) : Type 0 where
  is_unexpected : (at : ℕ) → kind ≡ kinds.Unexpected → IsUnexpected deepest (sight ts) at → line ≡ line_at (sight ts) at → Fault ts kind line
  is_nested : (at : ℕ) → kind ≡ kinds.TooNested → IsTooNested deepest (sight ts) at → line ≡ line_at (sight ts) at → Fault ts kind line

fault : (ts : List Token) (kind : FaultKind) (line : ℕ) → IsUnitFault ts kind line → Fault ts kind line
fault ts kinds.Unexpected line h = is_unexpected h.0 refl h.1 h.2
fault ts kinds.TooNested line h = is_nested h.0 refl h.1 h.2
fault ts _ line h = absurd h

same_fault : (ts : List Token) (k l : FaultKind) (m n : ℕ) → Fault ts k m → Fault ts l n → (k ≡ l) × (m ≡ n)
same_fault ts k l m n (is_unexpected a e u i) (is_unexpected b f v j) = (e ∙ sym f, i ∙ ap (line_at (sight ts)) (one_unexpected deepest a b (sight ts) u v) ∙ sym j)
same_fault ts k l m n (is_unexpected a e u i) (is_nested b f v j) = absurd (unexpected_or_nested deepest a b (sight ts) u v)
same_fault ts k l m n (is_nested a e u i) (is_unexpected b f v j) = absurd (unexpected_or_nested deepest b a (sight ts) v u)
same_fault ts k l m n (is_nested a e u i) (is_nested b f v j) = (e ∙ sym f, i ∙ ap (line_at (sight ts)) (one_nested deepest a b (sight ts) u v) ∙ sym j)

-- tokens have one first fault
pub one_fault : (ts : List Token) (k l : FaultKind) (m n : ℕ) → IsUnitFault ts k m → IsUnitFault ts l n → (k ≡ l) × (m ≡ n)
one_fault ts k l m n h i = same_fault ts k l m n (fault ts k m h) (fault ts l n i)

-- what is spelled begins with each of its fronts
whole : (i : ℕ) (is : List ItemTree) (ts : List Seen) → SpellsUnit is ts → SpellsUnit is (take i ts ++ drop i ts)
whole i is ts s = subst (SpellsUnit is) (sym (take-append-drop i ts)) s

not_unexpected : (n at : ℕ) (is : List ItemTree) (ts : List Seen) → SpellsUnit is ts → IsUnexpected n ts at → ⊥
not_unexpected n at is ts s u =
    elim (cases_lt at (length ts)) [
      | inl lt ↦ u.not_so lt (drop (at + 1) ts, is, whole (at + 1) is ts s)
      | inr ge ↦ u.not_whole (omega (arith, ge, u.within)) is s
    ]

spelled_or_faulty : (ts : List Token) (k : FaultKind) (m : ℕ) (is : List ItemTree) → SpellsUnit is (sight ts) → unit_height is ≤ deepest → Fault ts k m → ⊥
spelled_or_faulty ts k m is s d (is_unexpected at e u i) = not_unexpected deepest at is (sight ts) s u
spelled_or_faulty ts k m is s d (is_nested at e t i) = t.not_within (drop (at + 1) (sight ts), is, whole (at + 1) is (sight ts) s, d)

-- or spell a unit
pub faultless : (ts : List Token) (k : FaultKind) (m : ℕ) (is : List ItemTree) → SpellsUnit is (sight ts) → unit_height is ≤ deepest → IsUnitFault ts k m → ⊥
faultless ts k m is s d h = spelled_or_faulty ts k m is s d (fault ts k m h)
