-- Tokens spell one unit, or have one first fault.
use Rattle.std.proofs.Common.{◌≡◌, ◌≤◌, ◌<◌, ◌+◌, ◌∙◌, ◌⊎◌, inl, inr, ℕ, List, ◌++◌, refl, sym, ap, subst, length, take, drop, append_assoc, arith}
use Rattle.std.proofs.lemmas.Bool.{cases_lt, cases_order}
use Rattle.std.proofs.lemmas.List.{take-take, take-append-drop}
use Rattle.lp_tree.specs.declared.fault.FaultKind.{FaultKind}
use Rattle.lp_tree.specs.declared.fault.FaultKind.TheVariants as kinds
use Rattle.lp_tree.specs.declared.seen.Seen.{Seen}
use Rattle.lp_tree.specs.declared.token.Token.{Token}
use Rattle.lp_tree.specs.Units.{ItemTree, SpellsUnit, Begins, BeginsWithin, IsUnexpected, IsTooNested, line_at, unit_height}
use Rattle.lp_parser.specs.Theorem.{sight, deepest}
use Rattle.lp_front.specs.Reading.{IsUnitFault}

-- what begins with more tokens begins with fewer
split_front : (i j : ℕ) (ts others : List Seen) → i ≤ j → take j ts ++ others ≡ take i ts ++ (drop i (take j ts) ++ others)
split_front i j ts others le =
    ap (λ (xs : List Seen). xs ++ others) (sym (take-append-drop i (take j ts))) ∙ append_assoc (take i (take j ts)) (drop i (take j ts)) others ∙ ap (λ (xs : List Seen). xs ++ (drop i (take j ts) ++ others)) (take-take i j ts le)

fewer : (i j : ℕ) (ts : List Seen) → i ≤ j → Begins (take j ts) → Begins (take i ts)
fewer i j ts le h = (drop i (take j ts) ++ h.0, h.1, subst (SpellsUnit h.1) (split_front i j ts h.0 le) h.2)

fewer_within : (n i j : ℕ) (ts : List Seen) → i ≤ j → BeginsWithin n (take j ts) → BeginsWithin n (take i ts)
fewer_within n i j ts le h = (drop i (take j ts) ++ h.0, h.1, subst (SpellsUnit h.1) (split_front i j ts h.0 le) h.2, h.3)

begins : (n i : ℕ) (ts : List Seen) → BeginsWithin n (take i ts) → Begins (take i ts)
begins n i ts h = (h.0, h.1, h.2)

-- what is spelled begins with each of its fronts
whole_begins : (i : ℕ) (is : List ItemTree) (ts : List Seen) → SpellsUnit is ts → Begins (take i ts)
whole_begins i is ts s = (drop i ts, is, subst (SpellsUnit is) (sym (take-append-drop i ts)) s)

whole_within : (n i : ℕ) (is : List ItemTree) (ts : List Seen) → SpellsUnit is ts → unit_height is ≤ n → BeginsWithin n (take i ts)
whole_within n i is ts s h = (drop i ts, is, subst (SpellsUnit is) (sym (take-append-drop i ts)) s, h)

pub spelled_unexpected : (n at : ℕ) (is : List ItemTree) (ts : List Seen) → SpellsUnit is ts → IsUnexpected n ts at → ⊥
spelled_unexpected n at is ts s u =
    elim (cases_lt at (length ts)) [
      | inl lt ↦ u.not_so lt (whole_begins (at + 1) is ts s)
      | inr ge ↦ u.not_whole (omega (arith, ge, u.within)) is s
    ]

pub spelled_nested : (n at : ℕ) (is : List ItemTree) (ts : List Seen) → SpellsUnit is ts → unit_height is ≤ n → IsTooNested n ts at → ⊥
spelled_nested n at is ts s h t = t.not_within (whole_within n (at + 1) is ts s h)

-- no fault stands behind another
unexpected_first : (n a b : ℕ) (ts : List Seen) → IsUnexpected n ts a → IsUnexpected n ts b → a < b → ⊥
unexpected_first n a b ts u v lt = u.not_so (omega (arith, lt, v.within)) (fewer (a + 1) b ts (omega (arith, lt)) (begins n b ts v.before))

pub one_unexpected : (n a b : ℕ) (ts : List Seen) → IsUnexpected n ts a → IsUnexpected n ts b → a ≡ b
one_unexpected n a b ts u v =
    elim (cases_order a b) [
      | inl e ↦ e
      | inr (inl lt) ↦ absurd (unexpected_first n a b ts u v lt)
      | inr (inr gt) ↦ absurd (unexpected_first n b a ts v u gt)
    ]

nested_first : (n a b : ℕ) (ts : List Seen) → IsTooNested n ts a → BeginsWithin n (take b ts) → a < b → ⊥
nested_first n a b ts t h lt = t.not_within (fewer_within n (a + 1) b ts (omega (arith, lt)) h)

pub one_nested : (n a b : ℕ) (ts : List Seen) → IsTooNested n ts a → IsTooNested n ts b → a ≡ b
one_nested n a b ts t u =
    elim (cases_order a b) [
      | inl e ↦ e
      | inr (inl lt) ↦ absurd (nested_first n a b ts t u.before lt)
      | inr (inr gt) ↦ absurd (nested_first n b a ts u t.before gt)
    ]

pub unexpected_or_nested : (n a b : ℕ) (ts : List Seen) → IsUnexpected n ts a → IsTooNested n ts b → ⊥
unexpected_or_nested n a b ts u t =
    elim (cases_lt b a) [
      | inl lt ↦ nested_first n b a ts t u.before lt
      | inr ge ↦ u.not_so (omega (arith, ge, t.within)) (fewer (a + 1) (b + 1) ts (omega (arith, ge)) t.so)
    ]

-- a fault of a unit is of one of two kinds
abbrev pub UnitView : List Token → FaultKind → ℕ → Type 0
UnitView ts kind line =
    ((kind ≡ kinds.Unexpected) × (at : ℕ) × IsUnexpected deepest (sight ts) at × (line ≡ line_at (sight ts) at)) ⊎ ((kind ≡ kinds.TooNested) × (at : ℕ) × IsTooNested deepest (sight ts) at × (line ≡ line_at (sight ts) at))

unit_view : (ts : List Token) (kind : FaultKind) (line : ℕ) → IsUnitFault ts kind line → UnitView ts kind line
unit_view ts kinds.Unexpected line h = inl (refl, h.0, h.1, h.2)
unit_view ts kinds.TooNested line h = inr (refl, h.0, h.1, h.2)
unit_view ts kinds.NoFile line h = absurd h
unit_view ts kinds.NoInclude line h = absurd h
unit_view ts kinds.IncludeDepth line h = absurd h
unit_view ts kinds.OpenIf line h = absurd h
unit_view ts kinds.StrayElse line h = absurd h
unit_view ts kinds.BadDirective line h = absurd h
unit_view ts kinds.MacroArgs line h = absurd h
unit_view ts kinds.MacroDepth line h = absurd h
unit_view ts kinds.TooManyTokens line h = absurd h
unit_view ts kinds.UserError line h = absurd h
unit_view ts kinds.Lex line h = absurd h
unit_view ts kinds.UnknownName line h = absurd h
unit_view ts kinds.UnknownFunction line h = absurd h
unit_view ts kinds.WrongCount line h = absurd h
unit_view ts kinds.WrongType line h = absurd h
unit_view ts kinds.MissingType line h = absurd h
unit_view ts kinds.DoubleName line h = absurd h
unit_view ts kinds.DoubleCase line h = absurd h
unit_view ts kinds.BadReturn line h = absurd h
unit_view ts kinds.NomaskOverridden line h = absurd h
unit_view ts kinds.NoInheritPragma line h = absurd h
unit_view ts kinds.AmbiguousSuper line h = absurd h
unit_view ts kinds.Cycle line h = absurd h
unit_view ts kinds.InheritDepth line h = absurd h
unit_view ts kinds.TooManyNames line h = absurd h
unit_view ts kinds.Aborted line h = absurd h

view_one : (ts : List Token) (k l : FaultKind) (m n : ℕ) → UnitView ts k m → UnitView ts l n → (k ≡ l) × (m ≡ n)
view_one ts k l m n (inl h) (inl i) = (h.0 ∙ sym i.0, h.3 ∙ ap (line_at (sight ts)) (one_unexpected deepest h.1 i.1 (sight ts) h.2 i.2) ∙ sym i.3)
view_one ts k l m n (inl h) (inr i) = absurd (unexpected_or_nested deepest h.1 i.1 (sight ts) h.2 i.2)
view_one ts k l m n (inr h) (inl i) = absurd (unexpected_or_nested deepest i.1 h.1 (sight ts) i.2 h.2)
view_one ts k l m n (inr h) (inr i) = (h.0 ∙ sym i.0, h.3 ∙ ap (line_at (sight ts)) (one_nested deepest h.1 i.1 (sight ts) h.2 i.2) ∙ sym i.3)

pub one_unit_fault : (ts : List Token) (k l : FaultKind) (m n : ℕ) → IsUnitFault ts k m → IsUnitFault ts l n → (k ≡ l) × (m ≡ n)
one_unit_fault ts k l m n h i = view_one ts k l m n (unit_view ts k m h) (unit_view ts l n i)

view_spelled : (ts : List Token) (k : FaultKind) (m : ℕ) (is : List ItemTree) → SpellsUnit is (sight ts) → unit_height is ≤ deepest → UnitView ts k m → ⊥
view_spelled ts k m is s d (inl h) = spelled_unexpected deepest h.1 is (sight ts) s h.2
view_spelled ts k m is s d (inr h) = spelled_nested deepest h.1 is (sight ts) s d h.2

pub spelled_faultless : (ts : List Token) (k : FaultKind) (m : ℕ) (is : List ItemTree) → SpellsUnit is (sight ts) → unit_height is ≤ deepest → IsUnitFault ts k m → ⊥
spelled_faultless ts k m is s d h = view_spelled ts k m is s d (unit_view ts k m h)
