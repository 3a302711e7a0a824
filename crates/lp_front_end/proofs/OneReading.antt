-- A file has one reading.
use Rattle.std.proofs.Common.{◌≡◌, ◌∙◌, ◌⊎◌, inl, inr, ℕ, List, Bool, true, false, Option, Some, None, sym, ap, subst}
use Rattle.std.proofs.lemmas.Bool.{true≢false}
use Rattle.std.proofs.lemmas.Option.{same_Some}
use Rattle.lp_tree.specs.declared.fault.Fault.{Fault}
use Rattle.lp_tree.specs.declared.fault.FaultKind.{FaultKind}
use Rattle.lp_tree.specs.declared.pragma.Pragmas.{Pragmas}
use Rattle.lp_tree.specs.declared.token.Token.{Token}
use Rattle.lp_tree.specs.Units.{ItemTree, SpellsUnit}
use Rattle.lp_preproc.specs.Expansion.{IsExpansion, IsFirstFault, LeadsTo, Outcome, Whole, Faulty, came_out_of, opening}
use Rattle.lp_preproc.specs.State.{Setting, State, Next}
use Rattle.lp_parser.specs.Theorem.{sight, SpellsOne}
use Rattle.lp_front.specs.Reading.{IsUnitFault}
use Rattle.lp_meaning.specs.FrontEnd.{Reading, Declares, HasFault}
use Rattle.lp_front_end.specs.Readings.{IsDeclared, IsOfUnit, IsReading}
use Rattle.lp_front_end.proofs.OneFault.{one_fault, faultless}

-- what is next leads to one outcome at most
abbrev pub OneOutcome : Type 0
OneOutcome = (c : Setting) (n : Next) (o p : Outcome) → LeadsTo c n o → LeadsTo c n p → o ≡ p

-- outcomes apart
abbrev whole_of : Outcome → Option State
whole_of (Whole s) = Some s
whole_of (Faulty k m) = None

abbrev fault_of : Outcome → Option (FaultKind × ℕ)
fault_of (Whole s) = None
fault_of (Faulty k m) = Some (k, m)

abbrev is_whole : Outcome → Bool
is_whole (Whole s) = true
is_whole (Faulty k m) = false

same_fault : (a b : Fault) → a.file ≡ b.file → (a.kind ≡ b.kind) × (a.line ≡ b.line) → a ≡ b
same_fault a b f e =
    ap (λ (x : List ℕ). record { file = x; line = a.line; kind = a.kind }) f ∙ ap (λ (x : ℕ). record { file = b.file; line = x; kind = a.kind }) e.1 ∙ ap (λ (x : FaultKind). record { file = b.file; line = b.line; kind = x }) e.0

module _ (law : OneOutcome) (grammar : SpellsOne) (c : Setting) where
  one_expansion : (ts us : List Token) (p q : Pragmas) → IsExpansion c ts p → IsExpansion c us q → (ts ≡ us) × (p ≡ q)
  one_expansion ts us p q h i =
      let e : h.0 ≡ i.0 = same_Some h.0 i.0 (ap whole_of (law c (opening c) (Whole h.0) (Whole i.0) h.1 i.1)) in
      (sym h.2 ∙ ap (λ (s : State). came_out_of s.out) e ∙ i.2, sym h.3 ∙ ap (λ (s : State). s.pragmas) e ∙ i.3)

  one_first : (k l : FaultKind) (m n : ℕ) → IsFirstFault c k m → IsFirstFault c l n → (k ≡ l) × (m ≡ n)
  one_first k l m n h i =
      let e : (k, m) ≡ (l, n) = same_Some (k, m) (l, n) (ap fault_of (law c (opening c) (Faulty k m) (Faulty l n) h i)) in
      (ap (λ (x : FaultKind × ℕ). x.0) e, ap (λ (x : FaultKind × ℕ). x.1) e)

  expanded_or_faulty : (ts : List Token) (p : Pragmas) (k : FaultKind) (m : ℕ) → IsExpansion c ts p → IsFirstFault c k m → ⊥
  expanded_or_faulty ts p k m h i = true≢false (ap is_whole (law c (opening c) (Whole h.0) (Faulty k m) h.1 i))

  one_declared : (is js : List ItemTree) (p q : Pragmas) → IsDeclared c is p → IsDeclared c js q → Declares is p ≡ Declares js q
  one_declared is js p q d e =
      let x = one_expansion d.tokens e.tokens p q d.expands e.expands in
      let i : is ≡ js = grammar is js (sight d.tokens) d.spelled (subst (λ (ts : List Token). SpellsUnit js (sight ts)) (sym x.0) e.spelled) in
      ap (λ (y : List ItemTree). Declares y p) i ∙ ap (Declares js) x.1

  declared_or_faulty : (is : List ItemTree) (p : Pragmas) (f : Fault) → IsDeclared c is p → IsFirstFault c f.kind f.line ⊎ IsOfUnit c f → ⊥
  declared_or_faulty is p f d (inl h) = expanded_or_faulty d.tokens p f.kind f.line d.expands h
  declared_or_faulty is p f d (inr u) =
      let x = one_expansion u.tokens d.tokens u.pragmas p u.expands d.expands in
      faultless d.tokens f.kind f.line is d.spelled d.shallow (subst (λ (ts : List Token). IsUnitFault ts f.kind f.line) x.0 u.fault)

  one_place : (f g : Fault) → IsFirstFault c f.kind f.line ⊎ IsOfUnit c f → IsFirstFault c g.kind g.line ⊎ IsOfUnit c g → (f.kind ≡ g.kind) × (f.line ≡ g.line)
  one_place f g (inl h) (inl i) = one_first f.kind g.kind f.line g.line h i
  one_place f g (inl h) (inr u) = absurd (expanded_or_faulty u.tokens u.pragmas f.kind f.line u.expands h)
  one_place f g (inr u) (inl i) = absurd (expanded_or_faulty u.tokens u.pragmas g.kind g.line u.expands i)
  one_place f g (inr u) (inr v) =
      let x = one_expansion u.tokens v.tokens u.pragmas v.pragmas u.expands v.expands in
      one_fault v.tokens f.kind g.kind f.line g.line (subst (λ (ts : List Token). IsUnitFault ts f.kind f.line) x.0 u.fault) v.fault

  pub one_reading : (r s : Reading) → IsReading c r → IsReading c s → r ≡ s
  one_reading (Declares is p) (Declares js q) d e = one_declared is js p q d e
  one_reading (Declares is p) (HasFault g) d i = absurd (declared_or_faulty is p g d i.1)
  one_reading (HasFault f) (Declares js q) h e = absurd (declared_or_faulty js q f e h.1)
  one_reading (HasFault f) (HasFault g) h i = ap HasFault (same_fault f g (h.0 ∙ sym i.0) (one_place f g h.1 i.1))
