-- A file declares one thing or has one first fault, in any two stores of the same files.
use Rattle.std.proofs.Common.{◌≡◌, ◌∙◌, ℕ, List, Bool, true, false, Option, Some, None, sym, ap, subst}
use Rattle.std.proofs.lemmas.Bool.{true≢false}
use Rattle.std.proofs.lemmas.Option.{same_Some}
use Rattle.lp_files.specs.declared.store.Store.{Store}
use Rattle.lp_tree.specs.declared.fault.Fault.{Fault}
use Rattle.lp_tree.specs.declared.fault.FaultKind.{FaultKind}
use Rattle.lp_tree.specs.declared.pragma.Pragmas.{Pragmas}
use Rattle.lp_tree.specs.declared.token.Token.{Token}
use Rattle.lp_tree.specs.Units.{ItemTree, SpellsUnit}
use Rattle.lp_preproc.specs.Expansion.{IsExpansion, IsFirstFault, Outcome, Whole, Faulty, came_out_of, opening, setting}
use Rattle.lp_preproc.specs.State.{Setting, State}
use Rattle.lp_parser.specs.Theorem.{sight, SpellsOne}
use Rattle.lp_front.specs.Reading.{Declares, HasFault, expansion, unit, IsUnitFault}
use Rattle.lp_check.specs.Unique.{OneOutcome}
use Rattle.lp_check.proofs.OneUnit.{one_unit_fault, spelled_faultless}

-- both stores say the same of each file
pub record Agree (r s : Store) : Type 0 where
  pub declared : (file : List ℕ) (is js : List ItemTree) (p q : Pragmas) → Declares r file is p → Declares s file js q → (is ≡ js) × (p ≡ q)
  pub faults : (file : List ℕ) (a b : Fault) → HasFault r file a → HasFault s file b → a ≡ b
  pub apart : (file : List ℕ) (is : List ItemTree) (p : Pragmas) (b : Fault) → Declares r file is p → HasFault s file b → ⊥
  pub apart_too : (file : List ℕ) (is : List ItemTree) (p : Pragmas) (a : Fault) → HasFault r file a → Declares s file is p → ⊥

-- outcomes apart
abbrev whole_of : Outcome → Option State
whole_of (Whole s) = Some s
whole_of (Faulty k m) = None

abbrev fault_of : Outcome → Option (FaultKind × ℕ)
fault_of (Whole s) = None
fault_of (Faulty k m) = Some (k, m)

abbrev is_whole : Outcome → Bool
is_whole (Whole s) = true
is_whole (Faulty k m) = false

module _ (law : OneOutcome) where
  one_expansion : (c : Setting) (ts us : List Token) (p q : Pragmas) → IsExpansion c ts p → IsExpansion c us q → (ts ≡ us) × (p ≡ q)
  one_expansion c ts us p q h i =
      let e : h.0 ≡ i.0 = same_Some h.0 i.0 (ap whole_of (law c (opening c) (Whole h.0) (Whole i.0) h.1 i.1)) in
      (sym h.2 ∙ ap (λ (s : State). came_out_of s.out) e ∙ i.2, sym h.3 ∙ ap (λ (s : State). s.pragmas) e ∙ i.3)

  one_first : (c : Setting) (k l : FaultKind) (m n : ℕ) → IsFirstFault c k m → IsFirstFault c l n → (k ≡ l) × (m ≡ n)
  one_first c k l m n h i =
      let e : (k, m) ≡ (l, n) = same_Some (k, m) (l, n) (ap fault_of (law c (opening c) (Faulty k m) (Faulty l n) h i)) in
      (ap (λ (x : FaultKind × ℕ). x.0) e, ap (λ (x : FaultKind × ℕ). x.1) e)

  expanded_faultless : (c : Setting) (ts : List Token) (p : Pragmas) (k : FaultKind) (m : ℕ) → IsExpansion c ts p → IsFirstFault c k m → ⊥
  expanded_faultless c ts p k m h i = true≢false (ap is_whole (law c (opening c) (Whole h.0) (Faulty k m) h.1 i))

same_fault : (a b : Fault) → a.file ≡ b.file → a.line ≡ b.line → a.kind ≡ b.kind → a ≡ b
same_fault a b f l k =
    ap (λ (x : List ℕ). record { file = x; line = a.line; kind = a.kind }) f ∙ ap (λ (x : ℕ). record { file = b.file; line = x; kind = a.kind }) l ∙ ap (λ (x : FaultKind). record { file = b.file; line = b.line; kind = x }) k

module _ (law : OneOutcome) (grammar : SpellsOne) (r s : Store) (same : (file : List ℕ) → setting r file ≡ setting s file) where
  declared_one : (file : List ℕ) (is js : List ItemTree) (p q : Pragmas) → Declares r file is p → Declares s file js q → (is ≡ js) × (p ≡ q)
  declared_one file is js p q d e =
      let x = one_expansion law (setting r file) d.tokens e.tokens p q d.expands (subst (λ (c : Setting). IsExpansion c e.tokens q) (sym (same file)) e.expands) in
      (grammar is js (sight d.tokens) d.spelled (subst (λ (ts : List Token). SpellsUnit js (sight ts)) (sym x.0) e.spelled), x.1)

  faults_one : (file : List ℕ) (a b : Fault) → HasFault r file a → HasFault s file b → a ≡ b
  faults_one file a b (expansion f h) (expansion g i) =
      let x = one_first law (setting r file) a.kind b.kind a.line b.line h (subst (λ (c : Setting). IsFirstFault c b.kind b.line) (sym (same file)) i) in
      same_fault a b (f ∙ sym g) x.1 x.0
  faults_one file a b (expansion f h) (unit {ts = us} {p = q} g i j) = absurd (expanded_faultless law (setting r file) us q a.kind a.line (subst (λ (c : Setting). IsExpansion c us q) (sym (same file)) i) h)
  faults_one file a b (unit {ts = ts} {p = p} f h j) (expansion g i) = absurd (expanded_faultless law (setting r file) ts p b.kind b.line h (subst (λ (c : Setting). IsFirstFault c b.kind b.line) (sym (same file)) i))
  faults_one file a b (unit {ts = ts} {p = p} f h j) (unit {ts = us} {p = q} g i k) =
      let x = one_expansion law (setting r file) ts us p q h (subst (λ (c : Setting). IsExpansion c us q) (sym (same file)) i) in
      let y = one_unit_fault ts a.kind b.kind a.line b.line j (subst (λ (vs : List Token). IsUnitFault vs b.kind b.line) (sym x.0) k) in
      same_fault a b (f ∙ sym g) y.1 y.0

  apart_one : (file : List ℕ) (is : List ItemTree) (p : Pragmas) (b : Fault) → Declares r file is p → HasFault s file b → ⊥
  apart_one file is p b d (expansion g i) = expanded_faultless law (setting r file) d.tokens p b.kind b.line d.expands (subst (λ (c : Setting). IsFirstFault c b.kind b.line) (sym (same file)) i)
  apart_one file is p b d (unit {ts = us} {p = q} g i k) =
      let x = one_expansion law (setting r file) d.tokens us p q d.expands (subst (λ (c : Setting). IsExpansion c us q) (sym (same file)) i) in
      spelled_faultless d.tokens b.kind b.line is d.spelled d.shallow (subst (λ (vs : List Token). IsUnitFault vs b.kind b.line) (sym x.0) k)

  apart_other : (file : List ℕ) (is : List ItemTree) (p : Pragmas) (a : Fault) → HasFault r file a → Declares s file is p → ⊥
  apart_other file is p a (expansion f h) d = expanded_faultless law (setting r file) d.tokens p a.kind a.line (subst (λ (c : Setting). IsExpansion c d.tokens p) (sym (same file)) d.expands) h
  apart_other file is p a (unit {ts = ts} {p = q} f h j) d =
      let x = one_expansion law (setting r file) ts d.tokens q p h (subst (λ (c : Setting). IsExpansion c d.tokens p) (sym (same file)) d.expands) in
      spelled_faultless d.tokens a.kind a.line is d.spelled d.shallow (subst (λ (vs : List Token). IsUnitFault vs a.kind a.line) x.0 j)

  pub agree : Agree r s
  agree = record { declared = declared_one; faults = faults_one; apart = apart_one; apart_too = apart_other }
