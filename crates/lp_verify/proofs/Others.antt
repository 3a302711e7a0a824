-- Functions, switches and tables are tested.
use Rattle.std.proofs.Common.{◌≡◌, ◌≤◌, ◌<◌, ℕ, suc, inl, inr, subst, refl, sym, ◌∙◌, arith, Bool, true, false, ◌&&◌, nat_lt, nat_le, nat_eq, List, [], ◌∷◌, All, length, map, IsTrue, Option, Some, None}
use Rattle.std.proofs.lemmas.Bool.{ltb-true, leb-true, leb-false, eq-eqb, eqb-true}
use Rattle.std.proofs.lemmas.List.Elements.{All-cons, All-nil, All-head, All-tail}
use Rattle.lp_instr.specs.declared.instr.Case.{Case}
use Rattle.lp_instr.specs.Code.{case_place}
use Rattle.lp_code.specs.declared.program.RawProgram.{RawProgram}
use Rattle.lp_code.specs.declared.program.FunRow.{FunRow}
use Rattle.lp_code.specs.declared.program.SwitchRow.{SwitchRow}
use Rattle.lp_code.specs.Owners.{AreRows, RowsRise}
use Rattle.lp_code.specs.Inside.{IsSwitch, AreTables}
use Rattle.lp_code.specs.Programs.{AreFunctions, IsProgram}
use Rattle.lp_verify.specs.Rows.{row_fits, rows_rise, are_rows, are_inside, is_switch, are_switches}
use Rattle.lp_verify.specs.Fails.{NoneFails, IsLeast}
use Rattle.lp_verify.specs.Verified.{AreOthers, IsFirstFault}
use Rattle.lp_verify.proofs.Fine.{and_left, and_right, and_both}
use Rattle.lp_verify.proofs.Soundness.{lt_true, inside_from}
use Rattle.lp_verify.proofs.Completeness.{none_fails, fails_inside}

le_so : (a b : ℕ) → a ≤ b → nat_le a b ≡ true
le_so a b l = go (nat_le a b) refl
  where
    go : (c : Bool) → nat_le a b ≡ c → nat_le a b ≡ true
    go true f = f
    go false f = absurd (let z = leb-false a b f in omega (arith, z, l))

rise_from : (n low : ℕ) (rs : List FunRow) → rows_rise n low rs ≡ true → RowsRise n low rs
rise_from n low [] h = tt
rise_from n low (r ∷ rs) h = let f = and_left (row_fits n low r) (rows_rise n (suc r.from) rs) h in
    (leb-true low r.from (and_left _ _ (and_left _ _ f)), ltb-true r.from n (and_right _ _ (and_left _ _ f)), leb-true r.params r.locals (and_right _ _ f), rise_from n (suc r.from) rs (and_right (row_fits n low r) (rows_rise n (suc r.from) rs) h))

rise_so : (n low : ℕ) (rs : List FunRow) → RowsRise n low rs → rows_rise n low rs ≡ true
rise_so n low [] h = refl
rise_so n low (r ∷ rs) h = and_both (row_fits n low r) (rows_rise n (suc r.from) rs)
    (and_both _ _ (and_both _ _ (le_so low r.from h.0) (lt_true r.from n h.1)) (le_so r.params r.locals h.2)) (rise_so n (suc r.from) rs h.3)

rows_from : (n : ℕ) (rs : List FunRow) → are_rows n rs ≡ true → AreRows n rs
rows_from n [] h = eqb-true n 0 h
rows_from n (r ∷ rs) h = (eqb-true r.from 0 (and_left (nat_eq r.from 0) _ h), rise_from n 0 (r ∷ rs) (and_right (nat_eq r.from 0) (rows_rise n 0 (r ∷ rs)) h))

rows_so : (n : ℕ) (rs : List FunRow) → AreRows n rs → are_rows n rs ≡ true
rows_so n [] h = eq-eqb n 0 h
rows_so n (r ∷ rs) h = and_both (nat_eq r.from 0) (rows_rise n 0 (r ∷ rs)) (eq-eqb r.from 0 h.0) (rise_so n 0 (r ∷ rs) h.1)

inside_all : (n : ℕ) (cs : List Case) → are_inside n cs ≡ true → All (λ to. to < n) (map case_place cs)
inside_all n [] h = All-nil (λ to. to < n)
inside_all n (c ∷ cs) h = All-cons (λ to. to < n) (case_place c) (map case_place cs) (ltb-true (case_place c) n (and_left (nat_lt (case_place c) n) (are_inside n cs) h)) (inside_all n cs (and_right (nat_lt (case_place c) n) (are_inside n cs) h))

all_inside : (n : ℕ) (cs : List Case) → All (λ to. to < n) (map case_place cs) → are_inside n cs ≡ true
all_inside n [] h = refl
all_inside n (c ∷ cs) h = and_both (nat_lt (case_place c) n) (are_inside n cs) (lt_true (case_place c) n (All-head (λ to. to < n) (case_place c) (map case_place cs) h)) (all_inside n cs (All-tail (λ to. to < n) (case_place c) (map case_place cs) h))

switch_from : (p : RawProgram) (r : SwitchRow) → is_switch p r ≡ true → IsSwitch p r
switch_from p r h = (
  All-cons (λ to. to < length p.instrs) r.other (map case_place r.cases) (ltb-true r.other (length p.instrs) (and_left _ _ (and_left _ _ h))) (inside_all (length p.instrs) r.cases (and_right (nat_lt r.other (length p.instrs)) _ (and_left _ _ h))),
  and_right _ _ h,
)

switch_so : (p : RawProgram) (r : SwitchRow) → IsSwitch p r → is_switch p r ≡ true
switch_so p r h = and_both _ _ (and_both _ _ (lt_true r.other (length p.instrs) (All-head (λ to. to < length p.instrs) r.other (map case_place r.cases) h.0))
    (all_inside (length p.instrs) r.cases (All-tail (λ to. to < length p.instrs) r.other (map case_place r.cases) h.0))) h.1

switches_from : (p : RawProgram) (rs : List SwitchRow) → are_switches p rs ≡ true → All (IsSwitch p) rs
switches_from p [] h = All-nil (IsSwitch p)
switches_from p (r ∷ rs) h = All-cons (IsSwitch p) r rs (switch_from p r (and_left (is_switch p r) (are_switches p rs) h)) (switches_from p rs (and_right (is_switch p r) (are_switches p rs) h))

switches_so : (p : RawProgram) (rs : List SwitchRow) → All (IsSwitch p) rs → are_switches p rs ≡ true
switches_so p [] h = refl
switches_so p (r ∷ rs) h = and_both (is_switch p r) (are_switches p rs) (switch_so p r (All-head (IsSwitch p) r rs h)) (switches_so p rs (All-tail (IsSwitch p) r rs h))

pub others_tested : (p : RawProgram) (rows switches tables : Bool) → rows ≡ are_rows (length p.instrs) p.funs → switches ≡ are_switches p p.switches → (IsTrue tables → AreTables p.tables) × (AreTables p.tables → IsTrue tables)
    → (IsTrue (rows && switches && tables) → AreOthers p) × (AreOthers p → IsTrue (rows && switches && tables))
others_tested p rows switches tables e f d = (
  λ t. record {
    rows = rows_from (length p.instrs) p.funs (sym e ∙ and_left rows switches (and_left (rows && switches) tables t));
    switches = switches_from p p.switches (sym f ∙ and_right rows switches (and_left (rows && switches) tables t));
    tables = d.0 (and_right (rows && switches) tables t);
  },
  λ o. and_both (rows && switches) tables (and_both rows switches (e ∙ rows_so (length p.instrs) p.funs o.rows) (f ∙ switches_so p p.switches o.switches)) (d.1 o.tables),
)

-- a program in which nothing fails
pub program_from : (p : RawProgram) → NoneFails p (length p.instrs) → AreFunctions p → AreOthers p → IsProgram p
program_from p n f o = record { inside = inside_from p n; functions = f; rows = o.rows; switches = o.switches; tables = o.tables }

pub others_of : (p : RawProgram) → IsProgram p → AreOthers p
others_of p h = record { rows = h.rows; switches = h.switches; tables = h.tables }

-- the least instruction that fails
pub refused_here : (p : RawProgram) (r : Option ℕ) (at : ℕ) → IsLeast p r → r ≡ Some at → IsFirstFault p at × (IsProgram p → ⊥)
refused_here p r at h e =
    let P : Option ℕ → Type 0 = λ z. IsLeast p z in
    let l = subst P e h in
    (record { least = l.1; here = inl (fails_inside p at l.0, l.0) }, λ g. none_fails p g at l.0)

-- no instruction fails, and something else is not as it has to be
pub refused_end : (p : RawProgram) (r : Option ℕ) (at : ℕ) (b : Bool) → IsLeast p r → r ≡ None → at ≡ length p.instrs → (IsTrue b → AreOthers p) × (AreOthers p → IsTrue b) → b ≡ false → IsFirstFault p at × (IsProgram p → ⊥)
refused_end p r at b h e a d f =
    let P : Option ℕ → Type 0 = λ z. IsLeast p z in
    let l = subst P e h in
    let no : AreOthers p → ⊥ = λ o. (let t = d.1 o in not_both b t f) in
    (record { least = (let Q : ℕ → Type 0 = λ z. NoneFails p z in subst Q (sym a) l); here = inr (a, no) }, λ g. no (others_of p g))
  where
    not_both : (b : Bool) → b ≡ true → b ≡ false → ⊥
    not_both true h g = cc
    not_both false h g = cc

-- nothing fails
pub accepted : (p : RawProgram) (r : Option ℕ) (b : Bool) → IsLeast p r → r ≡ None → (r ≡ None → AreRows (length p.instrs) p.funs → AreFunctions p) → (IsTrue b → AreOthers p) × (AreOthers p → IsTrue b) → b ≡ true → IsProgram p
accepted p r b h e f d t =
    let P : Option ℕ → Type 0 = λ z. IsLeast p z in
    let o = d.0 t in program_from p (subst P e h) (f e o.rows) o
