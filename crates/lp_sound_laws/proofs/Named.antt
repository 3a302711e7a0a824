-- What instructions name, in the words of programs.
use Rattle.std.proofs.Common.{◌≡◌, ℕ, zero, suc, ◌≤◌, ◌<◌, Bool, true, false, ◌||◌, List, [], ◌∷◌, length, map, Option, Some, None, refl, ap, subst, arith, All}
use Rattle.std.specs.Prelude.{slice_get, nat_lt, nat_le, IsSome}
use Rattle.std.proofs.lemmas.Bool.{and_from, le-leb, lt-ltb, ltb-false}
use Rattle.std.proofs.lemmas.List.{length-map}
use Rattle.std.proofs.lemmas.List.Elements.{All-cons, All-nil}
use Rattle.lp_instr.specs.declared.efun.Efun.{Efun}
use Rattle.lp_instr.specs.declared.instr.Instr.{Instr}
use Rattle.lp_instr.specs.declared.instr.Instr.TheVariants.{PushText, PushLocal, SetLocal, PushGlobal, SetGlobal, Rotate, Jump, JumpIfZero, JumpIfNotZero, KeepIfZero, KeepIfNotZero, CallSlot, CallFixed, CallEfun, CallSimul, CatchBegin, Switch, EachBegin, EachNext}
use Rattle.lp_instr.specs.declared.instr.Case.{Case}
use Rattle.lp_instr.specs.declared.instr.Case.TheVariants as cases
use Rattle.lp_instr.specs.EfunList.{Allows, IsAtMost, arity}
use Rattle.lp_instr.specs.Code.{Code, case_place, or_none, parent_row}
use Rattle.lp_instr.specs.Sound.{Bounds, IsNamed}
use Rattle.lp_code.specs.declared.program.FunRow.{FunRow}
use Rattle.lp_code.specs.declared.program.RawProgram.{RawProgram}
use Rattle.lp_code.specs.declared.program.SwitchRow.{SwitchRow}
use Rattle.lp_code.specs.declared.tables.Slot.{Slot}
use Rattle.lp_code.specs.Inside.{IsSwitch, has_text, have_texts, is_allowed, is_at_most, is_named, is_turn, jump_stands, jumps, jumps_stand, row_has_texts, row_places, stands}
use Rattle.lp_code.specs.Owners.{locals_at}
use Rattle.lp_code.specs.Programs.{bounds_of, code_of, table_of}
use Rattle.lp_sound_laws.specs.Placed.{CasesLand, HasText, Lands, Leads, TableLands}

some_within : {A : Type 0} (xs : List A) (k : ℕ) → IsSome (slice_get xs k) → k < length xs
some_within [] k h = absurd cc
some_within (x ∷ xs) zero h = omega arith
some_within (x ∷ xs) (suc k) h = let q = some_within xs k h in omega (arith, q)

-- within other bounds, and with other tables of parents
pub named_as : (code : Code) (parents : List (List (List ℕ))) (b c : Bounds) → b.locals ≤ c.locals → b.variables ≤ c.variables → (i : Instr) → ((parent j n : ℕ) → i ≡ CallFixed parent j n → IsSome (parent_row (record code { parents = parents }) parent j)) → IsNamed code b i → IsNamed (record code { parents = parents }) c i
named_as code parents b c l v (PushText k) f h = h
named_as code parents b c l v (PushLocal k) f h = omega (arith, h, l)
named_as code parents b c l v (SetLocal k) f h = omega (arith, h, l)
named_as code parents b c l v (PushGlobal k) f h = omega (arith, h, v)
named_as code parents b c l v (SetGlobal k) f h = omega (arith, h, v)
named_as code parents b c l v (Rotate n) f h = h
named_as code parents b c l v (CallSlot k n) f h = h
named_as code parents b c l v (CallFixed parent j n) f h = f parent j n refl
named_as code parents b c l v (CallEfun e n) f h = h
named_as code parents b c l v (CallSimul k n) f h = h
named_as code parents b c l v (Switch k) f h = h
named_as code parents b c l v (EachBegin n) f h = h
named_as code parents b c l v (EachNext to n) f h = h
named_as code parents b c l v _ f h = tt

lt_true : (a b : ℕ) → a < b → nat_lt a b ≡ true
lt_true a b l = lt-ltb a b l

le_true : (a b : ℕ) → a ≤ b → nat_le a b ≡ true
le_true a b l = le-leb a b l

at_most : (n : ℕ) (o : Option ℕ) → IsAtMost n o → is_at_most n o ≡ true
at_most n None h = refl
at_most n (Some m) h = le_true n m h

allowed : (e : Efun) (n : ℕ) → Allows e n → is_allowed e n ≡ true
allowed e n h = and_from (nat_le (arity e).least n) (is_at_most n (arity e).most) (le_true (arity e).least n h.0) (at_most n (arity e).most h.1)

parent_within : (ts : List (List (List ℕ))) (parent j : ℕ) → IsSome (slice_get (or_none (slice_get ts parent)) j) → parent < length ts
parent_within ts parent j h = some_within ts parent (go (slice_get ts parent) h)
  where
    go : (o : Option (List (List ℕ))) → IsSome (slice_get (or_none o) j) → IsSome o
    go None h = absurd cc
    go (Some x) h = refl

module _ (p : RawProgram) (ts : List (List (List ℕ))) (few : length ts ≤ length p.tables.parents) where
  text_true : (k : Case) → HasText (code_of p ts) k → has_text (length p.consts) k ≡ true
  text_true (cases.Ints a b to) h = refl
  text_true (cases.Text k to) h = lt_true k (length p.consts) (some_within p.consts k h)

  texts_true : (at : ℕ) (ks : List Case) → CasesLand (code_of p ts) at ks → have_texts (length p.consts) ks ≡ true
  texts_true at [] h = refl
  texts_true at (k ∷ ks) h = and_from (has_text (length p.consts) k) (have_texts (length p.consts) ks) (text_true k h.1) (texts_true at ks h.2)

  row_true : (at k : ℕ) (rs : List SwitchRow) → TableLands (code_of p ts) at (slice_get (map table_of rs) k) → row_has_texts (length p.consts) (slice_get rs k) ≡ true
  row_true at k [] h = absurd h
  row_true at zero (r ∷ rs) h = texts_true at r.cases h.0
  row_true at (suc k) (r ∷ rs) h = row_true at k rs h

  named_true : (at : ℕ) (r : FunRow) (i : Instr) → locals_at p at ≡ r.locals → IsNamed (code_of p ts) (bounds_of p r) i → Leads (code_of p ts) at i → is_named p at i ≡ true
  named_true at r (PushText k) l h d = lt_true k (length p.consts) (some_within p.consts k h)
  named_true at r (PushLocal k) l h d = lt_true k (locals_at p at) (omega (arith, l, h))
  named_true at r (SetLocal k) l h d = lt_true k (locals_at p at) (omega (arith, l, h))
  named_true at r (PushGlobal k) l h d = lt_true k (length p.tables.vars) h
  named_true at r (SetGlobal k) l h d = lt_true k (length p.tables.vars) h
  named_true at r (Rotate n) l h d = le_true 1 n h
  named_true at r (CallSlot k n) l h d =
      let q = some_within (map (λ (s : Slot). s.name) p.tables.slots) k h in
      let e = length-map p.tables.slots (λ (s : Slot). s.name) in
      lt_true k (length p.tables.slots) (omega (arith, q, e))
  named_true at r (CallFixed parent j n) l h d = let q = parent_within ts parent j h in lt_true parent (length p.tables.parents) (omega (arith, q, few))
  named_true at r (CallEfun e n) l h d = allowed e n h
  named_true at r (CallSimul k n) l h d = lt_true k (length p.consts) (some_within p.consts k h)
  named_true at r (Switch k) l h d = row_true at k p.switches d
  named_true at r (EachBegin n) l h d = and_from (nat_le 1 n) (nat_le n 2) (le_true 1 n h.0) (le_true n 2 h.1)
  named_true at r (EachNext to n) l h d = and_from (nat_le 1 n) (nat_le n 2) (le_true 1 n h.0) (le_true n 2 h.1)
  named_true at r _ l h d = refl

  jump_true : (at to : ℕ) → Lands (code_of p ts) at to → jump_stands p at to ≡ true
  jump_true at to h = and_from (nat_lt to (length p.instrs)) (nat_lt at to || is_turn (slice_get p.instrs to)) (lt_true to (length p.instrs) h.inside) (go (nat_lt at to) refl)
    where
      go : (c : Bool) → nat_lt at to ≡ c → (c || is_turn (slice_get p.instrs to)) ≡ true
      go true e = refl
      go false e = ap is_turn (h.turns (ltb-false at to e))

  one_true : (at to : ℕ) → Lands (code_of p ts) at to → jumps_stand p at (to ∷ []) ≡ true
  one_true at to h = and_from (jump_stands p at to) true (jump_true at to h) refl

  cases_true : (at : ℕ) (ks : List Case) → CasesLand (code_of p ts) at ks → jumps_stand p at (map case_place ks) ≡ true
  cases_true at [] h = refl
  cases_true at (k ∷ ks) h = and_from (jump_stands p at (case_place k)) (jumps_stand p at (map case_place ks)) (jump_true at (case_place k) h.0) (cases_true at ks h.2)

  table_true : (at k : ℕ) (rs : List SwitchRow) → TableLands (code_of p ts) at (slice_get (map table_of rs) k) → jumps_stand p at (row_places (slice_get rs k)) ≡ true
  table_true at k [] h = absurd h
  table_true at zero (r ∷ rs) h = and_from (jump_stands p at r.other) (jumps_stand p at (map case_place r.cases)) (jump_true at r.other h.1) (cases_true at r.cases h.0)
  table_true at (suc k) (r ∷ rs) h = table_true at k rs h

  jumps_true : (at : ℕ) (i : Instr) → Leads (code_of p ts) at i → jumps_stand p at (jumps p i) ≡ true
  jumps_true at (Jump to) h = one_true at to h
  jumps_true at (JumpIfZero to) h = one_true at to h
  jumps_true at (JumpIfNotZero to) h = one_true at to h
  jumps_true at (KeepIfZero to) h = one_true at to h
  jumps_true at (KeepIfNotZero to) h = one_true at to h
  jumps_true at (CatchBegin to) h = one_true at to h
  jumps_true at (EachNext to n) h = one_true at to h
  jumps_true at (Switch k) h = table_true at k p.switches h
  jumps_true at _ h = refl

  -- an instruction stands
  pub stands_true : (at : ℕ) (r : FunRow) (i : Instr) → locals_at p at ≡ r.locals → IsNamed (code_of p ts) (bounds_of p r) i → Leads (code_of p ts) at i → stands p at i ≡ true
  stands_true at r i l h d = and_from (is_named p at i) (jumps_stand p at (jumps p i)) (named_true at r i l h d) (jumps_true at i d)

  cases_all : (at : ℕ) (ks : List Case) → CasesLand (code_of p ts) at ks → All (λ to. to < length p.instrs) (map case_place ks)
  cases_all at [] h = All-nil (λ to. to < length p.instrs)
  cases_all at (k ∷ ks) h = All-cons (λ to. to < length p.instrs) (case_place k) (map case_place ks) h.0.inside (cases_all at ks h.2)

  -- a row that an instruction names is sound
  pub row_sound : (at k : ℕ) (rs : List SwitchRow) (r : SwitchRow) → slice_get rs k ≡ Some r → TableLands (code_of p ts) at (slice_get (map table_of rs) k) → IsSwitch p r
  row_sound at k [] r e h = absurd h
  row_sound at zero (x ∷ rs) r e h =
      let same : x ≡ r = cc in
      subst (IsSwitch p) same (All-cons (λ to. to < length p.instrs) x.other (map case_place x.cases) h.1.inside (cases_all at x.cases h.0), texts_true at x.cases h.0)
  row_sound at (suc k) (x ∷ rs) r e h = row_sound at k rs r e h
