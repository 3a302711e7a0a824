-- Stretches of code, in which each instruction is reached in one way.
use Rattle.std.proofs.Common.{◌≡◌, ℕ, suc, ◌+◌, ◌-◌, ◌≤◌, ◌<◌, ◌⊎◌, inl, inr, Bool, true, false, cond, List, [], ◌∷◌, Option, Some, None, refl, sym, ap, ◌∙◌, subst, arith}
use Rattle.std.specs.Prelude.{slice_get, nat_eq, nat_lt}
use Rattle.std.proofs.lemmas.Bool.{lt-ltb, le-ltb, eqb-true, eq-eqb}
use Rattle.lp_instr.specs.declared.instr.Instr.{Instr}
use Rattle.lp_instr.specs.declared.instr.Instr.TheVariants.{PushInt, PushText, PushLocal, SetLocal, PushGlobal, SetGlobal, Pop, Dup, Dup2, Unary, Binary, Step, Rotate, Index, SetIndex, Range, MakeArray, MakeMap, Jump, JumpIfZero, JumpIfNotZero, KeepIfZero, KeepIfNotZero, LoopTurn, CallSlot, CallFixed, CallOther, CallEfun, CallSimul, Scan, CatchBegin, CatchEnd, Switch, EachBegin, EachNext, Return, ReturnZero}
use Rattle.lp_instr.specs.declared.instr.Case.{Case}
use Rattle.lp_instr.specs.Code.{Code, Catching, Table}
use Rattle.lp_isa.specs.Translates.{One}
use Rattle.lp_instr.specs.Sound.{Shape, Shapes, shape, Bounds, IsAbove, CatchLeads, LeadsTo, Flows, CasesLead, TableLeads, Closes, IsNamed, IsFine, IsReachedWell}

-- Where an instruction of a stretch may lead: to one of the stretch, to its end, or out of it.
pub data Aim (E : ℕ → Shape → Type 0) (shapes : Shapes) (to : ℕ) (z : Shape) : ℕ → Shape → Type 0 where
  inner : {q : ℕ} {t : Shape} → shapes q ≡ Some t → Aim E shapes to z q t
  final : {q : ℕ} {t : Shape} → q ≡ to → t ≡ z → Aim E shapes to z q t
  outer : {q : ℕ} {t : Shape} → E q t → Aim E shapes to z q t

-- a stretch of code that is entered with one shape and ends with another
pub record Stretch (code : Code) (b : Bounds) (E : ℕ → Shape → Type 0) (from to : ℕ) (a z : Shape) : Type 0 where
  pub shapes : Shapes
  pub top : ℕ
  pub order : from ≤ to
  pub inside : (p : ℕ) (sh : Shape) → shapes p ≡ Some sh → (from ≤ p) × (p < to)
  pub low : (p : ℕ) (sh : Shape) → shapes p ≡ Some sh → sh.height ≤ top
  pub begins : (shapes from ≡ Some a) ⊎ ((from ≡ to) × (a ≡ z))
  pub well : (p : ℕ) (sh : Shape) → shapes p ≡ Some sh → IsReachedWell code b (Aim E shapes to z) p sh

-- a place of a stretch, or its end
abbrev pub At : Shapes → ℕ → Shape → ℕ → Shape → Type 0
At shapes to z q t = (shapes q ≡ Some t) ⊎ ((q ≡ to) × (t ≡ z))

module _ (T U : ℕ → Shape → Type 0) (F : (q : ℕ) (t : Shape) → T q t → U q t) (code : Code) where
  leads_more : {from to : ℕ} {sh : Shape} → LeadsTo code T from to sh → LeadsTo code U from to sh
  leads_more {from} {to} {sh} l = record { reached = F to sh l.reached; turns = l.turns }

  flows_more : {n k p : ℕ} {sh : Shape} → Flows code T n k p sh → Flows code U n k p sh
  flows_more f = record { takes = f.takes; leads = leads_more f.leads }

  cases_more : (p : ℕ) (sh : Shape) (ks : List Case) → CasesLead code T p sh ks → CasesLead code U p sh ks
  cases_more p sh [] h = tt
  cases_more p sh (k ∷ ks) h = (leads_more h.0, cases_more p sh ks h.1)

  table_more : (p : ℕ) (sh : Shape) (o : Option Table) → TableLeads code T p sh o → TableLeads code U p sh o
  table_more p sh None h = h
  table_more p sh (Some t) h = (cases_more p sh t.cases h.0, leads_more h.1)

  closes_more : (p : ℕ) (sh : Shape) (cs : List Catching) → Closes code T p sh cs → Closes code U p sh cs
  closes_more p sh [] h = h
  closes_more p sh (c ∷ cs) h = leads_more h

  catch_more : (cs : List Catching) → CatchLeads T cs → CatchLeads U cs
  catch_more [] h = h
  catch_more (c ∷ cs) h = F c.place (shape (c.height + 1) cs) h

  fine_more : (i : Instr) (p : ℕ) (sh : Shape) → IsFine code T i p sh → IsFine code U i p sh
  fine_more (Jump to) p sh h = leads_more h
  fine_more (JumpIfZero to) p sh h = (flows_more h.0, leads_more h.1)
  fine_more (JumpIfNotZero to) p sh h = (flows_more h.0, leads_more h.1)
  fine_more (KeepIfZero to) p sh h = (flows_more h.0, leads_more h.1)
  fine_more (KeepIfNotZero to) p sh h = (flows_more h.0, leads_more h.1)
  fine_more (CatchBegin to) p sh h = (leads_more h.0, leads_more h.1)
  fine_more CatchEnd p sh h = closes_more p sh sh.catches h
  fine_more (Switch k) p sh h = (h.0, table_more p _ (slice_get code.switches k) h.1)
  fine_more (EachNext to n) p sh h = (flows_more h.0, leads_more h.1)
  fine_more Return p sh h = h
  fine_more ReturnZero p sh h = h
  fine_more (PushInt z) p sh h = flows_more h
  fine_more (PushText z) p sh h = flows_more h
  fine_more (PushLocal z) p sh h = flows_more h
  fine_more (SetLocal z) p sh h = flows_more h
  fine_more (PushGlobal z) p sh h = flows_more h
  fine_more (SetGlobal z) p sh h = flows_more h
  fine_more Pop p sh h = flows_more h
  fine_more Dup p sh h = flows_more h
  fine_more Dup2 p sh h = flows_more h
  fine_more (Unary z) p sh h = flows_more h
  fine_more (Binary z) p sh h = flows_more h
  fine_more (Step z) p sh h = flows_more h
  fine_more (Rotate z) p sh h = flows_more h
  fine_more (Index z) p sh h = flows_more h
  fine_more (SetIndex z) p sh h = flows_more h
  fine_more (Range y z) p sh h = flows_more h
  fine_more (MakeArray z) p sh h = flows_more h
  fine_more (MakeMap z) p sh h = flows_more h
  fine_more LoopTurn p sh h = flows_more h
  fine_more (CallSlot y z) p sh h = flows_more h
  fine_more (CallFixed x y z) p sh h = flows_more h
  fine_more (CallOther z) p sh h = flows_more h
  fine_more (CallEfun y z) p sh h = flows_more h
  fine_more (CallSimul y z) p sh h = flows_more h
  fine_more (Scan z) p sh h = flows_more h
  fine_more (EachBegin z) p sh h = flows_more h

  pub well_more : (b : Bounds) (p : ℕ) (sh : Shape) → IsReachedWell code b T p sh → IsReachedWell code b U p sh
  well_more b p sh w = record { instr = w.instr; is = w.is; named = w.named; fine = fine_more w.instr p sh w.fine; catch = catch_more sh.catches w.catch }

pub either : (b : Bool) (o u : Option Shape) (sh : Shape) → cond b o u ≡ Some sh → ((b ≡ true) × (o ≡ Some sh)) ⊎ ((b ≡ false) × (u ≡ Some sh))
either true o u sh e = inl (refl, e)
either false o u sh e = inr (refl, e)

no_shape : {A : Type 0} (sh : Shape) → None ≡ Some sh → A
no_shape sh e = absurd cc

pub aim_more : (E G : ℕ → Shape → Type 0) → ((q : ℕ) (t : Shape) → E q t → G q t) → (shapes : Shapes) (to : ℕ) (z : Shape) (q : ℕ) (t : Shape) → Aim E shapes to z q t → Aim G shapes to z q t
aim_more E G f shapes to z q t (inner e) = inner e
aim_more E G f shapes to z q t (final e d) = final e d
aim_more E G f shapes to z q t (outer e) = outer (f q t e)

module _ (code : Code) (b : Bounds) where
  -- nothing
  pub empty_stretch : (E : ℕ → Shape → Type 0) (from to : ℕ) (a : Shape) → to ≡ from → Stretch code b E from to a a
  empty_stretch E from to a e = record {
    shapes = λ p. None;
    top = 0;
    order = omega arith;
    inside = λ p sh h. no_shape sh h;
    low = λ p sh h. no_shape sh h;
    begins = inr (sym e, refl);
    well = λ p sh h. no_shape sh h;
  }

  -- more ways out
  abbrev pub weak : (E G : ℕ → Shape → Type 0) → ((q : ℕ) (t : Shape) → E q t → G q t) → {from to : ℕ} {a z : Shape} → Stretch code b E from to a z → Stretch code b G from to a z
  weak E G f {from} {to} {a} {z} s = record {
    shapes = s.shapes;
    top = s.top;
    order = s.order;
    inside = s.inside;
    low = s.low;
    begins = s.begins;
    well = λ p sh h. well_more (Aim E s.shapes to z) (Aim G s.shapes to z) (aim_more E G f s.shapes to z) code b p sh (s.well p sh h);
  }

-- two stretches, one behind the other
abbrev pub joined : ℕ → Shapes → Shapes → Shapes
joined m s u p = cond (nat_lt p m) (s p) (u p)

pub joined_left : (m : ℕ) (s u : Shapes) (p : ℕ) (t : Shape) → p < m → s p ≡ Some t → joined m s u p ≡ Some t
joined_left m s u p t l e = ap (λ b. cond b (s p) (u p)) (lt-ltb p m l) ∙ e

pub joined_right : (m : ℕ) (s u : Shapes) (p : ℕ) (t : Shape) → m ≤ p → u p ≡ Some t → joined m s u p ≡ Some t
joined_right m s u p t l e = ap (λ b. cond b (s p) (u p)) (le-ltb p m l) ∙ e

module _ (code : Code) (b : Bounds) (E : ℕ → Shape → Type 0) {from m to : ℕ} {a y z : Shape} (s : Stretch code b E from m a y) (u : Stretch code b E m to y z) where
  mid_at : At (joined m s.shapes u.shapes) to z m y
  mid_at = elim u.begins [ inl e ↦ inl (joined_right m s.shapes u.shapes m y (omega arith) e) | inr e ↦ inr e ]

  at_moved : (q : ℕ) (t : Shape) → q ≡ m → t ≡ y → At (joined m s.shapes u.shapes) to z m y → At (joined m s.shapes u.shapes) to z q t
  at_moved q t e d x = subst (λ q. At (joined m s.shapes u.shapes) to z q t) (sym e) (subst (λ t. At (joined m s.shapes u.shapes) to z m t) (sym d) x)

  aim_of : (q : ℕ) (t : Shape) → At (joined m s.shapes u.shapes) to z q t → Aim E (joined m s.shapes u.shapes) to z q t
  aim_of q t (inl e) = inner e
  aim_of q t (inr e) = final e.0 e.1

  left_aim : (q : ℕ) (t : Shape) → Aim E s.shapes m y q t → Aim E (joined m s.shapes u.shapes) to z q t
  left_aim q t (inner e) = inner (joined_left m s.shapes u.shapes q t (s.inside q t e).1 e)
  left_aim q t (final e d) = aim_of q t (at_moved q t e d mid_at)
  left_aim q t (outer e) = outer e

  right_aim : (q : ℕ) (t : Shape) → Aim E u.shapes to z q t → Aim E (joined m s.shapes u.shapes) to z q t
  right_aim q t (inner e) = inner (joined_right m s.shapes u.shapes q t (u.inside q t e).0 e)
  right_aim q t (final e d) = final e d
  right_aim q t (outer e) = outer e

  pub seq_inside : (p : ℕ) (sh : Shape) → ((nat_lt p m ≡ true) × (s.shapes p ≡ Some sh)) ⊎ ((nat_lt p m ≡ false) × (u.shapes p ≡ Some sh)) → (from ≤ p) × (p < to)
  seq_inside p sh (inl e) = let i = s.inside p sh e.1 in let o = u.order in (i.0, (let j = i.1 in omega arith))
  seq_inside p sh (inr e) = let i = u.inside p sh e.1 in let o = s.order in ((let j = i.0 in omega arith), i.1)

  pub seq_low : (p : ℕ) (sh : Shape) → ((nat_lt p m ≡ true) × (s.shapes p ≡ Some sh)) ⊎ ((nat_lt p m ≡ false) × (u.shapes p ≡ Some sh)) → sh.height ≤ s.top + u.top
  seq_low p sh (inl e) = let i = s.low p sh e.1 in omega arith
  seq_low p sh (inr e) = let i = u.low p sh e.1 in omega arith

  pub seq_well : (p : ℕ) (sh : Shape) → ((nat_lt p m ≡ true) × (s.shapes p ≡ Some sh)) ⊎ ((nat_lt p m ≡ false) × (u.shapes p ≡ Some sh)) → IsReachedWell code b (Aim E (joined m s.shapes u.shapes) to z) p sh
  seq_well p sh (inl e) = well_more (Aim E s.shapes m y) (Aim E (joined m s.shapes u.shapes) to z) left_aim code b p sh (s.well p sh e.1)
  seq_well p sh (inr e) = well_more (Aim E u.shapes to z) (Aim E (joined m s.shapes u.shapes) to z) right_aim code b p sh (u.well p sh e.1)

  pub seq_begins : (s.shapes from ≡ Some a) ⊎ ((from ≡ m) × (a ≡ y)) → At (joined m s.shapes u.shapes) to z from a
  seq_begins (inl e) = inl (joined_left m s.shapes u.shapes from a (s.inside from a e).1 e)
  seq_begins (inr e) = at_moved from a e.0 e.1 mid_at

  abbrev pub seq : Stretch code b E from to a z
  seq = record {
    shapes = joined m s.shapes u.shapes;
    top = s.top + u.top;
    order = (let o = s.order in let q = u.order in omega arith);
    inside = λ p sh e. seq_inside p sh (either (nat_lt p m) (s.shapes p) (u.shapes p) sh e);
    low = λ p sh e. seq_low p sh (either (nat_lt p m) (s.shapes p) (u.shapes p) sh e);
    begins = seq_begins s.begins;
    well = λ p sh e. seq_well p sh (either (nat_lt p m) (s.shapes p) (u.shapes p) sh e);
  }

  -- what lies in the second is there
  pub right_at : (q : ℕ) (t : Shape) → At u.shapes to z q t → At (joined m s.shapes u.shapes) to z q t
  right_at q t (inl e) = inl (joined_right m s.shapes u.shapes q t (u.inside q t e).0 e)
  right_at q t (inr e) = inr e

  pub begin_at : At (joined m s.shapes u.shapes) to z m y
  begin_at = mid_at

-- ways out that lead back into the stretch are none
module _ (code : Code) (b : Bounds) (E F : ℕ → Shape → Type 0) {from to : ℕ} {a z : Shape} (s : Stretch code b (λ q t. E q t ⊎ F q t) from to a z) (f : (q : ℕ) (t : Shape) → F q t → At s.shapes to z q t) where
  closed_at : (q : ℕ) (t : Shape) → At s.shapes to z q t → Aim E s.shapes to z q t
  closed_at q t (inl e) = inner e
  closed_at q t (inr e) = final e.0 e.1

  closed_out : (q : ℕ) (t : Shape) → E q t ⊎ F q t → Aim E s.shapes to z q t
  closed_out q t (inl e) = outer e
  closed_out q t (inr e) = closed_at q t (f q t e)

  pub closed_aim : (q : ℕ) (t : Shape) → Aim (λ q t. E q t ⊎ F q t) s.shapes to z q t → Aim E s.shapes to z q t
  closed_aim q t (inner e) = inner e
  closed_aim q t (final e d) = final e d
  closed_aim q t (outer e) = closed_out q t e

  abbrev pub close : Stretch code b E from to a z
  close = record {
    shapes = s.shapes;
    top = s.top;
    order = s.order;
    inside = s.inside;
    low = s.low;
    begins = s.begins;
    well = λ p sh e. well_more (Aim (λ q t. E q t ⊎ F q t) s.shapes to z) (Aim E s.shapes to z) closed_aim code b p sh (s.well p sh e);
  }

-- one instruction
abbrev pub single : ℕ → Shape → Shapes
single from a p = cond (nat_eq p from) (Some a) None

pub single_is : (from : ℕ) (a : Shape) → single from a from ≡ Some a
single_is from a = ap (λ b. cond b (Some a) None) (eq-eqb from from refl)

some_same : (a c : Shape) → Some a ≡ Some c → a ≡ c
some_same a c e = cc

pub single_only : (from : ℕ) (a : Shape) (p : ℕ) (sh : Shape) → ((nat_eq p from ≡ true) × (Some a ≡ Some sh)) ⊎ ((nat_eq p from ≡ false) × (None ≡ Some sh)) → (p ≡ from) × (sh ≡ a)
single_only from a p sh (inl e) = (eqb-true p from e.0, sym (some_same a sh e.1))
single_only from a p sh (inr e) = no_shape sh e.1

module _ (code : Code) (b : Bounds) (E : ℕ → Shape → Type 0) where
  one_well : (i : Instr) (from to : ℕ) (a z : Shape) → IsReachedWell code b (Aim E (single from a) to z) from a → (p : ℕ) (sh : Shape) → (p ≡ from) × (sh ≡ a) → IsReachedWell code b (Aim E (single from a) to z) p sh
  one_well i from to a z w p sh e = subst (λ p. IsReachedWell code b (Aim E (single from a) to z) p sh) (sym e.0) (subst (λ sh. IsReachedWell code b (Aim E (single from a) to z) from sh) (sym e.1) w)

  pub one_stretch : (i : Instr) (from to : ℕ) (a z : Shape) → One code i from to → IsNamed code b i → IsFine code (Aim E (single from a) to z) i from a → CatchLeads E a.catches → Stretch code b E from to a z
  one_stretch i from to a z h n f c = record {
    shapes = single from a;
    top = a.height;
    order = (let e = h.1 in omega arith);
    inside = λ p sh e. let o = single_only from a p sh (either (nat_eq p from) (Some a) None sh e) in let q = o.0 in let t = h.1 in (omega arith, omega arith);
    low = λ p sh e. let o = single_only from a p sh (either (nat_eq p from) (Some a) None sh e) in subst (λ x. x.height ≤ a.height) (sym o.1) (omega arith);
    begins = inl (single_is from a);
    well = λ p sh e. one_well i from to a z (record { instr = i; is = h.0; named = n; fine = f; catch = catch_more E (Aim E (single from a) to z) (λ q t e. outer e) code a.catches c }) p sh (single_only from a p sh (either (nat_eq p from) (Some a) None sh e));
  }

  -- an instruction that takes n values and leaves k
  pub flow_one : (i : Instr) (from to : ℕ) (cs : List Catching) (h n k s t : ℕ) → One code i from to → IsNamed code b i → ((T : ℕ → Shape → Type 0) (p : ℕ) (sh : Shape) → Flows code T n k p sh → IsFine code T i p sh) → s ≡ h + n → t ≡ h + k → IsAbove cs h → CatchLeads E cs → Stretch code b E from to (shape s cs) (shape t cs)
  flow_one i from to cs h n k s t o nm g e d u c =
      one_stretch i from to (shape s cs) (shape t cs) o nm
      (g (Aim E (single from (shape s cs)) to (shape t cs)) from (shape s cs) (record {
        takes = record { enough = omega arith; above = subst (λ m. IsAbove cs m) (let q : h ≡ s - n = omega arith in q) u };
        leads = record { reached = final (sym o.1) (ap (λ m. shape m cs) (let q : s - n + k ≡ t = omega arith in q)); turns = λ l. absurd (omega arith) };
      }))
      c

  -- a jump
  pub jump_one : (from to q : ℕ) (a z : Shape) → One code (Jump q) from to → IsNamed code b (Jump q) → E q a → (q ≤ from → slice_get code.instrs q ≡ Some LoopTurn) → CatchLeads E a.catches → Stretch code b E from to a z
  jump_one from to q a z o nm e l c = one_stretch (Jump q) from to a z o nm (record { reached = outer e; turns = l }) c

  flows_10 : (from to h : ℕ) (cs : List Catching) → to ≡ from + 1 → IsAbove cs h → Flows code (Aim E (single from (shape (suc h) cs)) to (shape h cs)) 1 0 from (shape (suc h) cs)
  flows_10 from to h cs o u = record {
    takes = record { enough = omega arith; above = subst (λ m. IsAbove cs m) (let q : h ≡ suc h - 1 = omega arith in q) u };
    leads = record { reached = final (sym o) (ap (λ m. shape m cs) (let q : suc h - 1 + 0 ≡ h = omega arith in q)); turns = λ l. absurd (omega arith) };
  }

  less_one : (h : ℕ) (cs : List Catching) (q : ℕ) → E q (shape h cs) → E q (shape (suc h - 1) cs)
  less_one h cs q e = subst (λ m. E q (shape m cs)) (let d : h ≡ suc h - 1 = omega arith in d) e

  -- a jump on the top of the stack, which is dropped
  pub zero_one : (from to q h : ℕ) (cs : List Catching) → One code (JumpIfZero q) from to → E q (shape h cs) → (q ≤ from → slice_get code.instrs q ≡ Some LoopTurn) → IsAbove cs h → CatchLeads E cs → Stretch code b E from to (shape (suc h) cs) (shape h cs)
  zero_one from to q h cs o e l u c = one_stretch (JumpIfZero q) from to (shape (suc h) cs) (shape h cs) o tt (flows_10 from to h cs o.1 u, record { reached = outer (less_one h cs q e); turns = l }) c

  pub not_zero_one : (from to q h : ℕ) (cs : List Catching) → One code (JumpIfNotZero q) from to → E q (shape h cs) → (q ≤ from → slice_get code.instrs q ≡ Some LoopTurn) → IsAbove cs h → CatchLeads E cs → Stretch code b E from to (shape (suc h) cs) (shape h cs)
  not_zero_one from to q h cs o e l u c = one_stretch (JumpIfNotZero q) from to (shape (suc h) cs) (shape h cs) o tt (flows_10 from to h cs o.1 u, record { reached = outer (less_one h cs q e); turns = l }) c

  -- or kept where it jumps
  pub keep_zero : (from to q h : ℕ) (cs : List Catching) → One code (KeepIfZero q) from to → E q (shape (suc h) cs) → (q ≤ from → slice_get code.instrs q ≡ Some LoopTurn) → IsAbove cs h → CatchLeads E cs → Stretch code b E from to (shape (suc h) cs) (shape h cs)
  keep_zero from to q h cs o e l u c = one_stretch (KeepIfZero q) from to (shape (suc h) cs) (shape h cs) o tt (flows_10 from to h cs o.1 u, record { reached = outer e; turns = l }) c

  pub keep_not_zero : (from to q h : ℕ) (cs : List Catching) → One code (KeepIfNotZero q) from to → E q (shape (suc h) cs) → (q ≤ from → slice_get code.instrs q ≡ Some LoopTurn) → IsAbove cs h → CatchLeads E cs → Stretch code b E from to (shape (suc h) cs) (shape h cs)
  keep_not_zero from to q h cs o e l u c = one_stretch (KeepIfNotZero q) from to (shape (suc h) cs) (shape h cs) o tt (flows_10 from to h cs o.1 u, record { reached = outer e; turns = l }) c

-- where an open catch leads
abbrev pub Out : List Catching → ℕ → Shape → Type 0
Out [] q t = ⊥
Out (c ∷ cs) q t = (q ≡ c.place) × (t ≡ shape (c.height + 1) cs)

pub out_leads : (E : ℕ → Shape → Type 0) (cs : List Catching) → ((q : ℕ) (t : Shape) → Out cs q t → E q t) → CatchLeads E cs
out_leads E [] f = tt
out_leads E (c ∷ cs) f = f c.place (shape (c.height + 1) cs) (refl, refl)

-- a place beside them
abbrev pub Here : ℕ → Shape → ℕ → Shape → Type 0
Here q y p t = (p ≡ q) × (t ≡ y)

pub above_more : (cs : List Catching) (h k : ℕ) → h ≤ k → IsAbove cs h → IsAbove cs k
above_more [] h k l u = tt
above_more (c ∷ cs) h k l u = omega arith
