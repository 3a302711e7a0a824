-- Where all holds of an instruction, it is fine, and the other way round.
use Rattle.std.proofs.Common.{◌≡◌, ◌≤◌, ℕ, zero, suc, ◌+◌, ◌-◌, ◌*◌, refl, sym, ap, subst, arith, Bool, true, false, ◌&&◌, ◌||◌, not, nat_lt, List, [], ◌∷◌, length, map, Option, Some, None, slice_get}
use Rattle.std.specs.Prelude.{⊤}
use Rattle.std.proofs.lemmas.Bool.{ltb-true, ltb-false}
use Rattle.lp_instr.specs.declared.instr.Instr.{Instr}
use Rattle.lp_instr.specs.declared.instr.Instr.TheVariants.{PushInt, PushText, PushLocal, SetLocal, PushGlobal, SetGlobal, Pop, Dup, Dup2, Unary, Binary, Step, Rotate, Index, SetIndex, Range, MakeArray, MakeMap, Jump, JumpIfZero, JumpIfNotZero, KeepIfZero, KeepIfNotZero, LoopTurn, CallSlot, CallFixed, CallOther, CallEfun, CallSimul, Scan, CatchBegin, CatchEnd, Switch, EachBegin, EachNext, Return, ReturnZero}
use Rattle.lp_instr.specs.declared.instr.Case.{Case}
use Rattle.lp_instr.specs.Code.{Catching, case_place}
use Rattle.lp_instr.specs.Sound.{Shape, shape, LeadsTo, Takes, Flows, IsAbove, IsFine, CasesLead, TableLeads, Closes, end_count}
use Rattle.lp_code.specs.declared.program.RawProgram.{RawProgram}
use Rattle.lp_code.specs.declared.program.SwitchRow.{SwitchRow}
use Rattle.lp_code.specs.Inside.{is_turn, jump_stands, jumps, jumps_stand, row_has_texts, row_places, is_named, stands}
use Rattle.lp_code.specs.Programs.{code_of, table_of}
use Rattle.lp_verify.specs.declared.effect.Change.TheVariants.{Closes as CloseOne}
use Rattle.lp_verify.specs.declared.effect.Effect.{Effect}
use Rattle.lp_verify.specs.declared.effect.Exit.{Exit}
use Rattle.lp_verify.specs.Effects.{effect_of, flow, branch}
use Rattle.lp_verify.specs.Flow.{after, exits, exits_hold, flows, floor, is_enough, is_none, may_change, outer, case_exit, row_exits}

pub and_left : (x y : Bool) → (x && y) ≡ true → x ≡ true
and_left true y h = refl
and_left false y h = h

pub and_right : (x y : Bool) → (x && y) ≡ true → y ≡ true
and_right true y h = h
and_right false y h = cc

pub and_both : (x y : Bool) → x ≡ true → y ≡ true → (x && y) ≡ true
and_both true y h g = g
and_both false y h g = h

pub not_under : (b : Bool) (a c : ℕ) → nat_lt a c ≡ b → not b ≡ true → c ≤ a
not_under true a c e h = cc
not_under false a c e h = ltb-false a c e

-- each exit leads where it should
abbrev pub Reaches : (ℕ → Shape → Type 0) → Shape → Effect → List Exit → Type 0
Reaches T f e [] = ⊤
Reaches T f e (x ∷ xs) = T x.to (after f e x) × Reaches T f e xs

-- What is asked of a place, in one record.
pub record Held (p : RawProgram) (at : ℕ) (f : Shape) (i : Instr) : Type 0 where
  pub jumping : jumps_stand p at (jumps p i) ≡ true
  pub named : is_named p at i ≡ true
  pub low : f.height ≤ p.max_height
  pub enough : is_enough f (effect_of i) ≡ true
  pub leads : exits_hold p at f (effect_of i) (exits p at (effect_of i)) ≡ true
  pub ends : (not (effect_of i).ends || is_none f.catches) ≡ true

pub held_from : (p : RawProgram) (at : ℕ) (f : Shape) (i : Instr) → stands p at i ≡ true → flows p at f (effect_of i) ≡ true → Held p at f i
held_from p at f i s h = record {
  jumping = and_right (is_named p at i) (jumps_stand p at (jumps p i)) s;
  named = and_left (is_named p at i) (jumps_stand p at (jumps p i)) s;
  low = not_under (nat_lt p.max_height f.height) p.max_height f.height refl (and_left _ _ (and_left _ _ (and_left _ _ h)));
  enough = and_right _ _ (and_left _ _ (and_left _ _ h));
  leads = and_right _ _ (and_left _ _ h);
  ends = and_right _ _ h;
}

under_floor : (f : Shape) (n : ℕ) → n + floor f.catches ≤ f.height → Takes n f
under_floor f n h = record { enough = omega (arith, h); above = go f.catches h }
  where
    go : (cs : List Catching) → n + floor cs ≤ f.height → IsAbove cs (f.height - n)
    go [] h = tt
    go (c ∷ cs) h = omega (arith, h)

-- the operands are there
pub takes_from : (f : Shape) (e : Effect) → is_enough f e ≡ true → Takes e.takes f
takes_from f e h = under_floor f e.takes (not_under (nat_lt f.height (e.takes + floor f.catches)) f.height (e.takes + floor f.catches) refl h)

next_leads : (p : RawProgram) (parents : List (List (List ℕ))) (T : ℕ → Shape → Type 0) (at : ℕ) (f : Shape) → T (at + 1) f → LeadsTo (code_of p parents) T at (at + 1) f
next_leads p parents T at f r = record { reached = r; turns = λ l. absurd (omega (arith, l)) }

flow_fine : (p : RawProgram) (parents : List (List (List ℕ))) (T : ℕ → Shape → Type 0) (at : ℕ) (f : Shape) (n k : ℕ) → Takes n f → T (at + 1) (shape (f.height - n + k) f.catches) → Flows (code_of p parents) T n k at f
flow_fine p parents T at f n k t r = record { takes = t; leads = next_leads p parents T at (shape (f.height - n + k) f.catches) r }

turn_from : (o : Option Instr) → is_turn o ≡ true → o ≡ Some LoopTurn
turn_from (Some LoopTurn) h = refl
turn_from None h = cc
turn_from (Some i) h = other i h
  where
    other : (i : Instr) → is_turn (Some i) ≡ true → Some i ≡ Some LoopTurn
    other LoopTurn h = refl
    other _ h = cc

or_back : (a b : Bool) → (a || b) ≡ true → a ≡ false → b ≡ true
or_back true b h g = cc
or_back false b h g = h

back : (at to : ℕ) → to ≤ at → nat_lt at to ≡ false
back at to l = go (nat_lt at to) refl
  where
    go : (b : Bool) → nat_lt at to ≡ b → nat_lt at to ≡ false
    go true e = absurd (let z = ltb-true at to e in omega (arith, z, l))
    go false e = e

-- a jump leads on
jump_leads : (p : RawProgram) (parents : List (List (List ℕ))) (T : ℕ → Shape → Type 0) (at to : ℕ) (f g : Shape) → jump_stands p at to ≡ true → f ≡ g → T to f → LeadsTo (code_of p parents) T at to g
jump_leads p parents T at to f g s e r = record {
  reached = subst (T to) e r;
  turns = λ l. turn_from (slice_get p.instrs to) (or_back (nat_lt at to) (is_turn (slice_get p.instrs to)) (and_right (nat_lt to (length p.instrs)) _ s) (back at to l));
}

pub same_shape : (a b : ℕ) (cs : List Catching) → a ≡ b → shape a cs ≡ shape b cs
same_shape a b cs e = ap (λ z. shape z cs) e

cases_lead : (p : RawProgram) (parents : List (List (List ℕ))) (T : ℕ → Shape → Type 0) (at : ℕ) (f g : Shape) (e : Effect) (cs : List Case) → shape (f.height - e.takes + 0) f.catches ≡ g → jumps_stand p at (map case_place cs) ≡ true
    → Reaches T f e (map case_exit cs) → CasesLead (code_of p parents) T at g cs
cases_lead p parents T at f g e [] q s r = tt
cases_lead p parents T at f g e (c ∷ cs) q s r = (
  jump_leads p parents T at (case_place c) (shape (f.height - e.takes + 0) f.catches) g (and_left (jump_stands p at (case_place c)) (jumps_stand p at (map case_place cs)) s) q r.0,
  cases_lead p parents T at f g e cs q (and_right (jump_stands p at (case_place c)) (jumps_stand p at (map case_place cs)) s) r.1,
)

get_tables : (rows : List SwitchRow) (k : ℕ) (r : SwitchRow) → slice_get rows k ≡ Some r → slice_get (map table_of rows) k ≡ Some (table_of r)
get_tables [] k r e = cc
get_tables (x ∷ xs) zero r e = let s : x ≡ r = cc in ap (λ z. Some (table_of z)) s
get_tables (x ∷ xs) (suc k) r e = get_tables xs k r e

switch_fine : (p : RawProgram) (parents : List (List (List ℕ))) (T : ℕ → Shape → Type 0) (at k : ℕ) (f g : Shape) (e : Effect) (o : Option SwitchRow) → slice_get p.switches k ≡ o → row_has_texts (length p.consts) o ≡ true
    → shape (f.height - e.takes + 0) f.catches ≡ g → jumps_stand p at (row_places o) ≡ true → Reaches T f e (row_exits o) → TableLeads (code_of p parents) T at g (slice_get (map table_of p.switches) k)
switch_fine p parents T at k f g e None s t q j r = cc
switch_fine p parents T at k f g e (Some row) s t q j r = subst (TableLeads (code_of p parents) T at g) (sym (get_tables p.switches k row s)) (
  cases_lead p parents T at f g e row.cases q (and_right (jump_stands p at row.other) (jumps_stand p at (map case_place row.cases)) j) r.1,
  jump_leads p parents T at row.other (shape (f.height - e.takes + 0) f.catches) g (and_left (jump_stands p at row.other) (jumps_stand p at (map case_place row.cases)) j) q r.0,
)

none_is : (cs : List Catching) → is_none cs ≡ true → cs ≡ []
none_is [] h = refl
none_is (c ∷ cs) h = cc

close_fine : (p : RawProgram) (parents : List (List (List ℕ))) (T : ℕ → Shape → Type 0) (at h : ℕ) (cs : List Catching) → may_change CloseOne cs ≡ true → T (at + 1) (shape (h - 0 + 0) (outer cs)) → Closes (code_of p parents) T at (shape h cs) cs
close_fine p parents T at h [] m r = cc
close_fine p parents T at h (c ∷ cs) m r = next_leads p parents T at (shape h cs) (subst (T (at + 1)) (same_shape (h - 0 + 0) h cs (omega arith)) r)

one_jump : (p : RawProgram) (at to : ℕ) → jumps_stand p at (to ∷ []) ≡ true → jump_stands p at to ≡ true
one_jump p at to h = and_left (jump_stands p at to) true h

-- an instruction of which all holds is fine
pub fine : (p : RawProgram) (parents : List (List (List ℕ))) (T : ℕ → Shape → Type 0) (at : ℕ) (f : Shape) (i : Instr) → Held p at f i → Reaches T f (effect_of i) (exits p at (effect_of i)) → IsFine (code_of p parents) T i at f
fine p parents T at f (PushInt z) h r = flow_fine p parents T at f 0 1 (takes_from f (flow 0 1) h.enough) r.0
fine p parents T at f (PushText k) h r = flow_fine p parents T at f 0 1 (takes_from f (flow 0 1) h.enough) r.0
fine p parents T at f (PushLocal k) h r = flow_fine p parents T at f 0 1 (takes_from f (flow 0 1) h.enough) r.0
fine p parents T at f (SetLocal k) h r = flow_fine p parents T at f 1 1 (takes_from f (flow 1 1) h.enough) r.0
fine p parents T at f (PushGlobal k) h r = flow_fine p parents T at f 0 1 (takes_from f (flow 0 1) h.enough) r.0
fine p parents T at f (SetGlobal k) h r = flow_fine p parents T at f 1 1 (takes_from f (flow 1 1) h.enough) r.0
fine p parents T at f Pop h r = flow_fine p parents T at f 1 0 (takes_from f (flow 1 0) h.enough) r.0
fine p parents T at f Dup h r = flow_fine p parents T at f 1 2 (takes_from f (flow 1 2) h.enough) r.0
fine p parents T at f Dup2 h r = flow_fine p parents T at f 2 4 (takes_from f (flow 2 4) h.enough) r.0
fine p parents T at f (Unary op) h r = flow_fine p parents T at f 1 1 (takes_from f (flow 1 1) h.enough) r.0
fine p parents T at f (Binary op) h r = flow_fine p parents T at f 2 1 (takes_from f (flow 2 1) h.enough) r.0
fine p parents T at f (Step op) h r = flow_fine p parents T at f 1 1 (takes_from f (flow 1 1) h.enough) r.0
fine p parents T at f (Rotate n) h r = flow_fine p parents T at f n n (takes_from f (flow n n) h.enough) r.0
fine p parents T at f (Index e) h r = flow_fine p parents T at f 2 1 (takes_from f (flow 2 1) h.enough) r.0
fine p parents T at f (SetIndex e) h r = flow_fine p parents T at f 3 1 (takes_from f (flow 3 1) h.enough) r.0
fine p parents T at f (Range x y) h r = flow_fine p parents T at f (1 + end_count x + end_count y) 1 (takes_from f (flow (1 + end_count x + end_count y) 1) h.enough) r.0
fine p parents T at f (MakeArray n) h r = flow_fine p parents T at f n 1 (takes_from f (flow n 1) h.enough) r.0
fine p parents T at f (MakeMap n) h r = flow_fine p parents T at f (2 * n) 1 (takes_from f (flow (2 * n) 1) h.enough) r.0
fine p parents T at f (Jump to) h r = jump_leads p parents T at to (shape (f.height - 0 + 0) f.catches) f (one_jump p at to h.jumping) (same_shape (f.height - 0 + 0) f.height f.catches (omega arith)) r.0
fine p parents T at f (JumpIfZero to) h r = (flow_fine p parents T at f 1 0 (takes_from f (branch 1 0 to 0) h.enough) r.0, jump_leads p parents T at to (shape (f.height - 1 + 0) f.catches) (shape (f.height - 1) f.catches) (one_jump p at to h.jumping) (same_shape (f.height - 1 + 0) (f.height - 1) f.catches (omega arith)) r.1.0)
fine p parents T at f (JumpIfNotZero to) h r = (flow_fine p parents T at f 1 0 (takes_from f (branch 1 0 to 0) h.enough) r.0, jump_leads p parents T at to (shape (f.height - 1 + 0) f.catches) (shape (f.height - 1) f.catches) (one_jump p at to h.jumping) (same_shape (f.height - 1 + 0) (f.height - 1) f.catches (omega arith)) r.1.0)
fine p parents T at f (KeepIfZero to) h r = let t = takes_from f (branch 1 0 to 1) h.enough in
    (flow_fine p parents T at f 1 0 t r.0, jump_leads p parents T at to (shape (f.height - 1 + 1) f.catches) f (one_jump p at to h.jumping) (same_shape (f.height - 1 + 1) f.height f.catches (let l = t.enough in omega (arith, l))) r.1.0)
fine p parents T at f (KeepIfNotZero to) h r = let t = takes_from f (branch 1 0 to 1) h.enough in
    (flow_fine p parents T at f 1 0 t r.0, jump_leads p parents T at to (shape (f.height - 1 + 1) f.catches) f (one_jump p at to h.jumping) (same_shape (f.height - 1 + 1) f.height f.catches (let l = t.enough in omega (arith, l))) r.1.0)
fine p parents T at f LoopTurn h r = flow_fine p parents T at f 0 0 (takes_from f (flow 0 0) h.enough) r.0
fine p parents T at f (CallSlot k n) h r = flow_fine p parents T at f n 1 (takes_from f (flow n 1) h.enough) r.0
fine p parents T at f (CallFixed parent j n) h r = flow_fine p parents T at f n 1 (takes_from f (flow n 1) h.enough) r.0
fine p parents T at f (CallOther n) h r = flow_fine p parents T at f (n + 2) 1 (takes_from f (flow (n + 2) 1) h.enough) r.0
fine p parents T at f (CallEfun e n) h r = flow_fine p parents T at f n 1 (takes_from f (flow n 1) h.enough) r.0
fine p parents T at f (CallSimul k n) h r = flow_fine p parents T at f n 1 (takes_from f (flow n 1) h.enough) r.0
fine p parents T at f (Scan n) h r = flow_fine p parents T at f 2 (2 * n + 1) (takes_from f (flow 2 (2 * n + 1)) h.enough) r.0
fine p parents T at f (CatchBegin to) h r = (
  next_leads p parents T at (shape f.height (record { place = to; height = f.height } ∷ f.catches)) (subst (T (at + 1)) (same_shape (f.height - 0 + 0) f.height (record { place = to; height = f.height } ∷ f.catches) (omega arith)) r.0),
  jump_leads p parents T at to (shape (f.height - 0 + 1) f.catches) (shape (f.height + 1) f.catches) (one_jump p at to h.jumping) (same_shape (f.height - 0 + 1) (f.height + 1) f.catches (omega arith)) r.1.0,
)
fine p parents T at f CatchEnd h r = close_fine p parents T at f.height f.catches (and_right _ _ (and_left _ true h.leads)) r.0
fine p parents T at f (Switch k) h r =
    (takes_from f (effect_of (Switch k)) h.enough, switch_fine p parents T at k f (shape (f.height - 1) f.catches) (effect_of (Switch k)) (slice_get p.switches k) refl h.named (same_shape (f.height - 1 + 0) (f.height - 1) f.catches (omega arith)) h.jumping r)
fine p parents T at f (EachBegin n) h r = flow_fine p parents T at f 1 2 (takes_from f (flow 1 2) h.enough) r.0
fine p parents T at f (EachNext to n) h r = let t = takes_from f (branch 2 0 to (n + 2)) h.enough in
    (flow_fine p parents T at f 2 0 t r.0, jump_leads p parents T at to (shape (f.height - 2 + (n + 2)) f.catches) (shape (f.height + n) f.catches) (one_jump p at to h.jumping) (same_shape (f.height - 2 + (n + 2)) (f.height + n) f.catches (let l = t.enough in omega (arith, l))) r.1.0)
fine p parents T at f Return h r = (takes_from f (effect_of Return) h.enough, none_is f.catches h.ends)
fine p parents T at f ReturnZero h r = none_is f.catches h.ends
