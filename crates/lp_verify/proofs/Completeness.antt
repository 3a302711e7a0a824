-- Where a program is sound, no instruction fails.
use Rattle.std.proofs.Common.{◌≡◌, ◌≤◌, ◌<◌, ℕ, zero, suc, ◌+◌, ◌-◌, ◌*◌, inl, inr, refl, sym, ◌∙◌, ap, subst, arith, Bool, true, false, ◌||◌, not, cond, nat_lt, List, [], ◌∷◌, ◌++◌, Contains, length, map, replicate, Option, Some, None, slice_get}
use Rattle.std.specs.Prelude.{⊤, is_some}
use Rattle.std.proofs.lemmas.Bool.{ltb-true, eq-eqb}
use Rattle.std.proofs.lemmas.Option.{slice_get_within}
use Rattle.lp_instr.specs.declared.instr.Instr.{Instr}
use Rattle.lp_instr.specs.declared.instr.Instr.TheVariants.{PushInt, PushText, PushLocal, SetLocal, PushGlobal, SetGlobal, Pop, Dup, Dup2, Unary, Binary, Step, Rotate, Index, SetIndex, Range, MakeArray, MakeMap, Jump, JumpIfZero, JumpIfNotZero, KeepIfZero, KeepIfNotZero, LoopTurn, CallSlot, CallFixed, CallOther, CallEfun, CallSimul, Scan, CatchBegin, CatchEnd, Switch, EachBegin, EachNext, Return, ReturnZero}
use Rattle.lp_instr.specs.declared.instr.Case.{Case}
use Rattle.lp_instr.specs.Code.{Catching, Table, case_place, or_none}
use Rattle.lp_instr.specs.Sound.{Shape, shape, By, IsAbove, Takes, Flows, CasesLead, TableLeads, IsFine, IsSound, end_count}
use Rattle.lp_instr.specs.Sound.{Closes as CatchCloses}
use Rattle.lp_code.specs.declared.program.RawProgram.{RawProgram}
use Rattle.lp_code.specs.declared.program.FunRow.{FunRow}
use Rattle.lp_code.specs.declared.program.SwitchRow.{SwitchRow}
use Rattle.lp_code.specs.Owners.{owner, first_of, begun, AreRows, RowsRise, end_of, end_in}
use Rattle.lp_code.specs.Inside.{stands, jumps_stand}
use Rattle.lp_code.specs.Programs.{code_of, bounds_of, table_of, FindsRows, IsFunction, AreFunctions, IsProgram}
use Rattle.lp_verify.specs.declared.effect.Change.{Change}
use Rattle.lp_verify.specs.declared.effect.Change.TheVariants.{Stay, Opens, Closes}
use Rattle.lp_verify.specs.declared.effect.Effect.{Effect}
use Rattle.lp_verify.specs.declared.effect.Exit.{Exit}
use Rattle.lp_verify.specs.Effects.{effect_of, flow, branch}
use Rattle.lp_verify.specs.Fails.{is_bad, bad, Fails}
use Rattle.lp_verify.specs.Flow.{after, changed, exits, exit_holds, exits_hold, floor, flows, holds, is_none, leads, may_change, once_at, outer, row_exits, case_exit, starts, starts_in, ways, ways_from}
use Rattle.lp_verify.specs.Paths.{Known, Never, Once, Mixed, Way, Learned, begins, on, two, begin_shape}
use Rattle.lp_verify.proofs.Fine.{and_left, and_both, Reaches, same_shape}
use Rattle.lp_verify.proofs.Owning.{owner_first, below_or, le_or, begun_row, rise_of, rise_in}
use Rattle.lp_verify.proofs.Soundness.{lt_true, OpensWell, AllOpenWell, all_open, cond_true}

-- rows further on begin further on
rise_lt : (n low : ℕ) (rs : List FunRow) (i d : ℕ) (r s : FunRow) → RowsRise n low rs → slice_get rs i ≡ Some r → slice_get rs (suc i + d) ≡ Some s → r.from < s.from
rise_lt n low [] i d r s h e g = cc
rise_lt n low (x ∷ rs) zero d r s h e g = let t : x ≡ r = cc in
    let q : suc 0 + d ≡ suc d = omega arith in
    let a = rise_in n (suc x.from) rs d s h.3 (sym (ap (slice_get (x ∷ rs)) q) ∙ g) in let b = ap (λ (z : FunRow). z.from) t in let c = a.0 in omega (arith, c, b)
rise_lt n low (x ∷ rs) (suc i) d r s h e g = let q : suc (suc i) + d ≡ suc (suc i + d) = omega arith in
    rise_lt n (suc x.from) rs i d r s h.3 e (sym (ap (slice_get (x ∷ rs)) q) ∙ g)

gap : (a b : ℕ) → a < b → (d : ℕ) × (suc a + d ≡ b)
gap a b l = (b - suc a, omega (arith, l))

none_past : {A : Type 0} (xs : List A) (k : ℕ) → slice_get xs k ≡ None → length xs ≤ k
none_past [] k h = omega arith
none_past (x ∷ xs) zero h = cc
none_past (x ∷ xs) (suc k) h = let r = none_past xs k h in omega (arith, r)

-- between two functions none begins
between : (n : ℕ) (rows : List FunRow) (k m : ℕ) (r s : FunRow) → AreRows n rows → slice_get rows k ≡ Some r → slice_get rows m ≡ Some s → r.from < s.from → end_in n (slice_get rows (suc k)) ≤ s.from
between n rows k m r s h e g l = go (slice_get rows (suc k)) refl
  where
    rise : RowsRise n 0 rows
    rise = rise_of n rows h

    later : k < m
    later = elim (le_or m k) [
      | inl q ↦ absurd (elim (below_or m k q) [
        | inl w ↦ let d = gap m k w in let z = rise_lt n 0 rows m d.0 s r rise g (ap (slice_get rows) d.1 ∙ e) in omega (arith, z, l)
        | inr w ↦ let z : Some s ≡ Some r = sym g ∙ ap (slice_get rows) w ∙ e in let y : s ≡ r = cc in let x = ap (λ (v : FunRow). v.from) y in omega (arith, x, l)
      ])
      | inr q ↦ q
    ]

    go : (o : Option FunRow) → slice_get rows (suc k) ≡ o → end_in n o ≤ s.from
    go None f = absurd (let z = slice_get_within rows m s g in let y = none_past rows (suc k) f in omega (arith, z, y, later))
    go (Some t) f = elim (below_or (suc k) m later) [
      | inl w ↦ let d = gap (suc k) m w in let z = rise_lt n 0 rows (suc k) d.0 t s rise f (ap (slice_get rows) d.1 ∙ g) in omega (arith, z)
      | inr w ↦ let z : Some t ≡ Some s = sym f ∙ ap (slice_get rows) w ∙ g in let y : t ≡ s = cc in let x = ap (λ (v : FunRow). v.from) y in omega (arith, x)
    ]

-- the places from the first of a function up to its end are the function's
owner_of : (n : ℕ) (rows : List FunRow) (k : ℕ) (r : FunRow) (p : ℕ) → AreRows n rows → slice_get rows k ≡ Some r → r.from ≤ p → p < end_in n (slice_get rows (suc k)) → owner rows p ≡ suc k
owner_of n rows k r zero h e a b = let z : r.from ≡ 0 = omega (arith, a) in ap (owner rows) (sym z) ∙ owner_first n rows k r h e
owner_of n rows k r (suc p) h e a b = elim (below_or r.from (suc p) a) [
  | inr w ↦ ap (owner rows) (sym w) ∙ owner_first n rows k r h e
  | inl w ↦ go (begun 0 rows (suc p)) refl w (owner_of n rows k r p h e (omega (arith, w)) (omega (arith, b)))
]
  where
    go : (c : ℕ) → begun 0 rows (suc p) ≡ c → r.from < suc p → owner rows p ≡ suc k → owner rows (suc p) ≡ suc k
    go zero f w ih = ap (λ z. first_of z (owner rows p)) f ∙ ih
    go (suc c) f w ih = let t = begun_row 0 rows (suc p) c f in
        let q = t.from in
        absurd (let z = between n rows k t.place r t.row h e t.there (omega (arith, q, w)) in omega (arith, z, q, b))

-- the heights of open catches do not fall
abbrev pub Stacked : ℕ → List Catching → Type 0
Stacked h [] = ⊤
Stacked h (c ∷ cs) = (c.height ≤ h) × Stacked c.height cs

floor_low : (a : ℕ) (cs : List Catching) → Stacked a cs → floor cs ≤ a
floor_low a [] h = omega arith
floor_low a (c ∷ cs) h = h.0

outer_low : (a : ℕ) (cs : List Catching) → Stacked a cs → floor (outer cs) ≤ floor cs
outer_low a [] h = omega arith
outer_low a (c ∷ cs) h = floor_low c.height cs h.1

stacked_more : (a b : ℕ) (cs : List Catching) → floor cs ≤ b → Stacked a cs → Stacked b cs
stacked_more a b [] l h = tt
stacked_more a b (c ∷ cs) l h = (l, h.1)

stacked_outer : (a : ℕ) (cs : List Catching) → Stacked a cs → Stacked a (outer cs)
stacked_outer a [] h = tt
stacked_outer a (c ∷ cs) h = stacked_more c.height a cs (let z = floor_low c.height cs h.1 in let y = h.0 in omega (arith, z, y)) h.1

stacked_after : (f : Shape) (n k : ℕ) (c : Change) (ys : List Exit) → n + floor f.catches ≤ f.height → Stacked f.height f.catches → OpensWell n ys c → Stacked (f.height - n + k) (changed c f.height f.catches)
stacked_after f n k Stay ys l h o = stacked_more f.height (f.height - n + k) f.catches (omega (arith, l)) h
stacked_after f n k Closes ys l h o = stacked_more f.height (f.height - n + k) (outer f.catches) (let z = outer_low f.height f.catches h in omega (arith, l, z)) (stacked_outer f.height f.catches h)
stacked_after f n k (Opens to) ys l h o = (let z = o.0 in omega (arith, z), h)

above_floor : (cs : List Catching) (n h : ℕ) → n ≤ h → IsAbove cs (h - n) → n + floor cs ≤ h
above_floor [] n h l a = omega (arith, l)
above_floor (c ∷ cs) n h l a = omega (arith, l, a)

takes_floor : (n : ℕ) (f : Shape) → Takes n f → n + floor f.catches ≤ f.height
takes_floor n f t = above_floor f.catches n f.height t.enough t.above

low_floor : (f : Shape) → Stacked f.height f.catches → 0 + floor f.catches ≤ f.height
low_floor f h = let z = floor_low f.height f.catches h in omega (arith, z)

abbrev pub AllMayChange : List Catching → List Exit → Type 0
AllMayChange cs [] = ⊤
AllMayChange cs (x ∷ xs) = (may_change x.change cs ≡ true) × AllMayChange cs xs

abbrev pub TableIs : Option SwitchRow → Option Table → Type 0
TableIs None t = t ≡ None
TableIs (Some r) t = t ≡ Some (table_of r)

-- What an instruction that is fine gives back.
pub record Fineness (p : RawProgram) (T : ℕ → Shape → Type 0) (at : ℕ) (f : Shape) (i : Instr) : Type 0 where
  pub enough : (effect_of i).takes + floor f.catches ≤ f.height
  pub reaches : Reaches T f (effect_of i) (exits p at (effect_of i))
  pub ends : (not (effect_of i).ends || is_none f.catches) ≡ true
  pub changes : AllMayChange f.catches (exits p at (effect_of i))

of_flow : (p : RawProgram) (parents : List (List (List ℕ))) (T : ℕ → Shape → Type 0) (at : ℕ) (f : Shape) (n k : ℕ) → Flows (code_of p parents) T n k at f → (n + floor f.catches ≤ f.height) × T (at + 1) (shape (f.height - n + k) f.catches)
of_flow p parents T at f n k h = (takes_floor n f h.takes, h.leads.reached)

cases_back : (p : RawProgram) (parents : List (List (List ℕ))) (T : ℕ → Shape → Type 0) (at : ℕ) (f g : Shape) (e : Effect) (cs : List Case) → g ≡ shape (f.height - e.takes + 0) f.catches → CasesLead (code_of p parents) T at g cs → Reaches T f e (map case_exit cs)
cases_back p parents T at f g e [] q h = tt
cases_back p parents T at f g e (c ∷ cs) q h = (subst (T (case_place c)) q h.0.reached, cases_back p parents T at f g e cs q h.1)

table_back : (rows : List SwitchRow) (k : ℕ) (o : Option SwitchRow) → slice_get rows k ≡ o → (t : Option Table) → slice_get (map table_of rows) k ≡ t → TableIs o t
table_back [] k None e t h = sym h
table_back [] k (Some r) e t h = cc
table_back (x ∷ rows) zero None e t h = cc
table_back (x ∷ rows) zero (Some r) e t h = let s : x ≡ r = cc in subst (λ z. TableIs (Some z) t) s (sym h)
table_back (x ∷ rows) (suc k) o e t h = table_back rows k o e t h

switch_back : (p : RawProgram) (parents : List (List (List ℕ))) (T : ℕ → Shape → Type 0) (at k : ℕ) (f g : Shape) (e : Effect) (o : Option SwitchRow) → slice_get p.switches k ≡ o → g ≡ shape (f.height - e.takes + 0) f.catches → TableLeads (code_of p parents) T at g (slice_get (map table_of p.switches) k) → Reaches T f e (row_exits o)
switch_back p parents T at k f g e None s q h = tt
switch_back p parents T at k f g e (Some r) s q h = let z = table_back p.switches k (Some r) s (slice_get (map table_of p.switches) k) refl in
    let y : TableLeads (code_of p parents) T at g (Some (table_of r)) = subst (TableLeads (code_of p parents) T at g) z h in
    (subst (T r.other) q y.1.reached, cases_back p parents T at f g e r.cases q y.0)

cases_change : (cs : List Catching) (xs : List Case) → AllMayChange cs (map case_exit xs)
cases_change cs [] = tt
cases_change cs (x ∷ xs) = (refl, cases_change cs xs)

row_change : (cs : List Catching) (o : Option SwitchRow) → AllMayChange cs (row_exits o)
row_change cs None = tt
row_change cs (Some r) = (refl, cases_change cs r.cases)

close_back : (p : RawProgram) (parents : List (List (List ℕ))) (T : ℕ → Shape → Type 0) (at h : ℕ) (cs : List Catching) → CatchCloses (code_of p parents) T at (shape h cs) cs → (may_change Closes cs ≡ true) × T (at + 1) (shape (h - 0 + 0) (outer cs))
close_back p parents T at h [] m = absurd m
close_back p parents T at h (c ∷ cs) m = (refl, subst (T (at + 1)) (same_shape h (h - 0 + 0) cs (omega arith)) m.reached)

none_so : (cs : List Catching) → cs ≡ [] → is_none cs ≡ true
none_so [] h = refl
none_so (c ∷ cs) h = cc

flow_back : (p : RawProgram) (parents : List (List (List ℕ))) (T : ℕ → Shape → Type 0) (at : ℕ) (f : Shape) (i : Instr) (n k : ℕ) → effect_of i ≡ flow n k → Flows (code_of p parents) T n k at f → Fineness p T at f i
flow_back p parents T at f i n k e h = let t = of_flow p parents T at f n k h in record {
  enough = subst (λ (z : Effect). z.takes + floor f.catches ≤ f.height) (sym e) t.0;
  reaches = subst (λ (z : Effect). Reaches T f z (exits p at z)) (sym e) (t.1, tt);
  ends = ap (λ (z : Effect). not z.ends || is_none f.catches) e;
  changes = subst (λ (z : Effect). AllMayChange f.catches (exits p at z)) (sym e) (refl, tt);
}

branch_back : (p : RawProgram) (T : ℕ → Shape → Type 0) (at : ℕ) (f : Shape) (i : Instr) (n k to j : ℕ) → effect_of i ≡ branch n k to j → n + floor f.catches ≤ f.height → T (at + 1) (shape (f.height - n + k) f.catches) → T to (shape (f.height - n + j) f.catches) → Fineness p T at f i
branch_back p T at f i n k to j e l a b = record {
  enough = subst (λ (z : Effect). z.takes + floor f.catches ≤ f.height) (sym e) l;
  reaches = subst (λ (z : Effect). Reaches T f z (exits p at z)) (sym e) (a, (b, tt));
  ends = ap (λ (z : Effect). not z.ends || is_none f.catches) e;
  changes = subst (λ (z : Effect). AllMayChange f.catches (exits p at z)) (sym e) (refl, (refl, tt));
}

to_shape : (T : ℕ → Shape → Type 0) (to a b : ℕ) (cs : List Catching) → a ≡ b → T to (shape a cs) → T to (shape b cs)
to_shape T to a b cs e h = subst (T to) (same_shape a b cs e) h

-- an instruction that is fine finds what it takes, and leads where it should
back : (p : RawProgram) (parents : List (List (List ℕ))) (T : ℕ → Shape → Type 0) (at : ℕ) (f : Shape) (i : Instr) → Stacked f.height f.catches → IsFine (code_of p parents) T i at f → Fineness p T at f i
back p parents T at f (PushInt z) s h = flow_back p parents T at f (PushInt z) 0 1 refl h
back p parents T at f (PushText k) s h = flow_back p parents T at f (PushText k) 0 1 refl h
back p parents T at f (PushLocal k) s h = flow_back p parents T at f (PushLocal k) 0 1 refl h
back p parents T at f (SetLocal k) s h = flow_back p parents T at f (SetLocal k) 1 1 refl h
back p parents T at f (PushGlobal k) s h = flow_back p parents T at f (PushGlobal k) 0 1 refl h
back p parents T at f (SetGlobal k) s h = flow_back p parents T at f (SetGlobal k) 1 1 refl h
back p parents T at f Pop s h = flow_back p parents T at f Pop 1 0 refl h
back p parents T at f Dup s h = flow_back p parents T at f Dup 1 2 refl h
back p parents T at f Dup2 s h = flow_back p parents T at f Dup2 2 4 refl h
back p parents T at f (Unary op) s h = flow_back p parents T at f (Unary op) 1 1 refl h
back p parents T at f (Binary op) s h = flow_back p parents T at f (Binary op) 2 1 refl h
back p parents T at f (Step op) s h = flow_back p parents T at f (Step op) 1 1 refl h
back p parents T at f (Rotate n) s h = flow_back p parents T at f (Rotate n) n n refl h
back p parents T at f (Index e) s h = flow_back p parents T at f (Index e) 2 1 refl h
back p parents T at f (SetIndex e) s h = flow_back p parents T at f (SetIndex e) 3 1 refl h
back p parents T at f (Range x y) s h = flow_back p parents T at f (Range x y) (1 + end_count x + end_count y) 1 refl h
back p parents T at f (MakeArray n) s h = flow_back p parents T at f (MakeArray n) n 1 refl h
back p parents T at f (MakeMap n) s h = flow_back p parents T at f (MakeMap n) (2 * n) 1 refl h
back p parents T at f (Jump to) s h = record { enough = low_floor f s; reaches = (to_shape T to f.height (f.height - 0 + 0) f.catches (omega arith) h.reached, tt); ends = refl; changes = (refl, tt) }
back p parents T at f (JumpIfZero to) s h = let t = of_flow p parents T at f 1 0 h.0 in branch_back p T at f (JumpIfZero to) 1 0 to 0 refl t.0 t.1 (to_shape T to (f.height - 1) (f.height - 1 + 0) f.catches (omega arith) h.1.reached)
back p parents T at f (JumpIfNotZero to) s h = let t = of_flow p parents T at f 1 0 h.0 in branch_back p T at f (JumpIfNotZero to) 1 0 to 0 refl t.0 t.1 (to_shape T to (f.height - 1) (f.height - 1 + 0) f.catches (omega arith) h.1.reached)
back p parents T at f (KeepIfZero to) s h = let t = of_flow p parents T at f 1 0 h.0 in branch_back p T at f (KeepIfZero to) 1 0 to 1 refl t.0 t.1 (to_shape T to f.height (f.height - 1 + 1) f.catches (let l = t.0 in omega (arith, l)) h.1.reached)
back p parents T at f (KeepIfNotZero to) s h = let t = of_flow p parents T at f 1 0 h.0 in branch_back p T at f (KeepIfNotZero to) 1 0 to 1 refl t.0 t.1 (to_shape T to f.height (f.height - 1 + 1) f.catches (let l = t.0 in omega (arith, l)) h.1.reached)
back p parents T at f LoopTurn s h = flow_back p parents T at f LoopTurn 0 0 refl h
back p parents T at f (CallSlot k n) s h = flow_back p parents T at f (CallSlot k n) n 1 refl h
back p parents T at f (CallFixed parent j n) s h = flow_back p parents T at f (CallFixed parent j n) n 1 refl h
back p parents T at f (CallOther n) s h = flow_back p parents T at f (CallOther n) (n + 2) 1 refl h
back p parents T at f (CallEfun e n) s h = flow_back p parents T at f (CallEfun e n) n 1 refl h
back p parents T at f (CallSimul k n) s h = flow_back p parents T at f (CallSimul k n) n 1 refl h
back p parents T at f (Scan n) s h = flow_back p parents T at f (Scan n) 2 (2 * n + 1) refl h
back p parents T at f (CatchBegin to) s h = record {
  enough = low_floor f s;
  reaches = (to_shape T (at + 1) f.height (f.height - 0 + 0) (record { place = to; height = f.height } ∷ f.catches) (omega arith) h.0.reached, (to_shape T to (f.height + 1) (f.height - 0 + 1) f.catches (omega arith) h.1.reached, tt));
  ends = refl;
  changes = (refl, (refl, tt));
}
back p parents T at f CatchEnd s h = let t = close_back p parents T at f.height f.catches h in record { enough = low_floor f s; reaches = (t.1, tt); ends = refl; changes = (t.0, tt) }
back p parents T at f (Switch k) s h = record {
  enough = takes_floor 1 f h.0;
  reaches = switch_back p parents T at k f (shape (f.height - 1) f.catches) (effect_of (Switch k)) (slice_get p.switches k) refl (same_shape (f.height - 1) (f.height - 1 + 0) f.catches (omega arith)) h.1;
  ends = refl;
  changes = row_change f.catches (slice_get p.switches k);
}
back p parents T at f (EachBegin n) s h = flow_back p parents T at f (EachBegin n) 1 2 refl h
back p parents T at f (EachNext to n) s h = let t = of_flow p parents T at f 2 0 h.0 in branch_back p T at f (EachNext to n) 2 0 to (n + 2) refl t.0 t.1 (to_shape T to (f.height + n) (f.height - 2 + (n + 2)) f.catches (let l = t.0 in omega (arith, l)) h.1.reached)
back p parents T at f Return s h = record { enough = takes_floor 1 f h.0; reaches = tt; ends = none_so f.catches h.1; changes = tt }
back p parents T at f ReturnZero s h = record { enough = low_floor f s; reaches = tt; ends = none_so f.catches h; changes = tt }

-- tables of parents in which each call finds its row
rows_needed : Option Instr → ℕ
rows_needed (Some (CallFixed parent j n)) = suc j
rows_needed _ = 0

all_needed : List Instr → ℕ
all_needed [] = 0
all_needed (i ∷ is) = rows_needed (Some i) + all_needed is

needed_at : (is : List Instr) (at parent j n : ℕ) → slice_get is at ≡ Some (CallFixed parent j n) → j < all_needed is
unfolding rows_needed all_needed
needed_at [] at parent j n e = cc
needed_at (i ∷ is) zero parent j n e = let s : i ≡ CallFixed parent j n = cc in let z = ap (λ (x : Instr). rows_needed (Some x)) s in omega (arith, z)
needed_at (i ∷ is) (suc at) parent j n e = let r = needed_at is at parent j n e in omega (arith, r)

get_replicate : {A : Type 0} (n k : ℕ) (x : A) → k < n → slice_get (replicate n x) k ≡ Some x
get_replicate zero k x l = absurd (omega (arith, l))
get_replicate (suc n) zero x l = refl
get_replicate (suc n) (suc k) x l = get_replicate n k x (omega (arith, l))

some_parents : RawProgram → List (List (List ℕ))
some_parents p = replicate (length p.tables.parents) (replicate (all_needed p.instrs) [])

finds : (p : RawProgram) → ((at : ℕ) (i : Instr) → slice_get p.instrs at ≡ Some i → stands p at i ≡ true) → FindsRows p (some_parents p)
unfolding some_parents
finds p h at parent j n e =
    let t = and_left (nat_lt parent (length p.tables.parents)) (jumps_stand p at []) (h at (CallFixed parent j n) e) in
    let row = get_replicate (length p.tables.parents) parent (replicate (all_needed p.instrs) []) (ltb-true parent (length p.tables.parents) t) in
    let name = get_replicate (all_needed p.instrs) j [] (needed_at p.instrs at parent j n e) in
    ap (λ z. is_some (slice_get (or_none z) j)) row ∙ ap is_some name

-- a function of a sound program
pub record Fun (p : RawProgram) (k : ℕ) : Type 0 where
  pub row : FunRow
  pub there : slice_get p.funs k ≡ Some row
  pub function : IsFunction p k row

pick : (p : RawProgram) → AreFunctions p → (k : ℕ) → (o : Option FunRow) → slice_get p.funs k ≡ o → Option (Fun p k)
pick p h k None e = None
pick p h k (Some r) e = Some (record { row = r; there = e; function = h k r e })

picked : (p : RawProgram) → AreFunctions p → (k : ℕ) → Option (Fun p k)
picked p h k = pick p h k (slice_get p.funs k) refl

pick_some : (p : RawProgram) (h : AreFunctions p) (k : ℕ) (o : Option FunRow) (q : slice_get p.funs k ≡ o) (r : FunRow) → o ≡ Some r → pick p h k o q ≡ None → ⊥
unfolding pick
pick_some p h k None q r e g = cc
pick_some p h k (Some s) q r e g = cc

-- a place as the shapes of its function say
record Shaped (p : RawProgram) (h : AreFunctions p) (at : ℕ) (f : Shape) : Type 0 where
  number : ℕ
  fun : Fun p number
  is : picked p h number ≡ Some fun
  said : fun.function.shapes at ≡ Some f
  stacked : Stacked f.height f.catches

ShapedAs : (p : RawProgram) → AreFunctions p → ℕ → Known → Type 0
ShapedAs p h at Never = ⊥
ShapedAs p h at (Once f) = Shaped p h at f
ShapedAs p h at Mixed = ⊥

sound_of : (p : RawProgram) (h : IsProgram p) (k : ℕ) (x : Fun p k) → IsSound (code_of p (some_parents p)) (bounds_of p x.row) x.row.from (end_of p k) x.function.shapes
sound_of p h k x = x.function.sound (some_parents p) (finds p h.inside)

end_low : (p : RawProgram) (k : ℕ) → AreRows (length p.instrs) p.funs → end_of p k ≤ length p.instrs
end_low p k h = go (slice_get p.funs (suc k)) refl
  where
    go : (o : Option FunRow) → slice_get p.funs (suc k) ≡ o → end_in (length p.instrs) o ≤ length p.instrs
    go None e = omega arith
    go (Some r) e = let z = (rise_in (length p.instrs) 0 p.funs (suc k) r (rise_of (length p.instrs) p.funs h) e).1 in omega (arith, z)

-- the shapes of a function speak of its own places
own_place : (p : RawProgram) (h : IsProgram p) (k : ℕ) (x : Fun p k) (at : ℕ) (f : Shape) → x.function.shapes at ≡ Some f → (owner p.funs at ≡ suc k) × (at < length p.instrs)
own_place p h k x at f e = let s = (sound_of p h k x).inside at f e in let l = end_low p k h.rows in
    (owner_of (length p.instrs) p.funs k x.row at h.rows x.there s.0 s.1, let m = s.1 in omega (arith, m, l))

same_fun : (p : RawProgram) (h : AreFunctions p) (at n m : ℕ) (a : Fun p n) (b : Fun p m) → n ≡ m → picked p h n ≡ Some a → picked p h m ≡ Some b → a.function.shapes at ≡ b.function.shapes at
same_fun p h at n m a b e f g = let P : ℕ → Type 0 = λ z. (c : Fun p z) → picked p h z ≡ Some c → a.function.shapes at ≡ c.function.shapes at in
    subst P e (λ c q. let s : Some a ≡ Some c = sym f ∙ q in let t : a ≡ c = cc in ap (λ (z : Fun p n). z.function.shapes at) t) b g

record StartRow (rows : List FunRow) (n at : ℕ) : Type 0 where
  number : ℕ
  row : FunRow
  there : slice_get rows number ≡ Some row
  from : row.from ≡ at

start_row : (n : ℕ) (rows : List FunRow) (at : ℕ) → Contains (starts_in n rows) at → StartRow rows n at
start_row n [] at (k, l, e) = absurd (omega (arith, l))
start_row n (r ∷ rs) at c = go (nat_lt r.from n) c (λ d. start_row n rs at d)
  where
    next : StartRow rs n at → StartRow (r ∷ rs) n at
    next t = record { number = suc t.number; row = t.row; there = t.there; from = t.from }

    go : (b : Bool) → Contains (cond b (r.from ∷ []) [] ++ starts_in n rs) at → (Contains (starts_in n rs) at → StartRow rs n at) → StartRow (r ∷ rs) n at
    go true (zero, l, e) ih = record { number = 0; row = r; there = refl; from = e }
    go true (suc k, l, e) ih = next (ih (k, omega (arith, l), e))
    go false d ih = next (ih d)

record ReachedBy (T : ℕ → Shape → Type 0) (n : ℕ) (all : List Exit) (f : Shape) (e : Effect) (w : Way) : Type 0 where
  exit : Exit
  is : once_at f e exit ≡ w
  reached : T exit.to (after f e exit)
  opens : OpensWell n all exit.change

reach_in : (p : RawProgram) (at : ℕ) (T : ℕ → Shape → Type 0) (n : ℕ) (all : List Exit) (f : Shape) (e : Effect) (xs : List Exit) (w : Way) → Reaches T f e xs → AllOpenWell n all xs → Contains (leads p at (Once f) e xs) w → ReachedBy T n all f e w
reach_in p at T n all f e [] w r o (k, l, s) = absurd (omega (arith, l))
reach_in p at T n all f e (x ∷ xs) w r o (zero, l, s) = record { exit = x; is = s; reached = r.0; opens = o.0 }
reach_in p at T n all f e (x ∷ xs) w r o (suc k, l, s) = reach_in p at T n all f e xs w r.1 o.1 (k, omega (arith, l), s)

-- what is known behind a place that is as the shapes say
edge : (p : RawProgram) (h : IsProgram p) (q : ℕ) (k : Known) (w : Way) → ShapedAs p h.functions q k → Contains (ways p q k) w → ShapedAs p h.functions w.to w.known
unfolding ways ShapedAs
edge p h q Never w s c = absurd s
edge p h q Mixed w s c = absurd s
edge p h q (Once f) w s c =
    let x = (sound_of p h s.number s.fun).well q f s.said in
    let fi = back p (some_parents p) (By s.fun.function.shapes) q f x.instr s.stacked x.fine in
    let P : List Way → Type 0 = λ ws. Contains ws w in
    let d = cond_true (holds p q f x.instr) (leads p q (Once f) (effect_of x.instr) (exits p q (effect_of x.instr))) w (subst P (ap (ways_from p q (Once f)) x.is) c) in
    let r = reach_in p q (By s.fun.function.shapes) (effect_of x.instr).takes (exits p q (effect_of x.instr)) f (effect_of x.instr) (exits p q (effect_of x.instr)) w fi.reaches (all_open p q x.instr) d.1 in
    let Q : Way → Type 0 = λ v. ShapedAs p h.functions v.to v.known in
    subst Q r.is (record {
      number = s.number;
      fun = s.fun;
      is = s.is;
      said = r.reached;
      stacked = stacked_after f (effect_of x.instr).takes r.exit.leaves r.exit.change (exits p q (effect_of x.instr)) fi.enough s.stacked r.opens;
    })

begun_shaped : (p : RawProgram) (h : IsProgram p) (at j : ℕ) (r : FunRow) → slice_get p.funs j ≡ Some r → r.from ≡ at → Shaped p h.functions at begin_shape
unfolding picked
begun_shaped p h at j r e f = from_pick (picked p h.functions j) refl
  where
    made : (x : Fun p j) → picked p h.functions j ≡ Some x → x.row ≡ r → Shaped p h.functions at begin_shape
    made x i s = record {
      number = j;
      fun = x;
      is = i;
      said = (let P : ℕ → Type 0 = λ q. x.function.shapes q ≡ Some begin_shape in subst P (ap (λ (z : FunRow). z.from) s ∙ f) (sound_of p h j x).begins);
      stacked = tt;
    }

    from_pick : (y : Option (Fun p j)) → picked p h.functions j ≡ y → Shaped p h.functions at begin_shape
    from_pick None g = absurd (pick_some p h.functions j (slice_get p.funs j) refl r e g)
    from_pick (Some x) g = made x g (let z : Some x.row ≡ Some r = sym x.there ∙ e in cc)

shaped : (p : RawProgram) (h : IsProgram p) (at : ℕ) (k : Known) → Learned (ways p) (starts p) at k → ShapedAs p h.functions at k
unfolding ShapedAs picked pick
shaped p h at k (begins c) = let t = start_row (length p.instrs) p.funs at c in begun_shaped p h at t.number t.row t.there t.from
shaped p h at k (on {p = q} {k = j} {w = w} l c) = edge p h q j w (shaped p h q j l) c
shaped p h at k (two {a = a} {b = b} x y n) =
    let s = shaped p h at (Once a) x in
    let t = shaped p h at (Once b) y in
    let i = (own_place p h s.number s.fun at a s.said).0 in
    let j = (own_place p h t.number t.fun at b t.said).0 in
    let e : s.number ≡ t.number = omega (arith, i, j) in
    let z : Some a ≡ Some b = sym s.said ∙ same_fun p h.functions at s.number t.number s.fun t.fun e s.is t.is ∙ t.said in
    n cc

not_lt : (a b : ℕ) → b ≤ a → not (nat_lt a b) ≡ true
not_lt a b l = go (nat_lt a b) refl
  where
    go : (c : Bool) → nat_lt a b ≡ c → not (nat_lt a b) ≡ true
    go true e = absurd (let z = ltb-true a b e in omega (arith, z, l))
    go false e = ap not e

exits_ok : (p : RawProgram) (h : IsProgram p) (k : ℕ) (x : Fun p k) (at : ℕ) (f : Shape) (e : Effect) (xs : List Exit) → owner p.funs at ≡ suc k → Reaches (By x.function.shapes) f e xs → AllMayChange f.catches xs → exits_hold p at f e xs ≡ true
exits_ok p h k x at f e [] o r m = refl
exits_ok p h k x at f e (y ∷ ys) o r m =
    let q = own_place p h k x y.to (after f e y) r.0 in
    let l = (sound_of p h k x).low y.to (after f e y) r.0 in
    and_both (exit_holds p at f e y) (exits_hold p at f e ys)
    (and_both _ _ (and_both _ _ (and_both _ _ (lt_true y.to (length p.instrs) q.1) (eq-eqb (owner p.funs y.to) (owner p.funs at) (q.0 ∙ sym o))) (not_lt p.max_height (after f e y).height l)) m.0)
    (exits_ok p h k x at f e ys o r.1 m.1)

shaped_holds : (p : RawProgram) (h : IsProgram p) (at : ℕ) (f : Shape) (i : Instr) → Shaped p h.functions at f → slice_get p.instrs at ≡ Some i → holds p at f i ≡ true
shaped_holds p h at f i s e =
    let x = (sound_of p h s.number s.fun).well at f s.said in
    let z : Some x.instr ≡ Some i = sym x.is ∙ e in
    let same : x.instr ≡ i = cc in
    let fi = back p (some_parents p) (By s.fun.function.shapes) at f x.instr s.stacked x.fine in
    let o = (own_place p h s.number s.fun at f s.said).0 in
    let l = (sound_of p h s.number s.fun).low at f s.said in
    let P : Instr → Type 0 = λ j. flows p at f (effect_of j) ≡ true in
    and_both (stands p at i) (flows p at f (effect_of i)) (h.inside at i e)
    (subst P same (and_both _ _ (and_both _ _ (and_both _ _ (not_lt p.max_height f.height l) (not_lt f.height ((effect_of x.instr).takes + floor f.catches) fi.enough))
    (exits_ok p h s.number s.fun at f (effect_of x.instr) (exits p at (effect_of x.instr)) o fi.reaches fi.changes)) fi.ends))

no_bad : (b : Bool) → b ≡ true → not b ≡ true → ⊥
no_bad true h g = cc
no_bad false h g = cc

-- no instruction of a sound program fails
pub none_fails : (p : RawProgram) → IsProgram p → (at : ℕ) → Fails p at → ⊥
unfolding bad ShapedAs
none_fails p h at (inl g) = go (slice_get p.instrs at) refl g
  where
    go : (o : Option Instr) → slice_get p.instrs at ≡ o → is_bad p at Never o ≡ true → ⊥
    go None e g = cc
    go (Some i) e g = no_bad (stands p at i) (h.inside at i e) g
none_fails p h at (inr (k, l, g)) = by k (shaped p h at k l) (slice_get p.instrs at) refl g
  where
    by : (k : Known) → ShapedAs p h.functions at k → (o : Option Instr) → slice_get p.instrs at ≡ o → is_bad p at k o ≡ true → ⊥
    by k s None e g = cc
    by Never s (Some i) e g = s
    by (Once f) s (Some i) e g = no_bad (holds p at f i) (shaped_holds p h at f i s e) g
    by Mixed s (Some i) e g = s

-- what fails stands inside
pub fails_inside : (p : RawProgram) (at : ℕ) → Fails p at → at < length p.instrs
unfolding bad
fails_inside p at (inl g) = go (slice_get p.instrs at) refl g
  where
    go : (o : Option Instr) → slice_get p.instrs at ≡ o → is_bad p at Never o ≡ true → at < length p.instrs
    go None e g = cc
    go (Some i) e g = slice_get_within p.instrs at i e
fails_inside p at (inr (k, l, g)) = go (slice_get p.instrs at) refl g
  where
    go : (o : Option Instr) → slice_get p.instrs at ≡ o → is_bad p at k o ≡ true → at < length p.instrs
    go None e g = cc
    go (Some i) e g = slice_get_within p.instrs at i e
