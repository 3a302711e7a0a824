-- Where no instruction fails, each function is sound.
use Rattle.std.proofs.Common.{◌≡◌, ◌≤◌, ◌<◌, ℕ, zero, suc, ◌+◌, ◌-◌, inl, inr, refl, sym, ◌∙◌, ap, subst, arith, Bool, true, false, not, cond, nat_lt, nat_le, nat_eq, List, [], ◌∷◌, ◌++◌, Contains, length, map, Option, Some, None, slice_get}
use Rattle.std.specs.Prelude.{⊤, IsSome, is_some}
use Rattle.std.proofs.lemmas.Bool.{ltb-true, ltb-false, leb-true, eq-eqb, eqb-true}
use Rattle.std.proofs.lemmas.List.{length-map}
use Rattle.std.proofs.lemmas.Option.{slice_get_within}
use Rattle.std.proofs.lemmas.List.Elements.{Contains-append_right}
use Rattle.lp_instr.specs.declared.efun.Efun.{Efun}
use Rattle.lp_instr.specs.EfunList.{Allows, IsAtMost, arity}
use Rattle.lp_instr.specs.declared.instr.Instr.{Instr}
use Rattle.lp_instr.specs.declared.instr.Instr.TheVariants.{PushText, PushLocal, SetLocal, PushGlobal, SetGlobal, Rotate, CallSlot, CallFixed, CallEfun, CallSimul, Switch, EachBegin, EachNext, CatchBegin, Jump, JumpIfZero, JumpIfNotZero, KeepIfZero, KeepIfNotZero, Return, ReturnZero}
use Rattle.lp_instr.specs.declared.instr.Case.{Case}
use Rattle.lp_instr.specs.Code.{Catching}
use Rattle.lp_instr.specs.Sound.{Shape, shape, Shapes, By, CatchLeads, IsNamed, IsReachedWell, IsSound}
use Rattle.lp_code.specs.declared.program.RawProgram.{RawProgram}
use Rattle.lp_code.specs.declared.program.FunRow.{FunRow}
use Rattle.lp_code.specs.declared.program.SwitchRow.{SwitchRow}
use Rattle.lp_code.specs.declared.tables.Slot.{Slot}
use Rattle.lp_code.specs.Owners.{owner, AreRows, end_of, locals_at}
use Rattle.lp_code.specs.Inside.{is_at_most, is_allowed, is_named, row_has_texts, stands}
use Rattle.lp_code.specs.Programs.{code_of, bounds_of, table_of, FindsRows, IsFunction}
use Rattle.lp_verify.specs.declared.effect.Change.{Change}
use Rattle.lp_verify.specs.declared.effect.Change.TheVariants.{Stay, Opens, Closes}
use Rattle.lp_verify.specs.declared.effect.Effect.{Effect}
use Rattle.lp_verify.specs.declared.effect.Exit.{Exit}
use Rattle.lp_verify.specs.Effects.{effect_of}
use Rattle.lp_verify.specs.Fails.{is_bad, bad, NoneFails}
use Rattle.lp_verify.specs.Flow.{after, changed, exit, exits, exit_holds, exits_hold, flows, holds, is_within, leads, once_at, outer, row_exits, case_exit, starts, starts_in, ways, ways_from}
use Rattle.lp_verify.specs.Paths.{Known, Never, Once, Mixed, Fits, Way, Learned, begins, on, two, at as known_at, begin_shape}
use Rattle.lp_verify.specs.Work.{IsAll, IsLearned}
use Rattle.lp_verify.proofs.Fine.{and_left, and_right, held_from, Reaches, fine}
use Rattle.lp_verify.proofs.Owning.{owner_first, owner_from, owner_end, locals_of, row_inside}
use Rattle.lp_verify.proofs.Steady.{held_exits}

pub some_at : {A : Type 0} (xs : List A) (k : ℕ) → k < length xs → (x : A) × (slice_get xs k ≡ Some x)
some_at [] k h = absurd (omega (arith, h))
some_at (x ∷ xs) zero h = (x, refl)
some_at (x ∷ xs) (suc k) h = some_at xs k (omega (arith, h))

is_there : {A : Type 0} (xs : List A) (k : ℕ) → nat_lt k (length xs) ≡ true → IsSome (slice_get xs k)
is_there xs k h = ap is_some (some_at xs k (ltb-true k (length xs) h)).1

map_there : {A B : Type 0} (f : A → B) (xs : List A) (k : ℕ) → nat_lt k (length xs) ≡ true → IsSome (slice_get (map f xs) k)
map_there f xs k h = is_there (map f xs) k (ap (nat_lt k) (length-map xs f) ∙ h)

pub lt_true : (a b : ℕ) → a < b → nat_lt a b ≡ true
lt_true a b l = go (nat_lt a b) refl
  where
    go : (c : Bool) → nat_lt a b ≡ c → nat_lt a b ≡ true
    go true f = f
    go false f = absurd (let z = ltb-false a b f in omega (arith, z, l))

le_true : (a b : ℕ) → nat_le a b ≡ true → a ≤ b
le_true a b h = leb-true a b h

allowed : (e : Efun) (n : ℕ) → is_allowed e n ≡ true → Allows e n
allowed e n h = (le_true (arity e).least n (and_left (nat_le (arity e).least n) (is_at_most n (arity e).most) h), most (arity e).most (and_right (nat_le (arity e).least n) (is_at_most n (arity e).most) h))
  where
    most : (m : Option ℕ) → is_at_most n m ≡ true → IsAtMost n m
    most None h = tt
    most (Some m) h = le_true n m h

switch_there : (rows : List SwitchRow) (k n : ℕ) (o : Option SwitchRow) → slice_get rows k ≡ o → row_has_texts n o ≡ true → IsSome (slice_get (map table_of rows) k)
switch_there rows k n None e h = cc
switch_there rows k n (Some r) e h = map_there table_of rows k (lt_true k (length rows) (slice_get_within rows k r e))

-- what an instruction names is there
named_fine : (p : RawProgram) (parents : List (List (List ℕ))) (at : ℕ) (r : FunRow) (i : Instr) → FindsRows p parents → slice_get p.instrs at ≡ Some i → locals_at p at ≡ r.locals → is_named p at i ≡ true
    → IsNamed (code_of p parents) (bounds_of p r) i
named_fine p parents at r (PushText k) f e l h = is_there p.consts k h
named_fine p parents at r (PushLocal k) f e l h = let z = ltb-true k (locals_at p at) h in omega (arith, z, l)
named_fine p parents at r (SetLocal k) f e l h = let z = ltb-true k (locals_at p at) h in omega (arith, z, l)
named_fine p parents at r (PushGlobal k) f e l h = ltb-true k (length p.tables.vars) h
named_fine p parents at r (SetGlobal k) f e l h = ltb-true k (length p.tables.vars) h
named_fine p parents at r (Rotate n) f e l h = le_true 1 n h
named_fine p parents at r (CallSlot k n) f e l h = map_there (λ (s : Slot). s.name) p.tables.slots k h
named_fine p parents at r (CallFixed parent j n) f e l h = f at parent j n e
named_fine p parents at r (CallEfun x n) f e l h = allowed x n h
named_fine p parents at r (CallSimul k n) f e l h = is_there p.consts k h
named_fine p parents at r (Switch k) f e l h = switch_there p.switches k (length p.consts) (slice_get p.switches k) refl h
named_fine p parents at r (EachBegin n) f e l h = (le_true 1 n (and_left (nat_le 1 n) (nat_le n 2) h), le_true n 2 (and_right (nat_le 1 n) (nat_le n 2) h))
named_fine p parents at r (EachNext to n) f e l h = (le_true 1 n (and_left (nat_le 1 n) (nat_le n 2) h), le_true n 2 (and_right (nat_le 1 n) (nat_le n 2) h))
named_fine p parents at r _ f e l h = tt

abbrev pub shape_said : Known → Option Shape
shape_said Never = None
shape_said (Once f) = Some f
shape_said Mixed = None

-- the shapes in a function, of what is known
abbrev pub shapes_in : RawProgram → List Known → ℕ → Shapes
shapes_in p xs k at = cond (nat_eq (owner p.funs at) (suc k)) (shape_said (known_at xs at)) None

said_in : (p : RawProgram) (xs : List Known) (k at : ℕ) (f : Shape) → owner p.funs at ≡ suc k → known_at xs at ≡ Once f → shapes_in p xs k at ≡ Some f
said_in p xs k at f o e = ap (λ c. cond c (shape_said (known_at xs at)) None) (eq-eqb (owner p.funs at) (suc k) o) ∙ ap shape_said e

in_said : (p : RawProgram) (xs : List Known) (k at : ℕ) (f : Shape) → shapes_in p xs k at ≡ Some f → (owner p.funs at ≡ suc k) × (known_at xs at ≡ Once f)
in_said p xs k at f e = go (nat_eq (owner p.funs at) (suc k)) refl e
  where
    said : (y : Known) → shape_said y ≡ Some f → y ≡ Once f
    said Never h = cc
    said (Once g) h = let s : g ≡ f = cc in ap Once s
    said Mixed h = cc

    go : (c : Bool) → nat_eq (owner p.funs at) (suc k) ≡ c → cond c (shape_said (known_at xs at)) None ≡ Some f → (owner p.funs at ≡ suc k) × (known_at xs at ≡ Once f)
    go true q h = (eqb-true (owner p.funs at) (suc k) q, said (known_at xs at) h)
    go false q h = cc

-- All is known, and no instruction fails.
pub record Clean (p : RawProgram) (xs : List Known) : Type 0 where
  pub all : IsAll (ways p) (starts p) xs
  pub size : length xs ≡ length p.instrs
  pub none : NoneFails p (length p.instrs)

not_mixed : (p : RawProgram) (xs : List Known) (q : ℕ) → Clean p xs → q < length p.instrs → Learned (ways p) (starts p) q Mixed → ⊥
unfolding bad
not_mixed p xs q h l m = h.none q l (inr (Mixed, m, let s = some_at p.instrs q l in ap (is_bad p q Mixed) s.1))

learned_at : (p : RawProgram) (xs : List Known) (q : ℕ) (k : Known) → known_at xs q ≡ k → IsAll (ways p) (starts p) xs → IsLearned (ways p) (starts p) q k
learned_at p xs q k e h = let P : Known → Type 0 = λ z. IsLearned (ways p) (starts p) q z in subst P e (h.learned q)

-- what was learned is what is known
once_said : (p : RawProgram) (xs : List Known) (q : ℕ) (f : Shape) → Clean p xs → q < length p.instrs → Learned (ways p) (starts p) q (Once f) → known_at xs q ≡ Once f
once_said p xs q f h l m = go (known_at xs q) refl (h.all.whole q (Once f) m)
  where
    go : (k : Known) → known_at xs q ≡ k → Fits (Once f) k → known_at xs q ≡ Once f
    go Never e g = absurd g
    go (Once g) e s = e ∙ ap Once (sym s)
    go Mixed e g = absurd (not_mixed p xs q h l (learned_at p xs q Mixed e h.all))

not_false : (b : Bool) → (not b ≡ true → ⊥) → b ≡ true
not_false true h = refl
not_false false h = absurd (h refl)

-- of an instruction that is reached all holds
once_holds : (p : RawProgram) (xs : List Known) (q : ℕ) (f : Shape) (i : Instr) → Clean p xs → q < length p.instrs → slice_get p.instrs q ≡ Some i → Learned (ways p) (starts p) q (Once f) → holds p q f i ≡ true
unfolding bad
once_holds p xs q f i h l e m = not_false (holds p q f i) (λ b. h.none q l (inr (Once f, m, ap (is_bad p q (Once f)) e ∙ b)))

within_of : (p : RawProgram) (q to : ℕ) → is_within p q to ≡ true → (to < length p.instrs) × (owner p.funs to ≡ owner p.funs q)
within_of p q to h = (ltb-true to (length p.instrs) (and_left (nat_lt to (length p.instrs)) _ h), eqb-true (owner p.funs to) (owner p.funs q) (and_right (nat_lt to (length p.instrs)) _ h))

exit_within : (p : RawProgram) (q : ℕ) (f : Shape) (e : Effect) (x : Exit) → exit_holds p q f e x ≡ true → is_within p q x.to ≡ true
exit_within p q f e x h = and_left _ _ (and_left _ _ h)

once_way : (p : RawProgram) (q : ℕ) (f : Shape) (i : Instr) (w : Way) → slice_get p.instrs q ≡ Some i → holds p q f i ≡ true → Contains (leads p q (Once f) (effect_of i) (exits p q (effect_of i))) w → Contains (ways p q (Once f)) w
unfolding ways
once_way p q f i w e h c = let P : List Way → Type 0 = λ z. Contains z w in
    subst P (ap (λ b. cond b (leads p q (Once f) (effect_of i) (exits p q (effect_of i))) []) (sym h) ∙ ap (ways_from p q (Once f)) (sym e)) c

-- each exit is reached
reaches : (p : RawProgram) (xs : List Known) (k q : ℕ) (f : Shape) (e : Effect) (ys : List Exit) → Clean p xs → owner p.funs q ≡ suc k → exits_hold p q f e ys ≡ true
    → ((w : Way) → Contains (leads p q (Once f) e ys) w → Learned (ways p) (starts p) w.to w.known) → Reaches (By (shapes_in p xs k)) f e ys
reaches p xs k q f e [] h o t g = tt
reaches p xs k q f e (y ∷ ys) h o t g =
    let w = within_of p q y.to (exit_within p q f e y (and_left (exit_holds p q f e y) (exits_hold p q f e ys) t)) in (
      said_in p xs k y.to (after f e y) (w.1 ∙ o) (once_said p xs y.to (after f e y) h w.0 (g (once_at f e y) (0, omega arith, refl))),
      reaches p xs k q f e ys h o (and_right (exit_holds p q f e y) (exits_hold p q f e ys) t) (λ v c. g v (suc c.0, omega (arith, c.1), c.2)),
    )

-- What each open catch of a place leads to was learned in its function.
abbrev pub CatchesLead : RawProgram → ℕ → List Catching → Type 0
CatchesLead p q [] = ⊤
CatchesLead p q (c ∷ cs) = Learned (ways p) (starts p) c.place (Once (shape (c.height + 1) cs)) × (c.place < length p.instrs) × (owner p.funs c.place ≡ owner p.funs q) × CatchesLead p q cs

catches_move : (p : RawProgram) (q to : ℕ) (cs : List Catching) → owner p.funs to ≡ owner p.funs q → CatchesLead p q cs → CatchesLead p to cs
catches_move p q to [] e h = tt
catches_move p q to (c ∷ cs) e h = (h.0, h.1, h.2 ∙ sym e, catches_move p q to cs e h.3)

catches_outer : (p : RawProgram) (q : ℕ) (cs : List Catching) → CatchesLead p q cs → CatchesLead p q (outer cs)
catches_outer p q [] h = tt
catches_outer p q (c ∷ cs) h = h.3

-- what opens a catch also leads where the catch goes on
abbrev pub OpensWell : ℕ → List Exit → Change → Type 0
OpensWell n all Stay = ⊤
OpensWell n all Closes = ⊤
OpensWell n all (Opens to) = (n ≡ 0) × Contains all (exit to 1 Stay)

abbrev pub AllOpenWell : ℕ → List Exit → List Exit → Type 0
AllOpenWell n all [] = ⊤
AllOpenWell n all (x ∷ xs) = OpensWell n all x.change × AllOpenWell n all xs

cases_open : (n : ℕ) (all : List Exit) (cs : List Case) → AllOpenWell n all (map case_exit cs)
cases_open n all [] = tt
cases_open n all (c ∷ cs) = (tt, cases_open n all cs)

row_open : (n : ℕ) (all : List Exit) (o : Option SwitchRow) → AllOpenWell n all (row_exits o)
row_open n all None = tt
row_open n all (Some r) = (tt, cases_open n all r.cases)

pub all_open : (p : RawProgram) (q : ℕ) (i : Instr) → AllOpenWell (effect_of i).takes (exits p q (effect_of i)) (exits p q (effect_of i))
all_open p q (Jump to) = (tt, tt)
all_open p q (JumpIfZero to) = (tt, (tt, tt))
all_open p q (JumpIfNotZero to) = (tt, (tt, tt))
all_open p q (KeepIfZero to) = (tt, (tt, tt))
all_open p q (KeepIfNotZero to) = (tt, (tt, tt))
all_open p q (EachNext to n) = (tt, (tt, tt))
all_open p q (CatchBegin to) = ((refl, (1, omega arith, refl)), (tt, tt))
all_open p q (Switch k) = row_open 1 (exits p q (effect_of (Switch k))) (slice_get p.switches k)
all_open p q Return = tt
all_open p q ReturnZero = tt
all_open p q _ = (tt, tt)

lead_in : (p : RawProgram) (q : ℕ) (f : Shape) (e : Effect) (ys : List Exit) (x : Exit) → Contains ys x → Contains (leads p q (Once f) e ys) (once_at f e x)
lead_in p q f e [] x (n, l, s) = absurd (omega (arith, l))
lead_in p q f e (y ∷ ys) x (zero, l, s) = (0, omega arith, ap (once_at f e) s)
lead_in p q f e (y ∷ ys) x (suc n, l, s) = let r = lead_in p q f e ys x (n, omega (arith, l), s) in (suc r.0, omega (arith, r.1), r.2)

pub record From (p : RawProgram) (q : ℕ) (f : Shape) (i : Instr) (w : Way) : Type 0 where
  pub exit : Exit
  pub there : Contains (exits p q (effect_of i)) exit
  pub is : once_at f (effect_of i) exit ≡ w
  pub held : exit_holds p q f (effect_of i) exit ≡ true
  pub opens : OpensWell (effect_of i).takes (exits p q (effect_of i)) exit.change

from_lead : (p : RawProgram) (q : ℕ) (f : Shape) (i : Instr) (w : Way) (ys : List Exit) → ((x : Exit) → Contains ys x → Contains (exits p q (effect_of i)) x) → exits_hold p q f (effect_of i) ys ≡ true
    → AllOpenWell (effect_of i).takes (exits p q (effect_of i)) ys → Contains (leads p q (Once f) (effect_of i) ys) w → From p q f i w
from_lead p q f i w [] g t o (n, l, s) = absurd (omega (arith, l))
from_lead p q f i w (y ∷ ys) g t o (zero, l, s) = record { exit = y; there = g y (0, omega arith, refl); is = s; held = and_left (exit_holds p q f (effect_of i) y) (exits_hold p q f (effect_of i) ys) t; opens = o.0 }
from_lead p q f i w (y ∷ ys) g t o (suc n, l, s) = from_lead p q f i w ys (λ x c. g x (suc c.0, omega (arith, c.1), c.2)) (and_right (exit_holds p q f (effect_of i) y) (exits_hold p q f (effect_of i) ys) t) o.1 (n, omega (arith, l), s)

pub mixed_known : (p : RawProgram) (q : ℕ) (e : Effect) (ys : List Exit) (w : Way) → Contains (leads p q Mixed e ys) w → w.known ≡ Mixed
mixed_known p q e [] w (n, l, s) = absurd (omega (arith, l))
mixed_known p q e (y ∷ ys) w c = go (is_within p q y.to) c (λ d. mixed_known p q e ys w d)
  where
    go : (b : Bool) → Contains (cond b (record { to = y.to; known = Mixed } ∷ []) [] ++ leads p q Mixed e ys) w → (Contains (leads p q Mixed e ys) w → w.known ≡ Mixed) → w.known ≡ Mixed
    go true (zero, l, s) ih = ap (λ (v : Way). v.known) (sym s)
    go true (suc n, l, s) ih = ih (n, omega (arith, l), s)
    go false c ih = ih c

pub cond_true : (b : Bool) (ws : List Way) (w : Way) → Contains (cond b ws []) w → (b ≡ true) × Contains ws w
cond_true true ws w c = (refl, c)
cond_true false ws w (n, l, s) = absurd (omega (arith, l))

-- behind what leads on in one shape, an instruction of which all holds
pub record LedBy (p : RawProgram) (q : ℕ) (k : Known) (w : Way) (g : Shape) : Type 0 where
  pub before : Shape
  pub known : k ≡ Once before
  pub instr : Instr
  pub is : slice_get p.instrs q ≡ Some instr
  pub holds : holds p q before instr ≡ true
  pub from : From p q before instr w

led_by : (p : RawProgram) (q : ℕ) (k : Known) (w : Way) (g : Shape) → w.known ≡ Once g → Contains (ways p q k) w → LedBy p q k w g
unfolding ways
led_by p q k w g s c = go (slice_get p.instrs q) refl k refl c
  where
    go : (o : Option Instr) → slice_get p.instrs q ≡ o → (j : Known) → k ≡ j → Contains (ways_from p q j o) w → LedBy p q k w g
    go None e j f (n, l, t) = absurd (omega (arith, l))
    go (Some i) e Never f (n, l, t) = absurd (omega (arith, l))
    go (Some i) e (Once b) f c = let t = cond_true (holds p q b i) (leads p q (Once b) (effect_of i) (exits p q (effect_of i))) w c in record {
      before = b;
      known = f;
      instr = i;
      is = e;
      holds = t.0;
      from = from_lead p q b i w (exits p q (effect_of i)) (λ x m. m) (held_exits p q b i t.0) (all_open p q i) t.1;
    }
    go (Some i) e Mixed f c = let m = mixed_known p q (effect_of i) (exits p q (effect_of i)) w c in let z : Once g ≡ Mixed = sym s ∙ m in cc

opened : (p : RawProgram) (q : ℕ) (b : Shape) (i : Instr) (w : Way) (x : Exit) (c : Change) → Learned (ways p) (starts p) q (Once b) → slice_get p.instrs q ≡ Some i → holds p q b i ≡ true → x.change ≡ c → OpensWell (effect_of i).takes (exits p q (effect_of i)) c
    → owner p.funs x.to ≡ owner p.funs q → CatchesLead p q b.catches → CatchesLead p x.to (changed c b.height b.catches)
opened p q b i w x Stay m e h s o ow cs = catches_move p q x.to b.catches ow cs
opened p q b i w x Closes m e h s o ow cs = catches_move p q x.to (outer b.catches) ow (catches_outer p q b.catches cs)
opened p q b i w x (Opens to) m e h s o ow cs =
    let v = once_way p q b i (once_at b (effect_of i) (exit to 1 Stay)) e h (lead_in p q b (effect_of i) (exits p q (effect_of i)) (exit to 1 Stay) o.1) in
    let y : Learned (ways p) (starts p) to (Once (shape (b.height - (effect_of i).takes + 1) b.catches)) = on m v in
    let z : b.height - (effect_of i).takes + 1 ≡ b.height + 1 = (let t = o.0 in omega (arith, t)) in
    let fr = from_lead p q b i (once_at b (effect_of i) (exit to 1 Stay)) (exits p q (effect_of i)) (λ x m. m) (held_exits p q b i h) (all_open p q i) (lead_in p q b (effect_of i) (exits p q (effect_of i)) (exit to 1 Stay) o.1) in
    let tos = ap (λ (k : Way). k.to) fr.is in
    let wi = within_of p q fr.exit.to (exit_within p q b (effect_of i) fr.exit fr.held) in (
      subst (λ n. Learned (ways p) (starts p) to (Once (shape n b.catches))) z y,
      (let l = wi.0 in omega (arith, l, tos)),
      ap (owner p.funs) (sym tos) ∙ wi.1 ∙ sym ow,
      catches_move p q x.to b.catches ow cs,
    )

catches_lead : (p : RawProgram) (q : ℕ) (k : Known) → Learned (ways p) (starts p) q k → (g : Shape) → k ≡ Once g → CatchesLead p q g.catches
catches_lead p q k (begins c) g e = let z : begin_shape ≡ g = cc in let P : Shape → Type 0 = λ s. CatchesLead p q s.catches in subst P z tt
catches_lead p q k (two x y n) g e = cc
catches_lead p q k (on {p = r} {k = j} {w = w} l c) g e =
    let b = led_by p r j w g e c in
    let P : Known → Type 0 = λ z. Learned (ways p) (starts p) r z in
    let m = subst P b.known l in
    let wi = within_of p r b.from.exit.to (exit_within p r b.before (effect_of b.instr) b.from.exit b.from.held) in
    let cs = opened p r b.before b.instr w b.from.exit b.from.exit.change m b.is b.holds refl b.from.opens wi.1 (catches_lead p r j l b.before b.known) in
    let same : once_at b.before (effect_of b.instr) b.from.exit ≡ w = b.from.is in
    let kn : Once (after b.before (effect_of b.instr) b.from.exit) ≡ Once g = ap (λ (v : Way). v.known) same ∙ e in
    let sh : after b.before (effect_of b.instr) b.from.exit ≡ g = cc in
    let tos : b.from.exit.to ≡ w.to = ap (λ (v : Way). v.to) same in
    let Q : Shape → Type 0 = λ s. CatchesLead p w.to s.catches in
    let R : ℕ → Type 0 = λ t. CatchesLead p t (after b.before (effect_of b.instr) b.from.exit).catches in
    subst Q sh (subst R tos cs)

catch_by : (p : RawProgram) (xs : List Known) (k q : ℕ) (cs : List Catching) → Clean p xs → owner p.funs q ≡ suc k → CatchesLead p q cs → CatchLeads (By (shapes_in p xs k)) cs
catch_by p xs k q [] h o c = tt
catch_by p xs k q (c ∷ cs) h o m = said_in p xs k c.place (shape (c.height + 1) cs) (m.2 ∙ o) (once_said p xs c.place (shape (c.height + 1) cs) h m.1 m.0)

once_inside : (xs : List Known) (q : ℕ) (f : Shape) → known_at xs q ≡ Once f → q < length xs
once_inside [] q f e = cc
once_inside (x ∷ xs) zero f e = omega arith
once_inside (x ∷ xs) (suc q) f e = let l = once_inside xs q f e in omega (arith, l)

reached_well : (p : RawProgram) (xs : List Known) (parents : List (List (List ℕ))) (k : ℕ) (r : FunRow) (q : ℕ) (f : Shape) → Clean p xs → slice_get p.funs k ≡ Some r → FindsRows p parents → owner p.funs q ≡ suc k → known_at xs q ≡ Once f
    → IsReachedWell (code_of p parents) (bounds_of p r) (By (shapes_in p xs k)) q f
reached_well p xs parents k r q f h e g o n =
    let l : q < length p.instrs = (let z = once_inside xs q f n in let s = h.size in omega (arith, z, s)) in
    let i = some_at p.instrs q l in
    let m : Learned (ways p) (starts p) q (Once f) = learned_at p xs q (Once f) n h.all in
    let t = once_holds p xs q f i.0 h l i.1 m in
    let d = held_from p q f i.0 (and_left (stands p q i.0) (flows p q f (effect_of i.0)) t) (and_right (stands p q i.0) (flows p q f (effect_of i.0)) t) in
    record {
      instr = i.0;
      is = i.1;
      named = named_fine p parents q r i.0 g i.1 (locals_of p k r q e o) d.named;
      fine = fine p parents (By (shapes_in p xs k)) q f i.0 d
          (reaches p xs k q f (effect_of i.0) (exits p q (effect_of i.0)) h o d.leads (λ w c. on m (once_way p q f i.0 w i.1 t c)));
      catch = catch_by p xs k q f.catches h o (catches_lead p q (Once f) m f refl);
    }

start_known : (n : ℕ) (rows : List FunRow) (k : ℕ) (r : FunRow) → slice_get rows k ≡ Some r → nat_lt r.from n ≡ true → Contains (starts_in n rows) r.from
start_known n [] k r e t = cc
start_known n (x ∷ xs) zero r e t = let s : x ≡ r = cc in let P : FunRow → Type 0 = λ z. Contains (starts_in n (z ∷ xs)) r.from in
    subst P (sym s) (let Q : Bool → Type 0 = λ c. Contains (cond c (r.from ∷ []) [] ++ starts_in n xs) r.from in subst Q (sym t) (0, omega arith, refl))
start_known n (x ∷ xs) (suc k) r e t = Contains-append_right (cond (nat_lt x.from n) (x.from ∷ []) []) (starts_in n xs) r.from (start_known n xs k r e t)

-- each function is sound
pub functions_sound : (p : RawProgram) (xs : List Known) → Clean p xs → AreRows (length p.instrs) p.funs → (k : ℕ) (r : FunRow) → slice_get p.funs k ≡ Some r → IsFunction p k r
functions_sound p xs h rows k r e = record { shapes = shapes_in p xs k; sound = sound }
  where
    first : known_at xs r.from ≡ Once begin_shape
    first = let l = row_inside (length p.instrs) p.funs k r rows e in once_said p xs r.from begin_shape h l (begins (start_known (length p.instrs) p.funs k r e (lt_true r.from (length p.instrs) l)))

    height : (q : ℕ) (f : Shape) → known_at xs q ≡ Once f → f.height ≤ p.max_height
    height q f n =
        let l : q < length p.instrs = (let z = once_inside xs q f n in let s = h.size in omega (arith, z, s)) in
        let i = some_at p.instrs q l in
        let m : Learned (ways p) (starts p) q (Once f) = learned_at p xs q (Once f) n h.all in
        let t = once_holds p xs q f i.0 h l i.1 m in
        let d = held_from p q f i.0 (and_left (stands p q i.0) (flows p q f (effect_of i.0)) t) (and_right (stands p q i.0) (flows p q f (effect_of i.0)) t) in d.low

    sound : (parents : List (List (List ℕ))) → FindsRows p parents → IsSound (code_of p parents) (bounds_of p r) r.from (end_of p k) (shapes_in p xs k)
    sound parents g = record {
      begins = said_in p xs k r.from begin_shape (owner_first (length p.instrs) p.funs k r rows e) first;
      inside = λ q f s. let t = in_said p xs k q f s in
          let l : q < length p.instrs = (let z = once_inside xs q f t.1 in let s = h.size in omega (arith, z, s)) in
          (owner_from p.funs k r q e t.0, owner_end (length p.instrs) p.funs k r q rows e t.0 l);
      low = λ q f s. height q f (in_said p xs k q f s).1;
      well = λ q f s. let t = in_said p xs k q f s in reached_well p xs parents k r q f h e g t.0 t.1;
    }

-- where none fails, all that is known is clean
pub clean_from : (p : RawProgram) (xs : List Known) → IsAll (ways p) (starts p) xs → length xs ≡ length p.instrs → NoneFails p (length p.instrs) → Clean p xs
clean_from p xs h s n = record { all = h; size = s; none = n }

-- and each instruction stands
pub inside_from : (p : RawProgram) → NoneFails p (length p.instrs) → (at : ℕ) (i : Instr) → slice_get p.instrs at ≡ Some i → stands p at i ≡ true
unfolding bad
inside_from p n at i e = not_false (stands p at i) (λ b. n at (slice_get_within p.instrs at i e) (inl (ap (is_bad p at Never) e ∙ b)))
