-- Each instruction of sound code leaves less to do.
use Rattle.std.proofs.Common.{◌≡◌, ℕ, zero, suc, ◌+◌, ◌-◌, ◌*◌, ◌<◌, ◌≤◌, ◌⊎◌, inl, inr, List, [], ◌∷◌, length, Option, Some, None, Bool, true, false, cond, pos, refl, sym, ap, subst, arith}
use Rattle.std.specs.Prelude.{slice_get, nat_lt, nat_eq}
use Rattle.std.proofs.Math.Nat.{mul-le-mul_left}
use Rattle.std.proofs.lemmas.Bool.{ltb-false, cases_lt}
use Rattle.std.proofs.lemmas.Option.{slice_get_within}
use Rattle.lp_values.specs.declared.value.Value.{Value}
use Rattle.lp_values.specs.declared.value.Value.TheVariants as values
use Rattle.lp_instr.specs.declared.instr.Instr.{Instr}
use Rattle.lp_instr.specs.declared.instr.Instr.TheVariants.{PushInt, PushText, PushLocal, SetLocal, PushGlobal, SetGlobal, Pop, Dup, Dup2, Unary, Binary, Step, Rotate, Index, SetIndex, Range, MakeArray, MakeMap, Jump, JumpIfZero, JumpIfNotZero, KeepIfZero, KeepIfNotZero, LoopTurn, CallSlot, CallFixed, CallOther, CallEfun, CallSimul, Scan, CatchBegin, CatchEnd, Switch, EachBegin, EachNext, Return, ReturnZero}
use Rattle.lp_instr.specs.declared.instr.EndKind.{EndKind}
use Rattle.lp_instr.specs.declared.instr.EndKind.TheVariants as kinds
use Rattle.lp_instr.specs.declared.instr.Case.{Case}
use Rattle.lp_language.specs.Course.{State, Scene, Stop, Spent, here, End, Gives, Stops, Asked, Parent, after, end_of_outcome, caught, zero_value}
use Rattle.lp_language.specs.Operations.{is_false, unary, binary, item, range, stepped, new_array, new_mapping, put_item, scan, copied, row_at, local_of, global_of, with_local, with_global, labelled}
use Rattle.lp_instr.specs.Code.{Code, Catching, Table, parent_row, case_place}
use Rattle.lp_isa.specs.Machine.{Next, stop_at, goes, push_end, end_then, take_arguments, on_one, on_two, on_three, on_end, bring, rotate, on_some, end_catch, awaits, marked, on_top, row_next, place_in, case_fits, table_place, act, act_at}
use Rattle.lp_instr.specs.Sound.{Shape, By, LeadsTo, CasesLead, TableLeads, IsFine}
use Rattle.lp_isa.specs.Work.{is_turn, ahead, three_to, catches_work, work, work_of, NextLess, SoundCodeEnds}
use Rattle.lp_language.specs.Afterwards.{EndsAfter}
use Rattle.lp_language.proofs.Prices.{after_same, unary_after, binary_after_all, item_after, range_after_all, stepped_after, new_array_after, new_mapping_after, put_item_after, copied_after, scan_after, answer_after, local_after, global_after}

-- a jump goes on, or leads to a turn, which is paid
abbrev Onward : List Instr → ℕ → ℕ → Type 0
Onward code at to = (at < to) ⊎ (slice_get code to ≡ Some LoopTurn)

three_pos : (n : ℕ) → 0 < three_to n
three_pos zero = omega arith
three_pos (suc n) = omega (arith, three_pos n)

three_mono : (m n : ℕ) → m ≤ n → three_to m ≤ three_to n
three_mono zero n h = omega (arith, three_pos n)
three_mono (suc m) zero h = absurd (omega arith)
three_mono (suc m) (suc n) h = omega (arith, three_mono m n (omega arith))

three_lt : (m n : ℕ) → m < n → three_to m < three_to n
three_lt m zero h = absurd (omega arith)
three_lt m (suc n) h = omega (arith, three_mono m n (omega arith), three_pos n)

three_two : (l m n : ℕ) → l < n → m < n → three_to l + three_to m < three_to n
three_two l m zero h k = absurd (omega arith)
three_two l m (suc n) h k = omega (arith, three_mono l n (omega arith), three_mono m n (omega arith), three_pos n)

is_turn_le : (o : Option Instr) → is_turn o ≤ 1
is_turn_le (Some LoopTurn) = omega arith
is_turn_le _ = omega arith

-- the arithmetic of a place
fewer : (l n a k k1 : ℕ) → a ≤ 1 → k1 < k → (2 * l + a) * (n + 1) + k1 < (2 * l + 1) * (n + 1) + k
fewer l n zero k k1 h lt = omega arith
fewer l n (suc zero) k k1 h lt = omega arith
fewer l n (suc (suc a)) k k1 h lt = absurd (omega arith)

to_turn : (l n k k1 : ℕ) → k1 ≤ n → (2 * l + 0) * (n + 1) + k1 < (2 * l + 1) * (n + 1) + k
to_turn l n k k1 h = omega arith

turn_paid : (m n a k k1 : ℕ) → a ≤ 1 → k1 ≤ n → (2 * m + a) * (n + 1) + k1 < (2 * suc m + 0) * (n + 1) + k
turn_paid m n zero k k1 h lt = omega arith
turn_paid m n (suc zero) k k1 h lt = omega arith
turn_paid m n (suc (suc a)) k k1 h lt = absurd (omega arith)

module _ (code : List Instr) where
  ahead_mono : (l1 l2 at : ℕ) → l1 ≤ l2 → ahead code l1 at ≤ ahead code l2 at
  unfolding ahead
  ahead_mono l1 l2 at h =
      let m : (length code + 1) * (2 * l1 + is_turn (slice_get code at)) ≤ (length code + 1) * (2 * l2 + is_turn (slice_get code at)) = mul-le-mul_left (length code + 1) (omega arith) in
      omega arith

  ahead_next : (l at : ℕ) → at < length code → is_turn (slice_get code at) ≡ 1 → ahead code l (at + 1) < ahead code l at
  unfolding ahead
  ahead_next l at h e =
      subst (λ b. (2 * l + is_turn (slice_get code (at + 1))) * (length code + 1) + (length code - (at + 1)) < (2 * l + b) * (length code + 1) + (length code - at)) (sym e)
      (fewer l (length code) (is_turn (slice_get code (at + 1))) (length code - at) (length code - (at + 1)) (is_turn_le (slice_get code (at + 1))) (omega arith))

  ahead_to : (l at to : ℕ) → at < length code → is_turn (slice_get code at) ≡ 1 → Onward code at to → ahead code l to < ahead code l at
  unfolding ahead
  ahead_to l at to h e (inl lt) =
      subst (λ b. (2 * l + is_turn (slice_get code to)) * (length code + 1) + (length code - to) < (2 * l + b) * (length code + 1) + (length code - at)) (sym e)
      (fewer l (length code) (is_turn (slice_get code to)) (length code - at) (length code - to) (is_turn_le (slice_get code to)) (omega arith))
  ahead_to l at to h e (inr t) =
      subst (λ b. (2 * l + is_turn (slice_get code to)) * (length code + 1) + (length code - to) < (2 * l + b) * (length code + 1) + (length code - at)) (sym e)
      (subst (λ a. (2 * l + a) * (length code + 1) + (length code - to) < (2 * l + 1) * (length code + 1) + (length code - at)) (sym (ap is_turn t))
      (to_turn l (length code) (length code - at) (length code - to) (omega arith)))

  ahead_turn : (m at : ℕ) → slice_get code at ≡ Some LoopTurn → ahead code m (at + 1) < ahead code (suc m) at
  unfolding ahead
  ahead_turn m at e =
      subst (λ b. (2 * m + is_turn (slice_get code (at + 1))) * (length code + 1) + (length code - (at + 1)) < (2 * suc m + b) * (length code + 1) + (length code - at)) (sym (ap is_turn e))
      (turn_paid m (length code) (is_turn (slice_get code (at + 1))) (length code - at) (length code - (at + 1)) (is_turn_le (slice_get code (at + 1))) (omega arith))

  catches_mono : (l1 l2 : ℕ) (cs : List Catching) → l1 ≤ l2 → catches_work code l1 cs ≤ catches_work code l2 cs
  catches_mono l1 l2 [] h = omega arith
  catches_mono l1 l2 (x ∷ xs) h = omega (arith, three_mono (ahead code l1 x.place) (ahead code l2 x.place) (ahead_mono l1 l2 x.place h), catches_mono l1 l2 xs h)

  work_next : (l at : ℕ) (cs : List Catching) → at < length code → is_turn (slice_get code at) ≡ 1 → work code l (at + 1) cs < work code l at cs
  unfolding work
  work_next l at cs h e = omega (arith, three_lt (ahead code l (at + 1)) (ahead code l at) (ahead_next l at h e))

  work_to : (l at to : ℕ) (cs : List Catching) → at < length code → is_turn (slice_get code at) ≡ 1 → Onward code at to → work code l to cs < work code l at cs
  unfolding work
  work_to l at to cs h e o = omega (arith, three_lt (ahead code l to) (ahead code l at) (ahead_to l at to h e o))

  work_turn : (m at : ℕ) (cs : List Catching) → slice_get code at ≡ Some LoopTurn → work code m (at + 1) cs < work code (suc m) at cs
  unfolding work
  work_turn m at cs e = omega (arith, three_lt (ahead code m (at + 1)) (ahead code (suc m) at) (ahead_turn m at e), catches_mono m (suc m) cs (omega arith))

  work_begin : (l at to h : ℕ) (cs : List Catching) → at < length code → is_turn (slice_get code at) ≡ 1 → Onward code at to → work code l (at + 1) (record { place = to; height = h } ∷ cs) < work code l at cs
  unfolding work
  work_begin l at to h cs lt e o = omega (arith, three_two (ahead code l (at + 1)) (ahead code l to) (ahead code l at) (ahead_next l at lt e) (ahead_to l at to lt e o))

  work_end : (l at : ℕ) (x : Catching) (cs : List Catching) → at < length code → is_turn (slice_get code at) ≡ 1 → work code l (at + 1) cs < work code l at (x ∷ cs)
  unfolding work
  work_end l at x cs h e = omega (arith, three_lt (ahead code l (at + 1)) (ahead code l at) (ahead_next l at h e))

  work_mono : (l1 l2 at : ℕ) (cs : List Catching) → l1 ≤ l2 → work code l1 at cs ≤ work code l2 at cs
  unfolding work
  work_mono l1 l2 at cs h = omega (arith, three_mono (ahead code l1 at) (ahead code l2 at) (ahead_mono l1 l2 at h), catches_mono l1 l2 cs h)

  work_unwound : (l at : ℕ) (x : Catching) (cs : List Catching) → work code l x.place cs < work code l at (x ∷ cs)
  unfolding work
  work_unwound l at x cs = omega (arith, three_pos (ahead code l at))

onward : (code : Code) (T : ℕ → Shape → Type 0) (p to : ℕ) (sh : Shape) → LeadsTo code T p to sh → Onward code.instrs p to
onward code T p to sh l = elim (cases_lt p to) [ inl e ↦ inl e | inr e ↦ inr (l.turns e) ]

module _ (code : Code) (c : Scene) (n : ℕ) where
  one_less : (st : List Value) (go : Value → List Value → Next) → ((x : Value) (rest : List Value) → NextLess code n (go x rest)) → NextLess code n (on_one st go)
  one_less [] go g = tt
  one_less (x ∷ rest) go g = g x rest

  two_less : (st : List Value) (go : Value → Value → List Value → Next) → ((x y : Value) (rest : List Value) → NextLess code n (go x y rest)) → NextLess code n (on_two st go)
  two_less st go g = one_less st _ (λ y rest. one_less rest _ (λ x rest. g x y rest))

  three_less : (st : List Value) (go : Value → Value → Value → List Value → Next) → ((x y z : Value) (rest : List Value) → NextLess code n (go x y z rest)) → NextLess code n (on_three st go)
  three_less st go g = one_less st _ (λ z rest. two_less rest _ (λ x y rest. g x y z rest))

  take_less : (k : ℕ) (taken st : List Value) (go : List Value → List Value → Next) → ((xs rest : List Value) → NextLess code n (go xs rest)) → NextLess code n (take_arguments k taken st go)
  take_less zero taken st go g = g taken st
  take_less (suc k) taken [] go g = tt
  take_less (suc k) taken (x ∷ st) go g = take_less k (x ∷ taken) st go g

  bring_less : (k : ℕ) (st : List Value) (go : Value → List Value → Next) → ((x : Value) (rest : List Value) → NextLess code n (go x rest)) → NextLess code n (bring k st go)
  bring_less k [] go g = tt
  bring_less zero (x ∷ st) go g = g x st
  bring_less (suc k) (y ∷ st) go g = bring_less k st (λ x others. go x (y ∷ others)) (λ x others. g x (y ∷ others))

  rotate_less : (k : ℕ) (st : List Value) (go : Value → List Value → Next) → ((x : Value) (rest : List Value) → NextLess code n (go x rest)) → NextLess code n (rotate k st go)
  rotate_less zero st go g = tt
  rotate_less (suc k) st go g = bring_less k st go g

  end_less : (x : EndKind) (st : List Value) (go : Value → List Value → Next) → ((v : Value) (rest : List Value) → NextLess code n (go v rest)) → NextLess code n (on_end x st go)
  end_less kinds.Start st go g = one_less st go g
  end_less kinds.Back st go g = one_less st go g
  end_less kinds.Open st go g = g zero_value st

  some_less : {A : Type 0} (o : Option A) (go : A → Next) → ((x : A) → NextLess code n (go x)) → NextLess code n (on_some o go)
  some_less None go g = tt
  some_less (Some x) go g = g x

  cond_less : (b : Bool) (x y : Next) → NextLess code n x → NextLess code n y → NextLess code n (cond b x y)
  cond_less true x y p q = p
  cond_less false x y p q = q

  row_less : (o : Option (List Value)) (x : Next) (go : List Value → Next) → NextLess code n x → ((row : List Value) → NextLess code n (go row)) → NextLess code n (row_next o x go)
  row_less None x go h g = h
  row_less (Some row) x go h g = g row

less_le : (a b d : ℕ) → a ≤ b → b < d → a < d
less_le a b d h g = omega arith

-- an instruction that is no turn of a loop
module _ (code : Code) (c : Scene) (p : ℕ) (cs : List Catching) (s : State) (lt : p < length code.instrs) (t : is_turn (slice_get code.instrs p) ≡ 1) where
  next_less : (st : List Value) (u : State) → u.budget ≤ s.budget → NextLess code (work code.instrs s.budget p cs) (goes (p + 1) st cs u)
  next_less st u h = less_le (work code.instrs u.budget (p + 1) cs) (work code.instrs s.budget (p + 1) cs) (work code.instrs s.budget p cs) (work_mono code.instrs u.budget s.budget (p + 1) cs h) (work_next code.instrs s.budget p cs lt t)

  to_less : (to : ℕ) (st : List Value) (u : State) → Onward code.instrs p to → u.budget ≤ s.budget → NextLess code (work code.instrs s.budget p cs) (goes to st cs u)
  to_less to st u o h = less_le (work code.instrs u.budget to cs) (work code.instrs s.budget to cs) (work code.instrs s.budget p cs) (work_mono code.instrs u.budget s.budget to cs h) (work_to code.instrs s.budget p to cs lt t o)

stop_less : (code : Code) (p : ℕ) (o : Option Value) (w : Stop) (cs : List Catching) (st : List Value) (s u : State) → u.budget ≤ s.budget → NextLess code (work code.instrs s.budget p cs) (stop_at o w cs st u)
stop_less code p None w cs st s u h = tt
stop_less code p (Some v) w [] st s u h = tt
stop_less code p (Some v) w (x ∷ cs) st s u h =
    less_le (work code.instrs u.budget x.place cs) (work code.instrs s.budget x.place cs) (work code.instrs s.budget p (x ∷ cs)) (work_mono code.instrs u.budget s.budget x.place cs h) (work_unwound code.instrs s.budget p x cs)

module _ (code : Code) (c : Scene) (p : ℕ) (cs : List Catching) (s : State) (lt : p < length code.instrs) (t : is_turn (slice_get code.instrs p) ≡ 1) where
  push_less : (e : End Value) (rest : List Value) → EndsAfter s e → NextLess code (work code.instrs s.budget p cs) (push_end e (p + 1) cs rest)
  push_less (Gives v u) rest a = next_less code c p cs s lt t (v ∷ rest) u a.no_more
  push_less (Stops w u) rest a = stop_less code p (caught w.cause) w cs rest s u a.no_more

  then_less : {A : Type 0} (e : End A) (st : List Value) (go : A → State → Next) → EndsAfter s e → ((x : A) (u : State) → u.budget ≤ s.budget → NextLess code (work code.instrs s.budget p cs) (go x u)) → NextLess code (work code.instrs s.budget p cs) (end_then e cs st go)
  then_less (Gives x u) st go a g = g x u a.no_more
  then_less (Stops w u) st go a g = stop_less code p (caught w.cause) w cs st s u a.no_more

  ask_less : (what : Asked) (xs rest : List Value) → NextLess code (work code.instrs s.budget p cs) (awaits what xs c s (p + 1) cs rest)
  ask_less what xs rest o can =
      push_less (end_of_outcome s o) rest (answer_after s o.answer (after s o) (record { no_more = can.no_more; keeps = can.keeps; commands = can.commands }))

  table_onward : (T : ℕ → Shape → Type 0) (sh : Shape) (v : Value) (other : ℕ) (ks : List Case) → CasesLead code T p sh ks → LeadsTo code T p other sh → Onward code.instrs p (table_place code v ks other)
  table_onward T sh v other [] h l = onward code T p other sh l
  table_onward T sh v other (k ∷ ks) h l = pick (case_fits code k v) (case_place k) (table_place code v ks other) (onward code T p (case_place k) sh h.0) (table_onward T sh v other ks h.1 l)
    where
      pick : (b : Bool) (x y : ℕ) → Onward code.instrs p x → Onward code.instrs p y → Onward code.instrs p (cond b x y)
      pick true x y g h = g
      pick false x y g h = h

  switch_less : (T : ℕ → Shape → Type 0) (sh : Shape) (v : Value) (o : Option Table) (st : List Value) → TableLeads code T p sh o → NextLess code (work code.instrs s.budget p cs) (on_some o (λ table. goes (table_place code v table.cases table.other) st cs s))
  switch_less T sh v None st h = tt
  switch_less T sh v (Some k) st h = to_less code c p cs s lt t (table_place code v k.cases k.other) st s (table_onward T sh v k.other k.cases h.0 h.1) (omega arith)

close_less : (code : Code) (p : ℕ) (cs : List Catching) (st : List Value) (s : State) → p < length code.instrs → is_turn (slice_get code.instrs p) ≡ 1 → NextLess code (work code.instrs s.budget p cs) (end_catch cs (λ rest. goes (p + 1) st rest s))
close_less code p [] st s lt t = tt
close_less code p (x ∷ cs) st s lt t = work_end code.instrs s.budget p x cs lt t

-- a turn of a loop is paid
turn_less : (code : Code) (p : ℕ) (cs : List Catching) (st : List Value) (s : State) → slice_get code.instrs p ≡ Some LoopTurn → (b : Bool) → nat_lt s.budget 1 ≡ b → NextLess code (work code.instrs s.budget p cs) (end_then (cond b (Stops (here Spent) (record s { budget = 0 })) (Gives zero_value (record s { budget = s.budget - 1 }))) cs st (λ x s. goes (p + 1) st cs s))
turn_less code p cs st s is true e = tt
turn_less code p cs st s is false e =
    let l = ltb-false s.budget 1 e in
    let q : s.budget ≡ suc (s.budget - 1) = omega arith in
    subst (λ m. work code.instrs (s.budget - 1) (p + 1) cs < work code.instrs m p cs) (sym q) (work_turn code.instrs (s.budget - 1) p cs is)

module _ (code : Code) (c : Scene) (T : ℕ → Shape → Type 0) (p : ℕ) (sh : Shape) (cs : List Catching) (s : State) (lt : p < length code.instrs) where
  act_less : (i : Instr) (st : List Value) → slice_get code.instrs p ≡ Some i → IsFine code T i p sh → NextLess code (work code.instrs s.budget p cs) (act code c i p st cs s)
  act_less (PushInt z) st e h = next_less code c p cs s lt (ap is_turn e) (values.Int z ∷ st) s (omega arith)
  act_less (PushText k) st e h = some_less code c (work code.instrs s.budget p cs) (slice_get code.texts k) _ (λ x. next_less code c p cs s lt (ap is_turn e) (values.Str x ∷ st) s (omega arith))
  act_less (PushLocal k) st e h = next_less code c p cs s lt (ap is_turn e) (local_of s k ∷ st) s (omega arith)
  act_less (SetLocal k) st e h = one_less code c (work code.instrs s.budget p cs) st _ (λ v rest. next_less code c p cs s lt (ap is_turn e) (v ∷ rest) (with_local s k v) (local_after s s k v (after_same s)).no_more)
  act_less (PushGlobal k) st e h = next_less code c p cs s lt (ap is_turn e) (global_of c s k ∷ st) s (omega arith)
  act_less (SetGlobal k) st e h = one_less code c (work code.instrs s.budget p cs) st _ (λ v rest. next_less code c p cs s lt (ap is_turn e) (v ∷ rest) (with_global c s k v) (global_after s c s k v (after_same s)).no_more)
  act_less Pop st e h = one_less code c (work code.instrs s.budget p cs) st _ (λ v rest. next_less code c p cs s lt (ap is_turn e) rest s (omega arith))
  act_less Dup st e h = one_less code c (work code.instrs s.budget p cs) st _ (λ v rest. next_less code c p cs s lt (ap is_turn e) (v ∷ v ∷ rest) s (omega arith))
  act_less Dup2 st e h = two_less code c (work code.instrs s.budget p cs) st _ (λ x y rest. next_less code c p cs s lt (ap is_turn e) (y ∷ x ∷ y ∷ x ∷ rest) s (omega arith))
  act_less (Unary op) st e h = one_less code c (work code.instrs s.budget p cs) st _ (λ x rest. push_less code c p cs s lt (ap is_turn e) (unary op x s) rest (unary_after s op x s (after_same s)))
  act_less (Binary op) st e h = two_less code c (work code.instrs s.budget p cs) st _ (λ x y rest. push_less code c p cs s lt (ap is_turn e) (binary op x y s) rest (binary_after_all s op x y s (after_same s)))
  act_less (Step op) st e h = one_less code c (work code.instrs s.budget p cs) st _ (λ x rest. push_less code c p cs s lt (ap is_turn e) (stepped op x s) rest (stepped_after s op x s (after_same s)))
  act_less (Rotate k) st e h = rotate_less code c (work code.instrs s.budget p cs) k st _ (λ x rest. next_less code c p cs s lt (ap is_turn e) (x ∷ rest) s (omega arith))
  act_less (Index d) st e h = two_less code c (work code.instrs s.budget p cs) st _ (λ x i rest. push_less code c p cs s lt (ap is_turn e) (item d x i s) rest (item_after s d x i s (after_same s)))
  act_less (SetIndex d) st e h = three_less code c (work code.instrs s.budget p cs) st _ (λ x i v rest. push_less code c p cs s lt (ap is_turn e) (put_item d x i v s) rest (put_item_after s d x i v s (after_same s)))
  act_less (Range x y) st e h = end_less code c (work code.instrs s.budget p cs) y st _ (λ z rest. end_less code c (work code.instrs s.budget p cs) x rest _ (λ u rest. one_less code c (work code.instrs s.budget p cs) rest _ (λ v rest. push_less code c p cs s lt (ap is_turn e) (range x y v u z s) rest (range_after_all s x y v u z s (after_same s)))))
  act_less (MakeArray k) st e h = take_less code c (work code.instrs s.budget p cs) k [] st _ (λ xs rest. push_less code c p cs s lt (ap is_turn e) (new_array xs s) rest (new_array_after s xs s (after_same s)))
  act_less (MakeMap k) st e h = take_less code c (work code.instrs s.budget p cs) (2 * k) [] st _ (λ xs rest. push_less code c p cs s lt (ap is_turn e) (new_mapping xs s) rest (new_mapping_after s xs s (after_same s)))
  act_less (Jump q) st e h = to_less code c p cs s lt (ap is_turn e) q st s (onward code T p q _ h) (omega arith)
  act_less (JumpIfZero q) st e h = one_less code c (work code.instrs s.budget p cs) st _ (λ v rest. cond_less code c (work code.instrs s.budget p cs) (is_false s v) _ _ (to_less code c p cs s lt (ap is_turn e) q rest s (onward code T p q _ h.1) (omega arith)) (next_less code c p cs s lt (ap is_turn e) rest s (omega arith)))
  act_less (JumpIfNotZero q) st e h = one_less code c (work code.instrs s.budget p cs) st _ (λ v rest. cond_less code c (work code.instrs s.budget p cs) (is_false s v) _ _ (next_less code c p cs s lt (ap is_turn e) rest s (omega arith)) (to_less code c p cs s lt (ap is_turn e) q rest s (onward code T p q _ h.1) (omega arith)))
  act_less (KeepIfZero q) st e h = one_less code c (work code.instrs s.budget p cs) st _ (λ v rest. cond_less code c (work code.instrs s.budget p cs) (is_false s v) _ _ (to_less code c p cs s lt (ap is_turn e) q (v ∷ rest) s (onward code T p q _ h.1) (omega arith)) (next_less code c p cs s lt (ap is_turn e) rest s (omega arith)))
  act_less (KeepIfNotZero q) st e h = one_less code c (work code.instrs s.budget p cs) st _ (λ v rest. cond_less code c (work code.instrs s.budget p cs) (is_false s v) _ _ (next_less code c p cs s lt (ap is_turn e) rest s (omega arith)) (to_less code c p cs s lt (ap is_turn e) q (v ∷ rest) s (onward code T p q _ h.1) (omega arith)))
  act_less LoopTurn st e h = turn_less code p cs st s e (nat_lt s.budget 1) refl
  act_less (CallSlot k m) st e h = take_less code c (work code.instrs s.budget p cs) m [] st _ (λ xs rest. some_less code c (work code.instrs s.budget p cs) (slice_get code.rows k) _ (λ x. ask_less code c p cs s lt (ap is_turn e) _ xs rest))
  act_less (CallFixed q j m) st e h = take_less code c (work code.instrs s.budget p cs) m [] st _ (λ xs rest. some_less code c (work code.instrs s.budget p cs) (parent_row code q j) _ (λ x. ask_less code c p cs s lt (ap is_turn e) (Parent q x) xs rest))
  act_less (CallOther m) st e h = take_less code c (work code.instrs s.budget p cs) m [] st _ (λ xs rest. two_less code c (work code.instrs s.budget p cs) rest _ (λ x y rest. ask_less code c p cs s lt (ap is_turn e) _ (x ∷ y ∷ xs) rest))
  act_less (CallEfun f m) st e h = take_less code c (work code.instrs s.budget p cs) m [] st _ (λ xs rest. ask_less code c p cs s lt (ap is_turn e) _ xs rest)
  act_less (CallSimul k m) st e h = take_less code c (work code.instrs s.budget p cs) m [] st _ (λ xs rest. some_less code c (work code.instrs s.budget p cs) (slice_get code.texts k) _ (λ x. ask_less code c p cs s lt (ap is_turn e) _ _ rest))
  act_less (Scan m) st e h = two_less code c (work code.instrs s.budget p cs) st _ (λ x form rest. then_less code c p cs s lt (ap is_turn e) (scan m x form s) rest _ (scan_after s m x form s (after_same s)) (λ vs u l. next_less code c p cs s lt (ap is_turn e) (marked m vs (values.Int (pos (length vs)) ∷ rest)) u l))
  act_less (CatchBegin q) st e h = work_begin code.instrs s.budget p q (length st) cs lt (ap is_turn e) (onward code T p q _ h.1)
  act_less CatchEnd st e h = close_less code p cs st s lt (ap is_turn e)
  act_less (Switch k) st e h = one_less code c (work code.instrs s.budget p cs) st _ (λ v rest. switch_less code c p cs s lt (ap is_turn e) T _ (labelled s v) (slice_get code.switches k) rest h.1)
  act_less (EachBegin m) st e h = one_less code c (work code.instrs s.budget p cs) st _ (λ v rest. then_less code c p cs s lt (ap is_turn e) (copied v s) rest _ (copied_after s v s (after_same s)) (λ copy u l. next_less code c p cs s lt (ap is_turn e) (zero_value ∷ copy ∷ rest) u l))
  act_less (EachNext q m) st e h = two_less code c (work code.instrs s.budget p cs) st _ (λ copy k rest. row_less code c (work code.instrs s.budget p cs) (row_at (nat_eq m 2) copy (place_in k) s) _ _ (next_less code c p cs s lt (ap is_turn e) rest s (omega arith)) (λ row. to_less code c p cs s lt (ap is_turn e) q (on_top row (values.Int (pos (place_in k + 1)) ∷ copy ∷ rest)) s (onward code T p q _ h.1) (omega arith)))
  act_less Return st e h = one_less code c (work code.instrs s.budget p cs) st _ (λ v rest. tt)
  act_less ReturnZero st e h = tt

pub sound_code_ends : SoundCodeEnds
sound_code_ends code b from to shapes c m sound h =
    let r = sound.well m.place h.shape h.reached in
    subst (λ o. NextLess code (work_of code m) (act_at code c o m)) (sym r.is)
    (act_less code c (By shapes) m.place h.shape m.catches m.state (slice_get_within code.instrs m.place r.instr r.is) r.instr m.stack r.is r.fine)
