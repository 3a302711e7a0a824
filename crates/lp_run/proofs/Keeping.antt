-- No instruction loses anything of the world, or wins budget.
use Rattle.std.proofs.Common.{◌∷◌, [], ℕ, zero, suc, ◌+◌, ◌*◌, Bool, true, false, cond, List, Option, Some, None}
use Rattle.std.specs.Prelude.{slice_get, nat_eq}
use Rattle.lp_values.specs.declared.value.Value.{Value}
use Rattle.lp_values.specs.declared.value.Value.TheVariants as values
use Rattle.lp_instr.specs.declared.efun.Efun.TheVariants as efun
use Rattle.lp_instr.specs.declared.instr.EndKind.{EndKind}
use Rattle.lp_instr.specs.declared.instr.EndKind.TheVariants as kinds
use Rattle.lp_instr.specs.declared.instr.Instr.{Instr}
use Rattle.lp_instr.specs.declared.instr.Instr.TheVariants.{PushInt, PushText, PushLocal, SetLocal, PushGlobal, SetGlobal, Pop, Dup, Dup2, Unary, Binary, Step, Rotate, Index, SetIndex, Range, MakeArray, MakeMap, Jump, JumpIfZero, JumpIfNotZero, KeepIfZero, KeepIfNotZero, LoopTurn, CallSlot, CallFixed, CallOther, CallEfun, CallSimul, Scan, CatchBegin, CatchEnd, Switch, EachBegin, EachNext, Return, ReturnZero}
use Rattle.lp_instr.specs.Code.{Catching, Code, parent_row}
use Rattle.lp_language.specs.Course.{Scene, State, Stop, End, Gives, Stops, Asked, Failed, Internal, OfEfun, Parent, caught, here, pay, zero_value}
use Rattle.lp_language.specs.Afterwards.{EndsAfter}
use Rattle.lp_language.specs.Eval.{simul_object}
use Rattle.lp_language.specs.Operations.{binary, copied, is_false, item, new_array, new_mapping, put_item, range, row_at, scan, stepped, unary}
use Rattle.lp_language.proofs.Prices.{after_same, after_trans, binary_after_all, copied_after, global_after, item_after, local_after, new_array_after, new_mapping_after, pay_after, put_item_after, range_after_all, scan_after, stepped_after, unary_after}
use Rattle.lp_isa.specs.Machine.{Moment, Next, Goes, Ended, Awaits, Wrong, act, act_at, awaits, bring, end_catch, end_then, on_end, on_one, on_some, on_three, on_two, place_in, push_end, rotate, row_next, stop_at, take_arguments}
use Rattle.lp_instr.specs.Sound.{Shapes}
use Rattle.lp_isa.specs.SoundCode.{NextMatches}
use Rattle.lp_world.specs.Matches.{Around}
use Rattle.lp_step.specs.declared.next.Next.{Next as Led}
use Rattle.lp_step.specs.declared.next.Next.TheVariants as nexts
use Rattle.lp_step.specs.declared.next.Target.{Target}
use Rattle.lp_step.specs.declared.next.Target.TheVariants as targets
use Rattle.lp_step.specs.Steps.{IsFine, asked, told as told_by}
use Rattle.lp_run.specs.Kept.{Later, MachineKeeps, NextLater}
use Rattle.lp_run.proofs.Stilled.{EndsStill, binary_still, copied_still, global_still, item_still, local_still, new_array_still, new_mapping_still, pay_still, put_item_still, range_still, scan_still, stepped_still, still_same, still_trans, unary_still}

-- Ends, with both
abbrev EndsLater : {A : Type 0} → State → End A → Type 0
EndsLater r (Gives x t) = Later r t
EndsLater r (Stops x t) = Later r t

both : {A : Type 0} (r : State) (e : End A) → EndsAfter r e → EndsStill r.world e → EndsLater r e
both r (Gives x t) a s = record { after = a; still = s }
both r (Stops x t) a s = record { after = a; still = s }

pub later_same : (s : State) → Later s s
later_same s = record { after = after_same s; still = still_same s.world }

pub later_trans : (r s t : State) → Later r s → Later s t → Later r t
later_trans r s t a b = record { after = after_trans r s t a.after b.after; still = still_trans r.world s.world t.world a.still b.still }

module _ (r : State) where
  stop_after : (o : Option Value) (x : Stop) (catches : List Catching) (stack : List Value) (s : State) → Later r s → NextLater r (stop_at o x catches stack s)
  stop_after None x catches stack s h = h
  stop_after (Some v) x [] stack s h = h
  stop_after (Some v) x (c ∷ cs) stack s h = h

  push_after : (e : End Value) (place : ℕ) (catches : List Catching) (stack : List Value) → EndsAfter r e → EndsStill r.world e → NextLater r (push_end e place catches stack)
  push_after (Gives v s) place catches stack h l = record { after = h; still = l }
  push_after (Stops x s) place catches stack h l = stop_after (caught x.cause) x catches stack s (record { after = h; still = l })

  then_after : {A : Type 0} (e : End A) (catches : List Catching) (stack : List Value) (go : A → State → Next) → EndsAfter r e → EndsStill r.world e → ((x : A) (s : State) → Later r s → NextLater r (go x s)) → NextLater r (end_then e catches stack go)
  then_after (Gives x s) catches stack go h l g = g x s (record { after = h; still = l })
  then_after (Stops x s) catches stack go h l g = stop_after (caught x.cause) x catches stack s (record { after = h; still = l })

  awaits_after : (what : Asked) (xs : List Value) (c : Scene) (s : State) (place : ℕ) (catches : List Catching) (stack : List Value) → Later r s → NextLater r (awaits what xs c s place catches stack)
  awaits_after what xs c s place catches stack h = (record { no_more = h.after.no_more; keeps = h.after.keeps; commands = h.after.commands }, h.still)

  take_after : (n : ℕ) (taken stack : List Value) (go : List Value → List Value → Next) → ((xs rest : List Value) → NextLater r (go xs rest)) → NextLater r (take_arguments n taken stack go)
  take_after zero taken stack go g = g taken stack
  take_after (suc n) taken [] go g = tt
  take_after (suc n) taken (x ∷ stack) go g = take_after n (x ∷ taken) stack go g

  one_after : (stack : List Value) (go : Value → List Value → Next) → ((x : Value) (rest : List Value) → NextLater r (go x rest)) → NextLater r (on_one stack go)
  one_after [] go g = tt
  one_after (x ∷ stack) go g = g x stack

  two_after : (stack : List Value) (go : Value → Value → List Value → Next) → ((x y : Value) (rest : List Value) → NextLater r (go x y rest)) → NextLater r (on_two stack go)
  two_after stack go g = one_after stack _ (λ y rest. one_after rest _ (λ x rest. g x y rest))

  three_after : (stack : List Value) (go : Value → Value → Value → List Value → Next) → ((x y z : Value) (rest : List Value) → NextLater r (go x y z rest)) → NextLater r (on_three stack go)
  three_after stack go g = one_after stack _ (λ z rest. two_after rest _ (λ x y rest. g x y z rest))

  end_after : (k : EndKind) (stack : List Value) (go : Value → List Value → Next) → ((x : Value) (rest : List Value) → NextLater r (go x rest)) → NextLater r (on_end k stack go)
  end_after kinds.Start stack go g = one_after stack go g
  end_after kinds.Back stack go g = one_after stack go g
  end_after kinds.Open stack go g = g zero_value stack

  bring_after : (n : ℕ) (stack : List Value) (go : Value → List Value → Next) → ((x : Value) (rest : List Value) → NextLater r (go x rest)) → NextLater r (bring n stack go)
  bring_after zero [] go g = tt
  bring_after (suc n) [] go g = tt
  bring_after zero (x ∷ rest) go g = g x rest
  bring_after (suc n) (y ∷ rest) go g = bring_after n rest _ (λ x others. g x (y ∷ others))

  rotate_after : (n : ℕ) (stack : List Value) (go : Value → List Value → Next) → ((x : Value) (rest : List Value) → NextLater r (go x rest)) → NextLater r (rotate n stack go)
  rotate_after zero stack go g = tt
  rotate_after (suc n) stack go g = bring_after n stack go g

  some_after : {A : Type 0} (o : Option A) (go : A → Next) → ((x : A) → NextLater r (go x)) → NextLater r (on_some o go)
  some_after None go g = tt
  some_after (Some x) go g = g x

  catch_after : (catches : List Catching) (go : List Catching → Next) → ((rest : List Catching) → NextLater r (go rest)) → NextLater r (end_catch catches go)
  catch_after [] go g = tt
  catch_after (c ∷ cs) go g = g cs

  either_after : (b : Bool) (x y : Next) → NextLater r x → NextLater r y → NextLater r (cond b x y)
  either_after true x y p q = p
  either_after false x y p q = q

  row_after : (o : Option (List Value)) (none : Next) (some : List Value → Next) → NextLater r none → ((row : List Value) → NextLater r (some row)) → NextLater r (row_next o none some)
  row_after None none some p q = p
  row_after (Some row) none some p q = q row

  act_after : (code : Code) (c : Scene) (i : Instr) (p : ℕ) (stack : List Value) (catches : List Catching) (s : State) → Later r s → NextLater r (act code c i p stack catches s)
  act_after code c (PushInt z) p stack catches s h = h
  act_after code c (PushText k) p stack catches s h = some_after (slice_get code.texts k) _ (λ t. h)
  act_after code c (PushLocal k) p stack catches s h = h
  act_after code c (SetLocal k) p stack catches s h = one_after stack _ (λ v rest. record { after = local_after r s k v h.after; still = local_still r.world s k v h.still })
  act_after code c (PushGlobal k) p stack catches s h = h
  act_after code c (SetGlobal k) p stack catches s h = one_after stack _ (λ v rest. record { after = global_after r c s k v h.after; still = global_still r.world c s k v h.still })
  act_after code c Pop p stack catches s h = one_after stack _ (λ v rest. h)
  act_after code c Dup p stack catches s h = one_after stack _ (λ v rest. h)
  act_after code c Dup2 p stack catches s h = two_after stack _ (λ x y rest. h)
  act_after code c (Unary op) p stack catches s h = one_after stack _ (λ x rest. push_after (unary op x s) (p + 1) catches rest (unary_after r op x s h.after) (unary_still r.world op x s h.still))
  act_after code c (Binary op) p stack catches s h = two_after stack _ (λ x y rest. push_after (binary op x y s) (p + 1) catches rest (binary_after_all r op x y s h.after) (binary_still r.world op x y s h.still))
  act_after code c (Step st) p stack catches s h = one_after stack _ (λ x rest. push_after (stepped st x s) (p + 1) catches rest (stepped_after r st x s h.after) (stepped_still r.world st x s h.still))
  act_after code c (Rotate n) p stack catches s h = rotate_after n stack _ (λ x rest. h)
  act_after code c (Index edge) p stack catches s h = two_after stack _ (λ x i rest. push_after (item edge x i s) (p + 1) catches rest (item_after r edge x i s h.after) (item_still r.world edge x i s h.still))
  act_after code c (SetIndex edge) p stack catches s h = three_after stack _ (λ x i v rest. push_after (put_item edge x i v s) (p + 1) catches rest (put_item_after r edge x i v s h.after) (put_item_still r.world edge x i v s h.still))
  act_after code c (Range from to) p stack catches s h =
      end_after to stack _ (λ b rest. end_after from rest _ (λ a rest. one_after rest _ (λ x rest. push_after (range from to x a b s) (p + 1) catches rest (range_after_all r from to x a b s h.after) (range_still r.world from to x a b s h.still))))
  act_after code c (MakeArray n) p stack catches s h = take_after n [] stack _ (λ xs rest. push_after (new_array xs s) (p + 1) catches rest (new_array_after r xs s h.after) (new_array_still r.world xs s h.still))
  act_after code c (MakeMap n) p stack catches s h = take_after (2 * n) [] stack _ (λ xs rest. push_after (new_mapping xs s) (p + 1) catches rest (new_mapping_after r xs s h.after) (new_mapping_still r.world xs s h.still))
  act_after code c (Jump to) p stack catches s h = h
  act_after code c (JumpIfZero to) p stack catches s h = one_after stack _ (λ v rest. either_after (is_false s v) _ _ h h)
  act_after code c (JumpIfNotZero to) p stack catches s h = one_after stack _ (λ v rest. either_after (is_false s v) _ _ h h)
  act_after code c (KeepIfZero to) p stack catches s h = one_after stack _ (λ v rest. either_after (is_false s v) _ _ h h)
  act_after code c (KeepIfNotZero to) p stack catches s h = one_after stack _ (λ v rest. either_after (is_false s v) _ _ h h)
  act_after code c LoopTurn p stack catches s h = then_after (pay 1 s (Gives zero_value)) catches stack _ (pay_after r 1 s (Gives zero_value) h.after (λ t l. l)) (pay_still r.world 1 s (Gives zero_value) h.still (λ t l. l)) (λ x t l. l)
  act_after code c (CallSlot k n) p stack catches s h =
      take_after n [] stack _ (λ xs rest. some_after (slice_get code.rows k) _ (λ name. awaits_after (Internal name) xs c s (p + 1) catches rest h))
  act_after code c (CallFixed parent j n) p stack catches s h =
      take_after n [] stack _ (λ xs rest. some_after (parent_row code parent j) _ (λ name. awaits_after (Parent parent name) xs c s (p + 1) catches rest h))
  act_after code c (CallOther n) p stack catches s h =
      take_after n [] stack _ (λ xs rest. two_after rest _ (λ o name rest. awaits_after (OfEfun efun.CallOther) (o ∷ name ∷ xs) c s (p + 1) catches rest h))
  act_after code c (CallEfun e n) p stack catches s h = take_after n [] stack _ (λ xs rest. awaits_after (OfEfun e) xs c s (p + 1) catches rest h)
  act_after code c (CallSimul k n) p stack catches s h =
      take_after n [] stack _ (λ xs rest. some_after (slice_get code.texts k) _ (λ name. awaits_after (OfEfun efun.CallOther) (simul_object s.world ∷ values.Str name ∷ xs) c s (p + 1) catches rest h))
  act_after code c (Scan n) p stack catches s h = two_after stack _ (λ x form rest. then_after (scan n x form s) catches rest _ (scan_after r n x form s h.after) (scan_still r.world n x form s h.still) (λ vs t l. l))
  act_after code c (CatchBegin to) p stack catches s h = h
  act_after code c CatchEnd p stack catches s h = catch_after catches _ (λ rest. h)
  act_after code c (Switch k) p stack catches s h = one_after stack _ (λ v rest. some_after (slice_get code.switches k) _ (λ table. h))
  act_after code c (EachBegin n) p stack catches s h = one_after stack _ (λ v rest. then_after (copied v s) catches rest _ (copied_after r v s h.after) (copied_still r.world v s h.still) (λ copy t l. l))
  act_after code c (EachNext to n) p stack catches s h = two_after stack _ (λ copy k rest. row_after (row_at (nat_eq n 2) copy (place_in k) s) _ _ h (λ row. h))
  act_after code c Return p stack catches s h = one_after stack _ (λ v rest. h)
  act_after code c ReturnZero p stack catches s h = h

-- From what comes next to the state in which the code told it.

module _ (r s : State) where
  taken_back : (n : ℕ) (taken stack : List Value) (go : List Value → List Value → Next) → ((xs rest : List Value) → IsFine (go xs rest) → NextLater r (go xs rest) → Later r s)
      → IsFine (take_arguments n taken stack go) → NextLater r (take_arguments n taken stack go) → Later r s
  taken_back zero taken stack go g f h = g taken stack f h
  taken_back (suc n) taken [] go g f h = absurd f
  taken_back (suc n) taken (x ∷ stack) go g f h = taken_back n (x ∷ taken) stack go g f h

  some_back : {A : Type 0} (o : Option A) (go : A → Next) → ((x : A) → IsFine (go x) → NextLater r (go x) → Later r s) → IsFine (on_some o go) → NextLater r (on_some o go) → Later r s
  some_back None go g f h = absurd f
  some_back (Some x) go g f h = g x f h

  two_back : (stack : List Value) (go : Value → Value → List Value → Next) → ((x y : Value) (rest : List Value) → IsFine (go x y rest) → NextLater r (go x y rest) → Later r s)
      → IsFine (on_two stack go) → NextLater r (on_two stack go) → Later r s
  two_back [] go g f h = absurd f
  two_back (y ∷ []) go g f h = absurd f
  two_back (y ∷ x ∷ rest) go g f h = g x y rest f h

  asks_back : (what : Asked) (xs : List Value) (c : Scene) (place : ℕ) (catches : List Catching) (stack : List Value) → NextLater r (awaits what xs c s place catches stack) → Later r s
  asks_back what xs c place catches stack h = record { after = record { no_more = h.0.no_more; keeps = h.0.keeps; commands = h.0.commands }; still = h.1 }

  stop_back : (o : Option Value) (x : Stop) (catches : List Catching) (stack : List Value) → NextLater r (stop_at o x catches stack s) → Later r s
  stop_back None x catches stack h = h
  stop_back (Some v) x [] stack h = h
  stop_back (Some v) x (c ∷ cs) stack h = h

pub led_after : (r : State) (n : Led) (a : Around) (m : Moment) → IsFine (told_by n a m) → NextLater r (told_by n a m) → Later r m.state
led_after r nexts.Again a m f h = h
led_after r (nexts.Call c) a m f h = called c.target c.args f h
  where
    called : (t : Target) (n : ℕ) → IsFine (asked t n a m) → NextLater r (asked t n a m) → Later r m.state
    called (targets.Slot k) n f h = taken_back r m.state n [] m.stack _ (λ xs rest f h. some_back r m.state (slice_get a.code.rows k) _ (λ name f h. asks_back r m.state (Internal name) xs a.scene m.place m.catches rest h) f h) f h
    called (targets.Fixed parent j) n f h = taken_back r m.state n [] m.stack _ (λ xs rest f h. some_back r m.state (parent_row a.code parent j) _ (λ name f h. asks_back r m.state (Parent parent name) xs a.scene m.place m.catches rest h) f h) f h
    called targets.Other n f h = taken_back r m.state n [] m.stack _ (λ xs rest f h. two_back r m.state rest _ (λ o name rest f h. asks_back r m.state (OfEfun efun.CallOther) (o ∷ name ∷ xs) a.scene m.place m.catches rest h) f h) f h
    called (targets.Simul k) n f h = taken_back r m.state n [] m.stack _ (λ xs rest f h. some_back r m.state (slice_get a.code.texts k) _ (λ name f h. asks_back r m.state (OfEfun efun.CallOther) (simul_object m.state.world ∷ values.Str name ∷ xs) a.scene m.place m.catches rest h) f h) f h
led_after r (nexts.Back c) a m f h = taken_back r m.state c.args [] m.stack _ (λ xs rest f h. asks_back r m.state (OfEfun c.efun) xs a.scene m.place m.catches rest h) f h
led_after r (nexts.Done v) a m f h = h
led_after r (nexts.Error e) a m f h = stop_back r m.state (caught (Failed e)) (here (Failed e)) m.catches m.stack h
led_after r nexts.Spent a m f h = h

-- what is as the shapes say does not fail
pub fine_next : (shapes : Shapes) (x : Next) → NextMatches shapes x → IsFine x
fine_next shapes (Goes m) h = tt
fine_next shapes (Ended e) h = tt
fine_next shapes (Awaits q k) h = tt
fine_next shapes Wrong h = h

pub machine_keeps : MachineKeeps
machine_keeps code c m = at_instr (slice_get code.instrs m.place)
  where
    at_instr : (o : Option Instr) → NextLater m.state (act_at code c o m)
    at_instr None = tt
    at_instr (Some i) = act_after m.state code c i m.place m.stack m.catches m.state (later_same m.state)
