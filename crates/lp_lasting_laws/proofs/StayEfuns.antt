-- Efuns keep call-outs.
use Rattle.std.proofs.Common.{◌≡◌, ℕ, Bool, true, false, cond, List, [], ◌∷◌, Option, Some, None, refl}
use Rattle.std.specs.Prelude.{ℤ, ◌%◌, pos, negsuc, not, drop, nat_eq, nat_lt, length}
use Rattle.std.specs.Ordering.{int_eq}
use Rattle.lp_values.specs.declared.id.CellId.{CellId}
use Rattle.lp_values.specs.declared.id.ObjId.{ObjId}
use Rattle.lp_values.specs.declared.value.Value.{Value}
use Rattle.lp_values.specs.declared.error.ErrorKind.TheVariants as errors
use Rattle.lp_cells.specs.Cells.{pairs_at}
use Rattle.lp_cells.specs.Cells.{content_set}
use Rattle.lp_cells.specs.Mapping.{pairs_dropped}
use Rattle.lp_cells.specs.declared.content.Content.TheVariants as content
use Rattle.lp_ops.specs.Effects.{refused}
use Rattle.lp_ops.specs.Integers.{int}
use Rattle.rand_xoshiro.specs.SplitMix64.{mix_u64}
use Rattle.lp_ops.specs.declared.effect.Effect.{Effect}
use Rattle.lp_ops.specs.Operands.{Opened, Number, Chars, Array, Mapping, Object}
use Rattle.lp_events.specs.declared.out.Out.TheVariants as outs
use Rattle.lp_instr.specs.declared.efun.Efun.{Efun}
use Rattle.lp_instr.specs.declared.efun.Efun.TheVariants.{ThisObject, ThisPlayer, ThisInteractive, PreviousObject, CallOther, CloneObject, LoadObject, FindObject, Destruct, ObjectName, LoadName, ProgramName, Clonep, Objectp, Intp, Stringp, Pointerp, Mappingp, Living, Interactive, FunctionExists, EnableCommands, Shadow, QueryShadowing, Unshadow, Environment, AllInventory, FirstInventory, NextInventory, Present, MoveObject, AddAction, Command, QueryVerb, NotifyFail, InputTo, Write, TellObject, TellRoom, Say, Printf, Users, Exec, RemoveInteractive, Time, SetHeartBeat, CallOut, RemoveCallOut, FindCallOut, Random, Throw, RaiseError, Strlen, Explode, Implode, LowerCase, UpperCase, Capitalize, Strstr, Trim, Sprintf, Sscanf, ToInt, ToString, Sizeof, Allocate, Member, Copy, Filter, Map, MIndices, MValues, MDelete, Mkmapping, Min, Max, Abs, ReadFile, WriteFile, FileSize, Rm, SaveObject, RestoreObject}
use Rattle.lp_language.specs.World.{World, object_at, is_live}
use Rattle.lp_lasting_laws.specs.Lasting.{Keeps}
use Rattle.lp_timers.specs.Timers.{CallOut as CallOutOf}
use Rattle.lp_language.specs.Course.{AreSameCommands, Typed, Scene, State}
use Rattle.lp_language.specs.Operations.{with_world, with_store, cells_of, living}
use Rattle.lp_lasting_laws.specs.Lasting.{After}
use Rattle.lp_language.proofs.Kept.{commands_trans}
use Rattle.lp_lasting_laws.proofs.KeptCalls.{keeps_pairs}
use Rattle.lp_timers.specs.Timers.{max_call_outs, beats, beat_off, beat_on, earliest}
use Rattle.lp_meaning.specs.WorldSteps.{connection_of, is_connected, destructed, destruction, with_holder, without_connection}
use Rattle.lp_meaning.specs.Askers.{told}
use Rattle.lp_meaning.specs.EfunArguments.{arg, int_arg, text_arg, object_arg, value_arg}
use Rattle.lp_meaning.specs.WorldEfuns.{Deed, Yields, Throws, zero as nil, one as yes_one, changes, object_or_this, of_object, of_live, living_object, enabled, with_shadows_less, with_sentence, holder_for, has_function, is_flag, add_action, with_fail, failing, with_waiting, free_connection, input_to, exec, remove_interactive, with_beats, set_heart_beat, with_call_out, call_out_after, call_out, seconds_left, without_one, with_generator, random, pairs_left, m_delete, deed}
use Rattle.lp_lasting_laws.proofs.KeptCalls.{keeps_less, keeps_new_call_out, keeps_these, keeps_object, keeps_destructed}
use Rattle.lp_lasting_laws.proofs.Stays.{after_world}

-- a deed comes after a state
abbrev pub DeedAfter : State → Deed → Type 0
DeedAfter r (Yields e s) = After r s
DeedAfter r (Throws v) = Unit {0}

fails_same : (t : List ℕ) (cs : List Typed) → AreSameCommands cs (with_fail t cs)
fails_same t [] = tt
fails_same t (c ∷ cs) = (refl, refl)

module _ (r : State) where
  changes_after : (w : World) (e : Effect) (s : State) → After r s → Keeps s.world w → DeedAfter r (changes w e s)
  changes_after w e s h k = after_world r s (with_world s w) h refl refl k

  these_after : (w : World) (e : Effect) (s : State) → After r s → w.call_outs ≡ s.world.call_outs → w.next_call_out ≡ s.world.next_call_out → DeedAfter r (changes w e s)
  these_after w e s h p q = changes_after w e s h (keeps_these s.world w p q)

  deed_cond : (b : Bool) (d e : Deed) → DeedAfter r d → DeedAfter r e → DeedAfter r (cond b d e)
  deed_cond true d e h g = h
  deed_cond false d e h g = g

  deed_either : {B : Type 0} (o : Option B) (some : B → Deed) (none : Deed) → ((x : B) → DeedAfter r (some x)) → DeedAfter r none → DeedAfter r (elim o [ Some x ↦ some x | None ↦ none ])
  deed_either None some none g h = h
  deed_either (Some x) some none g h = g x

  of_object_after : (e : Efun) (n : ℕ) (o : Option ObjId) (s : State) (go : ObjId → Deed) → After r s → ((o : ObjId) → DeedAfter r (go o)) → DeedAfter r (of_object e n o s go)
  of_object_after e n None s go h g = h
  of_object_after e n (Some o) s go h g = g o

  of_live_after : (o : Option ObjId) (s : State) (go : ObjId → Deed) → After r s → ((o : ObjId) → DeedAfter r (go o)) → DeedAfter r (of_live o s go)
  of_live_after None s go h g = h
  of_live_after (Some o) s go h g = g o

  enabled_after : (o : ObjId) (s : State) → After r s → After r (enabled o s)
  enabled_after o s h = after_world r s (enabled o s) h refl refl (keeps_object s.world o (living_object (object_at s.world o)) (record { name = refl; version = refl }))

  failing_after : (t : List ℕ) (s : State) → After r s → After r (failing t s)
  failing_after t s h = record { no_more = h.no_more; keeps = h.keeps; commands = commands_trans r.commands s.commands (with_fail t s.commands) h.commands (fails_same t s.commands) }

  destructed_after : (o : ObjId) (s : State) → After r s → After r (told (destruction s.world o) (with_world s (destructed s.world o)))
  destructed_after o s h = after_world r s (told (destruction s.world o) (with_world s (destructed s.world o))) h refl refl (keeps_destructed s.world o)

  exec_after : (a b : ObjId) (s : State) → After r s → DeedAfter r (exec a b s)
  exec_after a b s h =
      deed_either (connection_of s.world b) (λ k. cond (is_connected s.world a) (Yields nil s) (changes (with_holder s.world k a) yes_one s)) (Yields nil s)
      (λ k. deed_cond (is_connected s.world a) (Yields nil s) (changes (with_holder s.world k a) yes_one s) h (these_after (with_holder s.world k a) yes_one s h refl refl)) h

  remove_after : (o : ObjId) (s : State) → After r s → DeedAfter r (remove_interactive o s)
  remove_after o s h =
      let closed : ℕ → State = λ k. told (outs.Close k ∷ []) (with_world s (without_connection s.world k)) in
      deed_either (connection_of s.world o) (λ k. Yields nil (closed k)) (Yields nil s) (λ k. after_world r s (closed k) h refl refl (keeps_these s.world (without_connection s.world k) refl refl)) h

  action_after : (c : Scene) (s : State) (xs : List Opened) → After r s → DeedAfter r (add_action c s xs)
  action_after c s xs h =
      let with_one : ObjId → World = λ p. with_sentence s.world p c.this (text_arg xs 0) (text_arg xs 1) (is_flag (int_arg xs 2)) in
      let held : ObjId → Deed = λ p. cond (has_function s.world c.this (text_arg xs 0)) (changes (with_one p) yes_one s) (Yields (refused errors.NoFunction) s) in
      deed_cond (not (is_live s.world c.this)) (Yields nil s) (elim (holder_for s.world c.this s.player) [ None ↦ Yields nil s | Some p ↦ held p ]) h
      (deed_either (holder_for s.world c.this s.player) held (Yields nil s) (λ p.
      deed_cond (has_function s.world c.this (text_arg xs 0)) (changes (with_one p) yes_one s) (Yields (refused errors.NoFunction) s) (these_after (with_one p) yes_one s h refl refl) h) h)

  input_after : (c : Scene) (s : State) (vs : List Value) (xs : List Opened) → After r s → DeedAfter r (input_to c s vs xs)
  input_after c s vs xs h =
      let waits : ℕ → State = λ k. told (cond (is_flag (int_arg xs 1)) (outs.Hide k ∷ []) []) (with_world s (with_waiting s.world k c.this (text_arg xs 0) (is_flag (int_arg xs 1)) (drop 2 vs))) in
      let one : ℕ → Deed = λ k. cond (has_function s.world c.this (text_arg xs 0)) (Yields yes_one (waits k)) (Yields (refused errors.NoFunction) s) in
      deed_either (free_connection s.world s.player) one (Yields nil s) (λ k.
      deed_cond (has_function s.world c.this (text_arg xs 0)) (Yields yes_one (waits k)) (Yields (refused errors.NoFunction) s)
      (after_world r s (waits k) h refl refl (keeps_these s.world (with_waiting s.world k c.this (text_arg xs 0) (is_flag (int_arg xs 1)) (drop 2 vs)) refl refl)) h) h

  beat_after : (c : Scene) (s : State) (n : ℤ) → After r s → DeedAfter r (set_heart_beat c s n)
  beat_after c s n h =
      let off : World = with_beats s.world (beat_off s.world.beats c.this) in
      let on : World = with_beats s.world (beat_on s.world.beats c.this s.world.clock) in
      let offs : Deed = cond (beats s.world.beats c.this) (changes off yes_one s) (Yields nil s) in
      let ons : Deed = cond (beats s.world.beats c.this) (Yields nil s) (changes on yes_one s) in
      deed_cond (not (is_live s.world c.this)) (Yields nil s) (cond (int_eq n (pos 0)) offs ons) h
      (deed_cond (int_eq n (pos 0)) offs ons
      (deed_cond (beats s.world.beats c.this) (changes off yes_one s) (Yields nil s) (these_after off yes_one s h refl refl) h)
      (deed_cond (beats s.world.beats c.this) (Yields nil s) (changes on yes_one s) h (these_after on yes_one s h refl refl)))

  call_after : (c : Scene) (s : State) (vs : List Value) (fun : List ℕ) (n : ℤ) → After r s → DeedAfter r (call_out_after c s vs fun n)
  call_after c s vs fun (negsuc n) h = h
  call_after c s vs fun (pos n) h =
      let w : World = with_call_out s.world c.this fun n (drop 2 vs) in
      let room : Deed = cond (nat_lt (length s.world.call_outs) max_call_outs) (changes w nil s) (Yields (refused errors.TooMany) s) in
      deed_cond (not (has_function s.world c.this fun)) (Yields (refused errors.NoFunction) s) room h
      (deed_cond (nat_lt (length s.world.call_outs) max_call_outs) (changes w nil s) (Yields (refused errors.TooMany) s) (changes_after w nil s h (keeps_new_call_out s.world c.this fun n (drop 2 vs))) h)

  call_out_stays : (c : Scene) (s : State) (vs : List Value) (xs : List Opened) → After r s → DeedAfter r (call_out c s vs xs)
  call_out_stays c s vs xs h =
      deed_cond (is_live s.world c.this) (call_out_after c s vs (text_arg xs 0) (int_arg xs 1)) (Yields nil s) (call_after c s vs (text_arg xs 0) (int_arg xs 1) h) h

  less_after : (x : Option CallOutOf) (e : Effect) (s : State) → After r s → DeedAfter r (changes (without_one s.world x) e s)
  less_after None e s h = after_world r s (with_world s s.world) h refl refl (keeps_these s.world s.world refl refl)
  less_after (Some x) e s h = changes_after (without_one s.world (Some x)) e s h (keeps_less s.world x)

  random_after : (n : ℤ) (s : State) → After r s → DeedAfter r (random n s)
  random_after (negsuc n) s h = h
  random_after (pos n) s h =
      let w : World = with_generator s.world (mix_u64 s.world.generator).1 in
      let e : Effect = int (pos ((mix_u64 s.world.generator).0 % n)) in
      deed_cond (nat_eq n 0) (Yields nil s) (changes w e s) h (these_after w e s h refl refl)

  left_after : (s : State) (c : CellId) (o : Option (List (Value × Value))) (k : Value) → pairs_at (cells_of s) c ≡ o → After r s → DeedAfter r (pairs_left s c o k)
  left_after s c None k e h = h
  left_after s c (Some ps) k e h =
      let qs = pairs_dropped (living s) ps k in
      after_world r s (with_store s (content_set (cells_of s) c (content.Mapping qs))) h refl refl (keeps_pairs s.world c ps qs e)

  delete_after : (s : State) (x : Opened) (k : Value) → After r s → DeedAfter r (m_delete s x k)
  delete_after s (Number i) k h = h
  delete_after s (Chars t) k h = h
  delete_after s (Array c vs) k h = h
  delete_after s (Mapping c ps) k h = left_after s c (pairs_at (cells_of s) c) k refl h
  delete_after s (Object o) k h = h

  pub deed_after : (e : Efun) (c : Scene) (s : State) (vs : List Value) (xs : List Opened) → After r s → DeedAfter r (deed e c s vs xs)
  unfolding deed
  deed_after ThisObject c s vs xs h = h
  deed_after ThisPlayer c s vs xs h = h
  deed_after ThisInteractive c s vs xs h = h
  deed_after PreviousObject c s vs xs h = h
  deed_after CallOther c s vs xs h = h
  deed_after CloneObject c s vs xs h = h
  deed_after LoadObject c s vs xs h = h
  deed_after FindObject c s vs xs h = h
  deed_after Destruct c s vs xs h = of_live_after (object_arg xs 0) s _ h (λ o. destructed_after o s h)
  deed_after ObjectName c s vs xs h = of_object_after ObjectName 1 (object_or_this c s xs 0) s _ h (λ o. h)
  deed_after LoadName c s vs xs h = of_object_after LoadName 1 (object_or_this c s xs 0) s _ h (λ o. h)
  deed_after ProgramName c s vs xs h = of_object_after ProgramName 1 (object_or_this c s xs 0) s _ h (λ o. h)
  deed_after Clonep c s vs xs h = h
  deed_after Objectp c s vs xs h = h
  deed_after Intp c s vs xs h = h
  deed_after Stringp c s vs xs h = h
  deed_after Pointerp c s vs xs h = h
  deed_after Mappingp c s vs xs h = h
  deed_after Living c s vs xs h = of_live_after (object_arg xs 0) s _ h (λ o. h)
  deed_after Interactive c s vs xs h = of_object_after Interactive 1 (object_or_this c s xs 0) s _ h (λ o. h)
  deed_after FunctionExists c s vs xs h = of_object_after FunctionExists 2 (object_or_this c s xs 1) s _ h (λ o. h)
  deed_after EnableCommands c s vs xs h = deed_cond (is_live s.world c.this) (Yields nil (enabled c.this s)) (Yields nil s) (enabled_after c.this s h) h
  deed_after Shadow c s vs xs h = h
  deed_after QueryShadowing c s vs xs h = of_live_after (object_arg xs 0) s _ h (λ o. h)
  deed_after Unshadow c s vs xs h = these_after (with_shadows_less s.world c.this) nil s h refl refl
  deed_after Environment c s vs xs h = of_object_after Environment 1 (object_or_this c s xs 0) s _ h (λ o. h)
  deed_after AllInventory c s vs xs h = of_object_after AllInventory 1 (object_or_this c s xs 0) s _ h (λ o. h)
  deed_after FirstInventory c s vs xs h = of_object_after FirstInventory 1 (object_or_this c s xs 0) s _ h (λ o. h)
  deed_after NextInventory c s vs xs h = of_object_after NextInventory 1 (object_or_this c s xs 0) s _ h (λ o. h)
  deed_after Present c s vs xs h = h
  deed_after MoveObject c s vs xs h = h
  deed_after AddAction c s vs xs h = action_after c s xs h
  deed_after Command c s vs xs h = h
  deed_after QueryVerb c s vs xs h = h
  deed_after NotifyFail c s vs xs h = failing_after (text_arg xs 0) s h
  deed_after InputTo c s vs xs h = input_after c s vs xs h
  deed_after Write c s vs xs h = h
  deed_after TellObject c s vs xs h = h
  deed_after TellRoom c s vs xs h = h
  deed_after Say c s vs xs h = h
  deed_after Printf c s vs xs h = h
  deed_after Users c s vs xs h = h
  deed_after Exec c s vs xs h = of_live_after (object_arg xs 0) s _ h (λ a. of_live_after (object_arg xs 1) s _ h (λ b. exec_after a b s h))
  deed_after RemoveInteractive c s vs xs h = of_live_after (object_arg xs 0) s _ h (λ o. remove_after o s h)
  deed_after Time c s vs xs h = h
  deed_after SetHeartBeat c s vs xs h = beat_after c s (int_arg xs 0) h
  deed_after CallOut c s vs xs h = call_out_stays c s vs xs h
  deed_after RemoveCallOut c s vs xs h = less_after (earliest s.world.call_outs c.this (text_arg xs 0)) (seconds_left s.world (earliest s.world.call_outs c.this (text_arg xs 0))) s h
  deed_after FindCallOut c s vs xs h = h
  deed_after Random c s vs xs h = random_after (int_arg xs 0) s h
  deed_after Throw c s vs xs h = tt
  deed_after RaiseError c s vs xs h = h
  deed_after Strlen c s vs xs h = h
  deed_after Explode c s vs xs h = h
  deed_after Implode c s vs xs h = h
  deed_after LowerCase c s vs xs h = h
  deed_after UpperCase c s vs xs h = h
  deed_after Capitalize c s vs xs h = h
  deed_after Strstr c s vs xs h = h
  deed_after Trim c s vs xs h = h
  deed_after Sprintf c s vs xs h = h
  deed_after Sscanf c s vs xs h = h
  deed_after ToInt c s vs xs h = h
  deed_after ToString c s vs xs h = h
  deed_after Sizeof c s vs xs h = h
  deed_after Allocate c s vs xs h = h
  deed_after Member c s vs xs h = h
  deed_after Copy c s vs xs h = h
  deed_after Filter c s vs xs h = h
  deed_after Map c s vs xs h = h
  deed_after MIndices c s vs xs h = h
  deed_after MValues c s vs xs h = h
  deed_after MDelete c s vs xs h = delete_after s (arg xs 0) (value_arg vs 1) h
  deed_after Mkmapping c s vs xs h = h
  deed_after Min c s vs xs h = h
  deed_after Max c s vs xs h = h
  deed_after Abs c s vs xs h = h
  deed_after ReadFile c s vs xs h = h
  deed_after WriteFile c s vs xs h = h
  deed_after FileSize c s vs xs h = h
  deed_after Rm c s vs xs h = h
  deed_after SaveObject c s vs xs h = h
  deed_after RestoreObject c s vs xs h = h
