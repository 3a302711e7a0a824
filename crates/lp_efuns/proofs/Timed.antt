-- Heart beats and call-outs.
use Rattle.std.proofs.Common.{◌≡◌, ◌∙◌, ◌-◌, ℕ, ℤ, pos, Bool, true, false, not, List, [], ◌∷◌, Option, Some, None, All, refl, ap, sym, subst, map, option_map, nat_eq, ◌||◌, if◌then◌else◌}
use Rattle.std.specs.Ordering.{int_eq}
use Rattle.std.proofs.lemmas.List.Elements.{All-filter}
use Rattle.lp_values.specs.declared.id.ObjId.{ObjId}
use Rattle.lp_values.specs.declared.value.Value.{Value}
use Rattle.lp_values.specs.declared.value.Value.TheVariants as values
use Rattle.lp_cells.specs.Cells.{IsThere, Store}
use Rattle.lp_ops.specs.declared.effect.Effect.TheVariants.{Gives}
use Rattle.lp_ops.specs.Operands.{operand}
use Rattle.lp_instr.specs.declared.efun.Efun.TheVariants as efuns
use Rattle.lp_timers.specs.Timers.{Beat, CallOut, beat_off, beat_on, beats, earliest}
use Rattle.lp_timers.specs.Timing.{Timing, beat_turned, turns_beat}
use Rattle.lp_timers.specs.Waiting.{without_this}
use Rattle.lp_language.specs.Course.{Scene, State}
use Rattle.lp_language.specs.Operations.{cells_of, living, with_world}
use Rattle.lp_language.specs.World.{World, is_live}
use Rattle.lp_meaning.specs.EfunArguments.{int_arg, opened_args, text_arg}
use Rattle.lp_meaning.specs.WorldEfuns.{Deed, Yields, changes, deed, one, seconds_left, set_heart_beat, with_beats, without_one, zero}
use Rattle.lp_world.specs.Closed.{AreNumbered}
use Rattle.lp_world.specs.Rows.{live_in}
use Rattle.lp_world.specs.declared.live.Live.{Live}
use Rattle.lp_world.proofs.Keeping.{live_same}
use Rattle.lp_world.proofs.Numbering.{numbered_filter, numbered_same}
use Rattle.lp_efuns.specs.declared.answer.Did.{Did}
use Rattle.lp_efuns.specs.declared.answer.Did.TheVariants as did
use Rattle.lp_efuns.specs.declared.caller.Caller.{Caller}
use Rattle.lp_efuns.specs.declared.caller.Turn.{Turn}
use Rattle.lp_efuns.specs.Deeds.{Does, IsDone, Looks, deed_done}
use Rattle.lp_efuns.specs.Subjects.{seconds_from}
use Rattle.lp_efuns.specs.Turns.{At, IsScene}
use Rattle.lp_efuns.proofs.Rested.{at_timing}

-- the seconds to a call-out
seconds_same : (w : World) (clock : ℕ) (o : Option CallOut) → clock ≡ w.clock → seconds_left w o ≡ Gives (seconds_from clock (option_map (λ c. c.due) o))
seconds_same w clock None e = refl
seconds_same w clock (Some c) e = ap (λ n. Gives (values.Int (pos (c.due - n)))) (sym e)

-- the call-out that is meant is one in both
earliest_same : (live : Live) (w : World) (caller : Caller) (c : Scene) (s : State) (vs : List Value) (t : List ℕ) → live.timers.call_outs ≡ w.call_outs → IsScene caller c
    → ((l : ObjId → Bool) (cells : Store) → t ≡ text_arg (map (operand l cells) vs) 0) → earliest w.call_outs c.this (text_arg (opened_args s vs) 0) ≡ earliest live.timers.call_outs caller.this t
earliest_same live w caller c s vs t e sc f =
    ap (λ cs. earliest cs c.this (text_arg (opened_args s vs) 0)) (sym e) ∙ ap (λ o. earliest live.timers.call_outs o (text_arg (opened_args s vs) 0)) sc.this ∙ ap (earliest live.timers.call_outs caller.this) (sym (f (living s) (cells_of s)))

pub found_call_out : (caller : Caller) (vs : List Value) (live : Live) (turn : Turn) (t : List ℕ) (v : Value) → ((l : ObjId → Bool) (cells : Store) → t ≡ text_arg (map (operand l cells) vs) 0)
    → v ≡ seconds_from live.clock (option_map (λ c. c.due) (earliest live.timers.call_outs caller.this t)) → Looks efuns.FindCallOut caller vs live turn (Gives v)
unfolding deed
found_call_out caller vs live turn t v f e g b c s sc h =
    ap (λ o. Yields (seconds_left s.world o) s) (earliest_same live s.world caller c s vs t (ap (λ t. t.call_outs) h.stands.rest.timing) sc f)
    ∙ ap (λ x. Yields x s) (seconds_same s.world live.clock (earliest live.timers.call_outs caller.this t) h.stands.rest.clock ∙ ap Gives (sym e))

without_same : (w : World) (o : Option CallOut) → without_one w o ≡ record w { call_outs = without_this w.call_outs o }
without_same w None = refl
without_same w (Some c) = refl

pub removed_call_out : (caller : Caller) (vs : List Value) (live : Live) (turn : Turn) (t : List ℕ) (v : Value) (timers : Timing) → ((l : ObjId → Bool) (cells : Store) → t ≡ text_arg (map (operand l cells) vs) 0)
    → v ≡ seconds_from live.clock (option_map (λ c. c.due) (earliest live.timers.call_outs caller.this t))
    → timers ≡ record { next = live.timers.next; call_outs = without_this live.timers.call_outs (earliest live.timers.call_outs caller.this t); beats = live.timers.beats; watches = live.timers.watches }
    → Does efuns.RemoveCallOut caller vs live turn (did.Value v) (record live { timers = timers }) turn
unfolding deed
removed_call_out caller vs live turn t v timers f e q g b c s sc h =
    let same : live.timers ≡ record { next = s.world.next_call_out; call_outs = s.world.call_outs; beats = s.world.beats; watches = s.world.watches } = h.stands.rest.timing in
    let o : Option CallOut = earliest live.timers.call_outs caller.this t in
    let w : World = record s.world { call_outs = without_this s.world.call_outs o; beats = s.world.beats } in
    subst (λ d. IsDone (did.Value v) (At g (record live { timers = timers }) turn b) (deed_done d s))
    (sym (ap (λ x. changes (without_one s.world x) (seconds_left s.world x) s) (earliest_same live s.world caller c s vs t (ap (λ t. t.call_outs) same) sc f)
    ∙ ap (λ u. changes u (seconds_left s.world o) s) (without_same s.world o)
    ∙ ap (λ x. changes w x s) (seconds_same s.world live.clock o h.stands.rest.clock))) (
      sym e,
      at_timing g live turn b s timers (without_this s.world.call_outs o) s.world.beats
          (q ∙ ap (λ (t : Timing). record { next = t.next; call_outs = without_this t.call_outs o; beats = t.beats; watches = t.watches }) same) h,
    )

-- what is left of the call-outs names what is there
pub left_there : (cells : Store) (cs : List CallOut) (o : Option CallOut) → All (λ (c : CallOut). All (IsThere cells) c.arguments) cs → All (λ (c : CallOut). All (IsThere cells) c.arguments) (without_this cs o)
left_there cells cs None h = h
left_there cells cs (Some x) h = All-filter (λ c. not (nat_eq c.number x.number)) (λ (c : CallOut). All (IsThere cells) c.arguments) cs h

-- and each has a number of its own
pub left_numbered : (old new : Timing) (o : Option CallOut) → new.next ≡ old.next → new.call_outs ≡ without_this old.call_outs o → AreNumbered old → AreNumbered new
left_numbered old new None n e h = numbered_same old new n e h
left_numbered old new (Some x) n e h = numbered_filter (λ c. not (nat_eq c.number x.number)) old new n e h

-- Hearts

no_beat : (bs : List Beat) (o : ObjId) → beats bs o ≡ false → beat_off bs o ≡ bs
no_beat [] o e = refl
no_beat (x ∷ xs) o e = by (nat_eq x.object.0 o.0) (no_beat xs o) e
  where
    by : (b : Bool) → (beats xs o ≡ false → beat_off xs o ≡ xs) → (b || beats xs o) ≡ false → (if not b then x ∷ beat_off xs o else beat_off xs o) ≡ x ∷ xs
    by true k q = absurd (differ q)
      where
        differ : true ≡ false → ⊥
        differ q = cc
    by false k q = ap (λ l. x ∷ l) (k q)

abbrev pub truth_value : Bool → Value
truth_value b = values.Int (if b then pos 1 else pos 0)

-- what the table does is what the efun means
turned : (s : State) (o : ObjId) (off bt : Bool) (bs : List Beat) → beats bs o ≡ bt → bs ≡ s.world.beats
    → (if off then (if bt then changes (with_beats s.world (beat_off bs o)) one s else Yields zero s) else (if bt then Yields zero s else changes (with_beats s.world (beat_on bs o s.world.clock)) one s))
    ≡ changes (with_beats s.world (if not off then (if bt then bs else beat_on bs o s.world.clock) else beat_off bs o)) (Gives (truth_value (if not off then not bt else bt))) s
turned s o true true bs e q = refl
turned s o true false bs e q = ap (λ l. Yields zero (with_world s (with_beats s.world l))) (sym q ∙ sym (no_beat bs o e))
turned s o false true bs e q = ap (λ l. Yields zero (with_world s (with_beats s.world l))) (sym q)
turned s o false false bs e q = refl

-- by this object, its heart, and whether it is switched off
after_live : State → ObjId → List Beat → Bool → Deed
after_live s o bs off = if off then (if beats bs o then changes (with_beats s.world (beat_off s.world.beats o)) one s else Yields zero s) else (if beats bs o then Yields zero s else changes (with_beats s.world (beat_on s.world.beats o s.world.clock)) one s)

beat_means : (c : Scene) (s : State) (o : ObjId) (n : ℤ) → c.this ≡ o → is_live s.world o ≡ true → set_heart_beat c s n ≡ after_live s o s.world.beats (int_eq n (pos 0))
unfolding after_live
beat_means c s o n e l =
    ap (λ o. if not (is_live s.world o) then Yields zero s else after_live s o s.world.beats (int_eq n (pos 0))) e
    ∙ ap (λ v. if not v then Yields zero s else after_live s o s.world.beats (int_eq n (pos 0))) l

table_means : (s : State) (o : ObjId) (off : Bool) (bs : List Beat) → bs ≡ s.world.beats
    → after_live s o s.world.beats off ≡ changes (with_beats s.world (if not off then (if beats bs o then bs else beat_on bs o s.world.clock) else beat_off bs o)) (Gives (truth_value (if not off then not (beats bs o) else beats bs o))) s
unfolding after_live
table_means s o off bs e =
    ap (λ l. if off then (if beats l o then changes (with_beats s.world (beat_off l o)) one s else Yields zero s) else (if beats l o then Yields zero s else changes (with_beats s.world (beat_on l o s.world.clock)) one s)) (sym e)
    ∙ turned s o off (beats bs o) bs refl e

pub beat_does : (caller : Caller) (vs : List Value) (live : Live) (turn : Turn) (on changed : Bool) (d : Did) (t : Timing) → live_in live.objects caller.this ≡ true
    → ((l : ObjId → Bool) (cells : Store) → on ≡ not (int_eq (int_arg (map (operand l cells) vs) 0) (pos 0))) → changed ≡ turns_beat live.timers.beats caller.this on
    → t ≡ record { next = live.timers.next; call_outs = live.timers.call_outs; beats = beat_turned live.timers.beats caller.this on live.clock; watches = live.timers.watches }
    → d ≡ did.Value (truth_value changed) → Does efuns.SetHeartBeat caller vs live turn d (record live { timers = t }) turn
unfolding deed
beat_does caller vs live turn on changed d t lives f k q x g b c s sc h =
    let same : live.timers ≡ record { next = s.world.next_call_out; call_outs = s.world.call_outs; beats = s.world.beats; watches = s.world.watches } = h.stands.rest.timing in
    let bs : List Beat = live.timers.beats in
    let n : ℤ = int_arg (opened_args s vs) 0 in
    let off : Bool = int_eq n (pos 0) in
    let o : on ≡ not off = f (living s) (cells_of s) in
    let new : List Beat = if not off then (if beats bs caller.this then bs else beat_on bs caller.this s.world.clock) else beat_off bs caller.this in
    let l : is_live s.world caller.this ≡ true = sym (ap (λ f. f caller.this) (live_same g.told g.programs live s.world h.stands)) ∙ lives in
    subst (λ d. IsDone d (At g (record live { timers = t }) turn b) (deed_done (set_heart_beat c s n) s)) (sym x)
    (subst (λ y. IsDone (did.Value (truth_value changed)) (At g (record live { timers = t }) turn b) (deed_done y s))
    (sym (subst (λ o. set_heart_beat c s n ≡ after_live s o s.world.beats off) sc.this (beat_means c s c.this n refl (ap (is_live s.world) sc.this ∙ l)) ∙ table_means s caller.this off bs (ap (λ (t : Timing). t.beats) same))) (
      ap truth_value (ap (λ on. if on then not (beats bs caller.this) else beats bs caller.this) (sym o) ∙ sym k),
      at_timing g live turn b s t s.world.call_outs new
          (q ∙ ap (λ on. record { next = live.timers.next; call_outs = live.timers.call_outs; beats = if on then (if beats bs caller.this then bs else beat_on bs caller.this live.clock) else beat_off bs caller.this; watches = live.timers.watches }) o
          ∙ ap (λ k. record { next = live.timers.next; call_outs = live.timers.call_outs; beats = if not off then (if beats bs caller.this then bs else beat_on bs caller.this k) else beat_off bs caller.this; watches = live.timers.watches }) h.stands.rest.clock
          ∙ ap (λ (t : Timing). record { next = t.next; call_outs = t.call_outs; beats = new; watches = t.watches }) same) h,
    ))

-- a destructed object has no heart
pub dead_beat : (caller : Caller) (vs : List Value) (live : Live) (turn : Turn) (d : Did) → live_in live.objects caller.this ≡ false → d ≡ did.Value (values.Int (pos 0)) → Does efuns.SetHeartBeat caller vs live turn d live turn
unfolding deed
dead_beat caller vs live turn d dies x g b c s sc h =
    let l : is_live s.world c.this ≡ false = sym (ap (λ f. f c.this) (live_same g.told g.programs live s.world h.stands)) ∙ ap (live_in live.objects) sc.this ∙ dies in
    subst (λ d. IsDone d (At g live turn b) (deed_done (set_heart_beat c s (int_arg (opened_args s vs) 0)) s)) (sym x)
    (subst (λ y. IsDone (did.Value (values.Int (pos 0))) (At g live turn b) (deed_done y s)) (sym (dead c s (int_arg (opened_args s vs) 0) l)) (refl, h))
  where
    dead : (c : Scene) (s : State) (n : ℤ) → is_live s.world c.this ≡ false → set_heart_beat c s n ≡ Yields zero s
    dead c s n e = rw e refl
