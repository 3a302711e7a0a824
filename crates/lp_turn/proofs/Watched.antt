-- The resets and the clean-ups of a tick, one after another.
use Rattle.std.proofs.Common.{◌≡◌, ◌∙◌, ◌+◌, ◌++◌, ◌∷◌, ◌&&◌, [], ℕ, Bool, true, false, List, Option, Some, None, All, refl, ap, sym, subst, codes, map, option_map, unwrap_or, pos, if◌then◌else◌}
use Rattle.std.proofs.lemmas.List.Elements.{All-cons, All-nil}
use Rattle.lp_values.specs.declared.id.ObjId.{ObjId}
use Rattle.lp_values.specs.declared.value.Value.{Value}
use Rattle.lp_values.specs.declared.value.Value.TheVariants.{Int}
use Rattle.lp_values.specs.Read.{is_zero}
use Rattle.lp_code.specs.declared.program.RawProgram.{RawProgram}
use Rattle.lp_cells.specs.Cells.{IsThere, Store}
use Rattle.lp_events.specs.declared.out.Out.{Out}
use Rattle.lp_swapfile.specs.Device.{Bytes}
use Rattle.lp_objects.specs.Objects as names
use Rattle.lp_objects.specs.Stands as named
use Rattle.lp_timers.specs.Timers.{CleanUp, Reset, WatchKind, is_watched, watch_next, watch_put, watched_at}
use Rattle.lp_timers.specs.Timing.{Timing}
use Rattle.lp_language.specs.Course.{Course, State, and_then}
use Rattle.lp_language.specs.World.{World, is_live}
use Rattle.lp_language.specs.Operations.{is_false}
use Rattle.lp_meaning.specs.EventTurns.{done, driver_apply}
use Rattle.lp_meaning.specs.Ticks.{after_clean_up, clean_ups, resets, with_next_watch, without_clean_up}
use Rattle.lp_meaning.specs.WorldSteps.{is_clone_name}
use Rattle.lp_efuns.proofs.KnownNames.{name_given, name_known}
use Rattle.lp_world.specs.Rows.{live_in}
use Rattle.lp_world.specs.Stands.{Stands, named_of}
use Rattle.lp_world.specs.declared.live.Live.{Live}
use Rattle.lp_world.proofs.Keeping.{live_same}
use Rattle.lp_turn.specs.Calls.{IsAskedThere}
use Rattle.lp_turn.specs.Due.{Due}
use Rattle.lp_turn.specs.Going.{BeginsAs, BeginsWith, Goes}
use Rattle.lp_turn.specs.Resting.{Rests}
use Rattle.lp_turn.specs.Ticks.{answered_so, clean_ups_due, resets_due}
use Rattle.lp_turn.specs.TickSteps.{HasNoWatch, HasWatchAt, IsArgumentIn, IsCloneIn, cleaning_up, cleaning_up_without, first_such, resetting, watched_still, with_others, with_watch_at, without_watch_of}
use Rattle.lp_turn.specs.declared.job.Asked.TheVariants as asks
use Rattle.lp_turn.specs.declared.job.Call.{Call}
use Rattle.lp_turn.specs.declared.job.Going.TheVariants as goings
use Rattle.lp_turn.specs.declared.job.Step.{Step}
use Rattle.lp_turn.specs.declared.job.Step.TheVariants as steps
use Rattle.lp_turn.specs.declared.job.Waiting.TheVariants as waitings
use Rattle.lp_turn.specs.declared.tick_job.TickGoing.TheVariants as tick_goings
use Rattle.lp_turn.specs.declared.tick_job.TickWaiting.TheVariants as tick_waitings
use Rattle.lp_turn.proofs.Connected.{asks_as, false_in}
use Rattle.lp_turn.proofs.Kept.{begins_as, leads_as, live_row}
use Rattle.lp_turn.proofs.Timed.{rests_retimed}

-- what is due
pub resets_begin : (live : Live) (t : ℕ) (due : Due) → due ≡ record { moment = t; objects = watched_at t Reset live.timers.watches } → BeginsAs (resets_due t) live live (goings.Tick (tick_goings.Resets due))
resets_begin live t due e g programs before s h = record {
  state = s;
  rests = h;
  course = ap (λ (x : Timing). resets t (watched_at t Reset x.watches) s) (sym h.world.stands.rest.timing) ∙ ap (λ (d : Due). resets d.moment d.objects s) (sym e);
}

pub clean_ups_begin : (live : Live) (t : ℕ) (due : Due) → due ≡ record { moment = t; objects = watched_at t CleanUp live.timers.watches } → BeginsAs (clean_ups_due t) live live (goings.Tick (tick_goings.CleanUps due))
clean_ups_begin live t due e g programs before s h = record {
  state = s;
  rests = h;
  course = ap (λ (x : Timing). clean_ups t (watched_at t CleanUp x.watches) s) (sym h.world.stands.rest.timing) ∙ ap (λ (d : Due). clean_ups d.moment d.objects s) (sym e);
}

-- whether an object is to be called still, in the state as in the world
still_same : (g : Option Bytes) (programs : List RawProgram) (live : Live) (w : World) (kind : WatchKind) → Stands g programs live w → watched_still live kind ≡ (λ o. is_live w o && is_watched w.watches kind o)
still_same g programs live w kind h =
    ap (λ (l : ObjId → Bool). λ o. l o && is_watched live.timers.watches kind o) (live_same g programs live w h) ∙ ap (λ (x : Timing). λ o. is_live w o && is_watched x.watches kind o) h.rest.timing

-- the next moment of a watch
pub set_watch_is : (old new : Live) (t : Timing) (kind : WatchKind) (o : ObjId) (at : ℕ) → is_watched old.timers.watches kind o ≡ true → new ≡ record old { timers = t }
    → t ≡ record { next = old.timers.next; call_outs = old.timers.call_outs; beats = old.timers.beats; watches = watch_put old.timers.watches kind o at } → HasWatchAt kind o at old new
set_watch_is old new t kind o at e n q =
    n ∙ ap (λ u. record old { timers = u }) (q ∙ ap (λ b. set_by b) e)
  where
    set_by : Bool → Timing
    set_by b = record {
      next = old.timers.next;
      call_outs = old.timers.call_outs;
      beats = old.timers.beats;
      watches = if b then watch_next old.timers.watches kind o at else old.timers.watches ++ record { object = o; kind = kind; next = at } ∷ [];
    }

-- Resets: by the first object that is to be reset still
by_reset : ℕ → State → Option (ObjId × List ObjId) → Course (Unit {0})
by_reset t s None = done s
by_reset t s (Some x) = resetting x.0 (record { moment = t; objects = x.1 }) s

resets_as : (t : ℕ) (os : List ObjId) (s : State) → resets t os s ≡ by_reset t s (first_such (λ o. is_live s.world o && is_watched s.world.watches Reset o) os)
unfolding by_reset
resets_as t [] s = refl
resets_as t (o ∷ os) s = by (is_live s.world o && is_watched s.world.watches Reset o) (resets_as t os s)
  where
    by : (b : Bool) → resets t os s ≡ by_reset t s (first_such (λ o. is_live s.world o && is_watched s.world.watches Reset o) os)
        → (if b then resetting o (record { moment = t; objects = os }) s else resets t os s) ≡ by_reset t s (if b then Some (o, os) else first_such (λ o. is_live s.world o && is_watched s.world.watches Reset o) os)
    by true k = refl
    by false k = k

resets_in : (g : Option Bytes) (programs : List RawProgram) (before : List Out) (live : Live) (s : State) (t : ℕ) (os : List ObjId) → Rests g programs before live s → resets t os s ≡ by_reset t s (first_such (watched_still live Reset) os)
resets_in g programs before live s t os h = resets_as t os s ∙ ap (λ (p : ObjId → Bool). by_reset t s (first_such p os)) (sym (still_same g programs live s.world Reset h.world.stands))

pub reset_goes : (live0 live1 : Live) (due left : Due) (o : ObjId) (r : Step) → with_others (Some o) left.objects ≡ first_such (watched_still live0 Reset) due.objects → left.moment ≡ due.moment → BeginsWith (resetting o left) live0 live1 r
    → Goes r (goings.Tick (tick_goings.Resets due)) live0 live1
unfolding by_reset
reset_goes live0 live1 due left o r e m b g programs before s h =
    leads_as r g programs before live1 (resetting o left s) (resets due.moment due.objects s)
    (resets_in g programs before live0 s due.moment due.objects h ∙ ap (by_reset due.moment s) (sym e) ∙ ap (λ t. resetting o (record { moment = t; objects = left.objects }) s) (sym m)) (b g programs before s h)

pub no_reset_goes : (live : Live) (due : Due) (os : List ObjId) → with_others None os ≡ first_such (watched_still live Reset) due.objects → Goes steps.Ends (goings.Tick (tick_goings.Resets due)) live live
unfolding by_reset
no_reset_goes live due os e g programs before s h = record { state = s; rests = h; course = resets_in g programs before live s due.moment due.objects h ∙ ap (by_reset due.moment s) (sym e) }

pub reset_begins : (live0 live1 : Live) (o : ObjId) (due : Due) (call : Call) → live_in live0.objects o ≡ true → HasWatchAt Reset o (due.moment + 1800) live0 live1 → call.asked ≡ asks.Apply o (codes "reset") → call.player ≡ None → call.interactive ≡ None
    → call.arguments.items ≡ [] → BeginsWith (resetting o due) live0 live1 (steps.Asks call (waitings.Tick (tick_waitings.Reset due)))
reset_begins live0 live1 o due call l e a b i c =
    subst (λ x. BeginsWith (resetting o due) live0 x (steps.Asks call (waitings.Tick (tick_waitings.Reset due)))) (sym e) (λ g programs before s h. record {
      state = record s { world = with_next_watch s.world Reset o due.moment };
      rests = rests_retimed g programs before live0 s (λ t. with_watch_at t Reset o (due.moment + 1800)) h;
      there = subst (λ x. IsAskedThere live0.objects x) (sym a) (live_row live0 o l);
      course = asks_as (asks.Apply o (codes "reset")) None None [] (record s { world = with_next_watch s.world Reset o due.moment }) (waitings.Tick (tick_waitings.Reset due)) call a b i c;
    })

-- Clean-ups: by the first object that is to be asked still
by_clean_up : ℕ → State → Option (ObjId × List ObjId) → Course (Unit {0})
by_clean_up t s None = done s
by_clean_up t s (Some x) = cleaning_up x.0 (record { moment = t; objects = x.1 }) s

clean_ups_as : (t : ℕ) (os : List ObjId) (s : State) → clean_ups t os s ≡ by_clean_up t s (first_such (λ o. is_live s.world o && is_watched s.world.watches CleanUp o) os)
unfolding by_clean_up
clean_ups_as t [] s = refl
clean_ups_as t (o ∷ os) s = by (is_live s.world o && is_watched s.world.watches CleanUp o) (clean_ups_as t os s)
  where
    by : (b : Bool) → clean_ups t os s ≡ by_clean_up t s (first_such (λ o. is_live s.world o && is_watched s.world.watches CleanUp o) os)
        → (if b then cleaning_up o (record { moment = t; objects = os }) s else clean_ups t os s) ≡ by_clean_up t s (if b then Some (o, os) else first_such (λ o. is_live s.world o && is_watched s.world.watches CleanUp o) os)
    by true k = refl
    by false k = k

clean_ups_in : (g : Option Bytes) (programs : List RawProgram) (before : List Out) (live : Live) (s : State) (t : ℕ) (os : List ObjId) → Rests g programs before live s
    → clean_ups t os s ≡ by_clean_up t s (first_such (watched_still live CleanUp) os)
clean_ups_in g programs before live s t os h = clean_ups_as t os s ∙ ap (λ (p : ObjId → Bool). by_clean_up t s (first_such p os)) (sym (still_same g programs live s.world CleanUp h.world.stands))

pub clean_up_goes : (live0 live1 : Live) (due left : Due) (o : ObjId) (r : Step) → with_others (Some o) left.objects ≡ first_such (watched_still live0 CleanUp) due.objects → left.moment ≡ due.moment → BeginsWith (cleaning_up o left) live0 live1 r
    → Goes r (goings.Tick (tick_goings.CleanUps due)) live0 live1
unfolding by_clean_up
clean_up_goes live0 live1 due left o r e m b g programs before s h =
    leads_as r g programs before live1 (cleaning_up o left s) (clean_ups due.moment due.objects s)
    (clean_ups_in g programs before live0 s due.moment due.objects h ∙ ap (by_clean_up due.moment s) (sym e) ∙ ap (λ t. cleaning_up o (record { moment = t; objects = left.objects }) s) (sym m)) (b g programs before s h)

pub no_clean_up_goes : (live : Live) (due : Due) (os : List ObjId) → with_others None os ≡ first_such (watched_still live CleanUp) due.objects → Goes steps.Ends (goings.Tick (tick_goings.CleanUps due)) live live
unfolding by_clean_up
no_clean_up_goes live due os e g programs before s h = record { state = s; rests = h; course = clean_ups_in g programs before live s due.moment due.objects h ∙ ap (by_clean_up due.moment s) (sym e) }

-- whether an object is a clone
pub clone_is : (live : Live) (o : ObjId) (r : Option (List ℕ)) → live_in live.objects o ≡ true
    → ((objects : List names.Named) → named.Stands live.names objects → r ≡ option_map (λ x. x.name) (named.known_at live.names objects o.0)) → IsCloneIn live o (is_clone_name (unwrap_or r []))
clone_is live o r l f told programs w h =
    ap (λ n. is_clone_name (unwrap_or n [])) (name_given live.names (record { objects = map named_of w.objects; stands = h.names }) o r f ∙ sym (name_known told programs live w h o l))

asks_for : ObjId → Due → State → Value → Course (Unit {0})
asks_for o due s v =
    and_then (driver_apply None None o (codes "clean_up") (v ∷ []) (record s { world = with_next_watch s.world CleanUp o due.moment })) (λ d s. clean_ups due.moment due.objects (after_clean_up o d s))

pub argument_is : (live : Live) (o : ObjId) (b : Bool) (v : Value) → IsCloneIn live o b → v ≡ (if b then Int (pos 0) else Int (pos 1)) → IsArgumentIn live o v
argument_is live o b v k e told programs w h = e ∙ ap (λ x. if x then Int (pos 0) else Int (pos 1)) (k told programs w h)

pub clean_up_begins : (live0 live1 : Live) (o : ObjId) (due : Due) (v : Value) (call : Call) → IsArgumentIn live0 o v → live_in live0.objects o ≡ true → HasWatchAt CleanUp o (due.moment + 3600) live0 live1 → call.asked ≡ asks.Apply o (codes "clean_up")
    → call.player ≡ None → call.interactive ≡ None → call.arguments.items ≡ v ∷ [] → BeginsWith (cleaning_up o due) live0 live1 (steps.Asks call (waitings.Tick (tick_waitings.CleanUp o due)))
unfolding asks_for
clean_up_begins live0 live1 o due v call k l e a b i c =
    subst (λ x. BeginsWith (cleaning_up o due) live0 x (steps.Asks call (waitings.Tick (tick_waitings.CleanUp o due)))) (sym e) (λ g programs before s h. record {
      state = record s { world = with_next_watch s.world CleanUp o due.moment };
      rests = rests_retimed g programs before live0 s (λ t. with_watch_at t CleanUp o (due.moment + 3600)) h;
      there = subst (λ x. IsAskedThere live0.objects x) (sym a) (live_row live0 o l);
      course = ap (asks_for o due s) (sym (k g programs s.world h.world.stands))
          ∙ asks_as (asks.Apply o (codes "clean_up")) None None (v ∷ []) (record s { world = with_next_watch s.world CleanUp o due.moment }) (waitings.Tick (tick_waitings.CleanUp o due)) call a b i c;
    })

-- one value that is there
pub one_there : (cells : Store) (v : Value) (vs : List Value) → vs ≡ v ∷ [] → IsThere cells v → All (IsThere cells) vs
one_there cells v vs e h = subst (All (IsThere cells)) (sym e) (All-cons (IsThere cells) v [] h (All-nil (IsThere cells)))

-- after the answer 0 an object is not asked again
pub clean_up_ends : (live0 live1 live2 : Live) (o : ObjId) (due : Due) (r : Step) → HasNoWatch CleanUp o live0 live1 → Goes r (goings.Tick (tick_goings.CleanUps due)) live1 live2 → BeginsWith (cleaning_up_without o due) live0 live2 r
clean_up_ends live0 live1 live2 o due r e b g programs before s h =
    b g programs before (record s { world = without_clean_up s.world o })
    (subst (λ l. Rests g programs before l (record s { world = without_clean_up s.world o })) (sym e) (rests_retimed g programs before live0 s (λ t. without_watch_of t CleanUp o) h))

cleans_by : (o : ObjId) (due : Due) (v : Value) (s : State) (b : Bool) → is_false s v ≡ b → clean_ups due.moment due.objects (after_clean_up o (answered_so v) s) ≡ (if b then cleaning_up_without o due s else clean_ups due.moment due.objects s)
cleans_by o due v s b e = ap (λ x. clean_ups due.moment due.objects (if x then record s { world = without_clean_up s.world o } else s)) e ∙ either b
  where
    either : (b : Bool) → clean_ups due.moment due.objects (if b then record s { world = without_clean_up s.world o } else s) ≡ (if b then cleaning_up_without o due s else clean_ups due.moment due.objects s)
    either true = refl
    either false = refl

pub answered_zero : (live0 live1 : Live) (o : ObjId) (v : Value) (due : Due) (r : Step) → is_zero (live_in live0.objects) v ≡ true → BeginsWith (cleaning_up_without o due) live0 live1 r → Goes r (goings.Tick (tick_goings.CleanedUp o v due)) live0 live1
answered_zero live0 live1 o v due r e b =
    begins_as (cleaning_up_without o due) (λ s. clean_ups due.moment due.objects (after_clean_up o (answered_so v) s)) live0 live1 r
    (λ g programs s h. cleans_by o due v s true (false_in g programs live0 s v h ∙ e)) b

pub answered_other : (live0 live1 : Live) (o : ObjId) (v : Value) (due : Due) (r : Step) → is_zero (live_in live0.objects) v ≡ false → Goes r (goings.Tick (tick_goings.CleanUps due)) live0 live1 → Goes r (goings.Tick (tick_goings.CleanedUp o v due)) live0 live1
answered_other live0 live1 o v due r e b =
    begins_as (λ s. clean_ups due.moment due.objects s) (λ s. clean_ups due.moment due.objects (after_clean_up o (answered_so v) s)) live0 live1 r
    (λ g programs s h. cleans_by o due v s false (false_in g programs live0 s v h ∙ e)) b
