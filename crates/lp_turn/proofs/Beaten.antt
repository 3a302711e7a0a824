-- The heart beats of a tick, one after another.
use Rattle.std.proofs.Common.{◌≡◌, ◌∙◌, ◌+◌, ◌∷◌, ◌&&◌, [], ℕ, Bool, true, false, List, Option, Some, None, refl, ap, sym, subst, codes, slice_get, unwrap_or, if◌then◌else◌}
use Rattle.lp_values.specs.declared.id.ObjId.{ObjId}
use Rattle.lp_code.specs.declared.program.RawProgram.{RawProgram}
use Rattle.lp_events.specs.declared.out.Out.{Out}
use Rattle.lp_swapfile.specs.Device.{Bytes}
use Rattle.lp_timers.specs.Timers.{beats_at, beats_by}
use Rattle.lp_timers.specs.Timing.{Timing}
use Rattle.lp_language.specs.Course.{Course, State, and_then}
use Rattle.lp_language.specs.World as world
use Rattle.lp_language.specs.World.{is_live, no_object}
use Rattle.lp_meaning.specs.EventTurns.{done, driver_apply}
use Rattle.lp_meaning.specs.Ticks.{after_beat, heart_beats, with_next_beat, without_beat}
use Rattle.lp_efuns.specs.Subjects.{is_living_row}
use Rattle.lp_world.specs.Rows.{live_in, row_at}
use Rattle.lp_world.specs.Stands.{ObjectIs}
use Rattle.lp_world.specs.declared.live.Live.{Live}
use Rattle.lp_world.specs.declared.objects.Object.{Object}
use Rattle.lp_world.proofs.Keeping.{live_same}
use Rattle.lp_turn.specs.Calls.{IsAskedThere}
use Rattle.lp_turn.specs.Due.{Due}
use Rattle.lp_turn.specs.Going.{BeginsAs, BeginsWith, Goes}
use Rattle.lp_turn.specs.Resting.{Rests}
use Rattle.lp_turn.specs.Ticks.{beats_due}
use Rattle.lp_turn.specs.TickSteps.{HasBeatAt, HasNoBeat, IsPlayerIn, beating, beats_still, first_such, with_beat_at, with_others, without_beat_of}
use Rattle.lp_turn.specs.declared.job.Asked.TheVariants as asks
use Rattle.lp_turn.specs.declared.job.Call.{Call}
use Rattle.lp_turn.specs.declared.job.Going.TheVariants as goings
use Rattle.lp_turn.specs.declared.job.Step.{Step}
use Rattle.lp_turn.specs.declared.job.Step.TheVariants as steps
use Rattle.lp_turn.specs.declared.job.Waiting.TheVariants as waitings
use Rattle.lp_turn.specs.declared.tick_job.TickGoing.TheVariants as tick_goings
use Rattle.lp_turn.specs.declared.tick_job.TickWaiting.TheVariants as tick_waitings
use Rattle.lp_turn.proofs.Connected.{asks_as}
use Rattle.lp_turn.proofs.Kept.{leads_as, live_row, lives_in}
use Rattle.lp_turn.proofs.Timed.{rests_retimed}

-- the hearts that are due
pub beats_begin : (live : Live) (t : ℕ) (due : Due) → due ≡ record { moment = t; objects = beats_at t live.timers.beats } → BeginsAs (beats_due t) live live (goings.Tick (tick_goings.Beats due))
beats_begin live t due e g programs before s h = record {
  state = s;
  rests = h;
  course = ap (λ (x : Timing). heart_beats t (beats_at t x.beats) s) (sym h.world.stands.rest.timing) ∙ ap (λ (d : Due). heart_beats d.moment d.objects s) (sym e);
}

-- what beats, by the first heart that is to beat still
by_heart : ℕ → State → Option (ObjId × List ObjId) → Course (Unit {0})
by_heart t s None = done s
by_heart t s (Some x) = beating x.0 (record { moment = t; objects = x.1 }) s

beats_as : (t : ℕ) (os : List ObjId) (s : State) → heart_beats t os s ≡ by_heart t s (first_such (λ o. is_live s.world o && beats_by s.world.beats o t) os)
unfolding by_heart
beats_as t [] s = refl
beats_as t (o ∷ os) s = by (is_live s.world o && beats_by s.world.beats o t) (beats_as t os s)
  where
    by : (b : Bool) → heart_beats t os s ≡ by_heart t s (first_such (λ o. is_live s.world o && beats_by s.world.beats o t) os)
        → (if b then beating o (record { moment = t; objects = os }) s else heart_beats t os s) ≡ by_heart t s (if b then Some (o, os) else first_such (λ o. is_live s.world o && beats_by s.world.beats o t) os)
    by true k = refl
    by false k = k

beats_in : (g : Option Bytes) (programs : List RawProgram) (before : List Out) (live : Live) (s : State) (t : ℕ) (os : List ObjId) → Rests g programs before live s
    → heart_beats t os s ≡ by_heart t s (first_such (beats_still live t) os)
beats_in g programs before live s t os h =
    beats_as t os s ∙ ap (λ (l : ObjId → Bool). by_heart t s (first_such (λ o. l o && beats_by s.world.beats o t) os)) (sym (live_same g programs live s.world h.world.stands))
    ∙ ap (λ (x : Timing). by_heart t s (first_such (λ o. live_in live.objects o && beats_by x.beats o t) os)) (sym h.world.stands.rest.timing)

pub beat_goes : (live0 live1 : Live) (due left : Due) (o : ObjId) (r : Step) → with_others (Some o) left.objects ≡ first_such (beats_still live0 due.moment) due.objects → left.moment ≡ due.moment → BeginsWith (beating o left) live0 live1 r
    → Goes r (goings.Tick (tick_goings.Beats due)) live0 live1
unfolding by_heart
beat_goes live0 live1 due left o r e m b g programs before s h =
    leads_as r g programs before live1 (beating o left s) (heart_beats due.moment due.objects s)
    (beats_in g programs before live0 s due.moment due.objects h ∙ ap (by_heart due.moment s) (sym e) ∙ ap (λ t. beating o (record { moment = t; objects = left.objects }) s) (sym m)) (b g programs before s h)

pub no_beat_goes : (live : Live) (due : Due) (os : List ObjId) → with_others None os ≡ first_such (beats_still live due.moment) due.objects → Goes steps.Ends (goings.Tick (tick_goings.Beats due)) live live
unfolding by_heart
no_beat_goes live due os e g programs before s h = record { state = s; rests = h; course = beats_in g programs before live s due.moment due.objects h ∙ ap (by_heart due.moment s) (sym e) }

-- whether an object is living
living_row : (told : Option Bytes) (part whole : _) (n : ℕ) (row : Option (Option Object)) (x : Option world.Object) → ObjectIs told part whole n row x → (unwrap_or x no_object).is_live ≡ true
    → (unwrap_or x no_object).is_living ≡ is_living_row (unwrap_or row None)
living_row told part whole n None None h l = refl
living_row told part whole n None (Some x) h l = absurd h
living_row told part whole n (Some o) None h l = absurd h
living_row told part whole n (Some None) (Some x) h l = absurd (differ (sym h ∙ l))
  where
    differ : false ≡ true → ⊥
    differ q = cc
living_row told part whole n (Some (Some o)) (Some x) h l = sym h.living

pub player_is : (live : Live) (o : ObjId) (b : Bool) → live_in live.objects o ≡ true → b ≡ is_living_row (row_at live.objects o.0) → IsPlayerIn live o (if b then Some o else None)
player_is live o b l e told programs w h =
    ap (λ x. if x then Some o else None)
    (e ∙ sym (living_row told live.cells w.cells o.0 (slice_get live.objects o.0) (slice_get w.objects o.0) (h.objects o.0) (lives_in told programs live w o h ∙ l)))

-- a heart beats
beats_for : ObjId → Due → State → Option ObjId → Course (Unit {0})
beats_for o due s p =
    and_then (driver_apply p None o (codes "heart_beat") [] (record s { world = with_next_beat s.world o (due.moment + 2) })) (λ d s. heart_beats due.moment due.objects (after_beat o d s))

pub beat_begins : (live0 live1 : Live) (o : ObjId) (due : Due) (player : Option ObjId) (call : Call) → IsPlayerIn live0 o player → live_in live0.objects o ≡ true → HasBeatAt o (due.moment + 2) live0 live1 → call.asked ≡ asks.Apply o (codes "heart_beat")
    → call.player ≡ player → call.interactive ≡ None → call.arguments.items ≡ [] → BeginsWith (beating o due) live0 live1 (steps.Asks call (waitings.Tick (tick_waitings.Beat o player due)))
unfolding beats_for
beat_begins live0 live1 o due player call p l e a b i c =
    subst (λ x. BeginsWith (beating o due) live0 x (steps.Asks call (waitings.Tick (tick_waitings.Beat o player due)))) (sym e) (λ g programs before s h. record {
      state = record s { world = with_next_beat s.world o (due.moment + 2) };
      rests = rests_retimed g programs before live0 s (λ t. with_beat_at t o (due.moment + 2)) h;
      there = subst (λ x. IsAskedThere live0.objects x) (sym a) (live_row live0 o l);
      course = ap (beats_for o due s) (sym (p g programs s.world h.world.stands))
          ∙ asks_as (asks.Apply o (codes "heart_beat")) player None [] (record s { world = with_next_beat s.world o (due.moment + 2) }) (waitings.Tick (tick_waitings.Beat o player due)) call a b i c;
    })

-- after an uncaught end a heart beats no longer
pub beat_ends : (live0 live1 live2 : Live) (o : ObjId) (due : Due) (r : Step) → HasNoBeat o live0 live1 → Goes r (goings.Tick (tick_goings.Beats due)) live1 live2 → Goes r (goings.Tick (tick_goings.Beaten o true due)) live0 live2
beat_ends live0 live1 live2 o due r e b g programs before s h =
    b g programs before (record s { world = without_beat s.world o })
    (subst (λ l. Rests g programs before l (record s { world = without_beat s.world o })) (sym e) (rests_retimed g programs before live0 s (λ t. without_beat_of t o) h))
