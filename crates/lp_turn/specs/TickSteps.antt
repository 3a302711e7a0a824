-- What the steps of a tick do one after another.
use Rattle.std.specs.Prelude.{◌≡◌, ◌+◌, ◌∷◌, ◌&&◌, [], ℕ, List, Bool, Option, Some, None, codes, if◌then◌else◌}
use Rattle.lp_values.specs.declared.id.ObjId.{ObjId}
use Rattle.lp_values.specs.declared.value.Value.{Value}
use Rattle.lp_code.specs.declared.program.RawProgram.{RawProgram}
use Rattle.lp_swapfile.specs.Device.{Bytes}
use Rattle.lp_timers.specs.Timers.{CallOut, CleanUp, Reset, WatchKind, beat_next, beat_off, beats_by, is_watched, unwatched, watch_next, without_call_out}
use Rattle.lp_timers.specs.Timing.{Timing}
use Rattle.lp_timers.specs.Waiting.{call_out_of, numbered}
use Rattle.lp_timers.specs.declared.call_out.CallOut as taken
use Rattle.lp_language.specs.Course.{Course, State, and_then}
use Rattle.lp_language.specs.World.{World, object_at}
use Rattle.lp_meaning.specs.EventTurns.{driver_apply}
use Rattle.lp_meaning.specs.Ticks.{after_beat, after_clean_up, clean_up_argument, clean_ups, heart_beats, player_if_living, resets, with_next_beat, with_next_watch, without_clean_up}
use Rattle.lp_meaning.specs.WorldSteps.{is_clone_name}
use Rattle.lp_lasting_laws.specs.Numbers.{HaveNumbers, calls_numbered}
use Rattle.lp_world.specs.Rows.{live_in}
use Rattle.lp_world.specs.Stands.{Stands}
use Rattle.lp_world.specs.declared.live.Live.{Live}
use Rattle.lp_turn.specs.Due.{Due}

-- Call-outs

-- the first of some numbers with which a call-out waits still, and the numbers behind it
abbrev pub first_waiting : List CallOut → List ℕ → Option (CallOut × List ℕ)
first_waiting cs [] = None
first_waiting cs (n ∷ ns) = elim (numbered cs n) [ Some c ↦ Some (c, ns) | None ↦ first_waiting cs ns ]

-- one that was taken out, with the numbers that are left
abbrev pub with_left : Option taken.CallOut → List ℕ → Option (CallOut × List ℕ)
with_left None ns = None
with_left (Some c) ns = Some (call_out_of c, ns)

-- a call-out waits no longer
abbrev pub without_number : Timing → ℕ → Timing
without_number t n = record { next = t.next; call_outs = without_call_out t.call_outs n; beats = t.beats; watches = t.watches }

-- one that was taken out is called, and then those with these numbers
abbrev pub calling_out : CallOut → List ℕ → State → Course (Unit {0})
calling_out c ns s = and_then (driver_apply None None c.object c.function c.arguments s) (λ d s. calls_numbered ns s)

-- each call-out of a world has a number of its own
abbrev pub AreCallOutsNumbered : Live → Type 0
AreCallOutsNumbered live = (told : Option Bytes) (programs : List RawProgram) (w : World) → Stands told programs live w → HaveNumbers w

-- Objects

-- the first of some for which something is, and those behind it
abbrev pub first_such : (ObjId → Bool) → List ObjId → Option (ObjId × List ObjId)
first_such p [] = None
first_such p (o ∷ os) = if p o then Some (o, os) else first_such p os

-- one that was found, with those that are left
abbrev pub with_others : Option ObjId → List ObjId → Option (ObjId × List ObjId)
with_others None os = None
with_others (Some o) os = Some (o, os)

-- Heart beats

-- a heart is to beat still: its object is live, and its beat is to come by a moment
abbrev pub beats_still : Live → ℕ → ObjId → Bool
beats_still live t o = live_in live.objects o && beats_by live.timers.beats o t

-- the next beat is at a moment, or there is none
abbrev pub with_beat_at : Timing → ObjId → ℕ → Timing
with_beat_at t o at = record { next = t.next; call_outs = t.call_outs; beats = beat_next t.beats o at; watches = t.watches }

abbrev pub without_beat_of : Timing → ObjId → Timing
without_beat_of t o = record { next = t.next; call_outs = t.call_outs; beats = beat_off t.beats o; watches = t.watches }

abbrev pub HasBeatAt : ObjId → ℕ → Live → Live → Type 0
HasBeatAt o at old new = new ≡ record old { timers = with_beat_at old.timers o at }

abbrev pub HasNoBeat : ObjId → Live → Live → Type 0
HasNoBeat o old new = new ≡ record old { timers = without_beat_of old.timers o }

-- `this_player()` of a beat: its object, where that is living
abbrev pub IsPlayerIn : Live → ObjId → Option ObjId → Type 0
IsPlayerIn live o r = (told : Option Bytes) (programs : List RawProgram) (w : World) → Stands told programs live w → r ≡ player_if_living w o

-- a heart beats, and then those of these objects
abbrev pub beating : ObjId → Due → State → Course (Unit {0})
beating o due s =
    and_then (driver_apply (player_if_living s.world o) None o (codes "heart_beat") [] (record s { world = with_next_beat s.world o (due.moment + 2) })) (λ d s.
    heart_beats due.moment due.objects (after_beat o d s))

-- Resets and clean-ups

-- an object is to be called still: it is live and watched
abbrev pub watched_still : Live → WatchKind → ObjId → Bool
watched_still live kind o = live_in live.objects o && is_watched live.timers.watches kind o

-- the next moment of a watch, or there is none
abbrev pub with_watch_at : Timing → WatchKind → ObjId → ℕ → Timing
with_watch_at t kind o at = record { next = t.next; call_outs = t.call_outs; beats = t.beats; watches = watch_next t.watches kind o at }

abbrev pub without_watch_of : Timing → WatchKind → ObjId → Timing
without_watch_of t kind o = record { next = t.next; call_outs = t.call_outs; beats = t.beats; watches = unwatched t.watches kind o }

abbrev pub HasWatchAt : WatchKind → ObjId → ℕ → Live → Live → Type 0
HasWatchAt kind o at old new = new ≡ record old { timers = with_watch_at old.timers kind o at }

abbrev pub HasNoWatch : WatchKind → ObjId → Live → Live → Type 0
HasNoWatch kind o old new = new ≡ record old { timers = without_watch_of old.timers kind o }

-- whether an object is a clone, by its name
abbrev pub IsCloneIn : Live → ObjId → Bool → Type 0
IsCloneIn live o r = (told : Option Bytes) (programs : List RawProgram) (w : World) → Stands told programs live w → r ≡ is_clone_name (object_at w o).name

-- what its `clean_up` is called with
abbrev pub IsArgumentIn : Live → ObjId → Value → Type 0
IsArgumentIn live o v = (told : Option Bytes) (programs : List RawProgram) (w : World) → Stands told programs live w → v ≡ clean_up_argument w o

-- an object is reset, and then these
abbrev pub resetting : ObjId → Due → State → Course (Unit {0})
resetting o due s = and_then (driver_apply None None o (codes "reset") [] (record s { world = with_next_watch s.world Reset o due.moment })) (λ d s. resets due.moment due.objects s)

-- an object is asked whether it cleans up, and then these
abbrev pub cleaning_up : ObjId → Due → State → Course (Unit {0})
cleaning_up o due s =
    and_then (driver_apply None None o (codes "clean_up") (clean_up_argument s.world o ∷ []) (record s { world = with_next_watch s.world CleanUp o due.moment })) (λ d s.
    clean_ups due.moment due.objects (after_clean_up o d s))

-- an object is not asked again, and then these are asked
abbrev pub cleaning_up_without : ObjId → Due → State → Course (Unit {0})
cleaning_up_without o due s = clean_ups due.moment due.objects (record s { world = without_clean_up s.world o })
