-- One turn for each event; the steps of a tick.
use Rattle.std.specs.Prelude.{ℕ, ◌+◌, List, [], ◌∷◌, ◌&&◌, Option, Some, None, pos, codes, if◌then◌else◌}
use Rattle.lp_values.specs.declared.id.ObjId.{ObjId}
use Rattle.lp_values.specs.declared.value.Value.{Value}
use Rattle.lp_values.specs.declared.value.Value.TheVariants.{Int}
use Rattle.lp_events.specs.declared.event.Event.{Event}
use Rattle.lp_events.specs.declared.event.Event.TheVariants.{Connect, Line, Gone, Tick, Reload, Swap}
use Rattle.lp_language.specs.World.{World, object_at, is_live}
use Rattle.lp_timers.specs.Timers.{CallOut, WatchKind, Reset, CleanUp}
use Rattle.lp_language.specs.Operations.{is_false}
use Rattle.lp_language.specs.Course.{State, Course, and_then}
use Rattle.lp_timers.specs.Timers.{due_at, waits, without_call_out, beats_at, beats_by, beat_next, beat_off, watched_at, is_watched, watch_next, watch_time, unwatched}
use Rattle.lp_meaning.specs.WorldSteps.{is_clone_name}
use Rattle.lp_meaning.specs.MovesAndCommands.{is_living}
use Rattle.lp_meaning.specs.EventTurns.{Done, driver_apply, done, connect_turn, line_turn, gone_turn, reload_turn}

-- Each list is taken as it stands when its step begins; what was removed or destructed meanwhile is passed over.

-- call-outs: one that still waits is taken out and applied
abbrev pub without_due : World → ℕ → World
without_due w number = record w { call_outs = without_call_out w.call_outs number }

-- each of the call-outs that were due when the tick began
abbrev pub calls_out : List CallOut → State → Course (Unit {0})
calls_out [] s = done s
calls_out (c ∷ cs) s =
    if waits s.world.call_outs c.number then
    and_then (driver_apply None None c.object c.function c.arguments (record s { world = without_due s.world c.number })) (λ d s. calls_out cs s)
    else calls_out cs s

-- heart beats: the next one is two seconds later; `this_player()` is the object if it is living; an uncaught end switches it off
abbrev pub player_if_living : World → ObjId → Option ObjId
player_if_living w o = if is_living w o then Some o else None

-- the next beat of a heart is at a moment
abbrev pub with_next_beat : World → ObjId → ℕ → World
with_next_beat w o at = record w { beats = beat_next w.beats o at }

-- a heart beats no longer
abbrev pub without_beat : World → ObjId → World
without_beat w o = record w { beats = beat_off w.beats o }

-- after a beat with an uncaught end the heart beats no longer
abbrev pub after_beat : ObjId → Done → State → State
after_beat o d s = if d.is_uncaught then record s { world = without_beat s.world o } else s

-- each of the hearts that were to beat when the step began
abbrev pub heart_beats : ℕ → List ObjId → State → Course (Unit {0})
heart_beats t [] s = done s
heart_beats t (o ∷ os) s =
    if is_live s.world o && beats_by s.world.beats o t then
    and_then (driver_apply (player_if_living s.world o) None o (codes "heart_beat") [] (record s { world = with_next_beat s.world o (t + 2) })) (λ d s.
    heart_beats t os (after_beat o d s))
    else heart_beats t os s

-- resets: the next one is 1800 seconds later
abbrev pub with_next_watch : World → WatchKind → ObjId → ℕ → World
with_next_watch w kind o t = record w { watches = watch_next w.watches kind o (t + watch_time kind) }

-- each of the objects that were to be reset when the step began
abbrev pub resets : ℕ → List ObjId → State → Course (Unit {0})
resets t [] s = done s
resets t (o ∷ os) s =
    if is_live s.world o && is_watched s.world.watches Reset o then
    and_then (driver_apply None None o (codes "reset") [] (record s { world = with_next_watch s.world Reset o t })) (λ d s. resets t os s)
    else resets t os s

-- clean-ups: with 0 for a clone and 1 for a blueprint; the next one is 3600 seconds later, and after an answer 0 there is none
abbrev pub clean_up_argument : World → ObjId → Value
clean_up_argument w o = if is_clone_name (object_at w o).name then Int (pos 0) else Int (pos 1)

-- an object is not asked again
abbrev pub without_clean_up : World → ObjId → World
without_clean_up w o = record w { watches = unwatched w.watches CleanUp o }

-- after the answer 0, or an uncaught end, it is not asked again
abbrev pub after_clean_up : ObjId → Done → State → State
after_clean_up o d s = if is_false s d.value then record s { world = without_clean_up s.world o } else s

-- each of the objects that were to be asked when the step began
abbrev pub clean_ups : ℕ → List ObjId → State → Course (Unit {0})
clean_ups t [] s = done s
clean_ups t (o ∷ os) s =
    if is_live s.world o && is_watched s.world.watches CleanUp o then
    and_then (driver_apply None None o (codes "clean_up") (clean_up_argument s.world o ∷ []) (record s { world = with_next_watch s.world CleanUp o t })) (λ d s.
    clean_ups t os (after_clean_up o d s))
    else clean_ups t os s

-- Tick: the clock is set; then the call-outs that are due and existed when the tick began, the heart beats, the resets and the clean-ups.
abbrev pub at_moment : World → ℕ → World
at_moment w t = record w { clock = t }

-- the four steps, one after another
abbrev pub tick_turn : ℕ → State → Course (Unit {0})
tick_turn t s =
    and_then (calls_out (due_at t s.world.call_outs) (record s { world = at_moment s.world t })) (λ x s.
    and_then (heart_beats t (beats_at t s.world.beats) s) (λ x s.
    and_then (resets t (watched_at t Reset s.world.watches) s) (λ x s.
    clean_ups t (watched_at t CleanUp s.world.watches) s)))

-- One turn carries out one event.
abbrev pub turn : Event → State → Course (Unit {0})
turn (Connect k) s = connect_turn k s
turn (Line k bytes) s = line_turn k bytes s
turn (Gone k) s = gone_turn k s
turn (Tick t) s = tick_turn t s
turn (Reload path bytes) s = reload_turn path bytes s
turn (Swap name) s = done s
