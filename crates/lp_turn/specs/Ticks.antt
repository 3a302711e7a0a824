-- The steps of a tick, each as a turn: what is left of one, by where it stands.
use Rattle.std.specs.Prelude.{ℕ, Bool, None, false, length}
use Rattle.lp_values.specs.declared.value.Value.{Value}
use Rattle.lp_timers.specs.Timers.{CleanUp, Reset, beats_at, watched_at}
use Rattle.lp_language.specs.Course.{Answer, Course, State, and_then, zero_value}
use Rattle.lp_meaning.specs.EventTurns.{Done}
use Rattle.lp_meaning.specs.Ticks.{after_beat, after_clean_up, clean_ups, heart_beats, resets}
use Rattle.lp_lasting_laws.specs.Numbers.{calls_numbered}
use Rattle.lp_turn.specs.Calls.{value_course}
use Rattle.lp_turn.specs.declared.tick_job.TickGoing.{TickGoing}
use Rattle.lp_turn.specs.declared.tick_job.TickGoing.TheVariants as goings
use Rattle.lp_turn.specs.declared.tick_job.TickWaiting.{TickWaiting}
use Rattle.lp_turn.specs.declared.tick_job.TickWaiting.TheVariants as waitings

-- THE STEPS OF A TICK behind its call-outs, each by what is due when it begins: the hearts that are to beat, ..
abbrev pub beats_due : ℕ → State → Course (Unit {0})
beats_due t s = heart_beats t (beats_at t s.world.beats) s

-- .. the objects that are to be reset, ..
abbrev pub resets_due : ℕ → State → Course (Unit {0})
resets_due t s = resets t (watched_at t Reset s.world.watches) s

-- .. and those that are to be asked whether they clean up.
abbrev pub clean_ups_due : ℕ → State → Course (Unit {0})
clean_ups_due t s = clean_ups t (watched_at t CleanUp s.world.watches) s

-- what a call gave: whether its end was uncaught, or its value
abbrev pub ended_so : Bool → Done
ended_so is_uncaught = record { value = zero_value; is_uncaught = is_uncaught }

abbrev pub answered_so : Value → Done
answered_so v = record { value = v; is_uncaught = false }

-- WHAT IS LEFT of a step that goes on.
abbrev pub tick_going : TickGoing → State → Course (Unit {0})
tick_going (goings.CallOuts ns) s = calls_numbered ns s
tick_going (goings.Beats d) s = heart_beats d.moment d.objects s
tick_going (goings.Beaten o is_uncaught d) s = heart_beats d.moment d.objects (after_beat o (ended_so is_uncaught) s)
tick_going (goings.Resets d) s = resets d.moment d.objects s
tick_going (goings.CleanUps d) s = clean_ups d.moment d.objects s
tick_going (goings.CleanedUp o v d) s = clean_ups d.moment d.objects (after_clean_up o (answered_so v) s)

-- WHAT IS LEFT of a step that waits, behind an answer of its call, in the state then.
abbrev pub tick_waiting : TickWaiting → Answer → State → Course (Unit {0})
tick_waiting (waitings.CallOut ns) a s = and_then (value_course None a s) (λ d s. calls_numbered ns s)
tick_waiting (waitings.Beat o player due) a s = and_then (value_course player a s) (λ d s. heart_beats due.moment due.objects (after_beat o d s))
tick_waiting (waitings.Reset due) a s = and_then (value_course None a s) (λ d s. resets due.moment due.objects s)
tick_waiting (waitings.CleanUp o due) a s = and_then (value_course None a s) (λ d s. clean_ups due.moment due.objects (after_clean_up o d s))

-- HOW MANY CALLS a step may still ask for, where it goes on and where it waits: one for each that is still to come.
abbrev pub tick_calls_left : TickGoing → ℕ
tick_calls_left (goings.CallOuts ns) = length ns
tick_calls_left (goings.Beats d) = length d.objects
tick_calls_left (goings.Beaten o is_uncaught d) = length d.objects
tick_calls_left (goings.Resets d) = length d.objects
tick_calls_left (goings.CleanUps d) = length d.objects
tick_calls_left (goings.CleanedUp o v d) = length d.objects

abbrev pub tick_calls_behind : TickWaiting → ℕ
tick_calls_behind (waitings.CallOut ns) = length ns
tick_calls_behind (waitings.Beat o player d) = length d.objects
tick_calls_behind (waitings.Reset d) = length d.objects
tick_calls_behind (waitings.CleanUp o d) = length d.objects
