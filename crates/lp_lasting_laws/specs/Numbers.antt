-- Call-outs of a tick, by their numbers.
use Rattle.std.specs.Prelude.{◌≡◌, ◌<◌, ℕ, List, [], ◌∷◌, Some, None, map}
use Rattle.lp_timers.specs.Timers.{CallOut, due_at}
use Rattle.lp_timers.specs.Waiting.{numbered}
use Rattle.lp_language.specs.Course.{Course, End, State, and_then}
use Rattle.lp_language.specs.World.{World}
use Rattle.lp_meaning.specs.Closing.{Ends}
use Rattle.lp_meaning.specs.EventTurns.{done, driver_apply}
use Rattle.lp_meaning.specs.FrontEnd.{FrontEnd}
use Rattle.lp_meaning.specs.Ticks.{at_moment, calls_out, without_due}
use Rattle.lp_lasting_laws.specs.Lasting.{IsAmong}

-- A call-out is looked up by its number when its turn comes, and where one with that number waits it is taken out and applied.
abbrev pub calls_numbered : List ℕ → State → Course (Unit {0})
calls_numbered [] s = done s
calls_numbered (n ∷ ns) s = elim (numbered s.world.call_outs n) [
  | Some c ↦ and_then (driver_apply None None c.object c.function c.arguments (record s { world = without_due s.world n })) (λ d s. calls_numbered ns s)
  | None ↦ calls_numbered ns s
]

-- the numbers of those that are due at a moment
abbrev pub numbers_due : ℕ → List CallOut → List ℕ
numbers_due t cs = map (λ c. c.number) (due_at t cs)

-- THE CALL-OUTS OF A TICK, by the numbers of those that are due when it begins: the clock is set, and they are called
abbrev pub calls_due : ℕ → State → Course (Unit {0})
calls_due t s = calls_numbered (numbers_due t s.world.call_outs) (record s { world = at_moment s.world t })

-- each call-out of a world has a number of its own, which was given out
pub record HaveNumbers (w : World) : Type 0 where
  pub own : (c d : CallOut) → IsAmong c w.call_outs → IsAmong d w.call_outs → d.number ≡ c.number → d ≡ c
  pub below : (c : CallOut) → IsAmong c w.call_outs → c.number < w.next_call_out

-- NUMBERS ARE ENOUGH: what is called by numbers ends as the call-outs of the tick do, as the written meaning lists them.
abbrev pub NumbersAreEnough : Type 0
NumbersAreEnough =
    (front : FrontEnd) (t : ℕ) (s : State) (e : End (Unit {0})) → HaveNumbers s.world → Ends front (calls_due t s) e → Ends front (calls_out (due_at t s.world.call_outs) (record s { world = at_moment s.world t })) e
