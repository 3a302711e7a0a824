-- Turns of a driver: events with their outputs.
use Rattle.std.specs.Prelude.{⊤, ℕ, ◌≤◌, ◌^◌, List, [], ◌∷◌}
use Rattle.lp_events.specs.declared.event.Event.{Event}
use Rattle.lp_events.specs.declared.event.Event.TheVariants.{Connect, Line, Gone, Tick, Reload, Swap}
use Rattle.lp_events.specs.declared.out.Out.{Out}
use Rattle.lp_wire.specs.Courses.{Deed, Turned, WasRead}

-- how a driver began: with a seed of its generator, at a moment, on these files by their paths, and with these outputs
pub record Origin : Type 0 where
  pub seed : ℕ
  pub moment : ℕ
  pub files : List (List ℕ × List ℕ)
  pub outputs : List Out

-- a turn: an event, and what it gave
abbrev pub Turn : Type 0
Turn = Event × List Out

-- an event that a driver takes: the moment of a tick is at most 10^12 seconds
abbrev pub MayCome : Event → Type 0
MayCome (Connect k) = ⊤
MayCome (Line k bytes) = ⊤
MayCome (Gone k) = ⊤
MayCome (Tick moment) = moment ≤ 10 ^ 12
MayCome (Reload path bytes) = ⊤
MayCome (Swap name) = ⊤

-- the turns among what was done, in order
abbrev pub turns_of : List Deed → List Turn
turns_of [] = []
turns_of (Turned event outs ∷ ds) = (event, outs) ∷ turns_of ds
turns_of (WasRead path bytes ∷ ds) = turns_of ds
