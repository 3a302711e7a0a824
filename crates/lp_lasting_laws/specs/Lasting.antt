-- What lasts of call-outs over a question: one that waits still is the one that waited.
use Rattle.std.specs.Prelude.{◌≡◌, ◌⊎◌, ◌<◌, ◌≤◌, ℕ, List, [], ◌∷◌, Some}
use Rattle.lp_timers.specs.Timers.{CallOut}
use Rattle.lp_language.specs.World.{World}
use Rattle.lp_language.specs.Course.{AreSameCommands, Ask, Asks, Course, End, Gives, Outcome, Over, Reply, State, Stops}
use Rattle.lp_language.specs.Eval.{Site}
use Rattle.lp_language.specs.Exec.{body_of, initialisers_of}
use Rattle.lp_language.specs.Resolve.{Function}
use Rattle.lp_meaning.specs.Askers.{state_of}
use Rattle.lp_meaning.specs.Closing.{Has}
use Rattle.lp_meaning.specs.FrontEnd.{FrontEnd}
use Rattle.lp_meaning.specs.NothingLost.{level}
use Rattle.lp_meaning.specs.Questions.{means}

-- a call-out is among some
abbrev pub IsAmong : CallOut → List CallOut → Type 0
IsAmong c [] = ⊥
IsAmong c (d ∷ ds) = (c ≡ d) ⊎ IsAmong c ds

-- Numbers of call-outs are not used again: each call-out with a number that was given out already waited before, as it is.
pub record Keeps (old new : World) : Type 0 where
  pub next : old.next_call_out ≤ new.next_call_out
  pub same : (c : CallOut) → c.number < old.next_call_out → IsAmong c new.call_outs → IsAmong c old.call_outs

-- an outcome that keeps them, beside what each outcome does
pub record CanAnswer (a : Ask) (o : Outcome) : Type 0 where
  pub no_more : o.budget ≤ a.budget
  pub keeps : Keeps a.world o.world
  pub commands : AreSameCommands a.commands o.commands

-- a state that can come after another
pub record After (s t : State) : Type 0 where
  pub no_more : t.budget ≤ s.budget
  pub keeps : Keeps s.world t.world
  pub commands : AreSameCommands s.commands t.commands

abbrev pub EndsAfter : {A : Type 0} → State → End A → Type 0
EndsAfter s (Gives x t) = After s t
EndsAfter s (Stops w t) = After s t

-- a question that can come after a state
pub record AsksAfter (s : State) (a : Ask) : Type 0 where
  pub no_more : a.budget ≤ s.budget
  pub keeps : Keeps s.world a.world
  pub commands : AreSameCommands s.commands a.commands

-- what a course asks, and where it ends, comes after a state, where each outcome keeps call-outs
abbrev pub GoesAfter : {A : Type 0} → State → Course A → Type 0
GoesAfter s (Over e) = EndsAfter s e
GoesAfter s (Asks a k) = AsksAfter s a × ((o : Outcome) → CanAnswer a o → GoesAfter s (k o))

-- a function's body keeps them, and initialisers do
abbrev pub BodiesKeep : Type 0
BodiesKeep = (k : Site) (f : Function) (s : State) → GoesAfter s (body_of k f s)

abbrev pub InitialisersKeep : Type 0
InitialisersKeep = (k : Site) (s : State) → GoesAfter s (initialisers_of k s)

-- the same below a level, as where nothing is lost
pub record AskedBelow (n : ℕ) (s : State) (a : Ask) : Type 0 where
  pub below : level a < n
  pub keeps : Keeps s.world a.world

abbrev pub StaysBelow : {A : Type 0} → ℕ → State → Course A → Type 0
StaysBelow n s (Over e) = EndsAfter s e
StaysBelow n s (Asks a k) = AskedBelow n s a × ((o : Outcome) → CanAnswer a o → StaysBelow n s (k o))

-- the course of each question keeps them
abbrev pub CoursesKeep : Type 0
CoursesKeep = (a : Ask) (c : Course Reply) → means a ≡ Some c → StaysBelow (level a) (state_of a) c

-- CALL-OUTS LAST: each outcome of a question keeps them.
abbrev pub CallOutsLast : Type 0
CallOutsLast = (front : FrontEnd) (a : Ask) (o : Outcome) → Has front a o → Keeps a.world o.world
