-- What comes after a state: nothing is removed, and no budget is won.
use Rattle.std.specs.Prelude.{◌≤◌}
use Rattle.lp_language.specs.World.{Keeps}
use Rattle.lp_language.specs.Course.{AreSameCommands, State, End, Gives, Stops, Ask, Outcome, CanAnswer, Course, Over, Asks}
use Rattle.lp_language.specs.Resolve.{Function}
use Rattle.lp_language.specs.Eval.{Site}
use Rattle.lp_language.specs.Exec.{body_of, initialisers_of}

-- a state that can come after another: it has no more of the budget, nothing was removed, and the commands are the same
pub record After (s t : State) : Type 0 where
  pub no_more : t.budget ≤ s.budget
  pub keeps : Keeps s.world t.world
  pub commands : AreSameCommands s.commands t.commands

abbrev pub EndsAfter : {A : Type 0} → State → End A → Type 0
EndsAfter s (Gives x t) = After s t
EndsAfter s (Stops w t) = After s t

-- a question that can come after a state
pub record AsksAfter (s : State) (a : Ask) : Type 0 where
  pub no_more : a.budget ≤ s.budget
  pub keeps : Keeps s.world a.world
  pub commands : AreSameCommands s.commands a.commands

-- what a course asks, and where it ends, comes after a state, where each outcome is one that can be
abbrev pub GoesAfter : {A : Type 0} → State → Course A → Type 0
GoesAfter s (Over e) = EndsAfter s e
GoesAfter s (Asks a k) = AsksAfter s a × ((o : Outcome) → CanAnswer a o → GoesAfter s (k o))

-- A function's body removes nothing, adds nothing to the budget, and of the running commands it changes at most the text
-- of the innermost one; it asks so, too. Its end is thus an outcome that can be.
abbrev pub BodiesKeep : Type 0
BodiesKeep = (k : Site) (f : Function) (s : State) → GoesAfter s (body_of k f s)

abbrev pub InitialisersKeep : Type 0
InitialisersKeep = (k : Site) (s : State) → GoesAfter s (initialisers_of k s)
