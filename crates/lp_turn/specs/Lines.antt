-- Lines of connections.
use Rattle.std.specs.Prelude.{◌≡◌, ◌++◌, ◌∷◌, [], ℕ, List, Bool, Some, if◌then◌else◌}
use Rattle.lp_values.specs.declared.id.ObjId.{ObjId}
use Rattle.lp_events.specs.declared.out.Out.TheVariants as outs
use Rattle.lp_language.specs.Course.{Command, Course, State, and_then}
use Rattle.lp_meaning.specs.Askers.{ask_value, driver}
use Rattle.lp_meaning.specs.EventTurns.{done, driver_call}
use Rattle.lp_world.specs.declared.live.Live.{Live}

-- the input of a connection is shown again, where it was hidden
abbrev pub IsShown : ℕ → Bool → Live → Live → Type 0
IsShown k hides old new = new ≡ record old { outputs = old.outputs ++ (if hides then outs.Show k ∷ [] else []) }

-- a line is a command
abbrev pub commanding : ObjId → List ℕ → State → Course (Unit {0})
commanding o text s = and_then (driver_call (Some o) (λ s. ask_value (Command o text) [] (driver (Some o)) s) s) (λ d s. done s)
