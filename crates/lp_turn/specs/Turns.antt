-- Turns: what is left of a turn, by where it stands.
use Rattle.std.specs.Prelude.{List, [], ◌∷◌, ℕ, false, None, Some, codes}
use Rattle.lp_values.specs.declared.value.Value.{Value}
use Rattle.lp_values.specs.declared.value.Value.TheVariants.{Obj, Str}
use Rattle.lp_language.specs.Course.{Answer, Course, State, and_then}
use Rattle.lp_language.specs.World.{object_named}
use Rattle.lp_meaning.specs.EventTurns.{Done, admitted, after_logon, applied_if, done, driver_master, free_object}
use Rattle.lp_meaning.specs.WorldSteps.{master_name}
use Rattle.lp_turn.specs.Calls.{load_course, value_course}
use Rattle.lp_turn.specs.Ticks.{tick_going, tick_waiting}
use Rattle.lp_turn.specs.declared.job.Going.{Going}
use Rattle.lp_turn.specs.declared.job.Going.TheVariants as goings
use Rattle.lp_turn.specs.declared.job.MasterFunction.{MasterFunction}
use Rattle.lp_turn.specs.declared.job.MasterFunction.TheVariants as functions
use Rattle.lp_turn.specs.declared.job.Waiting.{Waiting}
use Rattle.lp_turn.specs.declared.job.Waiting.TheVariants as waitings

-- The functions of the master that turns call: their names and their arguments.
abbrev pub name_of : MasterFunction → List ℕ
name_of (functions.Connect k) = codes "connect"
name_of (functions.Disconnect o) = codes "disconnect"

abbrev pub arguments_of : MasterFunction → List Value
arguments_of (functions.Connect k) = []
arguments_of (functions.Disconnect o) = Obj o ∷ Str [] ∷ []

-- and what follows their values
abbrev pub behind : MasterFunction → Done → State → Course (Unit {0})
behind (functions.Connect k) d s = admitted k (free_object s.world d.value) s
behind (functions.Disconnect o) d s = done s

-- a value that was caught
abbrev pub plain_done : Value → Done
plain_done v = record { value = v; is_uncaught = false }

-- WHAT IS LEFT of a turn that goes on.
abbrev pub going_course : Going → State → Course (Unit {0})
going_course (goings.Master f) s = and_then (driver_master (name_of f) (arguments_of f) s) (behind f)
going_course (goings.Loaded f) s = and_then (applied_if (object_named s.world master_name) (name_of f) (arguments_of f) s) (behind f)
going_course (goings.Admit k v) s = admitted k (free_object s.world v) s
going_course (goings.Logged k v) s = after_logon k (plain_done v) s
going_course (goings.Tick g) s = tick_going g s
going_course goings.Done s = done s

-- WHAT IS LEFT of a turn that waits, behind an answer of its call, in the state then.
abbrev pub waiting_course : Waiting → Answer → State → Course (Unit {0})
waiting_course (waitings.Load f) a s =
    and_then (and_then (load_course master_name a s) (λ d s. applied_if (object_named s.world master_name) (name_of f) (arguments_of f) s)) (behind f)
waiting_course (waitings.Master f) a s = and_then (value_course None a s) (behind f)
waiting_course (waitings.Logon k o) a s = and_then (value_course (Some o) a s) (λ d s. after_logon k d s)
waiting_course (waitings.Line o) a s = and_then (value_course (Some o) a s) (λ d s. done s)
waiting_course (waitings.Tick w) a s = tick_waiting w a s
