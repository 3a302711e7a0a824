-- The start: what is left of it, by where it stands.
use Rattle.std.specs.Prelude.{ℕ, List, [], ◌∷◌, map, None, codes}
use Rattle.std.specs.Str.{chars}
use Rattle.lp_values.specs.declared.value.Value.{Value}
use Rattle.lp_values.specs.declared.value.Value.TheVariants.{Arr, Int, Map, Obj, Str}
use Rattle.lp_language.specs.Course.{Answer, Course, State, and_then, end_of_reply, gives, zero_value}
use Rattle.lp_language.specs.World.{object_named}
use Rattle.lp_meaning.specs.EventTurns.{Done, NoMaster, Start, applied_if, driver_master, items_in, master_loaded, preloading, simul_answered, text_in, with_epilog}
use Rattle.lp_meaning.specs.WorldSteps.{master_name}
use Rattle.lp_turn.specs.Calls.{load_course, value_course}
use Rattle.lp_turn.specs.declared.start_job.StartFunction.{StartFunction}
use Rattle.lp_turn.specs.declared.start_job.StartFunction.TheVariants as functions
use Rattle.lp_turn.specs.declared.start_job.StartGoing.{StartGoing}
use Rattle.lp_turn.specs.declared.start_job.StartGoing.TheVariants as goings
use Rattle.lp_turn.specs.declared.start_job.StartWaiting.{StartWaiting}
use Rattle.lp_turn.specs.declared.start_job.StartWaiting.TheVariants as waitings

-- texts as values, and the texts among values
abbrev pub as_values : List (List ℕ) → List Value
as_values ts = map (λ t. Str t) ts

abbrev pub texts_of : List Value → List (List ℕ)
texts_of [] = []
texts_of (Int n ∷ vs) = texts_of vs
texts_of (Str t ∷ vs) = t ∷ texts_of vs
texts_of (Arr c ∷ vs) = texts_of vs
texts_of (Map c ∷ vs) = texts_of vs
texts_of (Obj o ∷ vs) = texts_of vs

-- The functions of the master that the start calls: their names and their arguments.
abbrev pub start_name : StartFunction → List ℕ
start_name functions.Inaugurate = codes "inaugurate_master"
start_name functions.SimulEfun = codes "get_simul_efun"
start_name functions.Epilog = codes "epilog"
start_name (functions.Preload t ts) = codes "preload"

abbrev pub start_arguments : StartFunction → List Value
start_arguments functions.Inaugurate = zero_value ∷ []
start_arguments functions.SimulEfun = []
start_arguments functions.Epilog = zero_value ∷ []
start_arguments (functions.Preload t ts) = Str t ∷ []

-- and what follows their values
abbrev pub start_behind : StartFunction → Done → State → Course Start
start_behind functions.Inaugurate d s = and_then (driver_master (codes "get_simul_efun") [] s) (λ d s. simul_answered (text_in d.value) s)
start_behind functions.SimulEfun d s = simul_answered (text_in d.value) s
start_behind functions.Epilog d s = preloading (items_in s.world.cells d.value) s
start_behind (functions.Preload t ts) d s = preloading (as_values ts) s

-- WHAT IS LEFT of the start where it goes on.
abbrev pub start_going : StartGoing → State → Course Start
start_going (goings.Master f) s = and_then (driver_master (start_name f) (start_arguments f) s) (start_behind f)
start_going (goings.Loaded f) s = and_then (applied_if (object_named s.world master_name) (start_name f) (start_arguments f) s) (start_behind f)
start_going (goings.Answered v) s = simul_answered (text_in v) s
start_going (goings.Listed v) s = preloading (items_in s.world.cells v) s
start_going (goings.Preloading ts) s = preloading (as_values ts) s
start_going (goings.NoMaster fs) s = gives (NoMaster fs.items) s

-- WHAT IS LEFT of it where it waits, behind an answer of its call, in the state then.
abbrev pub start_waiting : StartWaiting → Answer → State → Course Start
start_waiting waitings.First a s = master_loaded (end_of_reply a s)
start_waiting (waitings.Load f) a s =
    and_then (and_then (load_course master_name a s) (λ d s. applied_if (object_named s.world master_name) (start_name f) (start_arguments f) s)) (start_behind f)
start_waiting (waitings.Master f) a s = and_then (value_course None a s) (start_behind f)
start_waiting (waitings.Simul name) a s = and_then (load_course (chars name) a s) (λ d s. with_epilog s)
