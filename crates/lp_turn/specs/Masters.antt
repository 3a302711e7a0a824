-- Functions of the master.
use Rattle.std.specs.Prelude.{◌≡◌, [], Option, None, map}
use Rattle.lp_values.specs.declared.id.ObjId.{ObjId}
use Rattle.lp_objects.specs.Stands as names
use Rattle.lp_objects.specs.declared.objects.Objects.{Objects}
use Rattle.lp_language.specs.Course.{Course, State, zero_value}
use Rattle.lp_language.specs.World.{World, object_named}
use Rattle.lp_meaning.specs.WorldSteps.{master_name}
use Rattle.lp_world.specs.Stands.{named_of}
use Rattle.lp_turn.specs.Turns.{arguments_of, behind, name_of, plain_done}
use Rattle.lp_turn.specs.declared.job.Asked.TheVariants as asks
use Rattle.lp_turn.specs.declared.job.Call.{Call}
use Rattle.lp_turn.specs.declared.job.MasterFunction.{MasterFunction}
use Rattle.lp_turn.specs.declared.job.Step.{Step}
use Rattle.lp_turn.specs.declared.job.Step.TheVariants as steps
use Rattle.lp_turn.specs.declared.job.Waiting.{Waiting}
use Rattle.lp_turn.specs.declared.job.Waiting.TheVariants as waitings

-- the master, by the names of each world for which they stand
abbrev pub IsMasterOf : Objects → Option ObjId → Type 0
IsMasterOf table r = (w : World) → names.Stands table (map named_of w.objects) → r ≡ object_named w master_name

-- a function of the master is called
pub record IsApply (m : ObjId) (f : MasterFunction) (call : Call) (waiting : Waiting) : Type 0 where
  pub asked : call.asked ≡ asks.Apply m (name_of f)
  pub player : call.player ≡ None
  pub interactive : call.interactive ≡ None
  pub arguments : call.arguments.items ≡ arguments_of f
  pub waits : waiting ≡ waitings.Master f

abbrev pub Applies : ObjId → MasterFunction → Step → Type 0
Applies m f (steps.Asks call waiting) = IsApply m f call waiting
Applies m f steps.Ends = ⊥

-- the master is loaded for one
pub record IsLoad (f : MasterFunction) (call : Call) (waiting : Waiting) : Type 0 where
  pub asked : call.asked ≡ asks.Load master_name
  pub player : call.player ≡ None
  pub interactive : call.interactive ≡ None
  pub arguments : call.arguments.items ≡ []
  pub waits : waiting ≡ waitings.Load f

abbrev pub Loads : MasterFunction → Step → Type 0
Loads f (steps.Asks call waiting) = IsLoad f call waiting
Loads f steps.Ends = ⊥

-- there is no master, so that the answer is 0
abbrev pub without_master : MasterFunction → State → Course (Unit {0})
without_master f s = behind f (plain_done zero_value) s
