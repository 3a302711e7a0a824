-- Steps of the start.
use Rattle.std.specs.Prelude.{◌≡◌, ◌∷◌, [], ℕ, List, None, Some, codes}
use Rattle.std.specs.Str.{chars}
use Rattle.lp_values.specs.declared.id.ObjId.{ObjId}
use Rattle.lp_language.specs.Course.{Course, State, and_then, zero_value}
use Rattle.lp_events.specs.declared.out.Out.TheVariants as outs
use Rattle.lp_meaning.specs.Askers.{told}
use Rattle.lp_meaning.specs.EventTurns.{Start, driver_load, with_epilog}
use Rattle.lp_meaning.specs.WorldSteps.{master_name}
use Rattle.lp_world.specs.declared.live.Live.{Live}
use Rattle.lp_turn.specs.Starts.{start_arguments, start_behind, start_name}
use Rattle.lp_turn.specs.Turns.{plain_done}
use Rattle.lp_turn.specs.declared.job.Asked.TheVariants as asks
use Rattle.lp_turn.specs.declared.job.Call.{Call}
use Rattle.lp_turn.specs.declared.start_job.StartFunction.{StartFunction}
use Rattle.lp_turn.specs.declared.start_job.StartStep.{StartStep}
use Rattle.lp_turn.specs.declared.start_job.StartStep.TheVariants as steps
use Rattle.lp_turn.specs.declared.start_job.StartWaiting.{StartWaiting}
use Rattle.lp_turn.specs.declared.start_job.StartWaiting.TheVariants as waitings

-- a function of the master is called
pub record IsStartApply (m : ObjId) (f : StartFunction) (call : Call) (waiting : StartWaiting) : Type 0 where
  pub asked : call.asked ≡ asks.Apply m (start_name f)
  pub player : call.player ≡ None
  pub interactive : call.interactive ≡ None
  pub arguments : call.arguments.items ≡ start_arguments f
  pub waits : waiting ≡ waitings.Master f

abbrev pub StartApplies : ObjId → StartFunction → StartStep → Type 0
StartApplies m f (steps.Asks call waiting) = IsStartApply m f call waiting
StartApplies m f steps.Begins = ⊥
StartApplies m f (steps.NoMaster fs) = ⊥

-- the master is loaded for one
pub record IsStartLoad (f : StartFunction) (call : Call) (waiting : StartWaiting) : Type 0 where
  pub asked : call.asked ≡ asks.Load master_name
  pub player : call.player ≡ None
  pub interactive : call.interactive ≡ None
  pub arguments : call.arguments.items ≡ []
  pub waits : waiting ≡ waitings.Load f

abbrev pub StartLoads : StartFunction → StartStep → Type 0
StartLoads f (steps.Asks call waiting) = IsStartLoad f call waiting
StartLoads f steps.Begins = ⊥
StartLoads f (steps.NoMaster fs) = ⊥

-- there is no master, so that the answer is 0
abbrev pub start_without : StartFunction → State → Course Start
start_without f s = start_behind f (plain_done zero_value) s

-- the simul-efun object has its name
abbrev pub HasSimul : List ℕ → Live → Live → Type 0
HasSimul name old new = new ≡ record old { simul = Some name }

-- it is loaded, and then the master is asked what is to be preloaded
abbrev pub loading_simul : List ℕ → State → Course Start
loading_simul name s = and_then (driver_load name s) (λ d s. with_epilog s)

-- A name with a `#` that no live object has is no target, which nobody catches.
abbrev pub untargeted : State → Course Start
untargeted s = with_epilog (told (outs.Log (codes "error: Bad target") ∷ []) s)

-- the simul-efun object is loaded by this name
pub record IsSimulLoad (name : List ℕ) (call : Call) (waiting : StartWaiting) : Type 0 where
  pub asked : call.asked ≡ asks.Load name
  pub player : call.player ≡ None
  pub interactive : call.interactive ≡ None
  pub arguments : call.arguments.items ≡ []
  pub spelled : List ℕ
  pub spells : chars spelled ≡ name
  pub waits : waiting ≡ waitings.Simul spelled

abbrev pub LoadsSimul : List ℕ → StartStep → Type 0
LoadsSimul name (steps.Asks call waiting) = IsSimulLoad name call waiting
LoadsSimul name steps.Begins = ⊥
LoadsSimul name (steps.NoMaster fs) = ⊥
