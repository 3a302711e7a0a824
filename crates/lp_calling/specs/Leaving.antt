-- How the master is asked for leave, on the live state.
use Rattle.std.specs.Prelude.{◌≡◌, ℕ, List, [], ◌∷◌, Bool, Option, Some, None, codes, if◌then◌else◌}
use Rattle.lp_values.specs.declared.id.ObjId.{ObjId}
use Rattle.lp_values.specs.declared.value.Value.{Value}
use Rattle.lp_values.specs.declared.value.Value.TheVariants.{Obj}
use Rattle.lp_instr.specs.declared.efun.Efun.{Efun}
use Rattle.lp_instr.specs.declared.efun.Efun.TheVariants as efuns
use Rattle.lp_language.specs.World.{World, is_live, object_named}
use Rattle.lp_language.specs.Course.{Scene, State, and_then}
use Rattle.lp_meaning.specs.Askers.{Asker}
use Rattle.lp_meaning.specs.CallingEfuns.{shadow_answered}
use Rattle.lp_meaning.specs.EfunArguments.{opened_args}
use Rattle.lp_meaning.specs.FileEfuns.{files, with_leave}
use Rattle.lp_meaning.specs.FileLoads.{live_object, master_call}
use Rattle.lp_meaning.specs.Questions.{OfFiles, group}
use Rattle.lp_meaning.specs.WorldSteps.{master_name}
use Rattle.lp_world.specs.declared.live.Live.{Live}
use Rattle.lp_efuns.specs.declared.caller.Caller.{Caller}
use Rattle.lp_efuns.specs.declared.caller.Turn.{Turn}
use Rattle.lp_efuns.specs.Turns.{At, IsScene, Setting}
use Rattle.lp_calling.specs.declared.job.Stage.{Stage}
use Rattle.lp_calling.specs.declared.job.Stage.TheVariants as stages
use Rattle.lp_calling.specs.declared.wish.FileDeed.{FileDeed}
use Rattle.lp_calling.specs.declared.wish.Wish.{Wish}
use Rattle.lp_calling.specs.Jobs.{ended, stage_course}
use Rattle.lp_calling.specs.Leave.{file_deed, granted, leave_function}

-- Beginning

-- an object, where it lives
abbrev pub where_live : (ObjId → Bool) → ObjId → Option ObjId
where_live live o = if live o then Some o else None

-- In each state for which the live state stands this is the master, or it does not live.
abbrev pub IsMaster : Live → Option ObjId → Type 0
IsMaster live m = (g : Setting) (turn : Turn) (budget : ℕ) (s : State) → At g live turn budget s → object_named s.world master_name ≡ m

-- the stage at which the master is asked, which is loaded first where it does not live
abbrev pub master_stage : Option ObjId → Wish → Stage
master_stage None w = stages.MasterLoad w
master_stage (Some m) w = stages.Master m w

-- With these arguments an efun asks for leave for this deed on the file at a path.
pub record IsDeedOf (e : Efun) (caller : Caller) (d : FileDeed) (path : List ℕ) (vs : List Value) : Type 0 where
  pub of_files : group e ≡ OfFiles
  pub means : (by : Asker) (c : Scene) (s : State) → IsScene caller c → files e by c s (opened_args s vs) ≡ with_leave by c (leave_function d) e path s (file_deed d)

-- In each state for which the live state stands an efun that an object calls asks for leave for this deed so.
abbrev pub AsksLeave : Live → ObjId → FileDeed → List ℕ → Stage → Type 0
AsksLeave live this d path stage =
    (e : Efun) (g : Setting) (turn : Turn) (budget : ℕ) (by : Asker) (c : Scene) (s : State) (own : List Value) → c.this ≡ this → At g live turn budget s
    → and_then (with_leave by c (leave_function d) e path s (file_deed d)) (ended e) ≡ stage_course e stage own by s

-- In each such state a job of `shadow` asks the master so whether an object may shadow another one.
abbrev pub AsksToShadow : Live → ObjId → ObjId → Stage → Type 0
AsksToShadow live this o stage =
    (g : Setting) (turn : Turn) (budget : ℕ) (by : Asker) (s : State) (own : List Value) → At g live turn budget s
    → and_then (and_then (master_call by (codes "query_allow_shadow") (Obj o ∷ []) s) (λ v s. shadow_answered this o v s)) (ended efuns.Shadow) ≡ stage_course efuns.Shadow stage own by s

-- Answers

-- where these objects are live, a value is this live object, or none
abbrev pub IsLiveObject : (ObjId → Bool) → Value → Option ObjId → Type 0
IsLiveObject live v m = (w : World) → is_live w ≡ live → live_object w v ≡ m

-- the stage behind an answer of the master, where these objects are live
abbrev pub GrantedAs : (ObjId → Bool) → Wish → Value → Stage → Type 0
GrantedAs live w v stage = (e : Efun) (own : List Value) (by : Asker) (s : State) → is_live s.world ≡ live → and_then (granted w v s) (ended e) ≡ stage_course e stage own by s
