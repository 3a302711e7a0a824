-- Jobs come to what they ask next: what a stage does before that.
use Rattle.std.specs.Prelude.{◌≡◌, ◌&&◌, ℕ, ⊤, List, ◌++◌, Bool, true, false, not, Option, Some, None, length, slice_get}
use Rattle.lp_values.specs.declared.id.ObjId.{ObjId}
use Rattle.lp_values.specs.declared.value.Value.{Value}
use Rattle.lp_instr.specs.declared.efun.Efun.{Efun}
use Rattle.lp_language.specs.World.{World, is_live}
use Rattle.lp_language.specs.Course.{State}
use Rattle.lp_meaning.specs.Askers.{Asker}
use Rattle.lp_meaning.specs.MovesAndCommands.{is_living}
use Rattle.lp_places.specs.Places.{is_at}
use Rattle.lp_world.specs.declared.live.Live.{Live}
use Rattle.lp_world.specs.Rows.{live_in}
use Rattle.lp_efuns.specs.declared.caller.Turn.{Turn}
use Rattle.lp_efuns.specs.Subjects.{number_of}
use Rattle.lp_efuns.specs.Turns.{At, Setting}
use Rattle.lp_calling.specs.declared.job.Audience.{Audience}
use Rattle.lp_calling.specs.declared.job.Job.{Job}
use Rattle.lp_calling.specs.declared.job.Search.{Search}
use Rattle.lp_calling.specs.declared.job.Stage.{Stage}
use Rattle.lp_calling.specs.declared.job.Stage.TheVariants as stages
use Rattle.lp_calling.specs.Beginning.{Settled}
use Rattle.lp_calling.specs.Jobs.{stage_course}
use Rattle.lp_calling.specs.Moving.{IsMovePoised}

-- whether an object that is left is told, in a world
abbrev pub is_told : World → Option ObjId → ObjId → Bool
is_told w but o = is_live w o && is_living w o && not (is_at but o)

-- so it is in each world for which the live state stands, or it is not
abbrev pub IsTold : Bool → Live → Option ObjId → ObjId → Type 0
IsTold is live but o = (g : Setting) (turn : Turn) (budget : ℕ) (s : State) → At g live turn budget s → is ≡ is_told s.world but o

-- Where a stage asks next

-- an object that is told next has no connection, so that it is asked
pub record IsAudiencePoised (a : Audience) (live : Live) : Type 0 where
  pub listener : ObjId
  pub is : slice_get a.listeners.items a.done ≡ Some listener
  pub lives : live_in live.objects listener ≡ true
  pub told : IsTold true live a.but listener
  pub unconnected : number_of live listener ≡ None

-- an object that is asked next is live
pub record IsSearchPoised (k : Search) (live : Live) : Type 0 where
  pub object : ObjId
  pub is : slice_get k.objects.items k.done ≡ Some object
  pub lives : live_in live.objects object ≡ true

-- a stage that comes to nothing else before it asks or ends
abbrev pub is_direct : Stage → Bool
is_direct (stages.Call o name) = true
is_direct (stages.Target name fun) = true
is_direct (stages.Load name) = true
is_direct (stages.Move m) = false
is_direct (stages.Items r) = true
is_direct (stages.Tell o t) = true
is_direct (stages.Write t) = true
is_direct (stages.Say this t) = false
is_direct (stages.TellEach a) = false
is_direct (stages.Seek k) = false
is_direct (stages.MasterLoad w) = true
is_direct (stages.Master m w) = true
is_direct (stages.File d p) = false
is_direct (stages.Shadow this o) = false
is_direct stages.Value = true
is_direct stages.Zero = true
is_direct (stages.Error kind) = true

-- A stage asks or ends as it stands.
abbrev pub IsPoised : Stage → Live → Turn → Type 0
IsPoised (stages.Call o name) live turn = ⊤
IsPoised (stages.Target name fun) live turn = ⊤
IsPoised (stages.Load name) live turn = ⊤
IsPoised (stages.Move m) live turn = IsMovePoised m live turn
IsPoised (stages.Items r) live turn = ⊤
IsPoised (stages.Tell o t) live turn = ⊤
IsPoised (stages.Write t) live turn = ⊤
IsPoised (stages.Say this t) live turn = ⊥
IsPoised (stages.TellEach a) live turn = IsAudiencePoised a live
IsPoised (stages.Seek k) live turn = IsSearchPoised k live
IsPoised (stages.MasterLoad w) live turn = ⊤
IsPoised (stages.Master m w) live turn = ⊤
IsPoised (stages.File d p) live turn = ⊥
IsPoised (stages.Shadow this o) live turn = ⊥
IsPoised stages.Value live turn = ⊤
IsPoised stages.Zero live turn = ⊤
IsPoised (stages.Error kind) live turn = ⊤

-- How it comes to that

-- A stage comes to another one: from each state for which the live state stands its course, with its values, is that of the other,
-- with the other's values, in a state for which the live state stands then and whose world settles from the one before.
abbrev pub ComesTo : Efun → Stage → List Value → Live → Turn → Stage → List Value → Live → Turn → Type 0
ComesTo e stage0 own0 live0 turn0 stage1 own1 live1 turn1 =
    (g : Setting) (budget : ℕ) (by : Asker) (s : State) → At g live0 turn0 budget s → (t : State) × Settled s.world g live1 turn1 budget t × (stage_course e stage0 own0 by s ≡ stage_course e stage1 own1 by t)

pub record HasEntered (e : Efun) (stage0 : Stage) (own0 : List Value) (live0 : Live) (turn0 : Turn) (stage1 : Stage) (low stack1 : List Value) (live1 : Live) (turn1 : Turn) : Type 0 where
  pub own : List Value
  pub stack : stack1 ≡ low ++ own
  pub course : ComesTo e stage0 own0 live0 turn0 stage1 own live1 turn1

-- so it does with its values on the stack, above so many others, which stay
abbrev pub Enters : Efun → Stage → ℕ → Live → Turn → List Value → Stage → Live → Turn → List Value → Type 0
Enters e stage0 below live0 turn0 stack0 stage1 live1 turn1 stack1 =
    (low own : List Value) → stack0 ≡ low ++ own → length low ≡ below → HasEntered e stage0 own live0 turn0 stage1 low stack1 live1 turn1

-- without a change of its values
abbrev pub Advances : Stage → Live → Turn → Stage → Live → Turn → Type 0
Advances stage0 live0 turn0 stage1 live1 turn1 = (e : Efun) (own : List Value) → ComesTo e stage0 own live0 turn0 stage1 own live1 turn1

-- the same of a job
abbrev pub JobEnters : Job → Live → Turn → List Value → Job → Live → Turn → List Value → Type 0
JobEnters job0 live0 turn0 stack0 job1 live1 turn1 stack1 = (job1 ≡ record job0 { stage = job1.stage }) × Enters job0.efun job0.stage job0.low live0 turn0 stack0 job1.stage live1 turn1 stack1
