-- `move_object`: its destination, and the calls of `init` that follow the move.
use Rattle.std.specs.Prelude.{◌≡◌, ⊤, ℕ, List, Bool, true, Option, Some, None, drop, map, slice_get, if◌then◌else◌}
use Rattle.lp_values.specs.declared.id.ObjId.{ObjId}
use Rattle.lp_values.specs.declared.error.ErrorKind.{ErrorKind}
use Rattle.lp_values.specs.declared.error.ErrorKind.TheVariants.{BadTarget}
use Rattle.lp_values.specs.declared.value.Value.{Value}
use Rattle.lp_code.specs.declared.program.RawProgram.{RawProgram}
use Rattle.lp_instr.specs.declared.efun.Efun.TheVariants as efuns
use Rattle.lp_language.specs.World.{World, is_live}
use Rattle.lp_language.specs.Course.{Scene, State}
use Rattle.lp_meaning.specs.Askers.{Asker}
use Rattle.lp_meaning.specs.FileLoads.{live_object}
use Rattle.lp_meaning.specs.MovesAndCommands.{inits, may_init, move_error}
use Rattle.lp_meaning.specs.WorldSteps.{is_clone_name}
use Rattle.lp_moving.specs.Moving.{init_of}
use Rattle.lp_moving.specs.declared.visits.InitCall.{InitCall}
use Rattle.lp_places.specs.Places.{MoveNo}
use Rattle.lp_swapfile.specs.Device.{Bytes}
use Rattle.lp_world.specs.Rows.{live_in}
use Rattle.lp_world.specs.Stands.{Stands}
use Rattle.lp_world.specs.declared.live.Live.{Live}
use Rattle.lp_efuns.specs.declared.caller.Turn.{Turn}
use Rattle.lp_efuns.specs.Turns.{At, Setting}
use Rattle.lp_calling.specs.declared.job.Stage.{Stage}
use Rattle.lp_calling.specs.declared.job.Stage.TheVariants as stages
use Rattle.lp_calling.specs.declared.moving.Moving.{Moving}
use Rattle.lp_calling.specs.declared.moving.Moving.TheVariants as moves
use Rattle.lp_calling.specs.declared.moving.Visits.{Visits}
use Rattle.lp_calling.specs.Beginning.{acts}
use Rattle.lp_calling.specs.Jobs.{stage_course}

-- the live object that a value is, in each world where these objects are live
abbrev pub IsWhom : (ObjId → Bool) → Value → Option ObjId → Type 0
IsWhom live v r = (w : World) → is_live w ≡ live → r ≡ live_object w v

-- an item comes into its destination where both are live, and else there is no target
abbrev pub move_stage : Option ObjId → Option ObjId → Stage
move_stage (Some item) (Some dest) = stages.Move (moves.Into item dest)
move_stage _ _ = stages.Error BadTarget

-- the destination has a name that no live object has: a clone is none, and another object is loaded
abbrev pub unnamed_stage : List ℕ → Stage
unnamed_stage name = if is_clone_name name then stages.Error BadTarget else stages.Move (moves.Destination name)

-- From each state for which the live state stands the efun acts with these arguments as from a stage.
abbrev pub ActsAs : Live → List Value → Stage → Type 0
ActsAs live vs stage = (g : Setting) (turn : Turn) (budget : ℕ) (by : Asker) (c : Scene) (s : State) → At g live turn budget s → acts efuns.MoveObject vs by c s ≡ stage_course efuns.MoveObject stage vs by s

-- In each such state the calls of `init` from one place on come to those from another one: none between them is made.
abbrev pub Passes : Live → ObjId → ObjId → List InitCall → ℕ → ℕ → Type 0
Passes live item dest calls from at =
    (g : Setting) (turn : Turn) (budget : ℕ) (by : Asker) (s : State) → At g live turn budget s → inits by item dest (map init_of (drop from calls)) s ≡ inits by item dest (map init_of (drop at calls)) s

-- In each such state a call, if there is one, is made; and the object that is called is live.
abbrev pub IsNextMade : Live → ObjId → ObjId → Option InitCall → Type 0
IsNextMade live item dest None = ⊤
IsNextMade live item dest (Some i) =
    ((g : Setting) (turn : Turn) (budget : ℕ) (s : State) → At g live turn budget s → may_init s.world item dest (init_of i) ≡ true) × (live_in live.objects i.of ≡ true)

-- The next call is made, and behind it `this_player()` of now is put back.
pub record IsVisitPoised (r : Visits) (live : Live) (turn : Turn) : Type 0 where
  pub call : InitCall
  pub is : slice_get r.calls.items r.done ≡ Some call
  pub made : IsNextMade live r.item r.dest (Some call)
  pub back : r.back ≡ turn.player

-- a move asks as it stands
abbrev pub IsMovePoised : Moving → Live → Turn → Type 0
IsMovePoised (moves.Destination name) live turn = ⊤
IsMovePoised (moves.Into item dest) live turn = ⊥
IsMovePoised (moves.Visiting r) live turn = IsVisitPoised r live turn

-- what tells whether a call of `init` is made, in each world for which the live state stands
abbrev pub TellsMade : Bool → Live → ObjId → ObjId → InitCall → Type 0
TellsMade is live item dest i = (told : Option Bytes) (programs : List RawProgram) (w : World) → Stands told programs live w → is ≡ may_init w item dest (init_of i)

-- a move is refused for a reason that has this error
abbrev pub Refuses : Option MoveNo → ErrorKind → Type 0
Refuses None kind = ⊥
Refuses (Some reason) kind = move_error reason ≡ kind
