-- What `function_exists` answers, in the meaning and on the live state.
use Rattle.std.specs.Prelude.{◌≡◌, ℕ, pos, List, Option, None, Some}
use Rattle.lp_values.specs.declared.value.Value.{Value}
use Rattle.lp_values.specs.declared.value.Value.TheVariants as values
use Rattle.lp_swapfile.specs.Device.{Bytes}
use Rattle.lp_ops.specs.declared.effect.Effect.TheVariants.{Gives as GivesValue}
use Rattle.lp_instr.specs.declared.efun.Efun.{Efun}
use Rattle.lp_language.specs.World.{World}
use Rattle.lp_language.specs.Course.{Scene, State, End, Over}
use Rattle.lp_language.specs.Resolve.{function_of, without_c}
use Rattle.lp_values.specs.declared.id.ObjId.{ObjId}
use Rattle.lp_meaning.specs.Askers.{Asker}
use Rattle.lp_meaning.specs.Questions.{efun_in}
use Rattle.lp_meaning.specs.WorldEfuns.{function_program}
use Rattle.lp_world.specs.declared.live.Live.{Live}
use Rattle.lp_world.specs.Rows.{row_at, version_path}
use Rattle.lp_frames.specs.declared.entry.Callee.{Callee}
use Rattle.lp_targets.specs.Callees.{IsWorldOf}
use Rattle.lp_efuns.specs.declared.answer.Answer.{Answer}
use Rattle.lp_efuns.specs.declared.answer.Did.{Did}
use Rattle.lp_efuns.specs.declared.caller.Caller.{Caller}
use Rattle.lp_efuns.specs.declared.caller.Turn.{Turn}
use Rattle.lp_efuns.specs.Deeds.{IsDone, efun_done}
use Rattle.lp_efuns.specs.Plain.{IsEnd}
use Rattle.lp_efuns.specs.Turns.{At, IsScene, Setting}

-- the path without `.c` of the version of a callee, or 0 where there is none
abbrev pub IsProgramValue : Live → Option Callee → Value → Type 0
IsProgramValue live None v = v ≡ values.Int (pos 0)
IsProgramValue live (Some c) v = (path : List ℕ) × (version_path (row_at live.versions c.program.0) ≡ Some path) × (v ≡ values.Str (without_c path))

-- The value is what the efun gives for an object and a name, in each world for which the state stands with what the swap file tells.
abbrev pub IsWhereItStands : Option Bytes → Live → ObjId → List ℕ → Value → Type 0
IsWhereItStands told live o name v =
    (programs : _) (w : World) → IsWorldOf told programs live w → function_program w o (function_of w o name) ≡ GivesValue v

-- The efun does what it means, where the programs of the world fit their versions.
abbrev pub DoesOver : Efun → Caller → List Value → Option Bytes → Live → Did → Live → Type 0
DoesOver e caller vs told live0 d live1 =
    (g : Setting) (turn : Turn) (budget : ℕ) (c : Scene) (s : State) → g.told ≡ told → IsScene caller c → At g live0 turn budget s → IsWorldOf told g.programs live0 s.world
    → IsDone d (At g live1 turn budget) (efun_done e c s vs)

-- A call of it is what it means: from each state for which the live state stands, with what the swap file told then, its course asks nothing and ends with this answer, in a state for which the live state stands
-- afterwards, with what is left of the budget.
abbrev pub CallsOver : Efun → Caller → List Value → Option Bytes → Live → ℕ → Answer → Live → ℕ → Type 0
CallsOver e caller vs told live0 budget0 a live1 budget1 =
    (g : Setting) (turn : Turn) (by : Asker) (c : Scene) (s : State) → g.told ≡ told → IsScene caller c → At g live0 turn budget0 s → IsWorldOf told g.programs live0 s.world
    → (end : End Value) × (efun_in e by c vs s ≡ Over end) × IsEnd a (At g live1 turn budget1) end
