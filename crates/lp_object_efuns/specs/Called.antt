-- Efuns about functions of objects, for which programs come into memory: what a call of one does.
use Rattle.std.specs.Prelude.{◌≡◌, ℕ, ◌||◌, List, Bool, true, false, Option}
use Rattle.lp_values.specs.declared.id.ObjId.{ObjId}
use Rattle.lp_values.specs.declared.value.Value.{Value}
use Rattle.lp_code.specs.declared.program.RawProgram.{RawProgram}
use Rattle.lp_swapfile.specs.Device.{Bytes}
use Rattle.lp_instr.specs.declared.efun.Efun.{Efun}
use Rattle.lp_instr.specs.declared.efun.Efun.TheVariants as efuns
use Rattle.lp_language.specs.World.{World}
use Rattle.lp_language.specs.Course.{Scene, State, End, Over}
use Rattle.lp_meaning.specs.Askers.{Asker}
use Rattle.lp_meaning.specs.EfunArguments.{opened_args}
use Rattle.lp_meaning.specs.Questions.{efun_in}
use Rattle.lp_meaning.specs.WorldEfuns.{has_function}
use Rattle.lp_world.specs.declared.live.Live.{Live}
use Rattle.lp_world.specs.Stands.{Stands}
use Rattle.lp_targets.specs.Callees.{IsWorldOf}
use Rattle.lp_settling.specs.Settling.{EndSettles}
use Rattle.lp_efuns.specs.declared.answer.Answer.{Answer}
use Rattle.lp_efuns.specs.declared.answer.Did.{Did}
use Rattle.lp_efuns.specs.declared.caller.Caller.{Caller}
use Rattle.lp_efuns.specs.declared.caller.Turn.{Turn}
use Rattle.lp_efuns.specs.Deeds.{IsDone, deed_done, efun_done}
use Rattle.lp_putting.specs.Plans.{is_own_function, plan_deed}
use Rattle.lp_putting.specs.declared.plans.Plan.{Plan}
use Rattle.lp_efuns.specs.Plain.{IsEnd}
use Rattle.lp_efuns.specs.Turns.{At, IsScene, Setting}

-- the efun that tells where a function of an object stands
abbrev pub is_existence : Efun → Bool
is_existence efuns.FunctionExists = true
is_existence _ = false

-- all that are carried out here
abbrev pub is_with_program : Efun → Bool
is_with_program e = is_existence e || is_own_function e

-- Whether an object has a function of a name, whatever its modifiers, in each world for which the state stands with what the swap file tells.
abbrev pub IsFunctionAsked : Option Bytes → Live → ObjId → List ℕ → Bool → Type 0
IsFunctionAsked told live o name b = (programs : List RawProgram) (w : World) → IsWorldOf told programs live w → has_function w o name ≡ b

-- The state afterwards, but with the actions, call-outs, functions that wait for lines and outputs of before: only what came into memory is another there.
abbrev pub brought : Live → Live → Live
brought live0 live1 = record live1 { actions = live0.actions; timers = live0.timers; connections = live0.connections; outputs = live0.outputs }

-- a state stands, with what a swap file tells, for each world for which another one did
abbrev pub StandsOver : Option Bytes → Live → Option Bytes → Live → Type 0
StandsOver told0 live0 told1 live1 = (programs : List RawProgram) (w : World) → Stands told0 programs live0 w → Stands told1 programs live1 w

-- What is planned is answered, in each world for which the state stands with what the swap file tells.
abbrev pub AnswersOver : Plan → ObjId → List Value → Option Bytes → Live → Did → Live → Type 0
AnswersOver p o vs told live0 d live1 =
    (g : Setting) (turn : Turn) (budget : ℕ) (s : State) → g.told ≡ told → At g live0 turn budget s → IsWorldOf told g.programs live0 s.world
    → IsDone d (At g live1 turn budget) (deed_done (plan_deed p s o vs (opened_args s vs)) s)

-- The efun does what it means, where the programs of the world fit their versions.
abbrev pub DoesWithProgram : Efun → Caller → List Value → Option Bytes → Live → Turn → Did → Live → Type 0
DoesWithProgram e caller vs told live0 turn d live1 =
    (g : Setting) (budget : ℕ) (c : Scene) (s : State) → g.told ≡ told → IsScene caller c → At g live0 turn budget s → IsWorldOf told g.programs live0 s.world
    → IsDone d (At g live1 turn budget) (efun_done e c s vs)

-- A call of it is what it means: from each state for which the live state stands, with what the swap file told then, its course asks nothing and ends with this answer, in a state for which the live state stands
-- afterwards, with what is left of the budget. The versions stay the same, and what shadows stays live.
abbrev pub CallsWithProgram : Efun → Caller → List Value → Option Bytes → Live → Turn → ℕ → Answer → Live → ℕ → Type 0
CallsWithProgram e caller vs told live0 turn budget0 a live1 budget1 =
    (g : Setting) (by : Asker) (c : Scene) (s : State) → g.told ≡ told → IsScene caller c → At g live0 turn budget0 s → IsWorldOf told g.programs live0 s.world
    → (end : End Value) × (efun_in e by c vs s ≡ Over end) × IsEnd a (At g live1 turn budget1) end × EndSettles s.world end
