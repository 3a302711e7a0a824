-- What an efun does once it is known whether this object has the function that it names.
use Rattle.std.specs.Prelude.{◌≡◌, ℕ, ◌<◌, ◌^◌, ℤ, pos, negsuc, List, [], ◌∷◌, Bool, true, false, ⊤, Option, Some, None, drop, length, map, nat_lt, if◌then◌else◌}
use Rattle.lp_values.specs.declared.id.ObjId.{ObjId}
use Rattle.lp_values.specs.declared.value.Value.{Value}
use Rattle.lp_values.specs.declared.error.ErrorKind.TheVariants as errors
use Rattle.lp_events.specs.declared.out.Out.TheVariants as outs
use Rattle.lp_swapfile.specs.Device.{Bytes}
use Rattle.lp_code.specs.declared.program.RawProgram.{RawProgram}
use Rattle.lp_cells.specs.Cells.{Store}
use Rattle.lp_ops.specs.Effects.{refused}
use Rattle.lp_ops.specs.Operands.{Opened, operand}
use Rattle.lp_instr.specs.declared.efun.Efun.{Efun}
use Rattle.lp_instr.specs.declared.efun.Efun.TheVariants as efuns
use Rattle.lp_language.specs.World.{World}
use Rattle.lp_timers.specs.Timers.{max_call_outs}
use Rattle.lp_language.specs.Course.{Scene, State}
use Rattle.lp_language.specs.Operations.{with_world}
use Rattle.lp_meaning.specs.Askers.{told}
use Rattle.lp_meaning.specs.EfunArguments.{int_arg, opened_args, text_arg}
use Rattle.lp_meaning.specs.WorldEfuns.{Deed, Yields, changes, deed, has_function, is_flag, one, with_call_out, with_sentence, with_waiting, zero}
use Rattle.lp_world.specs.declared.connections.Waiting.{Waiting}
use Rattle.lp_world.specs.declared.live.Live.{Live}
use Rattle.lp_world.specs.Stands.{Stands}
use Rattle.lp_efuns.specs.declared.answer.Did.{Did}
use Rattle.lp_efuns.specs.declared.caller.Caller.{Caller}
use Rattle.lp_efuns.specs.declared.caller.Turn.{Turn}
use Rattle.lp_efuns.specs.Deeds.{Does, IsDone, deed_done}
use Rattle.lp_efuns.specs.Plain.{IsDidThere}
use Rattle.lp_efuns.specs.Turns.{At, IsScene, Setting}
use Rattle.lp_putting.specs.declared.plans.Plan.{Plan}
use Rattle.lp_putting.specs.declared.plans.Plan.TheVariants as plans
use Rattle.lp_putting.specs.declared.plans.Planned.{Planned}
use Rattle.lp_putting.specs.declared.plans.Planned.TheVariants as planned

-- the efuns that put a function of this object somewhere, from where it is called later
abbrev pub is_own_function : Efun → Bool
is_own_function efuns.AddAction = true
is_own_function efuns.InputTo = true
is_own_function efuns.CallOut = true
is_own_function _ = false

-- nothing changed but actions, call-outs, functions that wait for lines, and outputs
abbrev pub IsOnlyPut : Live → Live → Type 0
IsOnlyPut live0 live1 = live1 ≡ record live0 { actions = live1.actions; timers = live1.timers; connections = live1.connections; outputs = live1.outputs }

-- a state stands for each world for which another one did
abbrev pub StandsStill : Option Bytes → Live → Live → Type 0
StandsStill file live0 live1 = (programs : List RawProgram) (w : World) → Stands file programs live0 w → Stands file programs live1 w

-- what an efun comes to where the object has the function: the first argument is its name, and the values behind the second one are kept for it
abbrev pub plan_done : Plan → State → ObjId → List Value → List Opened → Deed
plan_done (plans.Action p) s o vs xs = changes (with_sentence s.world p o (text_arg xs 0) (text_arg xs 1) (is_flag (int_arg xs 2))) one s
plan_done (plans.Line k) s o vs xs =
    Yields one (told (if is_flag (int_arg xs 1) then outs.Hide k ∷ [] else []) (with_world s (with_waiting s.world k o (text_arg xs 0) (is_flag (int_arg xs 1)) (drop 2 vs))))
plan_done (plans.Delay n) s o vs xs =
    if nat_lt (length s.world.call_outs) max_call_outs then changes (with_call_out s.world o (text_arg xs 0) n (drop 2 vs)) zero s
    else Yields (refused errors.TooMany) s

-- and an error where it has not
abbrev pub plan_deed : Plan → State → ObjId → List Value → List Opened → Deed
plan_deed p s o vs xs = if has_function s.world o (text_arg xs 0) then plan_done p s o vs xs else Yields (refused errors.NoFunction) s

-- Before it is asked whether it has the function, the efun ends, or it does what is planned.
abbrev pub IsPlanned : Efun → Caller → List Value → Live → Turn → Planned → Type 0
IsPlanned e caller vs live turn (planned.Ends d) = Does e caller vs live turn d live turn
IsPlanned e caller vs live turn (planned.Asks p) =
    (g : Setting) (budget : ℕ) (c : Scene) (s : State) → IsScene caller c → At g live turn budget s → deed e c s vs (opened_args s vs) ≡ plan_deed p s caller.this vs (opened_args s vs)

-- seconds fit an integer
abbrev pub IsFitPlan : Plan → Type 0
IsFitPlan (plans.Action p) = ⊤
IsFitPlan (plans.Line k) = ⊤
IsFitPlan (plans.Delay n) = n < 2 ^ 63

abbrev pub IsFitPlanned : Planned → Type 0
IsFitPlanned (planned.Ends d) = ⊤
IsFitPlanned (planned.Asks p) = IsFitPlan p

-- The plan was carried out.
abbrev pub CarriesPlan : Plan → ObjId → List Value → Live → Did → Live → Type 0
CarriesPlan p o vs live0 d live1 =
    (g : Setting) (turn : Turn) (budget : ℕ) (s : State) → At g live0 turn budget s → IsDone d (At g live1 turn budget) (deed_done (plan_done p s o vs (opened_args s vs)) s)

-- The same where it is known whether the object has the function.
abbrev pub AnswersPlan : Plan → ObjId → List Value → Bool → Live → Did → Live → Type 0
AnswersPlan p o vs has live0 d live1 =
    (g : Setting) (turn : Turn) (budget : ℕ) (s : State) → At g live0 turn budget s → has_function s.world o (text_arg (opened_args s vs) 0) ≡ has
    → IsDone d (At g live1 turn budget) (deed_done (plan_deed p s o vs (opened_args s vs)) s)

-- a value with which it ends is there
abbrev pub IsPlannedThere : Store → Planned → Type 0
IsPlannedThere cells (planned.Ends d) = IsDidThere cells d
IsPlannedThere cells (planned.Asks p) = ⊤

-- the seconds that an integer means, unless it is negative
abbrev pub seconds_in : ℤ → Option ℕ
seconds_in (pos n) = Some n
seconds_in (negsuc n) = None

-- a function of an object waits for the next line of a connection, with the values behind the second argument
abbrev pub IsWaiting : ℕ → ObjId → Bool → List Value → Waiting → Type 0
IsWaiting k o hides vs x =
    (live : ObjId → Bool) (cells : Store) → x ≡ record { connection = k; object = o; function = text_arg (map (operand live cells) vs) 0; hides = hides; arguments = drop 2 vs }
