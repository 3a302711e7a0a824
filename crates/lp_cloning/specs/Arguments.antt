-- What the arguments of `clone_object` name.
use Rattle.std.specs.Prelude.{◌≡◌, ◌++◌, ℕ, ⊤, List, None, length}
use Rattle.lp_values.specs.declared.value.Value.{Value}
use Rattle.lp_values.specs.Errors.{bad_arg}
use Rattle.lp_instr.specs.EfunList.{efun_name}
use Rattle.lp_instr.specs.declared.efun.Efun.TheVariants as efuns
use Rattle.lp_swapfile.specs.Device.{Bytes}
use Rattle.std.specs.Prelude.{Option}
use Rattle.lp_language.specs.Course.{Scene, State, and_then}
use Rattle.lp_language.specs.Operations.{cells_of, living}
use Rattle.lp_ops.specs.Operands.{operand}
use Rattle.lp_meaning.specs.Askers.{Asker}
use Rattle.lp_meaning.specs.CallingEfuns.{calls, clone_object}
use Rattle.lp_meaning.specs.EfunArguments.{arg, opened_args}
use Rattle.lp_meaning.specs.FileLoads.{clone_name, clone_of}
use Rattle.lp_world.specs.declared.live.Live.{Live}
use Rattle.lp_efuns.specs.declared.caller.Turn.{Turn}
use Rattle.lp_efuns.specs.Turns.{At, Setting}
use Rattle.lp_asking.specs.declared.ending.Cause.TheVariants as causes
use Rattle.lp_asking.specs.declared.ending.Ending.TheVariants as endings
use Rattle.lp_cloning.specs.declared.fault.CloningFault.{CloningFault}
use Rattle.lp_cloning.specs.declared.fault.CloningFault.TheVariants as faults
use Rattle.lp_cloning.specs.declared.job.Begun.{Begun}
use Rattle.lp_cloning.specs.declared.job.Begun.TheVariants as begun
use Rattle.lp_cloning.specs.Beginning.{BeginsAs}
use Rattle.lp_cloning.specs.Faults.{IsTakenFor}
use Rattle.lp_cloning.specs.Jobs.{ended}

-- a value names the blueprint with this name, in each state for which the live state stands
abbrev pub NamesBlueprint : Live → Value → List ℕ → Type 0
NamesBlueprint live v name =
    (g : Setting) (turn : Turn) (budget : ℕ) (by : Asker) (s : State) → At g live turn budget s → clone_object by s (operand (living s) (cells_of s) v) ≡ clone_of by name s

-- the first of some arguments names the blueprint with this name, in each state for which the live state stands
abbrev pub IsBlueprintName : Live → List Value → List ℕ → Type 0
IsBlueprintName live vs name =
    (g : Setting) (turn : Turn) (budget : ℕ) (by : Asker) (s : State) → At g live turn budget s → clone_object by s (arg (opened_args s vs) 0) ≡ clone_of by name s

-- the budget is spent
abbrev pub IsSpent : Begun → Type 0
IsSpent (begun.Ends e) = e ≡ endings.Stopped (record { cause = causes.Spent; place = None })
IsSpent (begun.Runs job) = ⊥

-- an argument is refused
abbrev pub IsRefused : ℕ → Begun → Type 0
IsRefused number (begun.Ends e) = e ≡ endings.Stopped (record { cause = causes.Failed (bad_arg number (efun_name efuns.CloneObject)); place = None })
IsRefused number (begun.Runs job) = ⊥

-- the efun acts so, once its arguments are paid and of their kinds; they lie above so many values
abbrev pub ActsAs : Begun → Option Bytes → Live → ℕ → List Value → Live → List Value → Type 0
ActsAs r told live0 below stack0 live1 stack1 =
    (c : Scene) (budget : ℕ) (low vs : List Value) → stack0 ≡ low ++ vs → length low ≡ below
    → (stack1 ≡ low) × BeginsAs r (λ by s. and_then (calls efuns.CloneObject by c s vs (opened_args s vs)) ended) told live0 budget live1 budget

-- What is refused: the next clone of the blueprint that these arguments name would have the name of a live object.
pub record IsTaken (told : Option Bytes) (live : Live) (vs : List Value) : Type 0 where
  pub name : List ℕ
  pub blueprint : IsBlueprintName live vs name
  pub taken : IsTakenFor told live (λ w. clone_name w name) faults.NameTaken

abbrev pub IsTakenIf : Option Bytes → Live → List Value → CloningFault → Type 0
IsTakenIf told live vs faults.NameTaken = IsTaken told live vs
IsTakenIf told live vs (faults.Swap cause) = ⊤
IsTakenIf told live vs faults.NoMemory = ⊤

-- of so many arguments on top of the stack
abbrev pub RefusesOn : Option Bytes → Live → List Value → ℕ → CloningFault → Type 0
RefusesOn told live stack args e = (low vs : List Value) → stack ≡ low ++ vs → length vs ≡ args → IsTakenIf told live vs e
