-- What the arguments of efuns that call LPC tell.
use Rattle.std.specs.Prelude.{⊤, ℕ, List, ◌∷◌, Bool, true, Option, Some, None, Result, Ok, Err, ◌≡◌, if◌then◌else◌, map}
use Rattle.lp_values.specs.declared.id.ObjId.{ObjId}
use Rattle.lp_values.specs.declared.value.Value.{Value}
use Rattle.lp_values.specs.declared.value.Value.TheVariants.{Obj, Str}
use Rattle.lp_values.specs.declared.error.RunError.{RunError}
use Rattle.lp_ops.specs.declared.effect.Effect.{Effect}
use Rattle.lp_ops.specs.declared.effect.Effect.TheVariants.{Fault, Gives}
use Rattle.lp_cells.specs.Cells.{Store}
use Rattle.lp_ops.specs.Operands.{Opened, Chars, Object, operand}
use Rattle.lp_language.specs.World.{object_named}
use Rattle.lp_language.specs.Course.{Course, State, gives}
use Rattle.lp_meaning.specs.Askers.{Asker}
use Rattle.lp_meaning.specs.CallingEfuns.{with_target}
use Rattle.lp_meaning.specs.EfunArguments.{arg, opened_args, text_arg}
use Rattle.lp_meaning.specs.FileLoads.{as_target, text_target}
use Rattle.lp_meaning.specs.WorldSteps.{as_name}
use Rattle.lp_world.specs.declared.live.Live.{Live}
use Rattle.lp_efuns.specs.declared.caller.Turn.{Turn}
use Rattle.lp_efuns.specs.Turns.{At, Setting}
use Rattle.lp_calling.specs.declared.job.Stage.{Stage}
use Rattle.lp_calling.specs.declared.job.Stage.TheVariants as stages
use Rattle.lp_calling.specs.declared.target.CallTarget.{CallTarget}
use Rattle.lp_calling.specs.declared.target.CallTarget.TheVariants as targets

-- the target of `call_other`, by its first argument as read
abbrev pub target_of : Opened → CallTarget
target_of (Object o) = targets.Live o
target_of (Chars t) = targets.Named
target_of _ = targets.Nothing

-- such a target is live where it is an object
abbrev pub IsTargetLive : (ObjId → Bool) → CallTarget → Type 0
IsTargetLive live (targets.Live o) = live o ≡ true
IsTargetLive live targets.Named = ⊤
IsTargetLive live targets.Nothing = ⊤

-- in no state for which the live state stands a live object has the name
abbrev pub IsUnnamed : Live → List ℕ → Type 0
IsUnnamed live name = (g : Setting) (turn : Turn) (budget : ℕ) (s : State) → At g live turn budget s → object_named s.world name ≡ None

-- the text that the first argument is, or the empty one, means this name
abbrev pub MeansName : List Value → List ℕ → Type 0
MeansName vs name = (l : ObjId → Bool) (cells : Store) → name ≡ as_name (text_arg (map (operand l cells) vs) 0)

-- The target is a text that means this name, which no live object has.
abbrev pub IsUnnamedTarget : Live → List Value → List ℕ → Type 0
IsUnnamedTarget live (Str t ∷ vs) name = (name ≡ as_name t) × IsUnnamed live name
IsUnnamedTarget live _ name = ⊥

-- what `call_other` does with its target
abbrev pub Targeted : Type 0
Targeted = ObjId → State → Course Value

-- In each state for which the live state stands the target is this object, or, where that is not live, none.
abbrev pub IsNamed : Live → List Value → ObjId → Type 0
IsNamed live vs o = (g : Setting) (turn : Turn) (budget : ℕ) (by : Asker) (s : State) (go : Targeted) → At g live turn budget s → with_target by (arg (opened_args s vs) 0) s go ≡ as_target (Obj o) s go

-- In each such state it is this object.
abbrev pub IsTarget : Live → List Value → ObjId → Type 0
IsTarget live vs o = (g : Setting) (turn : Turn) (budget : ℕ) (by : Asker) (s : State) (go : Targeted) → At g live turn budget s → with_target by (arg (opened_args s vs) 0) s go ≡ go o s

-- In each such state it is the object that `load_object` gives.
abbrev pub IsLoadable : Live → List Value → ObjId → Type 0
IsLoadable live vs o = (g : Setting) (turn : Turn) (budget : ℕ) (by : Asker) (s : State) → At g live turn budget s → text_target by (text_arg (opened_args s vs) 0) s ≡ gives (Obj o) s

-- a text goes to an object, or to none
abbrev pub told_stage : Option ObjId → List ℕ → Stage
told_stage None t = stages.Zero
told_stage (Some o) t = stages.Tell o t

-- who reads what is written: `this_player()`, where it is live
abbrev pub reader : (ObjId → Bool) → Option ObjId → Option ObjId
reader live None = None
reader live (Some o) = if live o then Some o else None

-- a text or an error, as what a form makes of its arguments
abbrev pub Prints : Result (List ℕ) RunError → Effect → Type 0
Prints (Ok t) e = e ≡ Gives (Str t)
Prints (Err x) e = e ≡ Fault x
