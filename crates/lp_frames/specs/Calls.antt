-- What lies on the stack at a call.
use Rattle.std.specs.Prelude.{◌≡◌, ℕ, ◌++◌, List, ◌∷◌, Some, length, slice_get}
use Rattle.lp_values.specs.declared.value.Value.{Value}
use Rattle.lp_values.specs.declared.value.Value.TheVariants as values
use Rattle.lp_instr.specs.declared.efun.Efun.TheVariants as efun
use Rattle.lp_instr.specs.Code.{parent_row}
use Rattle.lp_language.specs.Course.{Asked, Internal, OfEfun, Parent}
use Rattle.lp_language.specs.Eval.{simul_object}
use Rattle.lp_isa.specs.Machine.{Moment, awaits}
use Rattle.lp_world.specs.declared.frame.Frame.{Frame}
use Rattle.lp_world.specs.declared.live.Live.{Live}
use Rattle.lp_world.specs.Matches.{Around, Matches, Sits}
use Rattle.lp_step.specs.declared.next.Target.{Target}
use Rattle.lp_step.specs.declared.next.Target.TheVariants as targets
use Rattle.lp_step.specs.Steps.{IsFine, asked}
use Rattle.lp_frames.specs.Returns.{Waits}

-- how many operands a call takes besides its arguments, which lie below them: the object and the name
abbrev pub under_call : Target → ℕ
under_call (targets.Slot k) = 0
under_call (targets.Fixed parent j) = 0
under_call targets.Other = 2
under_call (targets.Simul k) = 0

-- what a call asks, with these operands taken below these arguments
abbrev pub AsksFor : Target → Around → Moment → List Value → List Value → Asked → List Value → Type 0
AsksFor (targets.Slot k) a m taken xs what given = (name : List ℕ) × (slice_get a.code.rows k ≡ Some name) × (what ≡ Internal name) × (given ≡ xs)
AsksFor (targets.Fixed parent j) a m taken xs what given = (name : List ℕ) × (parent_row a.code parent j ≡ Some name) × (what ≡ Parent parent name) × (given ≡ xs)
AsksFor targets.Other a m taken xs what given = (what ≡ OfEfun efun.CallOther) × (given ≡ taken ++ xs)
AsksFor (targets.Simul k) a m taken xs what given =
    (name : List ℕ) × (slice_get a.code.texts k ≡ Some name) × (what ≡ OfEfun efun.CallOther) × (given ≡ simul_object m.state.world ∷ values.Str name ∷ xs)

-- The question at a call, and the stack there: what is left to the caller, what was taken, and the arguments on top.
pub record Parted (target : Target) (n : ℕ) (a : Around) (stack : List Value) (frame : Frame) (m : Moment) : Type 0 where
  pub what : Asked
  pub given : List Value
  pub rest : List Value
  pub low : List Value
  pub taken : List Value
  pub xs : List Value
  pub told : asked target n a m ≡ awaits what given a.scene m.state m.place m.catches rest
  pub asks : AsksFor target a m taken xs what given
  pub lies : stack ≡ (low ++ taken) ++ xs
  pub under : length taken ≡ under_call target
  pub arguments : length xs ≡ n
  pub sits : Sits a low frame (record m { stack = rest })

-- So at each call of a function that the table does not fail.
abbrev pub CallsPart : Type 0
CallsPart = (target : Target) (n : ℕ) (a : Around) (live : Live) (stack : List Value) (frame : Frame) (budget : ℕ) (m : Moment)
    → Matches a live stack frame budget m → IsFine (asked target n a m) → Parted target n a stack frame m

-- While a function runs whose part of the stack lies above what its call took, its caller waits for it.
abbrev pub WaitsThere : Type 0
WaitsThere = (target : Target) (n : ℕ) (a inner : Around) (stack : List Value) (frame : Frame) (m : Moment) (p : Parted target n a stack frame m)
    → inner.below ≡ p.low ++ p.taken → inner.before ≡ a.before ++ m.state.outputs → inner.programs ≡ a.programs
    → Waits a inner (under_call target) frame m p.rest
