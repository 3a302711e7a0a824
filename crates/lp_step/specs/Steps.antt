-- What one instruction does: what the table says, in every world for which the state stands.
use Rattle.std.specs.Prelude.{◌≡◌, ℕ, ◌+◌, ◌++◌, ◌*◌, ◌-◌, ◌<◌, ◌≤◌, ◌^◌, List, [], ◌∷◌, Bool, true, false, ⊤, All, Option, Some, length, slice_get, nat_lt}
use Rattle.std.specs.List.{remove}
use Rattle.lp_values.specs.declared.id.ObjId.{ObjId}
use Rattle.lp_values.specs.declared.value.Value.{Value}
use Rattle.lp_cells.specs.Cells.{IsThere}
use Rattle.lp_instr.specs.declared.efun.Efun.TheVariants as efun
use Rattle.lp_instr.specs.declared.instr.Instr.{Instr}
use Rattle.lp_instr.specs.declared.instr.Instr.TheVariants.{PushInt, PushText, PushLocal, SetLocal, Pop, Dup, Dup2, Jump, JumpIfZero, JumpIfNotZero, KeepIfZero, KeepIfNotZero, Index, SetIndex, Range, Rotate, MakeArray, MakeMap, PushGlobal, SetGlobal, Binary, Unary, Step, LoopTurn, CallSlot, CallFixed, CallOther, CallEfun, CallSimul, CatchBegin, CatchEnd, Switch, Scan, EachBegin, EachNext, Return, ReturnZero}
use Rattle.lp_instr.specs.Code.{parent_row}
use Rattle.lp_instr.specs.Sound.{Bounds, IsNamed, end_count}
use Rattle.lp_language.specs.Course.{Gives, Internal, Parent, OfEfun, Failed, Spent, here}
use Rattle.lp_language.specs.Eval.{simul_object}
use Rattle.lp_isa.specs.Machine.{Moment, Next, Goes, Ended, Awaits, Wrong, act, awaits, on_some, on_two, step, stopped, take_arguments}
use Rattle.lp_values.specs.declared.value.Value.TheVariants as values
use Rattle.lp_world.specs.declared.frame.Frame.{Frame}
use Rattle.lp_world.specs.declared.live.Live.{Live}
use Rattle.lp_world.specs.declared.objects.Object.{Object}
use Rattle.lp_world.specs.Closed.{IsClosed}
use Rattle.lp_world.specs.Rows.{HasPlace, variables_at}
use Rattle.lp_world.specs.Matches.{Around, Matches}
use Rattle.lp_step.specs.declared.next.Next.{Next as Led}
use Rattle.lp_step.specs.declared.next.Next.TheVariants as nexts
use Rattle.lp_step.specs.declared.next.Target.{Target}
use Rattle.lp_step.specs.declared.next.Target.TheVariants as targets

-- The state alone

-- a price is paid, or the budget is spent and nothing is left
abbrev pub PaysBy : Bool → ℕ → ℕ → Bool → ℕ → Type 0
PaysBy true n old paid new = (paid ≡ false) × (new ≡ 0)
PaysBy false n old paid new = (paid ≡ true) × (new ≡ old - n)

abbrev pub Pays : ℕ → ℕ → Bool → ℕ → Type 0
Pays n old paid new = PaysBy (nat_lt old n) n old paid new

-- the n-th value from the top comes to the top
abbrev pub Brings : ℕ → List Value → List Value → Type 0
Brings n old new = (v : Value) × (slice_get old (length old - n) ≡ Some v) × (new ≡ remove old (length old - n) ++ v ∷ [])

-- the instruction that comes next
abbrev pub instr_at : Frame → Option Instr
instr_at frame = slice_get frame.code.instrs frame.at

-- The state is closed, and what the values on the stack name is there.
pub record IsFit (live : Live) (stack : List Value) : Type 0 where
  pub closed : IsClosed live
  pub there : All (IsThere live.cells) stack

-- what an instruction finds: as many operands as it takes, and what it names
abbrev pub Finds : Live → List Value → Frame → Instr → Type 0
Finds live stack frame (PushInt z) = ⊤
Finds live stack frame (PushText k) = k < length frame.code.consts
Finds live stack frame (PushLocal k) = frame.bottom + k < length stack
Finds live stack frame (SetLocal k) = (frame.bottom + k < length stack) × (1 ≤ length stack)
Finds live stack frame Pop = 1 ≤ length stack
Finds live stack frame Dup = 1 ≤ length stack
Finds live stack frame Dup2 = 2 ≤ length stack
Finds live stack frame (Jump to) = ⊤
Finds live stack frame (JumpIfZero to) = 1 ≤ length stack
Finds live stack frame (JumpIfNotZero to) = 1 ≤ length stack
Finds live stack frame (KeepIfZero to) = 1 ≤ length stack
Finds live stack frame (KeepIfNotZero to) = 1 ≤ length stack
Finds live stack frame LoopTurn = ⊤
Finds live stack frame (CallSlot k n) = ⊤
Finds live stack frame (CallFixed parent j n) = ⊤
Finds live stack frame (CallOther n) = ⊤
Finds live stack frame (CallEfun e n) = ⊤
Finds live stack frame (CallSimul k n) = ⊤
Finds live stack frame (CatchBegin to) = length stack < 2 ^ 32
Finds live stack frame CatchEnd = 1 ≤ length frame.catches.items
Finds live stack frame Return = 1 ≤ length stack
Finds live stack frame ReturnZero = ⊤
Finds live stack frame (Switch k) = (1 ≤ length stack) × (k < length frame.code.switches)
Finds live stack frame (Scan n) = 2 ≤ length stack
Finds live stack frame (EachBegin n) = 1 ≤ length stack
Finds live stack frame (EachNext to n) = 2 ≤ length stack
Finds live stack frame (PushGlobal k) = HasPlace (variables_at live.objects frame.this) (frame.base + k)
Finds live stack frame (SetGlobal k) = HasPlace (variables_at live.objects frame.this) (frame.base + k) × (1 ≤ length stack)
Finds live stack frame (Index edge) = 2 ≤ length stack
Finds live stack frame (Binary op) = 2 ≤ length stack
Finds live stack frame (Unary op) = 1 ≤ length stack
Finds live stack frame (Step op) = 1 ≤ length stack
Finds live stack frame (SetIndex edge) = 3 ≤ length stack
Finds live stack frame (MakeArray n) = n ≤ length stack
Finds live stack frame (MakeMap n) = 2 * n ≤ length stack
Finds live stack frame (Range from to) = 1 + end_count from + end_count to ≤ length stack
Finds live stack frame (Rotate n) = (1 ≤ n) × (n ≤ length stack)

-- There is an instruction, which finds what it needs, and the place behind it has a number.
pub record CanStep (live : Live) (stack : List Value) (frame : Frame) : Type 0 where
  pub i : Instr
  pub found : instr_at frame ≡ Some i
  pub finds : Finds live stack frame i
  pub room : frame.at + 1 < 2 ^ 32
  pub fit : IsFit live stack

-- the value with which a function ends is there
abbrev pub IsEndThere : Live → Led → Type 0
IsEndThere live (nexts.Done v) = IsThere live.cells v
IsEndThere live nexts.Again = ⊤
IsEndThere live (nexts.Call c) = ⊤
IsEndThere live (nexts.Back c) = ⊤
IsEndThere live (nexts.Error e) = ⊤
IsEndThere live nexts.Spent = ⊤

-- The state stays closed, and what the values on the stack name stays there.
abbrev pub Keeps : Live → List Value → Led → Live → List Value → Type 0
Keeps live0 stack0 n live1 stack1 = IsFit live0 stack0 → IsFit live1 stack1 × IsEndThere live1 n

-- Each object that is in memory stays there, with as many variables.
abbrev pub KeepsVariables : List (Option Object) → List (Option Object) → Type 0
KeepsVariables old new = (o : ObjId) (vs : List Value) → variables_at old o ≡ Some vs → (us : List Value) × (variables_at new o ≡ Some us) × (length us ≡ length vs)

-- Worlds

-- the table does not fail
abbrev pub IsFine : Next → Type 0
IsFine (Goes m) = ⊤
IsFine (Ended e) = ⊤
IsFine (Awaits a k) = ⊤
IsFine Wrong = ⊥

-- what a call asks, with the operands that are on the stack
abbrev pub asked : Target → ℕ → Around → Moment → Next
asked (targets.Slot k) n a m = take_arguments n [] m.stack (λ xs rest. on_some (slice_get a.code.rows k) (λ name. awaits (Internal name) xs a.scene m.state m.place m.catches rest))
asked (targets.Fixed parent j) n a m =
    take_arguments n [] m.stack (λ xs rest. on_some (parent_row a.code parent j) (λ name. awaits (Parent parent name) xs a.scene m.state m.place m.catches rest))
asked targets.Other n a m =
    take_arguments n [] m.stack (λ xs rest. on_two rest (λ o name rest. awaits (OfEfun efun.CallOther) (o ∷ name ∷ xs) a.scene m.state m.place m.catches rest))
asked (targets.Simul k) n a m =
    take_arguments n [] m.stack (λ xs rest. on_some (slice_get a.code.texts k) (λ name. awaits (OfEfun efun.CallOther) (simul_object m.state.world ∷ values.Str name ∷ xs) a.scene m.state m.place m.catches rest))

-- what it means that an instruction led so, at the moment where it left off
abbrev pub told : Led → Around → Moment → Next
told nexts.Again a m = Goes m
told (nexts.Call c) a m = asked c.target c.args a m
told (nexts.Back c) a m = take_arguments c.args [] m.stack (λ xs rest. awaits (OfEfun c.efun) xs a.scene m.state m.place m.catches rest)
told (nexts.Done v) a m = Ended (Gives v m.state)
told (nexts.Error e) a m = stopped (here (Failed e)) m.catches m.stack m.state
told nexts.Spent a m = stopped (here Spent) m.catches m.stack m.state

-- The state stands for a moment, from which what the code told is what the table told.
pub record LeadsTo (a : Around) (n : Led) (live : Live) (stack : List Value) (frame : Frame) (budget : ℕ) (next : Next) : Type 0 where
  pub m : Moment
  pub matches : Matches a live stack frame budget m
  pub told : next ≡ told n a m

abbrev pub bounds : Around → Bounds
bounds a = record { locals = a.locals; variables = a.variables; max_height = 0 }

-- what the instruction that comes next names is there
abbrev pub AreNamed : Around → Moment → Type 0
AreNamed a m = (i : Instr) → slice_get a.code.instrs m.place ≡ Some i → IsNamed a.code (bounds a) i

-- An instruction does its row of the table: from every moment for which the state stands.
abbrev pub Performs : Instr → Live → List Value → Frame → ℕ → Led → Live → List Value → Frame → ℕ → Type 0
Performs i live0 stack0 frame0 budget0 n live1 stack1 frame1 budget1 =
    (a : Around) (m : Moment) → Matches a live0 stack0 frame0 budget0 m → IsFine (act a.code a.scene i m.place m.stack m.catches m.state)
    → IsNamed a.code (bounds a) i
    → LeadsTo a n live1 stack1 frame1 budget1 (act a.code a.scene i m.place m.stack m.catches m.state)

-- One step is one step of the table.
abbrev pub Steps : Live → List Value → Frame → ℕ → Led → Live → List Value → Frame → ℕ → Type 0
Steps live0 stack0 frame0 budget0 n live1 stack1 frame1 budget1 =
    (a : Around) (m : Moment) → Matches a live0 stack0 frame0 budget0 m → IsFine (step a.code a.scene m) → AreNamed a m → LeadsTo a n live1 stack1 frame1 budget1 (step a.code a.scene m)
