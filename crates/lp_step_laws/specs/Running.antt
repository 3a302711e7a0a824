-- A function that runs: its frame matches a moment of the machine, whose code is sound, and its object is in memory.
use Rattle.std.specs.Prelude.{◌≡◌, ◌+◌, ◌<◌, ◌≤◌, ◌^◌, ℕ, List, Option, Some, None, length, slice_get}
use Rattle.lp_values.specs.declared.value.Value.{Value}
use Rattle.lp_code.specs.declared.program.FunRow.{FunRow}
use Rattle.lp_code.specs.declared.program.RawProgram.{RawProgram}
use Rattle.lp_code.specs.Programs.{FindsRows, IsFunction}
use Rattle.lp_instr.specs.Sound.{Shapes}
use Rattle.lp_isa.specs.Machine.{Moment, Goes, step}
use Rattle.lp_isa.specs.SoundCode as sound
use Rattle.lp_isa.specs.SoundCode.{NextMatches}
use Rattle.lp_isa.specs.Work.{NextLess, work_of}
use Rattle.lp_world.specs.declared.frame.Frame.{Frame}
use Rattle.lp_world.specs.declared.live.Live.{Live}
use Rattle.lp_world.specs.Matches.{Around, Matches, floor}
use Rattle.lp_world.specs.Rows.{variables_at}
use Rattle.lp_step.specs.declared.next.Next.{Next as Led}
use Rattle.lp_step.specs.declared.next.Next.TheVariants as nexts
use Rattle.lp_step.specs.Steps.{CanStep, IsFit, Keeps, KeepsVariables, Steps, told as told_by}

-- The program is that of the version, and this is a row of its functions: what runs has the row's locals, and its version
-- has the program's variables. The rows of parents that it calls are there. Its places have numbers, and so has each
-- height of the stack while it runs.
pub record IsOf (a : Around) (p : RawProgram) (row : FunRow) : Type 0 where
  pub program : slice_get a.programs a.scene.version.0 ≡ Some p
  pub locals : a.locals ≡ row.locals
  pub variables : a.variables ≡ length p.tables.vars
  pub rows : FindsRows p a.code.parents
  pub places : length p.instrs < 2 ^ 32
  pub heights : floor a + p.max_height < 2 ^ 32

-- so many variables are in memory
abbrev pub HasVariables : Option (List Value) → ℕ → Type 0
HasVariables None n = ⊥
HasVariables (Some vs) n = n ≤ length vs

-- the object is in memory, and the variables of the part that runs are among its own
abbrev pub IsHome : Around → Live → Type 0
IsHome a live = HasVariables (variables_at live.objects a.scene.this) (a.scene.base + a.variables)

-- The frame matches a moment at which a path through the function comes by, with as many operands as the one height of its
-- place and with the catches that are open there; the state is closed; and the object is in memory.
pub record Runs (shapes : Shapes) (a : Around) (live : Live) (stack : List Value) (frame : Frame) (budget : ℕ) (m : Moment) : Type 0 where
  pub matches : Matches a live stack frame budget m
  pub shaped : sound.Matches shapes m
  pub fit : IsFit live stack
  pub home : IsHome a live

-- A function of a sound program that runs may take its next step.
abbrev pub SoundCodeCanStep : Type 0
SoundCodeCanStep = (p : RawProgram) (k : ℕ) (row : FunRow) (f : IsFunction p k row) (a : Around) (live : Live) (stack : List Value) (frame : Frame) (budget : ℕ) (m : Moment)
    → IsOf a p row → Runs f.shapes a live stack frame budget m → CanStep live stack frame

-- What a step leaves: a moment which the frame matches again, and from which what the code told is what the table told. That
-- is as the shapes say, and there is less to do. The state is closed again, and the object is still in memory.
pub record Leaves (shapes : Shapes) (a : Around) (m : Moment) (n : Led) (live : Live) (stack : List Value) (frame : Frame) (budget : ℕ) : Type 0 where
  pub moment : Moment
  pub matches : Matches a live stack frame budget moment
  pub told : step a.code a.scene m ≡ told_by n a moment
  pub shaped : NextMatches shapes (told_by n a moment)
  pub less : NextLess a.code (work_of a.code m) (told_by n a moment)
  pub fit : IsFit live stack
  pub home : IsHome a live

-- Each step of a function of a sound program that runs leaves so much, in every world for which the state stood.
abbrev pub SoundCodeGoesOn : Type 0
SoundCodeGoesOn = (p : RawProgram) (k : ℕ) (row : FunRow) (f : IsFunction p k row) (a : Around) (live0 live1 : Live) (stack0 stack1 : List Value) (frame0 frame1 : Frame) (budget0 budget1 : ℕ) (m : Moment) (n : Led)
    → IsOf a p row → Runs f.shapes a live0 stack0 frame0 budget0 m
    → Steps live0 stack0 frame0 budget0 n live1 stack1 frame1 budget1 → Keeps live0 stack0 n live1 stack1 → KeepsVariables live0.objects live1.objects
    → Leaves f.shapes a m n live1 stack1 frame1 budget1

-- So where the code goes on, what runs is as it was before, with less to do.
abbrev pub SoundCodeRunsOn : Type 0
SoundCodeRunsOn = (shapes : Shapes) (a : Around) (m : Moment) (live : Live) (stack : List Value) (frame : Frame) (budget : ℕ)
    → Leaves shapes a m nexts.Again live stack frame budget
    → (next : Moment) × (step a.code a.scene m ≡ Goes next) × Runs shapes a live stack frame budget next × (work_of a.code next < work_of a.code m)
