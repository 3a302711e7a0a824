-- How a function begins.
use Rattle.std.specs.Prelude.{◌≡◌, ℕ, ◌-◌, ◌<◌, ◌^◌, ◌++◌, List, [], Some, drop, length, replicate, slice_get, take}
use Rattle.lp_values.specs.declared.value.Value.{Value}
use Rattle.lp_code.specs.declared.program.FunRow.{FunRow}
use Rattle.lp_code.specs.declared.program.RawProgram.{RawProgram}
use Rattle.lp_code.specs.Programs.{FindsRows, IsFunction}
use Rattle.lp_language.specs.Course.{State, zero_value}
use Rattle.lp_language.specs.Exec.{first_locals, local_count}
use Rattle.lp_language.specs.Resolve.{Function}
use Rattle.lp_isa.specs.Machine.{Moment}
use Rattle.lp_world.specs.declared.frame.Frame.{Frame}
use Rattle.lp_world.specs.declared.live.Live.{Live}
use Rattle.lp_world.specs.Matches.{Around, Belongs, Matches}
use Rattle.lp_world.specs.Stands.{Stands}
use Rattle.lp_step.specs.Steps.{IsFit}
use Rattle.lp_run.specs.Running.{IsHome, IsOf, Runs}
use Rattle.lp_run.specs.Runs.{CanRun}
use Rattle.lp_frames.specs.declared.entry.Callee.{Callee}

-- The locals with which a function begins: its parameters, of which missing ones are 0 while surplus arguments are dropped,
-- and 0 for each other one.
abbrev pub begun_locals : ℕ → ℕ → List Value → List Value
begun_locals params locals xs = take params xs ++ replicate (locals - length (take params xs)) zero_value

-- the moment at which it begins: at its first instruction, without operands and without an open catch
abbrev pub begins : FunRow → List Value → State → Moment
begins row xs s = record { place = row.from; stack = []; catches = []; state = record s { locals = begun_locals row.params row.locals xs } }

-- What is around is that of this function: its object, version and part, its code, and so many locals.
pub record IsAround (a : Around) (callee : Callee) (code : RawProgram) (row : FunRow) : Type 0 where
  pub found : slice_get code.funs callee.fun ≡ Some row
  pub belongs : Belongs a callee.this callee.program callee.part callee.base callee.fun code
  pub locals : a.locals ≡ row.locals

-- On the stack alone: the last n values become the first locals, what lies below them stays, and the frame is at the first
-- instruction of the row, without an open catch.
pub record LaysOut (code : RawProgram) (callee : Callee) (n : ℕ) (stack0 stack1 : List Value) (frame : Frame) : Type 0 where
  pub row : FunRow
  pub found : slice_get code.funs callee.fun ≡ Some row
  pub stack : stack1 ≡ take (length stack0 - n) stack0 ++ begun_locals row.params row.locals (drop (length stack0 - n) stack0)
  pub at : frame.at ≡ row.from
  pub bottom : frame.bottom ≡ length stack0 - n
  pub catches : frame.catches.items ≡ []
  pub this : frame.this ≡ callee.this
  pub program : frame.program ≡ callee.program
  pub part : frame.part ≡ callee.part
  pub base : frame.base ≡ callee.base
  pub fun : frame.fun ≡ callee.fun
  pub code_same : frame.code ≡ code

-- The live state stands for a state of the machine, whatever that has for locals.
pub record Opens (a : Around) (live : Live) (budget : ℕ) (s : State) : Type 0 where
  pub stands : Stands a.told a.programs live s.world
  pub left : budget ≡ s.budget
  pub outputs : live.outputs ≡ a.before ++ s.outputs
  pub player : s.player ≡ a.player
  pub commands : s.commands ≡ a.commands

-- The last n values of the stack were arguments, and what was below them is below the function now: in every world for which
-- the state stands, the frame matches the moment at which the function begins with them.
abbrev pub Enters : RawProgram → Callee → ℕ → List Value → List Value → Frame → Type 0
Enters code callee n stack0 stack1 frame =
    (row : FunRow) (a : Around) (xs : List Value) (live : Live) (budget : ℕ) (s : State) → IsAround a callee code row → stack0 ≡ a.below ++ xs → length xs ≡ n → Opens a live budget s
    → Matches a live stack1 frame budget (begins row xs s)

-- And it runs from there, where its code is sound and its object is in memory.
abbrev pub RunsFrom : RawProgram → Callee → ℕ → List Value → List Value → Frame → Type 0
RunsFrom code callee n stack0 stack1 frame =
    (row : FunRow) (f : IsFunction code callee.fun row) (a : Around) (xs : List Value) (live : Live) (budget : ℕ) (s : State)
    → IsAround a callee code row → stack0 ≡ a.below ++ xs → length xs ≡ n → Opens a live budget s
    → FindsRows code a.code.parents → IsFit live stack0 → IsHome a live
    → Runs f.shapes a live stack1 frame budget (begins row xs s)

-- What stays while it runs is that of a row of its program, so that each height of its stack has a number.
abbrev pub IsOfRow : RawProgram → Callee → ℕ → List Value → Type 0
IsOfRow code callee n stack0 =
    (row : FunRow) (a : Around) (xs : List Value) → IsAround a callee code row → stack0 ≡ a.below ++ xs → length xs ≡ n
    → a.variables ≡ length code.tables.vars → FindsRows code a.code.parents → length code.instrs < 2 ^ 32
    → IsOf a code row

-- So instructions can be carried out.
abbrev pub CanRunFrom : RawProgram → Callee → ℕ → List Value → List Value → Frame → Type 0
CanRunFrom code callee n stack0 stack1 frame =
    (row : FunRow) (a : Around) (xs : List Value) (live : Live) (budget : ℕ) (s : State)
    → IsAround a callee code row → stack0 ≡ a.below ++ xs → length xs ≡ n → Opens a live budget s
    → a.variables ≡ length code.tables.vars → FindsRows code a.code.parents → length code.instrs < 2 ^ 32
    → IsFit live stack0 → IsHome a live
    → CanRun live stack1 frame budget

-- These locals are those with which the language begins the function's body.
abbrev pub BeginsAsWritten : Type 0
BeginsAsWritten = (f : Function) (row : FunRow) (xs : List Value) → row.params ≡ length f.parameters → row.locals ≡ local_count f → begun_locals row.params row.locals xs ≡ first_locals f xs
