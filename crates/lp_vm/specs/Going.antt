-- A function runs for a course of the meaning.
use Rattle.std.specs.Prelude.{◌≡◌, ◌++◌, ℕ, List, Option, None, Some, All, map, reverse, true}
use Rattle.lp_values.specs.declared.value.Value.{Value}
use Rattle.lp_code.specs.declared.program.FunRow.{FunRow}
use Rattle.lp_code.specs.declared.program.RawProgram.{RawProgram}
use Rattle.lp_code.specs.Programs.{IsFunction}
use Rattle.lp_events.specs.declared.out.Out.{Out}
use Rattle.lp_swapfile.specs.Device.{Bytes}
use Rattle.lp_language.specs.World.{is_live}
use Rattle.lp_language.specs.Course.{Course, End, Outcome, Scene, outcome_of}
use Rattle.lp_isa.specs.Machine.{Moment, Goes}
use Rattle.lp_isa.specs.Runs.{Does}
use Rattle.lp_meaning.specs.Closing.{Ends}
use Rattle.lp_meaning.specs.FrontEnd.{FrontEnd}
use Rattle.lp_front_end.specs.FrontEnds.{IsFrontEnd}
use Rattle.lp_world.specs.declared.frame.Frame.{Frame}
use Rattle.lp_world.specs.declared.live.Live.{Live}
use Rattle.lp_world.specs.Matches.{Around}
use Rattle.lp_step_laws.specs.Running.{IsOf, Runs}
use Rattle.lp_frames.specs.Returns.{back_in}
use Rattle.lp_part_laws.specs.Versions.{AreCompiled}
use Rattle.lp_targets.specs.Callees.{IsWorldOf}
use Rattle.lp_vm.specs.Growing.{Grows}
use Rattle.lp_reaching.specs.Compiled.{IsCaller}
use Rattle.lp_asking.specs.declared.asker.Asker.{Asker}
use Rattle.lp_asking.specs.declared.ending.Ending.{Ending}
use Rattle.lp_efuns.specs.Turns.{commands_of}
use Rattle.lp_asking.specs.Asking.{code_in, loading_of}
use Rattle.lp_asking.specs.Endings.{IsAnswer, plain_end}

-- AN OUTCOME: the state stands for its world, budget, player and commands, with the programs that were there and those that loads
-- put behind them; what it put out follows what was there; and so the call ended.
pub record IsOutcome (told : Option Bytes) (old : List RawProgram) (before : List Out) (live : Live) (asker : Asker) (budget : ℕ) (e : Ending) (o : Outcome) : Type 0 where
  pub programs : List RawProgram
  pub grown : Grows old programs
  pub world : IsWorldOf told programs live o.world
  pub left : budget ≡ o.budget
  pub player : o.player ≡ asker.turn.player
  pub commands : o.commands ≡ commands_of asker.turn.commands.items
  pub outputs : live.outputs ≡ before ++ o.outputs
  pub answer : IsAnswer programs o.world e o.answer

-- what was handed down to a function that runs
pub record IsRunner (asker : Asker) (c : Scene) : Type 0 where
  pub interactive : c.interactive ≡ asker.interactive
  pub loads : c.loads ≡ map loading_of (reverse asker.loads.items)
  pub callers : c.callers ≡ reverse asker.callers.items
  pub depth : c.depth ≡ asker.depth

-- A function of a sound program runs at a moment, from which its code does the course; what the driver's call handed down is
-- that of its scene, and the programs of all versions fit them.
pub record IsGoing (p : RawProgram) (k : ℕ) (row : FunRow) (f : IsFunction p k row) (a : Around) (m : Moment) (course : Course Value) (told : Option Bytes) (live : Live) (stack : List Value) (frame : Frame) (asker : Asker) (budget : ℕ) : Type 0 where
  pub of : IsOf a p row
  pub runs : Runs f.shapes a live stack frame budget m
  pub by : IsRunner asker a.scene
  pub told_is : a.told ≡ told
  pub player : a.player ≡ asker.turn.player
  pub commands : a.commands ≡ commands_of asker.turn.commands.items
  pub compiled : AreCompiled a.programs m.state.world.versions
  pub shadows : All (λ s. is_live m.state.world s.shadow ≡ true) m.state.world.shadows
  pub caller : IsCaller a.programs m.state.world a.scene.this a.scene.part p
  pub code : a.code ≡ code_in a.programs p
  pub does : Does a.code a.scene (Goes m) course

-- in some world, with a front end
pub record CanGo (told : Option Bytes) (live : Live) (stack : List Value) (frame : Frame) (asker : Asker) (budget : ℕ) : Type 0 where
  pub front : FrontEnd
  pub real : IsFrontEnd front
  pub p : RawProgram
  pub k : ℕ
  pub row : FunRow
  pub function : IsFunction p k row
  pub around : Around
  pub moment : Moment
  pub course : Course Value
  pub going : IsGoing p k row function around moment course told live stack frame asker budget

-- what stays while the function runs, though calls may change what the swap file tells, player and commands, and loads put more
-- programs behind those that are there
pub record IsLater (a b : Around) : Type 0 where
  pub same : b ≡ back_in a b
  pub programs : Grows a.programs b.programs

-- THE RUN GOES ON with what is left of the course: what that ends with, the whole ends with.
pub record GoesOn (front : FrontEnd) (p : RawProgram) (k : ℕ) (row : FunRow) (f : IsFunction p k row) (a : Around) (course : Course Value) (told : Option Bytes) (live : Live) (stack : List Value) (frame : Frame) (asker : Asker) (budget : ℕ) : Type 0 where
  pub around : Around
  pub moment : Moment
  pub rest : Course Value
  pub later : IsLater a around
  pub going : IsGoing p k row f around moment rest told live stack frame asker budget
  pub back : (e : End Value) → Ends front rest e → Ends front course e

-- IT ENDS as the course does. Below it nothing changed on the stack.
pub record EndsSo (front : FrontEnd) (a : Around) (course : Course Value) (told : Option Bytes) (live : Live) (stack : List Value) (asker : Asker) (budget : ℕ) (e : Ending) : Type 0 where
  pub end : End Value
  pub ends : Ends front course end
  pub is : IsOutcome told a.programs a.before live asker budget e (outcome_of (plain_end end))
  pub top : List Value
  pub lies : stack ≡ a.below ++ top

-- in every world in which it ran
abbrev pub Went : Option Bytes → Live → List Value → Frame → Asker → ℕ → Option Bytes → Live → List Value → Asker → ℕ → Ending → Type 0
Went told0 live0 stack0 frame0 asker0 budget0 told1 live1 stack1 asker1 budget1 e =
    (front : FrontEnd) (real : IsFrontEnd front) (p : RawProgram) (k : ℕ) (row : FunRow) (f : IsFunction p k row) (a : Around) (m : Moment) (course : Course Value)
    → IsGoing p k row f a m course told0 live0 stack0 frame0 asker0 budget0 → EndsSo front a course told1 live1 stack1 asker1 budget1 e

abbrev pub Continues : Option Bytes → Live → List Value → Frame → Asker → ℕ → Option Bytes → Live → List Value → Frame → Asker → ℕ → Type 0
Continues told0 live0 stack0 frame0 asker0 budget0 told1 live1 stack1 frame1 asker1 budget1 =
    (front : FrontEnd) (real : IsFrontEnd front) (p : RawProgram) (k : ℕ) (row : FunRow) (f : IsFunction p k row) (a : Around) (m : Moment) (course : Course Value)
    → IsGoing p k row f a m course told0 live0 stack0 frame0 asker0 budget0 → GoesOn front p k row f a course told1 live1 stack1 frame1 asker1 budget1

-- what a turn leads to: on, or to the end
abbrev pub Turned : Option Ending → Option Bytes → Live → List Value → Frame → Asker → ℕ → Option Bytes → Live → List Value → Frame → Asker → ℕ → Type 0
Turned None told0 live0 stack0 frame0 asker0 budget0 told1 live1 stack1 frame1 asker1 budget1 = Continues told0 live0 stack0 frame0 asker0 budget0 told1 live1 stack1 frame1 asker1 budget1
Turned (Some e) told0 live0 stack0 frame0 asker0 budget0 told1 live1 stack1 frame1 asker1 budget1 = Went told0 live0 stack0 frame0 asker0 budget0 told1 live1 stack1 asker1 budget1 e
