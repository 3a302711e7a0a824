-- A frame with its stack, in a state, stands for a moment of the machine.
use Rattle.std.specs.Prelude.{◌≡◌, ℕ, ◌+◌, List, [], ◌∷◌, ◌++◌, Option, Some, length, slice_get}
use Rattle.std.specs.Option.{option_map}
use Rattle.lp_values.specs.declared.id.ObjId.{ObjId}
use Rattle.lp_values.specs.declared.id.ProgId.{ProgId}
use Rattle.lp_values.specs.declared.value.Value.{Value}
use Rattle.lp_events.specs.declared.out.Out.{Out}
use Rattle.lp_swapfile.specs.Device.{Bytes}
use Rattle.lp_code.specs.declared.program.RawProgram.{RawProgram}
use Rattle.lp_code.specs.Programs.{code_of}
use Rattle.lp_instr.specs.Code.{Catching, Code}
use Rattle.lp_language.specs.Course.{Scene, Typed}
use Rattle.lp_isa.specs.Machine.{Moment}
use Rattle.lp_world.specs.declared.frame.Catch.{Catch}
use Rattle.lp_world.specs.declared.frame.Frame.{Frame}
use Rattle.lp_world.specs.declared.live.Live.{Live}
use Rattle.lp_world.specs.Stands.{Stands}

-- operands lie above what is below them, the topmost last
abbrev pub laid : List Value → List Value → List Value
laid below [] = below
laid below (x ∷ xs) = laid below xs ++ x ∷ []

-- the catches, the innermost last, each with the height of the whole stack
abbrev pub catch_of : ℕ → Catching → Catch
catch_of n c = record { to = c.place; height = n + c.height }

abbrev pub stacked : ℕ → List Catching → List Catch
stacked n [] = []
stacked n (c ∷ cs) = stacked n cs ++ catch_of n c ∷ []

-- What stays while a function runs: what the swap file tells and the programs of all versions; the code and the scene; what
-- lies below its part of the stack, how many locals it has, and how many variables its version; the outputs before it
-- began; and what its callers keep of `this_player()` and the commands, which no instruction changes by itself.
pub record Around : Type 0 where
  pub told : Option Bytes
  pub programs : List RawProgram
  pub code : Code
  pub scene : Scene
  pub below : List Value
  pub locals : ℕ
  pub variables : ℕ
  pub before : List Out
  pub player : Option ObjId
  pub commands : List Typed

-- how many values lie below its operands
abbrev pub floor : Around → ℕ
floor a = length a.below + a.locals

-- The frame is that of the scene: its object, its version with the program and the code, its part with the place of its
-- variables, and its function.
pub record Belongs (a : Around) (object : ObjId) (number : ProgId) (place first row : ℕ) (raw : RawProgram) : Type 0 where
  pub this : object ≡ a.scene.this
  pub version : number ≡ a.scene.version
  pub part : place ≡ a.scene.part
  pub base : first ≡ a.scene.base
  pub function : option_map (λ f. f.name) (slice_get raw.funs row) ≡ Some a.scene.function
  pub program : slice_get a.programs number.0 ≡ Some raw
  pub code : code_of raw a.code.parents ≡ a.code

-- Its locals and operands lie on the stack, and nothing above them; it is at the place, and has these catches open.
pub record Sits (a : Around) (stack : List Value) (frame : Frame) (m : Moment) : Type 0 where
  pub lies : stack ≡ laid (a.below ++ m.state.locals) m.stack
  pub bottom : frame.bottom ≡ length a.below
  pub locals : length m.state.locals ≡ a.locals
  pub place : frame.at ≡ m.place
  pub catches : frame.catches.items ≡ stacked (floor a) m.catches
  pub belongs : Belongs a frame.this frame.program frame.part frame.base frame.fun frame.code

pub record Matches (a : Around) (live : Live) (stack : List Value) (frame : Frame) (budget : ℕ) (m : Moment) : Type 0 where
  pub stands : Stands a.told a.programs live m.state.world
  pub sits : Sits a stack frame m
  pub left : budget ≡ m.state.budget
  pub outputs : live.outputs ≡ a.before ++ m.state.outputs
  pub player : m.state.player ≡ a.player
  pub commands : m.state.commands ≡ a.commands
