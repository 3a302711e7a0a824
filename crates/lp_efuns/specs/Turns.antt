-- Who calls an efun, and when the live state, with what else an efun may change, stands for a state of the meaning.
use Rattle.std.specs.Prelude.{◌≡◌, ℕ, List, ◌++◌, map, reverse, Option}
use Rattle.lp_events.specs.declared.out.Out.{Out}
use Rattle.lp_code.specs.declared.program.RawProgram.{RawProgram}
use Rattle.lp_swapfile.specs.Device.{Bytes}
use Rattle.lp_language.specs.Course.{Scene, State, Typed}
use Rattle.lp_world.specs.declared.live.Live.{Live}
use Rattle.lp_world.specs.Stands.{Stands}
use Rattle.lp_efuns.specs.declared.caller.Caller.{Caller}
use Rattle.lp_efuns.specs.declared.caller.Command.{Command}
use Rattle.lp_efuns.specs.declared.caller.Turn.{Turn}

-- a running command
abbrev pub command_of : Command → Typed
command_of c = record { verb = c.verb; fail = c.fail }

-- the running commands, the innermost first: the turn has it last
abbrev pub commands_of : List Command → List Typed
commands_of cs = map command_of (reverse cs)

-- The caller is the function that runs there: its object, `this_interactive()`, and its callers, the latest first.
pub record IsScene (caller : Caller) (c : Scene) : Type 0 where
  pub this : c.this ≡ caller.this
  pub interactive : c.interactive ≡ caller.interactive
  pub callers : c.callers ≡ reverse caller.callers.now

-- what stays while an efun acts: what the swap file tells, the programs of all versions, and the outputs before
pub record Setting : Type 0 where
  pub told : Option Bytes
  pub programs : List RawProgram
  pub before : List Out

-- The live state stands for the state's world, and the budget, the outputs, `this_player()` and the commands are the state's.
pub record At (g : Setting) (live : Live) (turn : Turn) (budget : ℕ) (s : State) : Type 0 where
  pub stands : Stands g.told g.programs live s.world
  pub left : s.budget ≡ budget
  pub outputs : live.outputs ≡ g.before ++ s.outputs
  pub player : s.player ≡ turn.player
  pub commands : s.commands ≡ commands_of turn.commands.items
