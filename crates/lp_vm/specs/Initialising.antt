-- The initialisers of a part of an object's program are called.
use Rattle.std.specs.Prelude.{ℕ, List, Option}
use Rattle.lp_values.specs.declared.id.ObjId.{ObjId}
use Rattle.lp_values.specs.declared.value.Value.{Value}
use Rattle.lp_code.specs.declared.program.RawProgram.{RawProgram}
use Rattle.lp_swapfile.specs.Device.{Bytes}
use Rattle.lp_language.specs.Course.{Ask}
use Rattle.lp_meaning.specs.FrontEnd.{FrontEnd}
use Rattle.lp_front_end.specs.FrontEnds.{IsFrontEnd}
use Rattle.lp_world.specs.declared.live.Live.{Live}
use Rattle.lp_asking.specs.declared.asker.Asker.{Asker}
use Rattle.lp_asking.specs.declared.ending.Ending.{Ending}
use Rattle.lp_reaching.specs.Reaching.{Initialises}
use Rattle.lp_vm.specs.Answering.{IsAsked, Serves}

-- In some world such a question is asked, without arguments.
pub record CanCallInitialisers (caller : Option ObjId) (ob : ObjId) (part : ℕ) (told : Option Bytes) (live : Live) (stack : List Value) (asker : Asker) (budget : ℕ) : Type 0 where
  pub programs : List RawProgram
  pub ask : Ask
  pub below : List Value
  pub asked : IsAsked told programs live stack below asker 0 budget ask
  pub initialises : Initialises asker caller ob part ask

-- THE CALL: for each such question of the meaning the outcome is one that the question has. The state stands for the outcome's
-- world, budget, player and commands, its outputs follow those that were there, and the stack is as it was.
abbrev pub InitialisingIsMeant : Option ObjId → ObjId → ℕ → Option Bytes → Live → List Value → Asker → ℕ → Option Bytes → Live → List Value → Asker → ℕ → Ending → Type 0
InitialisingIsMeant caller ob part told0 live0 stack0 asker0 budget0 told1 live1 stack1 asker1 budget1 e =
    (front : FrontEnd) (real : IsFrontEnd front) (programs : List RawProgram) (a : Ask) (below : List Value) → IsAsked told0 programs live0 stack0 below asker0 0 budget0 a → Initialises asker0 caller ob part a
    → Serves front told1 programs live0.outputs live1 stack1 below asker1 budget1 e a
