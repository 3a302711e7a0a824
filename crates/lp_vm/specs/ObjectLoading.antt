-- An object is loaded by its name for the driver.
use Rattle.std.specs.Prelude.{◌≡◌, ◌++◌, ℕ, List, [], Option, None}
use Rattle.lp_values.specs.declared.value.Value.{Value}
use Rattle.lp_code.specs.declared.program.RawProgram.{RawProgram}
use Rattle.lp_events.specs.declared.out.Out.{Out}
use Rattle.lp_swapfile.specs.Device.{Bytes}
use Rattle.lp_language.specs.World.{World}
use Rattle.lp_language.specs.Course as course
use Rattle.lp_language.specs.Course.{Ask, IsFaulty, Load, Outcome, Plain, Returned, Wanted}
use Rattle.lp_meaning.specs.Closing.{Has}
use Rattle.lp_meaning.specs.FrontEnd.{FrontEnd}
use Rattle.lp_front_end.specs.FrontEnds.{IsFrontEnd}
use Rattle.lp_world.specs.declared.live.Live.{Live}
use Rattle.lp_targets.specs.Callees.{IsWorldOf}
use Rattle.lp_efuns.specs.Turns.{commands_of}
use Rattle.lp_asking.specs.declared.asker.Asker.{Asker}
use Rattle.lp_asking.specs.Asking.{IsBy}
use Rattle.lp_asking.specs.Endings.{IsStop}
use Rattle.lp_loading.specs.declared.job.Answer.{Answer}
use Rattle.lp_loading.specs.declared.job.Answer.TheVariants as answers
use Rattle.lp_vm.specs.Growing.{Grows}

-- the driver asks for the load of an object with this name, and the state stands for its world
pub record IsLoadAsked (name : List ℕ) (told : Option Bytes) (programs : List RawProgram) (live : Live) (asker : Asker) (budget : ℕ) (a : Ask) : Type 0 where
  pub what : a.what ≡ Load name Wanted
  pub scene : a.scene ≡ None
  pub none : asker.callers.items ≡ []
  pub by : IsBy asker a
  pub world : IsWorldOf told programs live a.world
  pub left : budget ≡ a.budget

-- in some world it asks so
pub record CanLoadObject (name : List ℕ) (told : Option Bytes) (live : Live) (asker : Asker) (budget : ℕ) : Type 0 where
  pub programs : List RawProgram
  pub ask : Ask
  pub asked : IsLoadAsked name told programs live asker budget ask

-- an answer of a load as that of its question: a value, the faults of a file, or a stop
abbrev pub IsLoadAnswer : List RawProgram → World → Answer → course.Answer → Type 0
IsLoadAnswer programs w (answers.Value v) (Returned (Plain u)) = v ≡ u
IsLoadAnswer programs w (answers.Faulty fs) (Returned (IsFaulty gs)) = fs.items ≡ gs
IsLoadAnswer programs w (answers.Stopped stop) (course.Stopped x) = IsStop programs w stop x
IsLoadAnswer programs w _ _ = ⊥

-- An outcome that the meaning has: the state stands for its world, budget, player and commands, with the programs that were there
-- and those that loads put behind them; what it put out follows what was there; and the stack is as it was.
pub record LoadServes (front : FrontEnd) (told : Option Bytes) (old : List RawProgram) (before : List Out) (live : Live) (stack below : List Value) (asker : Asker) (budget : ℕ) (r : Answer) (a : Ask) : Type 0 where
  pub outcome : Outcome
  pub has : Has front a outcome
  pub programs : List RawProgram
  pub grown : Grows old programs
  pub world : IsWorldOf told programs live outcome.world
  pub left : budget ≡ outcome.budget
  pub player : outcome.player ≡ asker.turn.player
  pub commands : outcome.commands ≡ commands_of asker.turn.commands.items
  pub outputs : live.outputs ≡ before ++ outcome.outputs
  pub answer : IsLoadAnswer programs outcome.world r outcome.answer
  pub same : stack ≡ below

-- THE LOAD: for each such question of the meaning the outcome is one that the question has.
abbrev pub LoadIsMeant : List ℕ → Option Bytes → Live → List Value → Asker → ℕ → Option Bytes → Live → List Value → Asker → ℕ → Answer → Type 0
LoadIsMeant name told0 live0 stack0 asker0 budget0 told1 live1 stack1 asker1 budget1 r =
    (front : FrontEnd) (real : IsFrontEnd front) (programs : List RawProgram) (a : Ask) → IsLoadAsked name told0 programs live0 asker0 budget0 a → LoadServes front told1 programs live0.outputs live1 stack1 stack0 asker1 budget1 r a
