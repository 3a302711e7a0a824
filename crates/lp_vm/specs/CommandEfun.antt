-- The efun `command` in the machine: how it begins, whom it makes `this_player()`, and how it ends.
use Rattle.std.specs.Prelude.{◌≡◌, ℕ, List, Option}
use Rattle.lp_values.specs.declared.id.ObjId.{ObjId}
use Rattle.lp_values.specs.declared.value.Value.{Value}
use Rattle.lp_world.specs.declared.live.Live.{Live}
use Rattle.lp_efuns.specs.declared.answer.Answer.{Answer}
use Rattle.lp_efuns.specs.declared.caller.Caller.{Caller}
use Rattle.lp_asking.specs.declared.asker.Asker.{Asker}
use Rattle.lp_asking.specs.declared.ending.Ending.{Ending}
use Rattle.lp_asking.specs.declared.ending.Ending.TheVariants as endings
use Rattle.lp_asking.specs.declared.ending.Place.{Place}
use Rattle.lp_commanding.specs.declared.job.CommandBegun.{CommandBegun}
use Rattle.lp_commanding.specs.Efuns.{BeginsCommand, EndsCommand}
use Rattle.lp_vm.specs.Efuns.{ending_of}

-- It begins as it means for the function at a place, to which was handed down what who asks has.
pub record BeginsAt (r : CommandBegun) (at : Place) (asker : Asker) (live : Live) (stack0 : List Value) (args budget0 : ℕ) (stack1 : List Value) (budget1 : ℕ) : Type 0 where
  pub caller : Caller
  pub this : caller.this ≡ at.this
  pub interactive : caller.interactive ≡ asker.interactive
  pub callers : caller.callers.now ≡ asker.callers.items
  pub begins : BeginsCommand r caller live stack0 args budget0 stack1 budget1

-- who asks, with this `this_player()`
abbrev pub with_player : Option ObjId → Asker → Asker
with_player p asker = record asker { turn = record asker.turn { player = p } }

-- A line was carried out so, and `this_player()` was put back: a value is the efun's once its price is paid, and a stop stops it.
abbrev pub EndsAs : Ending → Live → ℕ → Ending → ℕ → Type 0
EndsAs (endings.Value v) live budget0 d budget1 = (a : Answer) × (d ≡ ending_of a) × EndsCommand a v live budget0 budget1
EndsAs (endings.Stopped s) live budget0 d budget1 = (d ≡ endings.Stopped s) × (budget1 ≡ budget0)
