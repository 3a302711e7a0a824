-- Between the calls of the driver.
use Rattle.std.specs.Prelude.{◌≡◌, ◌++◌, List, Option}
use Rattle.lp_code.specs.declared.program.RawProgram.{RawProgram}
use Rattle.lp_events.specs.declared.out.Out.{Out}
use Rattle.lp_swapfile.specs.Device.{Bytes}
use Rattle.lp_language.specs.Course.{State}
use Rattle.lp_world.specs.declared.live.Live.{Live}
use Rattle.lp_targets.specs.Callees.{IsWorldOf}

-- The live state stands for a state in which no function runs: for its world, whose programs fit their versions and whose shadows are
-- live; and the outputs of the turn lie behind those before it. Of `this_player()`, the commands and the budget nothing is said:
-- they are those that the last call of the driver left, and the next one sets them anew.
pub record Rests (told : Option Bytes) (programs : List RawProgram) (before : List Out) (live : Live) (s : State) : Type 0 where
  pub world : IsWorldOf told programs live s.world
  pub outputs : live.outputs ≡ before ++ s.outputs
