-- Each object that was made is known by its name.
use Rattle.std.specs.Prelude.{⊤, List, Option, map}
use Rattle.lp_code.specs.declared.program.RawProgram.{RawProgram}
use Rattle.lp_swapfile.specs.Device.{Bytes}
use Rattle.lp_language.specs.World.{World}
use Rattle.lp_world.specs.Stands.{Stands, named_of}
use Rattle.lp_world.specs.declared.live.Live.{Live}
use Rattle.lp_turn.specs.Starting.{AreAllKnown}
use Rattle.lp_turn.specs.declared.start_job.StartWaiting.{StartWaiting}
use Rattle.lp_turn.specs.declared.start_job.StartWaiting.TheVariants as waitings

-- in each world for which the state stands
abbrev pub KnowsAll : Live → Type 0
KnowsAll live = (told : Option Bytes) (programs : List RawProgram) (w : World) → Stands told programs live w → AreAllKnown live.names (map named_of w.objects)

-- what is to be known where a call of the start has ended
abbrev pub KnowsFor : StartWaiting → Live → Type 0
KnowsFor waitings.First live = KnowsAll live
KnowsFor (waitings.Load f) live = ⊤
KnowsFor (waitings.Master f) live = ⊤
KnowsFor (waitings.Simul name) live = ⊤
