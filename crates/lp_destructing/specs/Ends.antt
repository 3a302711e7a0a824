-- The end of an object: a state and a world before and after.
use Rattle.std.specs.Prelude.{◌≡◌, ◌++◌, List, Option}
use Rattle.lp_values.specs.declared.id.ObjId.{ObjId}
use Rattle.lp_values.specs.declared.value.Value.{Value}
use Rattle.lp_instr.specs.declared.efun.Efun.TheVariants as efuns
use Rattle.lp_code.specs.declared.program.RawProgram.{RawProgram}
use Rattle.lp_swapfile.specs.Device.{Bytes}
use Rattle.lp_language.specs.World.{World}
use Rattle.lp_language.specs.Course.{End, Over, Scene, State}
use Rattle.lp_meaning.specs.Askers.{Asker}
use Rattle.lp_meaning.specs.Questions.{efun_in}
use Rattle.lp_meaning.specs.WorldSteps.{destructed, destruction}
use Rattle.lp_world.specs.Stands.{Stands}
use Rattle.lp_world.specs.declared.live.Live.{Live}
use Rattle.lp_settling.specs.Settling.{EndSettles}

-- For each world that the state stood for, it stands for that world after the destruction of an object, and what that puts out
-- comes last.
abbrev pub EndsObject : ObjId → Live → Live → Type 0
EndsObject o old new =
    (told : Option Bytes) (programs : List RawProgram) (w : World) → Stands told programs old w → Stands told programs new (destructed w o) × (new.outputs ≡ old.outputs ++ destruction w o)

-- From whatever state an object is destructed by the efun, the world in which it ends settles from that of the state.
abbrev pub DestructSettles : Type 0
DestructSettles = (by : Asker) (c : Scene) (vs : List Value) (s : State) (end : End Value) → efun_in efuns.Destruct by c vs s ≡ Over end → EndSettles s.world end
