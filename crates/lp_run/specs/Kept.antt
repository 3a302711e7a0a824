-- No instruction loses anything of the world, or wins budget; and none changes versions, shadows, or which objects live.
use Rattle.std.specs.Prelude.{◌≡◌, ⊤}
use Rattle.lp_values.specs.declared.id.ObjId.{ObjId}
use Rattle.lp_language.specs.World.{World, is_live}
use Rattle.lp_language.specs.Course.{Scene, State, Gives, Stops}
use Rattle.lp_language.specs.Afterwards.{After, AsksAfter}
use Rattle.lp_instr.specs.Code.{Code}
use Rattle.lp_isa.specs.Machine.{Moment, Next, Goes, Ended, Awaits, Wrong, step}

-- the same versions and shadows, and the same objects are live
pub record IsStill (old new : World) : Type 0 where
  pub versions : new.versions ≡ old.versions
  pub shadows : new.shadows ≡ old.shadows
  pub lives : (o : ObjId) → is_live new o ≡ is_live old o

-- what instructions may make of a state
pub record Later (s t : State) : Type 0 where
  pub after : After s t
  pub still : IsStill s.world t.world

-- what comes next is so
abbrev pub NextLater : State → Next → Type 0
NextLater r (Goes m) = Later r m.state
NextLater r (Ended (Gives v s)) = Later r s
NextLater r (Ended (Stops x s)) = Later r s
NextLater r (Awaits a k) = AsksAfter r a × IsStill r.world a.world
NextLater r Wrong = ⊤

-- Each instruction leads to what comes after the state in which it begins.
abbrev pub MachineKeeps : Type 0
MachineKeeps = (code : Code) (c : Scene) (m : Moment) → NextLater m.state (step code c m)
