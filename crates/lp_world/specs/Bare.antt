-- What a version's tree and the kept versions are told by: objects and versions alone.
use Rattle.std.specs.Prelude.{◌≡◌, ◌↔◌, []}
use Rattle.lp_values.specs.declared.id.ProgId.{ProgId}
use Rattle.lp_language.specs.World.{World, new_world}
use Rattle.lp_language.specs.Resolve.{heritage}
use Rattle.lp_meaning.specs.IdleAndKept.{IsKept}
use Rattle.lp_world.specs.Stands.{heritage_in}

-- the inheritance tree of a version in a world is that among its versions
abbrev pub TheSameHeritage : Type 0
TheSameHeritage = (w : World) (v : ProgId) → heritage w v ≡ heritage_in w.versions v

-- a version is kept in a world exactly where it is by its objects and versions
abbrev pub TheSameKept : Type 0
TheSameKept = (w : World) (v : ProgId) → (IsKept w v) ↔ (IsKept (record (new_world [] 0 0) { objects = w.objects; versions = w.versions }) v)
