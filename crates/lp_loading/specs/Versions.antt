-- A compiled file becomes a version.
use Rattle.std.specs.Prelude.{◌≡◌, ◌∷◌, ◌++◌, ℕ, List, [], Option, length, map}
use Rattle.lp_values.specs.declared.id.ProgId.{ProgId}
use Rattle.lp_code.specs.declared.program.RawProgram.{RawProgram}
use Rattle.lp_swapfile.specs.Device.{Bytes}
use Rattle.lp_language.specs.World.{World}
use Rattle.lp_meaning.specs.FileLoads.{Made, parents_in, version_known, version_now}
use Rattle.lp_meaning.specs.FrontEnd.{FrontEnd}
use Rattle.lp_meaning.specs.WorldSteps.{next_version, with_new_version}
use Rattle.lp_world.specs.declared.live.Live.{Live}
use Rattle.lp_targets.specs.Callees.{IsWorldOf}
use Rattle.lp_loading.specs.Compiling.{IsProgramFor}

-- After it the state stands for the world with that version more, which has the next number; and programs fit their versions.
pub record IsMadeIn (told : Option Bytes) (live : Live) (programs : List RawProgram) (w after : World) (p : RawProgram) (number : ProgId) : Type 0 where
  pub world : IsWorldOf told (programs ++ p ∷ []) live after
  pub next : number ≡ next_version w

-- so it is for each world for which the state stood, and each such program
abbrev pub MakesVersion : Live → Live → List ℕ → RawProgram → ProgId → Type 0
MakesVersion old new name p number =
    (told : Option Bytes) (programs : List RawProgram) (w : World) (front : FrontEnd) (made : List Made) (own : ProgId) (simuls : List (List ℕ))
    → IsWorldOf told programs old w → own.0 ≡ length old.versions → (f : IsProgramFor front old.store programs w made name own simuls p)
    → IsMadeIn told new programs w (with_new_version w (version_now w name f.compiles.items f.compiles.pragmas (map (version_known w made) (parents_in f.compiles.items)) simuls)) p number
