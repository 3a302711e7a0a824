-- A version more: a state, its programs and a world before and after.
use Rattle.std.specs.Prelude.{◌≡◌, ℕ, List, [], ◌∷◌, ◌++◌, Option}
use Rattle.lp_tree.specs.declared.pragma.Pragmas.{Pragmas}
use Rattle.lp_tree.specs.Units.{ItemTree}
use Rattle.lp_code.specs.declared.program.RawProgram.{RawProgram}
use Rattle.lp_swapfile.specs.Device.{Bytes}
use Rattle.lp_language.specs.World.{Version, World}
use Rattle.lp_meaning.specs.FileLoads.{version_now}
use Rattle.lp_meaning.specs.WorldSteps as steps
use Rattle.lp_world.specs.Stands.{Stands}
use Rattle.lp_world.specs.declared.live.Live.{Live}

-- A version is made now of a program that was compiled from a file: its path is the file's, its parents are those of the
-- program's tables, and its latest clock is the world's.
pub record IsMadeNow (w : World) (file : List ℕ) (p : RawProgram) (v : Version) : Type 0 where
  pub path : v.path ≡ file
  pub parents : v.parents ≡ p.tables.parents
  pub latest : v.latest ≡ w.clock

-- For each world that the state stood for, it stands for that world with one version more, which is the program's.
abbrev pub StandsWithVersion : Live → Live → List ℕ → RawProgram → Type 0
StandsWithVersion old new file p =
    (told : Option Bytes) (programs : List RawProgram) (w : World) (v : Version) → Stands told programs old w → IsMadeNow w file p v
    → Stands told (programs ++ p ∷ []) new (steps.with_new_version w v)

-- So it does for the version that a load of the file's name makes, with the parents that the tables of the program have.
abbrev pub StandsWithVersionOf : Live → Live → List ℕ → RawProgram → Type 0
StandsWithVersionOf old new file p =
    (told : Option Bytes) (programs : List RawProgram) (w : World) (name : List ℕ) (items : List ItemTree) (pragmas : Pragmas) (simuls : List (List ℕ))
    → Stands told programs old w → steps.file_of_name name ≡ file
    → Stands told (programs ++ p ∷ []) new (steps.with_new_version w (version_now w name items pragmas p.tables.parents simuls))
