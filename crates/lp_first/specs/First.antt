-- The files of the state and of the world, before anything was made.
use Rattle.std.specs.Prelude.{◌≡◌, ℕ, List}
use Rattle.lp_files.specs.Store.{file_at}
use Rattle.lp_files.specs.declared.store.Store.{Store}
use Rattle.lp_language.specs.World.{File}
use Rattle.lp_meaning.specs.WorldSteps as steps

-- a store has the bytes of a list of files at each path, and none where the list has none
abbrev pub HasFiles : Store → List File → Type 0
HasFiles store files = (path : List ℕ) → file_at store path ≡ steps.file_at files path
