-- What is told of the files of a world is what is said of a store that has them.
use Rattle.std.specs.Prelude.{◌≡◌, ℕ, List}
use Rattle.std.specs.Str.{encode_utf8_all}
use Rattle.lp_files.specs.declared.store.Store.{Store}
use Rattle.lp_files.specs.Store.{file_at}
use Rattle.lp_tree.specs.declared.fault.Fault.{Fault}
use Rattle.lp_tree.specs.declared.pragma.Pragmas.{Pragmas}
use Rattle.lp_tree.specs.Units.{ItemTree}
use Rattle.lp_front.specs.Reading as stored
use Rattle.lp_language.specs.World.{File}
use Rattle.lp_meaning.specs.FrontEnd.{FrontEnd, Declares, HasFault}
use Rattle.lp_meaning.specs.WorldSteps as steps
use Rattle.lp_front_end.specs.FrontEnds.{IsFrontEnd}

-- A store has the files of a world: the same bytes at each path.
abbrev pub HasFiles : Store → List File → Type 0
HasFiles store files = (path : List ℕ) → file_at store path ≡ steps.file_at files path

-- What the file of a store declares is read, and its first fault is told; and nothing else.
pub record ReadsStore (front : FrontEnd) (store : Store) (files : List File) (path : List ℕ) : Type 0 where
  pub declared : (items : List ItemTree) (pragmas : Pragmas) → stored.Declares store (encode_utf8_all path) items pragmas → front.read files path ≡ Declares items pragmas
  pub faulty : (f : Fault) → stored.HasFault store (encode_utf8_all path) f → front.read files path ≡ HasFault f
  pub only_declared : (items : List ItemTree) (pragmas : Pragmas) → front.read files path ≡ Declares items pragmas → stored.Declares store (encode_utf8_all path) items pragmas
  pub only_faulty : (f : Fault) → front.read files path ≡ HasFault f → stored.HasFault store (encode_utf8_all path) f

abbrev pub StoresAreRead : Type 0
StoresAreRead = (front : FrontEnd) (store : Store) (files : List File) (path : List ℕ) → IsFrontEnd front → HasFiles store files → ReadsStore front store files path
