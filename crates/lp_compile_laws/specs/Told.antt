-- What compiling a file gives is what the front end tells of it.
use Rattle.std.specs.Prelude.{◌≡◌, ℕ, ⊤, ◌⊎◌, List, [], ◌∷◌, Some, None, map, string_bytes}
use Rattle.std.specs.Str.{encode_utf8_all}
use Rattle.lp_files.specs.declared.store.Store.{Store}
use Rattle.lp_tree.specs.declared.fault.Fault.{Fault}
use Rattle.lp_tree.specs.declared.pragma.Pragmas.{Pragmas}
use Rattle.lp_tree.specs.Units.{ItemTree}
use Rattle.lp_values.specs.declared.id.ProgId.{ProgId}
use Rattle.lp_code.specs.declared.program.RawProgram.{RawProgram}
use Rattle.lp_code.specs.declared.tables.Tables.{Tables}
use Rattle.lp_language.specs.World.{File, World}
use Rattle.lp_meaning.specs.FrontEnd.{FrontEnd, Declares, HasFault}
use Rattle.lp_meaning.specs.FileLoads.{Made, Parent, parents_in, version_known, first_missing}
use Rattle.lp_front_end.specs.FrontEnds.{IsFrontEnd, tables_in}
use Rattle.lp_front_end.specs.Stores.{HasFiles}
use Rattle.lp_front_end.specs.Parents.{KnowsParents, file_bytes}
use Rattle.lp_compile.specs.Known.{Known}
use Rattle.lp_compile.specs.Compiles.{Compiles, IsRefused, IsWant}
use Rattle.lp_compile.specs.declared.fault.CompileFault.{CompileFault}
use Rattle.lp_compile.specs.declared.fault.CompileFault.TheVariants.{Need, Faults, TooLarge, NoMemory}

-- A file is compiled from a store with the files of a world, and of the parents of what it declares those versions are at hand
-- that the world and the load under way know.
pub record StandsOn (front : FrontEnd) (w : World) (made : List Made) (store : Store) (path : List ℕ) (known : Known) : Type 0 where
  pub real : IsFrontEnd front
  pub files : HasFiles store w.files
  pub parents : (items : List ItemTree) (pragmas : Pragmas) → front.read w.files path ≡ Declares items pragmas → KnowsParents known w made items

-- The front end reads this of a file, whose parents are all known, and finds these faults of it with their versions.
pub record IsChecked (front : FrontEnd) (w : World) (made : List Made) (path : List ℕ) (simuls : List (List ℕ)) (items : List ItemTree) (pragmas : Pragmas) (fs : List Fault) : Type 0 where
  pub read : front.read w.files path ≡ Declares items pragmas
  pub none_missing : first_missing w made (parents_in items) ≡ None
  pub checked : front.check w path items pragmas (map (version_known w made) (parents_in items)) simuls ≡ fs

-- It reads a unit with a parent that is missing, the first, which has this file.
pub record IsMissing (front : FrontEnd) (w : World) (made : List Made) (path : List ℕ) (file : List ℕ) : Type 0 where
  pub items : List ItemTree
  pub pragmas : Pragmas
  pub read : front.read w.files path ≡ Declares items pragmas
  pub parent : Parent
  pub missing : first_missing w made (parents_in items) ≡ Some parent
  pub file_is : file ≡ file_bytes parent.name

-- It reads a unit that has these faults.
pub record IsFaultyUnit (front : FrontEnd) (w : World) (made : List Made) (path : List ℕ) (simuls : List (List ℕ)) (fs : List Fault) : Type 0 where
  pub items : List ItemTree
  pub pragmas : Pragmas
  pub checked : IsChecked front w made path simuls items pragmas fs
  pub some : fs ≡ [] → ⊥

-- It reads a unit that has no fault.
pub record IsUnitWithoutFault (front : FrontEnd) (w : World) (made : List Made) (path : List ℕ) (simuls : List (List ℕ)) : Type 0 where
  pub items : List ItemTree
  pub pragmas : Pragmas
  pub checked : IsChecked front w made path simuls items pragmas []

-- It reads no unit, and tells this fault alone.
pub record IsFaultyFile (front : FrontEnd) (w : World) (path : List ℕ) (fs : List Fault) : Type 0 where
  pub first : Fault
  pub read : front.read w.files path ≡ HasFault first
  pub alone : fs ≡ first ∷ []

-- Why a file has no program, as the front end tells it. Only a unit without faults wants room. Of want of memory nothing is
-- said.
abbrev pub IsToldAs : FrontEnd → World → List Made → List ℕ → List (List ℕ) → CompileFault → Type 0
IsToldAs front w made path simuls (Need file) = IsMissing front w made path (string_bytes file)
IsToldAs front w made path simuls (Faults fs) = IsFaultyFile front w path fs.items ⊎ IsFaultyUnit front w made path simuls fs.items
IsToldAs front w made path simuls TooLarge = IsUnitWithoutFault front w made path simuls
IsToldAs front w made path simuls NoMemory = ⊤

-- a file that was compiled: the front end finds no fault of it, and its parents' tables are those of their versions
pub record IsSoundAs (front : FrontEnd) (w : World) (made : List Made) (path : List ℕ) (simuls : List (List ℕ)) (items : List ItemTree) (pragmas : Pragmas) (parents : List Tables) : Type 0 where
  pub checked : IsChecked front w made path simuls items pragmas []
  pub tables : parents ≡ tables_in w (map (version_known w made) (parents_in items))

-- What was compiled is sound.
abbrev pub CompiledIsSound : Type 0
CompiledIsSound = (front : FrontEnd) (w : World) (made : List Made) (store : Store) (path : List ℕ) (own : ProgId) (known : Known) (simuls : List (List ℕ)) (p : RawProgram) → StandsOn front w made store path known
    → (c : Compiles store (encode_utf8_all path) own known simuls p) → IsSoundAs front w made path simuls c.items c.pragmas c.parents

-- What was refused lacks the parent that the load is to get next, or has the faults that are told of it.
abbrev pub RefusedIsTold : Type 0
RefusedIsTold = (front : FrontEnd) (w : World) (made : List Made) (store : Store) (path : List ℕ) (known : Known) (simuls : List (List ℕ)) (f : CompileFault) → StandsOn front w made store path known
    → IsRefused store (encode_utf8_all path) known simuls f → IsToldAs front w made path simuls f

-- A file of which a program is compiled is refused for want of room or memory alone: it has neither a parent that is not loaded
-- nor faults. So a file that has either has no program.
abbrev pub AnswersAreApart : Type 0
AnswersAreApart = (front : FrontEnd) (files : List File) (store : Store) (path : List ℕ) (own : ProgId) (known : Known) (simuls : List (List ℕ)) (p : RawProgram) (f : CompileFault)
    → IsFrontEnd front → HasFiles store files → Compiles store (encode_utf8_all path) own known simuls p → IsRefused store (encode_utf8_all path) known simuls f → IsWant f
