-- What it says that a file is compiled.
use Rattle.std.specs.Prelude.{◌≡◌, ℕ, ⊤, ◌⊎◌, List, [], ◌∷◌, Some, string_bytes}
use Rattle.lp_files.specs.declared.store.Store.{Store}
use Rattle.lp_tree.specs.declared.fault.Fault.{Fault}
use Rattle.lp_tree.specs.declared.pragma.Pragmas.{Pragmas}
use Rattle.lp_tree.specs.Units.{ItemTree}
use Rattle.lp_values.specs.declared.id.ProgId.{ProgId}
use Rattle.lp_code.specs.declared.program.RawProgram.{RawProgram}
use Rattle.lp_code.specs.declared.tables.Tables.{Tables}
use Rattle.lp_code.specs.Programs.{IsProgram}
use Rattle.lp_layout.specs.Layout.{AreInside}
use Rattle.lp_front.specs.Names.{parents_in}
use Rattle.lp_front.specs.Reading.{Declares, HasFault}
use Rattle.lp_front.specs.Settling.{faults_of, own_version, tables_of}
use Rattle.lp_unit_laws.specs.Versions.{IsOfVersion}
use Rattle.lp_compile.specs.Known.{AreGiven, IsFirstMissing, Known}
use Rattle.lp_compile.specs.Translated.{Stands, Translates}
use Rattle.lp_compile.specs.declared.fault.CompileFault.{CompileFault}
use Rattle.lp_compile.specs.declared.fault.CompileFault.TheVariants.{Need, Faults, TooLarge, NoMemory}

-- A file was compiled to a program, with this number for its version: it declares a unit, each parent is loaded, the unit has
-- no fault with its parents; the tables are those of a version and fine for its children, and the program is sound and the
-- translation of the unit: it stands for each version that the unit has with such parents.
pub record Compiles (files : Store) (path : List ℕ) (own : ProgId) (known : Known) (simuls : List (List ℕ)) (p : RawProgram) : Type 0 where
  pub items : List ItemTree
  pub pragmas : Pragmas
  pub parents : List Tables
  pub declares : Declares files path items pragmas
  pub given : AreGiven known (parents_in items) parents
  pub faultless : faults_of path items pragmas parents simuls ≡ []
  pub tables : p.tables ≡ tables_of path items pragmas parents own
  pub version : own_version p.tables ≡ Some own
  pub inside : AreInside (p.tables ∷ [])
  pub of : IsOfVersion p.tables
  pub translates : Translates items parents simuls p
  pub stands : Stands items parents simuls p
  pub sound : IsProgram p

-- it declares a unit of which this file is the first parent that is not loaded
pub record Needs (files : Store) (path : List ℕ) (known : Known) (file : List ℕ) : Type 0 where
  pub items : List ItemTree
  pub pragmas : Pragmas
  pub declares : Declares files path items pragmas
  pub missing : IsFirstMissing known (parents_in items) file

-- it declares a unit whose parents are loaded, and with them the unit has these faults, of which there is one at least
pub record IsFaulty (files : Store) (path : List ℕ) (known : Known) (simuls : List (List ℕ)) (fs : List Fault) : Type 0 where
  pub items : List ItemTree
  pub pragmas : Pragmas
  pub parents : List Tables
  pub declares : Declares files path items pragmas
  pub given : AreGiven known (parents_in items) parents
  pub faults : fs ≡ faults_of path items pragmas parents simuls
  pub some : fs ≡ [] → ⊥

-- it declares a unit whose parents are loaded, and which has no fault with them
pub record IsWithoutFault (files : Store) (path : List ℕ) (known : Known) (simuls : List (List ℕ)) : Type 0 where
  pub items : List ItemTree
  pub pragmas : Pragmas
  pub parents : List Tables
  pub declares : Declares files path items pragmas
  pub given : AreGiven known (parents_in items) parents
  pub faultless : faults_of path items pragmas parents simuls ≡ []

-- it declares no unit, and this is its one first fault
pub record IsUnread (files : Store) (path : List ℕ) (fs : List Fault) : Type 0 where
  pub first : Fault
  pub fault : HasFault files path first
  pub alone : fs ≡ first ∷ []

-- Why a file has no program. Only a unit without faults wants room. Of want of memory nothing is said.
abbrev pub IsRefused : Store → List ℕ → Known → List (List ℕ) → CompileFault → Type 0
IsRefused files path known simuls (Need file) = Needs files path known (string_bytes file)
IsRefused files path known simuls (Faults fs) = IsUnread files path fs.items ⊎ IsFaulty files path known simuls fs.items
IsRefused files path known simuls TooLarge = IsWithoutFault files path known simuls
IsRefused files path known simuls NoMemory = ⊤

-- room is wanting, or memory
abbrev pub IsWant : CompileFault → Type 0
IsWant (Need file) = ⊥
IsWant (Faults fs) = ⊥
IsWant TooLarge = ⊤
IsWant NoMemory = ⊤
