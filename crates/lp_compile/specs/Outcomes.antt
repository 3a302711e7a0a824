-- What the steps of compiling a file give.
use Rattle.std.specs.Prelude.{◌≡◌, ℕ, ⊤, List, [], ◌∷◌, string_bytes}
use Rattle.lp_tree.specs.declared.fault.Fault.{Fault}
use Rattle.lp_tree.specs.Units.{ItemTree}
use Rattle.lp_values.specs.declared.id.ProgId.{ProgId}
use Rattle.lp_code.specs.declared.program.RawProgram.{RawProgram}
use Rattle.lp_code.specs.declared.tables.Tables.{Tables}
use Rattle.lp_code.specs.Programs.{IsProgram}
use Rattle.lp_layout.specs.Layout.{AreInside}
use Rattle.lp_front.specs.declared.read.Declared.{Declared}
use Rattle.lp_front.specs.Names.{parents_in}
use Rattle.lp_front.specs.Reading.{items_of}
use Rattle.lp_front.specs.Settling.{faults_of, tables_of}
use Rattle.lp_unit_laws.specs.Versions.{IsOfVersion}
use Rattle.lp_compile.specs.Known.{AreGiven, IsFirstMissing, Known}
use Rattle.lp_compile.specs.Translated.{IsGenerated, Translates}
use Rattle.lp_compile.specs.declared.fault.CompileFault.{CompileFault}
use Rattle.lp_compile.specs.declared.fault.CompileFault.TheVariants.{Need, Faults, TooLarge, NoMemory}

-- one fault alone is told, unless memory ran out
abbrev pub IsAlone : Fault → CompileFault → Type 0
IsAlone f (Need file) = ⊥
IsAlone f (Faults fs) = fs.items ≡ f ∷ []
IsAlone f TooLarge = ⊥
IsAlone f NoMemory = ⊤

-- the program that was made of a unit with these tables, which is sound
pub record IsMade (items : List ItemTree) (t : Tables) (ts : List Tables) (simuls : List (List ℕ)) (p : RawProgram) : Type 0 where
  pub generated : IsGenerated items t ts simuls p
  pub sound : IsProgram p

-- a unit over parents with these tables has a program
pub record IsMadeOver (path : List ℕ) (d : Declared) (own : ProgId) (ts : List Tables) (simuls : List (List ℕ)) (p : RawProgram) : Type 0 where
  pub faultless : faults_of path (items_of d) d.pragmas ts simuls ≡ []
  pub tables : p.tables ≡ tables_of path (items_of d) d.pragmas ts own
  pub inside : AreInside (p.tables ∷ [])
  pub of : IsOfVersion p.tables
  pub translates : Translates (items_of d) ts simuls p
  pub sound : IsProgram p

-- or faults, or no room for its program
abbrev pub IsRefusedOver : List ℕ → Declared → List Tables → List (List ℕ) → CompileFault → Type 0
IsRefusedOver path d ts simuls (Need file) = ⊥
IsRefusedOver path d ts simuls (Faults fs) = (fs.items ≡ faults_of path (items_of d) d.pragmas ts simuls) × (fs.items ≡ [] → ⊥)
IsRefusedOver path d ts simuls TooLarge = faults_of path (items_of d) d.pragmas ts simuls ≡ []
IsRefusedOver path d ts simuls NoMemory = ⊤

-- a unit whose parents are loaded has a program
pub record IsMadeOf (path : List ℕ) (d : Declared) (own : ProgId) (known : Known) (simuls : List (List ℕ)) (p : RawProgram) : Type 0 where
  pub parents : List Tables
  pub given : AreGiven known (parents_in (items_of d)) parents
  pub made : IsMadeOver path d own parents simuls p

-- faults of a unit whose parents are loaded
pub record AreFaultsOf (path : List ℕ) (d : Declared) (known : Known) (simuls : List (List ℕ)) (fs : List Fault) : Type 0 where
  pub parents : List Tables
  pub given : AreGiven known (parents_in (items_of d)) parents
  pub faults : fs ≡ faults_of path (items_of d) d.pragmas parents simuls
  pub some : fs ≡ [] → ⊥

-- a unit without faults whose parents are loaded
pub record IsWithoutFaultOf (path : List ℕ) (d : Declared) (known : Known) (simuls : List (List ℕ)) : Type 0 where
  pub parents : List Tables
  pub given : AreGiven known (parents_in (items_of d)) parents
  pub faultless : faults_of path (items_of d) d.pragmas parents simuls ≡ []

-- why it has none
abbrev pub IsRefusedOf : List ℕ → Declared → Known → List (List ℕ) → CompileFault → Type 0
IsRefusedOf path d known simuls (Need file) = IsFirstMissing known (parents_in (items_of d)) (string_bytes file)
IsRefusedOf path d known simuls (Faults fs) = AreFaultsOf path d known simuls fs.items
IsRefusedOf path d known simuls TooLarge = IsWithoutFaultOf path d known simuls
IsRefusedOf path d known simuls NoMemory = ⊤
