-- The versions that are loaded while a file is compiled.
use Rattle.std.specs.Prelude.{◌≡◌, ℕ, ⊤, List, [], ◌∷◌, ◌++◌, length, Option, Some, None, string_bytes}
use Rattle.lp_code.specs.declared.tables.Tables.{Tables}
use Rattle.lp_layout.specs.Layout.{AreInside}
use Rattle.lp_front.specs.declared.parents.Parent.{Parent}
use Rattle.lp_unit_laws.specs.Versions.{AreOfVersions}
use Rattle.lp_compile.specs.declared.fault.CompileFault.{CompileFault}
use Rattle.lp_compile.specs.declared.fault.CompileFault.TheVariants.{Need, Faults, TooLarge, NoMemory}

-- the tables of the version of a file, where it is loaded
abbrev pub Known : Type 0
Known = List ℕ → Option Tables

-- each parent is loaded, and these are their tables, in their order
abbrev pub AreGiven : Known → List Parent → List Tables → Type 0
AreGiven k [] [] = ⊤
AreGiven k [] (t ∷ ts) = ⊥
AreGiven k (p ∷ ps) [] = ⊥
AreGiven k (p ∷ ps) (t ∷ ts) = (k p.file ≡ Some t) × AreGiven k ps ts

-- this file is that of the first parent that is not loaded
abbrev pub IsMissing : Option Tables → List ℕ → List ℕ → Type 0 → Type 0
IsMissing None first file Rest = file ≡ first
IsMissing (Some t) first file Rest = Rest

abbrev pub IsFirstMissing : Known → List Parent → List ℕ → Type 0
IsFirstMissing k [] file = ⊥
IsFirstMissing k (p ∷ ps) file = IsMissing (k p.file) p.file file (IsFirstMissing k ps file)

-- why the tables of a file are not at hand: it is not loaded, or memory ran out
abbrev pub IsNotGiven : Known → List ℕ → CompileFault → Type 0
IsNotGiven k file (Need name) = (k file ≡ None) × (string_bytes name ≡ file)
IsNotGiven k file (Faults fs) = ⊥
IsNotGiven k file TooLarge = ⊥
IsNotGiven k file NoMemory = ⊤

-- why the tables of some parents are not
abbrev pub AreNotGiven : Known → List Parent → CompileFault → Type 0
AreNotGiven k ps (Need name) = IsFirstMissing k ps (string_bytes name)
AreNotGiven k ps (Faults fs) = ⊥
AreNotGiven k ps TooLarge = ⊥
AreNotGiven k ps NoMemory = ⊤

-- the first parents have these tables; so what is said of those that are left is said of all
pub record IsOnTheWay (k : Known) (left all : List Parent) (n : ℕ) (ts : List Tables) : Type 0 where
  pub inside : AreInside ts
  pub versions : AreOfVersions ts
  pub count : length ts ≡ n
  pub given : (us : List Tables) → AreGiven k left us → AreGiven k all (ts ++ us)
  pub missing : (file : List ℕ) → IsFirstMissing k left file → IsFirstMissing k all file
