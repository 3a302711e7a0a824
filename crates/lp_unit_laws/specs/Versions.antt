-- Tables of versions.
use Rattle.std.specs.Prelude.{◌≡◌, ℕ, ◌+◌, ⊤, List, [], ◌∷◌, ◌++◌, length, None}
use Rattle.lp_tree.specs.declared.pragma.Pragmas.{Pragmas}
use Rattle.lp_tree.specs.Units.{ItemTree}
use Rattle.lp_values.specs.declared.id.ProgId.{ProgId}
use Rattle.lp_code.specs.declared.tables.Tables.{Tables}
use Rattle.lp_layout.specs.Layout.{inherits, laid_slots, laid_variables, parts_before}
use Rattle.lp_layout.specs.LayoutFaults.{layout_fault}
use Rattle.lp_language.specs.Resolve.{Heritage, parents_of, version_of}
use Rattle.lp_inherit.specs.Heirs.{IsNumbered, IsUnambiguous, table, tables}
use Rattle.lp_types.specs.TypeFaults.{IsWellTyped}
use Rattle.lp_plan_laws.specs.Tables.{IsNamedOnce}

-- how many variables parents have together: the place of the first variable of a child's own
abbrev pub variables_in : List Tables → ℕ
variables_in [] = 0
variables_in (t ∷ ts) = length t.vars + variables_in ts

-- An inheritance tree is that of a version of a unit: with these tables, over parents with these tables, compiled with these
-- names of simul efuns. In none of its files are there more functions than rows can number, or two functions of one name, or
-- a name of a variable that is used twice; each of these would be a fault of the file.
pub record IsVersion (is : List ItemTree) (t : Tables) (ts : List Tables) (names : List (List ℕ)) (h : Heritage) : Type 0 where
  pub items : (version_of h).items ≡ is
  pub simuls : (version_of h).simuls ≡ names
  pub own : table h ≡ t
  pub parents : tables (parents_of h) ≡ ts
  pub numbered : IsNumbered h
  pub unambiguous : IsUnambiguous h
  pub once : IsNamedOnce h

-- tables are those of some version
pub record IsOfVersion (t : Tables) : Type 0 where
  pub heritage : Heritage
  pub own : table heritage ≡ t
  pub numbered : IsNumbered heritage
  pub unambiguous : IsUnambiguous heritage
  pub once : IsNamedOnce heritage

abbrev pub AreOfVersions : List Tables → Type 0
AreOfVersions [] = ⊤
AreOfVersions (t ∷ ts) = IsOfVersion t × AreOfVersions ts

-- what the checks of a unit over the tables of versions, one for each `inherit`, find: no fault of its types or its layout
pub record IsFine (items : List ItemTree) (pragmas : Pragmas) (parents : List Tables) (simuls : List (List ℕ)) : Type 0 where
  pub each : length parents ≡ inherits items
  pub types : IsWellTyped items pragmas parents simuls
  pub layout : layout_fault items parents ≡ None
  pub versions : AreOfVersions parents

-- the tables of a unit: its rows and variables are those that are laid out over its parents, and its own part stands behind
-- theirs
pub record AreTablesOf (t : Tables) (items : List ItemTree) (parents : List Tables) : Type 0 where
  pub rows : t.slots ≡ laid_slots items parents
  pub variables : t.vars ≡ laid_variables items parents 0
  pub version : ProgId
  pub parts : t.parts ≡ parts_before parents ++ version ∷ []

-- A unit without faults is that of some version with its tables.
abbrev pub FaultlessIsVersion : Type 0
FaultlessIsVersion =
    (items : List ItemTree) (pragmas : Pragmas) (parents : List Tables) (simuls : List (List ℕ)) (t : Tables)
    → IsFine items pragmas parents simuls → AreTablesOf t items parents → (h : Heritage) × IsVersion items t parents simuls h
