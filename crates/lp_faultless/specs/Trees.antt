-- What the tree of a version is whose unit has no fault.
use Rattle.std.specs.Prelude.{◌≡◌, ◌≤◌, List, None, length}
use Rattle.lp_code.specs.declared.tables.Tables.{Tables}
use Rattle.lp_language.specs.Resolve.{Heritage, parents_of, version_of}
use Rattle.lp_types.specs.TypeFaults.{IsWellTyped}
use Rattle.lp_layout.specs.Layout.{inherits}
use Rattle.lp_layout.specs.LayoutFaults.{layout_fault}
use Rattle.lp_inherit.specs.Heirs.{AreNumbered, AreUnambiguous, IsNumbered, IsUnambiguous, table, tables}
use Rattle.lp_plan_laws.specs.Tables.{AreNamedOnce, IsNamedOnce}

-- The unit of a version has no fault with the tables of its parents, of which there is one for each `inherit`, and whose trees
-- are fine.
pub record IsFaultlessTree (h : Heritage) (ts : List Tables) : Type 0 where
  pub parents : tables (parents_of h) ≡ ts
  pub each : length ts ≡ inherits (version_of h).items
  pub numbered : AreNumbered (parents_of h)
  pub unambiguous : AreUnambiguous (parents_of h)
  pub once : AreNamedOnce (parents_of h)
  pub types : IsWellTyped (version_of h).items (version_of h).pragmas ts (version_of h).simuls
  pub layout : layout_fault (version_of h).items ts ≡ None

-- In none of the files of a tree are there more functions than rows can number, two functions of one name, or a name of a
-- variable that is used twice; and the version has no more parts and variables than rows can number.
pub record IsFine (h : Heritage) : Type 0 where
  pub numbered : IsNumbered h
  pub unambiguous : IsUnambiguous h
  pub once : IsNamedOnce h
  pub parts : length (table h).parts ≤ 65535
  pub variables : length (table h).vars ≤ 65535

-- A tree is fine where its version's unit has no fault.
abbrev pub FaultlessIsFine : Type 0
FaultlessIsFine = (h : Heritage) (ts : List Tables) → IsFaultlessTree h ts → IsFine h
