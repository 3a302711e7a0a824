-- What it says that programs fit the versions that they were made for.
use Rattle.std.specs.Prelude.{◌≡◌, ℕ, ◌-◌, ◌<◌, ◌≤◌, ◌^◌, ⊤, List, [], map, length, All, Some, IsAscii, slice_get}
use Rattle.lp_values.specs.declared.id.ProgId.{ProgId}
use Rattle.lp_code.specs.declared.program.FunRow.{FunRow as CodeRow}
use Rattle.lp_code.specs.declared.program.RawProgram.{RawProgram}
use Rattle.lp_code.specs.declared.tables.Tables.{Tables}
use Rattle.lp_code.specs.Programs.{FindsRows, IsProgram, code_of}
use Rattle.lp_language.specs.World.{IsSameVersion, Version, new_world}
use Rattle.lp_language.specs.Resolve.{Found, Heir, Heritage, Heritages, NoParent, OneParent, heritage, parents_of, resolve, version_of}
use Rattle.lp_layout.specs.Layout.{IsSpelled}
use Rattle.lp_isa.specs.Programs.{FunRow, Program, StandsForVersion}
use Rattle.lp_inherit.specs.Heirs.{IsNumbered, IsUnambiguous, table, tables}
use Rattle.lp_plan_laws.specs.Laid.{row_names}
use Rattle.lp_plan_laws.specs.Tables.{IsNamedOnce, table_row}

-- the inheritance tree of a version tells of the versions alone
abbrev pub heritage_in : List Version → ProgId → Heritage
heritage_in versions v = heritage (record (new_world [] 0 0) { versions = versions }) v

-- a row of functions, as the meaning of programs has it: the locals are those beside the parameters
abbrev pub row_of : CodeRow → FunRow
row_of r = record { name = r.name; from = r.from; params = r.params; locals = r.locals - r.params }

-- the names of the rows in the tables of parents
abbrev pub rows_of : List Tables → List (List (List ℕ))
rows_of ts = map (λ t. row_names t.slots) ts

-- a program, as the meaning has it, with the names in the tables of its parents
abbrev pub program_of : RawProgram → List Tables → Program
program_of p ts = record { code = code_of p (rows_of ts); funs = map row_of p.funs; table = map table_row p.tables.slots }

-- A tree is as the one that a program was made for: it has the program's tables, and the same text, simul efuns and tables
-- of the parents. In none of its files are there more functions than rows can number, two functions of one name, or a name of
-- a variable that is used twice.
pub record IsTreeFor (p : RawProgram) (h k : Heritage) : Type 0 where
  pub items : (version_of k).items ≡ (version_of h).items
  pub simuls : (version_of k).simuls ≡ (version_of h).simuls
  pub own : table k ≡ p.tables
  pub parents : tables (parents_of k) ≡ tables (parents_of h)
  pub numbered : IsNumbered k
  pub unambiguous : IsUnambiguous k
  pub once : IsNamedOnce k

-- In none of the files of a tree is a name of a function or variable of other letters than those of ASCII.
abbrev mutual
  pub IsSpelledTree : Heritage → Type 0
  IsSpelledTree (Heir n v ps) = IsSpelled v.items × AreSpelledTrees ps

  pub AreSpelledTrees : Heritages → Type 0
  AreSpelledTrees NoParent = ⊤
  AreSpelledTrees (OneParent h hs) = IsSpelledTree h × AreSpelledTrees hs

-- A program fits a version: it is sound and small enough for its places, has the tables of the version's inheritance tree,
-- and stands for each tree that is as this one. Its calls of parents find their rows.
pub record FitsVersion (h : Heritage) (p : RawProgram) : Type 0 where
  pub sound : IsProgram p
  pub own : IsTreeFor p h h
  pub stands : (k : Heritage) → IsTreeFor p h k → StandsForVersion k (program_of p (tables (parents_of h)))
  pub rows : FindsRows p (rows_of (tables (parents_of h)))
  pub places : length p.instrs < 2 ^ 32
  pub parts : length p.tables.parts ≤ 65535
  pub variables : length p.tables.vars < 2 ^ 32
  pub spelled : IsSpelledTree h

-- each parent of a version has a lower number
abbrev pub AreRising : List Version → Type 0
AreRising versions = (n : ℕ) (v : Version) → slice_get versions n ≡ Some v → All (λ u. u.0 < n) v.parents

-- Each version has a program, which fits it.
pub record AreCompiled (programs : List RawProgram) (versions : List Version) : Type 0 where
  pub whole : length programs ≡ length versions
  pub rising : AreRising versions
  pub fit : (n : ℕ) (p : RawProgram) → slice_get programs n ≡ Some p → FitsVersion (heritage_in versions (record { 0 = n })) p

-- the same versions, but for their latest clocks
pub record AreSameVersions (old new : List Version) : Type 0 where
  pub count : length new ≡ length old
  pub each : (n : ℕ) (v u : Version) → slice_get old n ≡ Some v → slice_get new n ≡ Some u → IsSameVersion v u

-- Programs still fit where the latest clocks of versions changed.
abbrev pub StayCompiled : Type 0
StayCompiled = (programs : List RawProgram) (old new : List Version) → AreCompiled programs old → AreSameVersions old new → AreCompiled programs new

-- So a name that means a function is of ASCII.
abbrev pub NamesAreSpelled : Type 0
NamesAreSpelled = (programs : List RawProgram) (versions : List Version) (v : ProgId) (name : List ℕ) (f : Found) → AreCompiled programs versions → resolve (heritage_in versions v) name ≡ Some f → IsAscii name
