-- That the programs of all versions fit them, and still do where a file is compiled and becomes the next version.
use Rattle.std.specs.Prelude.{◌≡◌, ◌<◌, ◌^◌, ℕ, ⊤, List, [], ◌∷◌, ◌++◌, Some, length, slice_get}
use Rattle.lp_files.specs.declared.store.Store.{Store}
use Rattle.lp_values.specs.declared.id.ProgId.{ProgId}
use Rattle.lp_code.specs.declared.program.RawProgram.{RawProgram}
use Rattle.lp_code.specs.declared.tables.Tables.{Tables}
use Rattle.lp_code.specs.Programs.{FindsRows}
use Rattle.lp_values.specs.declared.id.ObjId.{ObjId}
use Rattle.lp_language.specs.World.{Version, World}
use Rattle.lp_meaning.specs.WorldSteps.{entered}
use Rattle.lp_part_laws.specs.Versions.{AreCompiled, rows_of}
use Rattle.lp_compile.specs.Compiles.{Compiles}
use Rattle.lp_compile.specs.Known.{Known}

-- a version has a program with these tables
pub record HasTables (programs : List RawProgram) (n : ProgId) (t : Tables) : Type 0 where
  pub program : RawProgram
  pub is : slice_get programs n.0 ≡ Some program
  pub tables : program.tables ≡ t

-- and so has each of some versions
abbrev pub HaveTables : List RawProgram → List ProgId → List Tables → Type 0
HaveTables programs [] [] = ⊤
HaveTables programs [] (t ∷ ts) = ⊥
HaveTables programs (n ∷ ns) [] = ⊥
HaveTables programs (n ∷ ns) (t ∷ ts) = HasTables programs n t × HaveTables programs ns ts

-- A version is that of a file which was compiled: it has its path, what the file declares, the names of the simul efuns, and the
-- parents that the program's tables name, whose programs have the tables with which it was compiled.
pub record IsVersionOf (files : Store) (path : List ℕ) (own : ProgId) (known : Known) (simuls : List (List ℕ)) (programs : List RawProgram) (p : RawProgram) (v : Version) : Type 0 where
  pub compiled : Compiles files path own known simuls p
  pub path_is : v.path ≡ path
  pub items : v.items ≡ compiled.items
  pub pragmas : v.pragmas ≡ compiled.pragmas
  pub simuls_are : v.simuls ≡ simuls
  pub parents : v.parents ≡ p.tables.parents
  pub tables : HaveTables programs v.parents compiled.parents
  pub rows : FindsRows p (rows_of compiled.parents)
  pub places : length p.instrs < 2 ^ 32

-- The programs of all versions still fit them where a file that was compiled for the next number becomes that version.
abbrev pub NewVersionFits : Type 0
NewVersionFits =
    (files : Store) (path : List ℕ) (own : ProgId) (known : Known) (simuls : List (List ℕ)) (programs : List RawProgram) (versions : List Version) (p : RawProgram) (v : Version)
    → AreCompiled programs versions → own.0 ≡ length versions → IsVersionOf files path own known simuls programs p v → AreCompiled (programs ++ p ∷ []) (versions ++ v ∷ [])

-- And so they do where an entry of a function counts, since it changes clocks alone.
abbrev pub EntryStillFits : Type 0
EntryStillFits = (programs : List RawProgram) (w : World) (o : ObjId) (p : ProgId) → AreCompiled programs w.versions → AreCompiled programs (entered w o p).versions
