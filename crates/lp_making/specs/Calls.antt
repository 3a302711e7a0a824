-- Calls of the functions of parents, by their rows.
use Rattle.std.specs.Prelude.{◌≡◌, ℕ, ⊤, List, [], ◌∷◌, map, Option, Some, slice_get}
use Rattle.lp_values.specs.declared.id.ProgId.{ProgId}
use Rattle.lp_code.specs.declared.program.RawProgram.{RawProgram}
use Rattle.lp_code.specs.declared.tables.Slot.{Slot}
use Rattle.lp_code.specs.declared.tables.Tables.{Tables}
use Rattle.lp_code.specs.Programs.{FindsRows}
use Rattle.lp_swapfile.specs.Device.{Bytes}
use Rattle.lp_language.specs.World.{World}
use Rattle.lp_world.specs.Closed.{IsClosed}
use Rattle.lp_world.specs.Stands.{Stands}
use Rattle.lp_world.specs.declared.live.Live.{Live}
use Rattle.lp_world.specs.declared.versions.ProgramState.TheVariants as programs_of
use Rattle.lp_world.specs.declared.versions.Version.{Version}

-- a version has a program with these tables
pub record HasTablesAt (programs : List RawProgram) (n : ProgId) (t : Tables) : Type 0 where
  pub program : RawProgram
  pub is : slice_get programs n.0 ≡ Some program
  pub tables : program.tables ≡ t

-- and so has each of some versions
abbrev pub HaveTablesAt : List RawProgram → List ProgId → List Tables → Type 0
HaveTablesAt programs [] [] = ⊤
HaveTablesAt programs [] (t ∷ ts) = ⊥
HaveTablesAt programs (n ∷ ns) [] = ⊥
HaveTablesAt programs (n ∷ ns) (t ∷ ts) = HasTablesAt programs n t × HaveTablesAt programs ns ts

-- the names of the rows in some tables
abbrev pub row_names : List Tables → List (List (List ℕ))
row_names ts = map (λ t. map (λ (s : Slot). s.name) t.slots) ts

-- The calls of parents' rows in a program that is in memory find them in the tables of its parents.
abbrev pub CallsFindRows : Type 0
CallsFindRows =
    (told : Option Bytes) (programs : List RawProgram) (live : Live) (w : World) (n : ℕ) (row : Version) (p : RawProgram) (ts : List Tables) → Stands told programs live w → IsClosed live
    → slice_get live.versions n ≡ Some (Some row) → row.state ≡ programs_of.Resident p → HaveTablesAt programs p.tables.parents ts → FindsRows p (row_names ts)
