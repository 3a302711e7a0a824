-- What a file that is compiled for a load meets of the live state: the versions that the load made for parents, and the live
-- blueprints of other files, with the tables of their programs.
use Rattle.std.specs.Prelude.{◌≡◌, ◌+◌, ℕ, List, ◌∷◌, [], Bool, true, false, Option, Some, None, map, if◌then◌else◌}
use Rattle.std.specs.Str.{chars, is_utf8}
use Rattle.lp_values.specs.declared.id.ProgId.{ProgId}
use Rattle.lp_code.specs.declared.program.RawProgram.{RawProgram}
use Rattle.lp_instr.specs.EfunList.{is_name}
use Rattle.lp_swapfile.specs.Device.{Bytes}
use Rattle.lp_language.specs.World.{World}
use Rattle.lp_language.specs.Resolve.{or_else, without_c}
use Rattle.lp_meaning.specs.FileLoads.{Made, made_for}
use Rattle.lp_compile.specs.Known.{Known}
use Rattle.lp_unit_laws.specs.Versions.{IsOfVersion}
use Rattle.lp_world.specs.declared.live.Live.{Live}
use Rattle.lp_world.specs.declared.versions.ProgramState.{ProgramState}
use Rattle.lp_world.specs.declared.versions.ProgramState.TheVariants as programs_of
use Rattle.lp_world.specs.declared.versions.Version.{Version}
use Rattle.lp_making.specs.Objects.{program_at}
use Rattle.lp_targets.specs.Callees.{IsWorldOf}
use Rattle.lp_loaded.specs.Present.{IsReady, serial_of, tables_of, version_at}
use Rattle.lp_loading.specs.declared.job.MadeFor.{MadeFor}

-- a version that a load made for a parent, as the meaning has it
abbrev pub made_of : MadeFor → Made
made_of m = record { name = m.name; version = m.version }

-- all of them, the latest first
abbrev pub all_made : List MadeFor → List Made
all_made ms = map made_of ms

-- The version of a parent, by its name in UTF-8: the one that the load made for it, and else that of its live blueprint.
abbrev pub version_named : List Made → Live → List ℕ → Option ProgId
version_named made live name = or_else (made_for made (chars name)) (version_at live (serial_of live.names name))

-- The same by its file, whose path ends in `.c`.
abbrev pub version_in_file : List Made → Live → List ℕ → Option ProgId
version_in_file made live path = if is_name (without_c path) path then None else version_named made live (without_c path)

abbrev pub version_of_file : List Made → Live → List ℕ → Option ProgId
version_of_file made live path = if is_utf8 path then version_in_file made live path else None

-- the tables of that version, where its program is in memory
abbrev pub known_of : List Made → Live → Known
known_of made live path = tables_of live (version_of_file made live path)

-- whether a program is out
abbrev pub is_swapped : ProgramState → Bool
is_swapped (programs_of.Resident p) = false
is_swapped (programs_of.Swapped t) = true

-- A state in which files may be compiled: each program in memory has its version as the last part of its tables, has rows in its
-- own parts, and has the tables of some version whose files have no fault.
pub record IsReadyFor (l : Live) : Type 0 where
  pub ready : IsReady l
  pub of : (v : ProgId) (p : RawProgram) → program_at l.versions v ≡ Some p → IsOfVersion p.tables

-- What a file that is compiled sees: the state, the versions that its load made for parents, and the names of the simul efuns.
pub record Sight : Type 0 where
  pub live : Live
  pub made : List MadeFor
  pub simuls : List (List ℕ)

-- A state stands for some world whose programs fit their versions.
pub record HasWorld (told : Option Bytes) (live : Live) : Type 0 where
  pub programs : List RawProgram
  pub world : World
  pub is : IsWorldOf told programs live world

-- Such a state is ready.
abbrev pub WorldsAreReady : Type 0
WorldsAreReady = (told : Option Bytes) (programs : List RawProgram) (live : Live) (w : World) → IsWorldOf told programs live w → IsReadyFor live

-- what was a world of the state is one still
abbrev pub KeepsWorlds : Option Bytes → Live → Option Bytes → Live → Type 0
KeepsWorlds told0 live0 told1 live1 = (programs : List RawProgram) (w : World) → IsWorldOf told0 programs live0 w → IsWorldOf told1 programs live1 w

-- how many versions have their programs out
abbrev pub is_out : Option Version → Bool
is_out None = false
is_out (Some v) = is_swapped v.state

abbrev pub one_if : Bool → ℕ
one_if true = 1
one_if false = 0

abbrev pub out_count : List (Option Version) → ℕ
out_count [] = 0
out_count (r ∷ rs) = one_if (is_out r) + out_count rs
