-- What is loaded for a file that is compiled: the live blueprints of files, with the tables of their versions.
use Rattle.std.specs.Prelude.{◌≡◌, ℕ, List, [], ◌∷◌, Option, Some, None, slice_get, if◌then◌else◌}
use Rattle.std.specs.BTreeMap.{get_by_text}
use Rattle.std.specs.Str.{IsAscii}
use Rattle.lp_values.specs.declared.id.ObjId.{ObjId}
use Rattle.lp_values.specs.declared.id.ProgId.{ProgId}
use Rattle.lp_code.specs.declared.program.RawProgram.{RawProgram}
use Rattle.lp_code.specs.declared.tables.Tables.{Tables}
use Rattle.lp_instr.specs.EfunList.{is_name}
use Rattle.lp_objects.specs.Objects.{Named}
use Rattle.lp_objects.specs.Stands as names
use Rattle.lp_objects.specs.declared.objects.Objects.{Objects}
use Rattle.lp_swapfile.specs.Device.{Bytes}
use Rattle.lp_layout.specs.Layout.{AreInside}
use Rattle.lp_language.specs.World.{World, object_at}
use Rattle.lp_language.specs.Resolve.{without_c}
use Rattle.lp_meaning.specs.WorldSteps.{is_clone_name, reloaded_blueprint}
use Rattle.lp_front.specs.Settling.{own_version}
use Rattle.lp_compile.specs.Known.{Known}
use Rattle.lp_world.specs.Rows.{row_at}
use Rattle.lp_world.specs.Stands.{Stands}
use Rattle.lp_world.specs.declared.live.Live.{Live}
use Rattle.lp_world.specs.declared.objects.Object.{Object}
use Rattle.lp_making.specs.Objects.{program_at}
use Rattle.lp_making.specs.Trees.{HaveTables}

-- the serial of the live blueprint with a name, in the table of names
abbrev pub serial_of : Objects → List ℕ → Option ObjId
serial_of t name = if is_clone_name name then None else get_by_text t.serials name

-- the serial of that of a file, whose path ends in `.c`
abbrev pub blueprint_in : Objects → List ℕ → Option ObjId
blueprint_in t path = if is_name (without_c path) path then None else serial_of t (without_c path)

-- the version of an object that is there
abbrev pub version_in : Option Object → Option ProgId
version_in None = None
version_in (Some o) = Some o.program

abbrev pub version_at : Live → Option ObjId → Option ProgId
version_at l None = None
version_at l (Some o) = version_in (row_at l.objects o.0)

-- the tables of a program, where there is one
abbrev pub tables_in : Option RawProgram → Option Tables
tables_in None = None
tables_in (Some p) = Some p.tables

abbrev pub tables_of : Live → Option ProgId → Option Tables
tables_of l None = None
tables_of l (Some v) = tables_in (program_at l.versions v)

-- The tables of the version of the live blueprint of a file, where its program is in memory.
abbrev pub known_in : Live → Known
known_in l path = tables_of l (version_at l (blueprint_in l.names path))

-- A state in which files may be compiled: names stand for some objects, and each program in memory has its version as the last
-- part of its tables, and rows in its own parts.
pub record IsReady (l : Live) : Type 0 where
  pub objects : List Named
  pub names : names.Stands l.names objects
  pub own : (v : ProgId) (p : RawProgram) → program_at l.versions v ≡ Some p → own_version p.tables ≡ Some v
  pub inside : (v : ProgId) (p : RawProgram) → program_at l.versions v ≡ Some p → AreInside (p.tables ∷ [])

-- A state is so where it stands for a world whose programs have the tables of their versions.
abbrev pub StandingIsReady : Type 0
StandingIsReady = (told : Option Bytes) (programs : List RawProgram) (live : Live) (w : World) → Stands told programs live w → HaveTables programs w.versions → IsReady live

-- Tables that are known are those of the program of the live blueprint's version.
pub record IsOfBlueprint (programs : List RawProgram) (w : World) (path : List ℕ) (t : Tables) : Type 0 where
  pub object : ObjId
  pub blueprint : reloaded_blueprint w path ≡ Some object
  pub program : RawProgram
  pub is : slice_get programs (object_at w object).version.0 ≡ Some program
  pub tables : program.tables ≡ t

-- What is known of a file, by a path of letters of ASCII, is the tables of the live blueprint's version, where the state has the
-- blueprint and its program is in memory.
pub record KnownIs (programs : List RawProgram) (live : Live) (w : World) (path : List ℕ) : Type 0 where
  pub known : (t : Tables) → known_in live path ≡ Some t → IsOfBlueprint programs w path t
  pub there : (o : ObjId) (p : RawProgram) (row : Object) → row_at live.objects o.0 ≡ Some row → reloaded_blueprint w path ≡ Some o → program_at live.versions (object_at w o).version ≡ Some p → known_in live path ≡ Some p.tables

abbrev pub KnownIsBlueprints : Type 0
KnownIsBlueprints = (told : Option Bytes) (programs : List RawProgram) (live : Live) (w : World) (path : List ℕ) → IsAscii path → Stands told programs live w → KnownIs programs live w path
