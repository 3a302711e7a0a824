-- What a load has of compiling its file.
use Rattle.std.specs.Prelude.{◌≡◌, ◌⊎◌, ⊤, ℕ, List, [], Option, None, map, string_bytes}
use Rattle.lp_files.specs.declared.store.Store.{Store}
use Rattle.lp_values.specs.declared.id.ProgId.{ProgId}
use Rattle.lp_code.specs.declared.program.RawProgram.{RawProgram}
use Rattle.lp_language.specs.World.{World}
use Rattle.lp_meaning.specs.FileLoads.{Made, parents_in, version_known}
use Rattle.lp_meaning.specs.FrontEnd.{FrontEnd}
use Rattle.lp_meaning.specs.WorldSteps.{file_of_name}
use Rattle.lp_front_end.specs.FrontEnds.{IsFrontEnd}
use Rattle.lp_front_end.specs.Parents.{file_bytes}
use Rattle.lp_compile.specs.Compiles.{Compiles}
use Rattle.lp_compile.specs.Known.{Known}
use Rattle.lp_compile.specs.declared.fault.CompileFault.{CompileFault}
use Rattle.lp_compile.specs.declared.fault.CompileFault.TheVariants as refusals
use Rattle.lp_compile_laws.specs.Told.{IsChecked, IsFaultyFile, IsFaultyUnit, IsMissing}
use Rattle.lp_fits.specs.Fits.{HaveTables}
use Rattle.lp_swapfile.specs.Device.{Bytes}
use Rattle.lp_world.specs.declared.live.Live.{Live}
use Rattle.lp_targets.specs.Callees.{IsWorldOf}
use Rattle.lp_loading.specs.Present.{known_of, version_of_file}
use Rattle.lp_loading.specs.declared.compiling.Compiled.{Compiled}
use Rattle.lp_loading.specs.declared.compiling.Compiled.TheVariants as compiled

-- The program of the file of a name, compiled for a version with this number: the front end reads the file, knows all its parents
-- and finds no fault of it; the program names the versions of these parents, with whose tables it was compiled.
pub record IsProgramFor (front : FrontEnd) (store : Store) (programs : List RawProgram) (w : World) (made : List Made) (name : List ℕ) (own : ProgId) (simuls : List (List ℕ)) (p : RawProgram) : Type 0 where
  pub known : Known
  pub compiles : Compiles store (file_bytes name) own known simuls p
  pub checked : IsChecked front w made (file_of_name name) simuls compiles.items compiles.pragmas []
  pub parents : p.tables.parents ≡ map (version_known w made) (parents_in compiles.items)
  pub tables : HaveTables programs p.tables.parents compiles.parents

-- What compiling the file of a name gives, in a world: its program; or its faults; or the first of its parents that is not known.
abbrev pub IsCompiledTo : Compiled → FrontEnd → Store → List RawProgram → World → List Made → List ℕ → ProgId → List (List ℕ) → Type 0
IsCompiledTo (compiled.Made p) front store programs w made name own simuls = IsProgramFor front store programs w made name own simuls p
IsCompiledTo (compiled.Faulty fs) front store programs w made name own simuls =
    IsFaultyFile front w (file_of_name name) fs.items ⊎ IsFaultyUnit front w made (file_of_name name) simuls fs.items
IsCompiledTo (compiled.Missing file) front store programs w made name own simuls = IsMissing front w made (file_of_name name) file

-- So it is in each world for which the state stood, and the state stands for that world still.
pub record IsCompiledIn (r : Compiled) (made : List Made) (name : List ℕ) (own : ProgId) (simuls : List (List ℕ)) (told : Option Bytes) (live : Live) (programs : List RawProgram) (w : World) : Type 0 where
  pub world : IsWorldOf told programs live w
  pub front_end : (front : FrontEnd) → IsFrontEnd front → IsCompiledTo r front live.store programs w made name own simuls

abbrev pub CompilesTo : Compiled → List Made → List ℕ → ProgId → List (List ℕ) → Option Bytes → Live → Option Bytes → Live → Type 0
CompilesTo r made name own simuls told0 live0 told1 live1 = (programs : List RawProgram) (w : World) → IsWorldOf told0 programs live0 w → IsCompiledIn r made name own simuls told1 live1 programs w

-- Once

-- a parent's tables are not at hand
abbrev pub IsUnknown : CompileFault → List Made → Live → Type 0
IsUnknown (refusals.Need file) made live = known_of made live (string_bytes file) ≡ None
IsUnknown (refusals.Faults fs) made live = ⊤
IsUnknown refusals.TooLarge made live = ⊤
IsUnknown refusals.NoMemory made live = ⊤

-- The answer is this file, of which the state has no version, nor has the load made one.
abbrev pub IsMissingHere : Compiled → List Made → Live → List ℕ → Type 0
IsMissingHere (compiled.Missing file) made live needed = (file ≡ needed) × (version_of_file made live needed ≡ None)
IsMissingHere (compiled.Made p) made live needed = ⊥
IsMissingHere (compiled.Faulty fs) made live needed = ⊥

-- what a refusal leads to, where no program came into memory
abbrev pub IsRefusedTo : Compiled → CompileFault → List Made → Live → Type 0
IsRefusedTo r (refusals.Need file) made live = IsMissingHere r made live (string_bytes file)
IsRefusedTo (compiled.Faulty fs) (refusals.Faults gs) made live = fs ≡ gs
IsRefusedTo _ _ made live = ⊥
