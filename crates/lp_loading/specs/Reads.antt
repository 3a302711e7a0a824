-- The file of a load was read and compiled.
use Rattle.std.specs.Prelude.{◌≡◌, List, Option, length}
use Rattle.lp_values.specs.declared.id.ProgId.{ProgId}
use Rattle.lp_code.specs.declared.program.RawProgram.{RawProgram}
use Rattle.lp_swapfile.specs.Device.{Bytes}
use Rattle.lp_language.specs.World.{World}
use Rattle.lp_meaning.specs.FileLoads.{simul_names}
use Rattle.lp_world.specs.declared.live.Live.{Live}
use Rattle.lp_asking.specs.declared.asker.Loading.{Loading}
use Rattle.lp_targets.specs.Callees.{IsWorldOf}
use Rattle.lp_loading.specs.declared.compiling.Compiled.{Compiled}
use Rattle.lp_loading.specs.declared.job.LoadJob.{LoadJob}
use Rattle.lp_loading.specs.Compiling.{IsCompiledIn}
use Rattle.lp_loading.specs.Loads.{loads_of}
use Rattle.lp_loading.specs.Present.{all_made}

-- What that gave it, in each world for which the state stood, with the names that its file sees while these loads are under way.
-- A program is for the next number. Programs came into memory for it, and the state is the same else.
pub record HasRead (r : Compiled) (job : LoadJob) (loads : List Loading) (told0 : Option Bytes) (live0 : Live) (told1 : Option Bytes) (live1 : Live) : Type 0 where
  pub own : ProgId
  pub next : own.0 ≡ length live1.versions
  pub outputs : live1.outputs ≡ live0.outputs
  pub cells : live1.cells ≡ live0.cells
  pub is : (programs : List RawProgram) (w : World) → IsWorldOf told0 programs live0 w → IsCompiledIn r (all_made job.made.items) job.name own (simul_names w (loads_of loads)) told1 live1 programs w
