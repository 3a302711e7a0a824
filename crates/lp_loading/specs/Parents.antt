-- When a load asks for a parent.
use Rattle.std.specs.Prelude.{◌≡◌, ℕ, suc, false, List, Option, nat_lt}
use Rattle.lp_code.specs.declared.program.RawProgram.{RawProgram}
use Rattle.lp_swapfile.specs.Device.{Bytes}
use Rattle.lp_language.specs.World.{World}
use Rattle.lp_meaning.specs.FileLoads.{is_under_way}
use Rattle.lp_meaning.specs.FrontEnd.{FrontEnd}
use Rattle.lp_meaning.specs.Limits.{max_nested}
use Rattle.lp_meaning.specs.WorldSteps.{file_of_name}
use Rattle.lp_front_end.specs.FrontEnds.{IsFrontEnd}
use Rattle.lp_front_end.specs.Parents.{file_bytes}
use Rattle.lp_compile_laws.specs.Told.{IsMissing}
use Rattle.lp_world.specs.declared.live.Live.{Live}
use Rattle.lp_asking.specs.declared.asker.Loading.{Loading}
use Rattle.lp_targets.specs.Callees.{IsWorldOf}
use Rattle.lp_loading.specs.declared.job.LoadJob.{LoadJob}
use Rattle.lp_loading.specs.Loads.{loads_of}
use Rattle.lp_loading.specs.Present.{all_made}

-- It is the first that is missing, its load is not under way, and loads are not nested too deep.
pub record AsksParent (job : LoadJob) (loads : List Loading) (told : Option Bytes) (live : Live) (name : List ℕ) : Type 0 where
  pub missing : (front : FrontEnd) (programs : List RawProgram) (w : World) → IsFrontEnd front → IsWorldOf told programs live w → IsMissing front w (all_made job.made.items) (file_of_name job.name) (file_bytes name)
  pub away : is_under_way name (loads_of loads) ≡ false
  pub shallow : nat_lt max_nested (suc job.nested) ≡ false
