use Rattle.std.proofs.Common.{◌≡◌, ◌≤◌, List, filter}
use Rattle.lp_code.specs.declared.program.RawProgram.{RawProgram}
use Rattle.lp_language.specs.World.{World}
use Rattle.lp_swapfile.specs.Device.{IsTold}
use Rattle.lp_world.specs.Closed.{IsClosed}
use Rattle.lp_world.specs.Stands.{Stands}
use Rattle.lp_residence.specs.Idling.{ArePut, IsUntouched, first_objects, goes, none_yet, together}
use Rattle.lp_residence.proofs.idling.idle_objects.Given as goal

abbrev pub invariant-loop-n : goal.invariant-loop-n
invariant-loop-n g l = record {
  closed : IsClosed l.live;
  stands : IsTold (g.W.SwapFile.content l.fn.swap) → IsTold (g.W.SwapFile.content l.swap) × ((programs : List RawProgram) (w : World) → Stands (g.W.SwapFile.content l.fn.swap) programs l.fn.live w → Stands (g.W.SwapFile.content l.swap) programs l.live w);
  put : ArePut (filter (goes l.swap_time l.fn.live) (first_objects l.n)) l.fn.live (record { told = g.W.SwapFile.content l.fn.swap; faults = g.W.SwapFile.write_faults l.fn.swap }) none_yet l.live (record { told = g.W.SwapFile.content l.swap; faults = g.W.SwapFile.write_faults l.swap }) l.counts;
  untouched : IsUntouched l.n l.fn.live l.live;
  few : together l.counts ≤ l.n;
  read_faults : g.W.SwapFile.read_faults l.swap ≡ g.W.SwapFile.read_faults l.fn.swap;
  honest : g.W.SwapFile.is_honest l.swap → g.W.SwapFile.is_honest l.fn.swap;
  truthful : g.W.SwapFile.is_truthful l.swap → g.W.SwapFile.is_truthful l.fn.swap;
}
