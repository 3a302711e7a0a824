use Rattle.std.proofs.Common.{◌≡◌, ◌-◌, ◌++◌, List, Ok, drop}
use Rattle.lp_targets.specs.Brought.{Brings}
use Rattle.lp_beginning.specs.Beginning.{StandsStill}
use Rattle.lp_code.specs.declared.program.RawProgram.{RawProgram}
use Rattle.lp_language.specs.Resolve.{each_heritage, heritage_within}
use Rattle.lp_language.specs.World.{World}
use Rattle.lp_targets.specs.Callees.{IsWorldOf}
use Rattle.lp_world.specs.Closed.{IsClosed}
use Rattle.lp_loading.specs.Present.{KeepsWorlds}
use Rattle.lp_loading.specs.Simuls.{open_before, open_in}
use Rattle.lp_loading.proofs.simuls.+put_tree.Given as goal

abbrev pub decreases-put_tree : goal.decreases-put_tree
decreases-put_tree g l = l.depth

abbrev pub invariant-loop-p : goal.invariant-loop-p
invariant-loop-p g l = record {
  closed : IsClosed l.live;
  worlds : KeepsWorlds (g.W.SwapFile.content l.fn.swap) l.fn.live (g.W.SwapFile.content l.swap) l.live;
  store : l.live.store ≡ l.fn.live.store;
  outputs : l.live.outputs ≡ l.fn.live.outputs;
  objects : l.live.objects ≡ l.fn.live.objects;
  cells : l.live.cells ≡ l.fn.live.cells;
  brings : Brings {A = Unit {0}} (g.W.SwapFile.content l.fn.swap) (g.W.SwapFile.content l.swap) (g.W.SwapFile.last l.swap) (g.W.SwapFile.read_faults l.fn.swap) (g.W.SwapFile.read_faults l.swap) (g.W.SwapFile.write_faults l.fn.swap) (g.W.SwapFile.write_faults l.swap)
      (g.W.SwapFile.is_truthful l.fn.swap) (g.W.SwapFile.is_truthful l.swap) (g.W.SwapFile.is_honest l.fn.swap) (g.W.SwapFile.is_honest l.swap) l.fn.live l.live (Ok tt);
  stands : g.W.SwapFile.is_truthful l.swap → StandsStill (g.W.SwapFile.content l.fn.swap) l.fn.live (g.W.SwapFile.content l.swap) l.live;
  names : (programs : List RawProgram) (w : World) → IsWorldOf (g.W.SwapFile.content l.fn.swap) programs l.fn.live w
      → l.names.items ++ open_before l.whole (each_heritage (heritage_within (l.depth - 1) w) (drop l.p-index l.parents)) ≡ l.fn.names.items ++ open_in l.whole (heritage_within l.depth w l.fn.version);
}
