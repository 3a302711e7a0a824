use Rattle.std.proofs.Common.{Ok, IsSome}
use Rattle.lp_world.specs.Closed.{IsClosed}
use Rattle.lp_targets.specs.Brought.{Brings, program_at}
use Rattle.lp_beginning.specs.Beginning.{ArePartsBelow, StandsStill}
use Rattle.lp_beginning.proofs.parts.parts_below.Given as goal

abbrev pub invariant-loop-part : goal.invariant-loop-part
invariant-loop-part g l = record {
  closed : IsClosed l.live;
  here : IsSome (program_at l.live.versions l.version);
  truthful : g.W.SwapFile.is_truthful l.swap;
  brings : Brings {A = Unit {0}} (g.W.SwapFile.content l.fn.swap) (g.W.SwapFile.content l.swap) (g.W.SwapFile.last l.swap) (g.W.SwapFile.read_faults l.fn.swap) (g.W.SwapFile.read_faults l.swap) (g.W.SwapFile.write_faults l.fn.swap) (g.W.SwapFile.write_faults l.swap)
      (g.W.SwapFile.is_truthful l.fn.swap) (g.W.SwapFile.is_truthful l.swap) (g.W.SwapFile.is_honest l.fn.swap) (g.W.SwapFile.is_honest l.swap) l.fn.live l.live (Ok tt);
  stands : StandsStill (g.W.SwapFile.content l.fn.swap) l.fn.live (g.W.SwapFile.content l.swap) l.live;
  parts : ArePartsBelow (g.W.SwapFile.content l.fn.swap) l.fn.live l.version l.part l.found.items;
}
