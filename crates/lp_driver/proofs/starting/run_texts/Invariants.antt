use Rattle.std.proofs.Common.{◌≡◌, [], Ok}
use Rattle.lp_world.specs.Closed.{IsClosed}
use Rattle.lp_turn.specs.Starting.{AreStartValuesThere}
use Rattle.lp_vm.specs.Causes.{Tells}
use Rattle.lp_driver.specs.Carrying.{RestsForOne}
use Rattle.lp_driver.specs.Starting.{IsLastStep, IsStartAskedThere, StartContinues}
use Rattle.lp_driver.proofs.Starts.{texts_of_step}
use Rattle.lp_driver.proofs.starting.run_texts.Given as goal

-- what the step stands for, the first one stood for
abbrev pub invariant-texts : goal.invariant-texts
invariant-texts g l = record {
  closed : IsClosed l.live;
  empty : l.stack.items ≡ [];
  rests : RestsForOne (g.W.SwapFile.content l.swap) l.live;
  last : IsLastStep l.step;
  object : IsStartAskedThere l.live.objects l.step;
  values : AreStartValuesThere l.live.cells l.step;
  continues : StartContinues l.fn.step (g.W.SwapFile.content l.fn.swap) l.fn.live (g.W.SwapFile.content l.swap) l.live l.step;
  tells : Tells (g.W.SwapFile.content l.swap) (g.W.SwapFile.last l.swap) (g.W.SwapFile.read_faults l.fn.swap) (g.W.SwapFile.read_faults l.swap) (g.W.SwapFile.write_faults l.fn.swap) (g.W.SwapFile.write_faults l.swap) (g.W.SwapFile.is_truthful l.fn.swap) (g.W.SwapFile.is_truthful l.swap) (g.W.SwapFile.is_honest l.fn.swap) (g.W.SwapFile.is_honest l.swap) l.live (Ok tt);
}

abbrev pub decreases-texts : goal.decreases-texts
decreases-texts g l = texts_of_step l.step
