use Rattle.std.proofs.Common.{◌≡◌, [], Ok}
use Rattle.lp_world.specs.Closed.{IsClosed}
use Rattle.lp_turn.specs.Going.{AreStepValuesThere}
use Rattle.lp_vm.specs.Causes.{Tells}
use Rattle.lp_driver.specs.Carrying.{RestsForOne}
use Rattle.lp_driver.specs.Turning.{IsStepAskedThere, TurnContinues}
use Rattle.lp_driver.proofs.Turns.{calls_of_step}
use Rattle.lp_driver.proofs.turning.run_step.Given as goal

-- what the step stands for, the first one stood for
abbrev pub invariant-calls : goal.invariant-calls
invariant-calls g l = record {
  closed : IsClosed l.live;
  empty : l.stack.items ≡ [];
  rests : RestsForOne (g.W.SwapFile.content l.swap) l.live;
  object : IsStepAskedThere l.live.objects l.step;
  values : AreStepValuesThere l.live.cells l.step;
  continues : TurnContinues l.fn.step (g.W.SwapFile.content l.fn.swap) l.fn.live (g.W.SwapFile.content l.swap) l.live l.step;
  tells : Tells (g.W.SwapFile.content l.swap) (g.W.SwapFile.last l.swap) (g.W.SwapFile.read_faults l.fn.swap) (g.W.SwapFile.read_faults l.swap) (g.W.SwapFile.write_faults l.fn.swap) (g.W.SwapFile.write_faults l.swap) (g.W.SwapFile.is_truthful l.fn.swap) (g.W.SwapFile.is_truthful l.swap) (g.W.SwapFile.is_honest l.fn.swap) (g.W.SwapFile.is_honest l.swap) l.live (Ok tt);
}

abbrev pub decreases-calls : goal.decreases-calls
decreases-calls g l = calls_of_step l.step
