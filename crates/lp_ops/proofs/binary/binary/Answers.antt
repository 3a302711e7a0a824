use Rattle.std.proofs.Common.{subst, sym}
use Rattle.lp_ops.specs.Effects.{IsEffectThere}
use Rattle.lp_ops.specs.Operands.{opened}
use Rattle.lp_ops.proofs.ClosedLemmas.{opened_there, result_there, within_there}
use Rattle.lp_ops.proofs.binary.binary.Goals as goal

pub returns-clause-closed : goal.returns-clause-closed
returns-clause-closed g c = λ h.
    c.carry_out.ensures.closed h (subst (IsEffectThere c.args.cells.now) (sym c.in_ok-effect.ensures) (within_there c.args.cells.now _ (result_there (g.L.Living.live c.args.live.now) c.args.cells.now c.args.op (opened (g.L.Living.live c.args.live.now) c.args.cells.now c.in_ok-a.a) (opened (g.L.Living.live c.args.live.now) c.args.cells.now c.in_ok-b.b) (opened_there (g.L.Living.live c.args.live.now) c.args.cells.now c.in_ok-a.a h) (opened_there (g.L.Living.live c.args.live.now) c.args.cells.now c.in_ok-b.b h))))
