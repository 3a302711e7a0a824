use Rattle.std.proofs.Common.{Some}
use Rattle.lp_calling.specs.Questions.{applied_name}
use Rattle.lp_vm.proofs.Reachings.{can_apply_by}
use Rattle.lp_vm.proofs.asking.reach_applied.Goals as goal

pub find_applied-requires-clause-can : goal.find_applied-requires-clause-can
find_applied-requires-clause-can g c =
    let h = c.requires.can in
    can_apply_by (Some c.args.this) c.args.ob (applied_name c.args.applied) c.name.result.now (g.W.SwapFile.content c.args.swap.now) c.args.live.now c.name.ensures.bytes (record { programs = h.programs; asker = h.asker; ask = h.ask; asks = h.asks; world = h.world })
