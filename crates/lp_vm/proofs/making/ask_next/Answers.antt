use Rattle.std.proofs.Common.{subst, sym}
use Rattle.std.specs.Prelude.{IsSome}
use Rattle.lp_values.specs.declared.id.ObjId.{ObjId}
use Rattle.lp_world.specs.Rows.{row_at}
use Rattle.lp_vm.proofs.Makings.{asks_for_it, can_reach_for}
use Rattle.lp_vm.proofs.making.ask_next.Goals as goal

pub reach_for-requires-clause-object : goal.reach_for-requires-clause-object
reach_for-requires-clause-object g c =
    subst (λ (o : ObjId). IsSome (row_at c.args.live.now.objects o.0)) (sym (asks_for_it c.args.caller c.args.making.now (g.W.SwapFile.content c.args.swap.now) c.args.live.now c.next.result c.next.ensures c.requires.can)) c.requires.object

pub reach_for-requires-clause-can : goal.reach_for-requires-clause-can
reach_for-requires-clause-can g c = can_reach_for c.args.caller c.args.making.now (g.W.SwapFile.content c.args.swap.now) c.args.live.now c.next.result c.next.ensures c.requires.can
