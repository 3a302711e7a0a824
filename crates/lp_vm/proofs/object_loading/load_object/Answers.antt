use Rattle.lp_targets.proofs.Lookups.{if_ok}
use Rattle.lp_vm.proofs.ObjectLoads.{object_can, object_meant}
use Rattle.lp_vm.proofs.object_loading.load_object.Goals as goal

pub load-requires-clause-can : goal.load-requires-clause-can
load-requires-clause-can g c = object_can c.args.name.now (g.W.SwapFile.content c.args.swap.now) c.args.live.now c.args.asker.now c.args.budget.now c.law_there_is_one.ensures c.requires.can

pub returns-clause-meant : goal.returns-clause-meant
returns-clause-meant g c =
    if_ok c.load.result
    (λ r h. object_meant c.args.name.now (g.W.SwapFile.content c.args.swap.now) c.args.live.now c.args.asker.now c.args.budget.now (g.W.SwapFile.content c.load.new.swap) c.load.new.live c.args.stack.now.items c.load.new.stack.items c.load.new.asker c.load.new.budget r h)
    c.load.ensures.loads
