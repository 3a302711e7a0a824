use Rattle.lp_residence.specs.declared.owner.Owner.TheVariants as owners
use Rattle.lp_targets.proofs.Memory.{entered_brings, inside_after}
use Rattle.lp_saving.proofs.keeper.bring_object.Goals as goal

pub returns-clause-brings : goal.returns-clause-brings
returns-clause-brings g c =
    let e = c.enter.ensures in
    entered_brings (owners.Object c.args.ob) (g.W.SwapFile.content c.args.swap.now) (g.W.SwapFile.content c.enter.new.swap) (g.W.SwapFile.last c.enter.new.swap) (g.W.SwapFile.read_faults c.args.swap.now) (g.W.SwapFile.read_faults c.enter.new.swap) (g.W.SwapFile.write_faults c.args.swap.now) (g.W.SwapFile.write_faults c.enter.new.swap) (g.W.SwapFile.is_truthful c.args.swap.now) (g.W.SwapFile.is_truthful c.enter.new.swap) (g.W.SwapFile.is_honest c.args.swap.now) (g.W.SwapFile.is_honest c.enter.new.swap) c.args.live.now c.enter.new.live c.enter.result
    e.entered e.same e.cause e.faults e.write_faults e.kept e.truthful e.honest

pub returns-clause-here : goal.returns-clause-here
returns-clause-here g c = inside_after (owners.Object c.args.ob) c.args.live.now c.enter.new.live c.enter.result c.requires.there c.enter.ensures.entered
