use Rattle.lp_residence.specs.declared.owner.Owner.TheVariants as owners
use Rattle.lp_targets.proofs.Memory.{entered_brings}
use Rattle.lp_shadowing.proofs.programs.bring_program.Goals as goal

pub returns-clause-brings : goal.returns-clause-brings
returns-clause-brings g c =
    let e = c.enter_program.ensures in
    entered_brings (owners.Program c.args.p) (g.W.SwapFile.content c.args.swap.now) (g.W.SwapFile.content c.enter_program.new.swap) (g.W.SwapFile.last c.enter_program.new.swap) (g.W.SwapFile.read_faults c.args.swap.now) (g.W.SwapFile.read_faults c.enter_program.new.swap) (g.W.SwapFile.write_faults c.args.swap.now) (g.W.SwapFile.write_faults c.enter_program.new.swap) (g.W.SwapFile.is_truthful c.args.swap.now) (g.W.SwapFile.is_truthful c.enter_program.new.swap) (g.W.SwapFile.is_honest c.args.swap.now) (g.W.SwapFile.is_honest c.enter_program.new.swap) c.args.live.now c.enter_program.new.live c.enter_program.result
    e.entered e.same e.cause e.faults e.write_faults e.kept e.truthful e.honest
