use Rattle.std.proofs.Common.{subst, sym}
use Rattle.lp_cloning.specs.declared.job.Begun.TheVariants as begun
use Rattle.lp_cloning.specs.Beginning.{Begins}
use Rattle.lp_vm.proofs.cloning.begin_clone.Goals as goal

pub returns-in_ok-without_value-in-Ends-clause-begins : goal.returns-in_ok-without_value-in-Ends-clause-begins
returns-in_ok-without_value-in-Ends-clause-begins g c =
    subst (λ e. Begins (begun.Ends e) (g.W.SwapFile.content c.args.swap.now) c.args.live.now c.args.stack.now.items c.args.args c.args.budget.now c.begin.new.live c.begin.new.stack.items c.begin.new.budget) (sym c.in_ok-without_value-in-Ends.ensures.same)
    (subst (λ r. Begins r (g.W.SwapFile.content c.args.swap.now) c.args.live.now c.args.stack.now.items c.args.args c.args.budget.now c.begin.new.live c.begin.new.stack.items c.begin.new.budget) c.in-Ends.is c.in_ok-ending.ensures.begins)

pub returns-in-Runs-clause-begins : goal.returns-in-Runs-clause-begins
returns-in-Runs-clause-begins g c =
    subst (λ r. Begins r (g.W.SwapFile.content c.args.swap.now) c.args.live.now c.args.stack.now.items c.args.args c.args.budget.now c.begin.new.live c.begin.new.stack.items c.begin.new.budget) c.in-Runs.is c.in_ok-ending.ensures.begins
