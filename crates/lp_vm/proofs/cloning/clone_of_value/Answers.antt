use Rattle.std.proofs.Common.{subst, sym}
use Rattle.std.specs.Str.{chars}
use Rattle.std.specs.String.{string_bytes}
use Rattle.lp_asking.specs.declared.ending.Ending.TheVariants as endings
use Rattle.lp_cloning.specs.declared.job.Begun.TheVariants as begun
use Rattle.lp_cloning.specs.Feeding.{LoadedAs}
use Rattle.lp_vm.proofs.cloning.clone_of_value.Goals as goal

pub returns-in_ok-without_value-in-Ends-clause-loaded : goal.returns-in_ok-without_value-in-Ends-clause-loaded
returns-in_ok-without_value-in-Ends-clause-loaded g c =
    subst (λ e. LoadedAs (begun.Ends e) (chars (string_bytes c.args.name)) (endings.Value c.args.v) (g.W.SwapFile.content c.args.swap.now) c.args.live.now c.loaded.new.live) (sym c.in_ok-without_value-in-Ends.ensures.same)
    (subst (λ r. LoadedAs r (chars (string_bytes c.args.name)) (endings.Value c.args.v) (g.W.SwapFile.content c.args.swap.now) c.args.live.now c.loaded.new.live) c.in-Ends.is c.in_ok-ending.ensures.loaded)

pub returns-in-Runs-clause-loaded : goal.returns-in-Runs-clause-loaded
returns-in-Runs-clause-loaded g c = subst (λ r. LoadedAs r (chars (string_bytes c.args.name)) (endings.Value c.args.v) (g.W.SwapFile.content c.args.swap.now) c.args.live.now c.loaded.new.live) c.in-Runs.is c.in_ok-ending.ensures.loaded
