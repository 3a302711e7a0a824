use Rattle.std.proofs.Common.{subst, sym}
use Rattle.std.specs.Str.{chars}
use Rattle.std.specs.String.{string_bytes}
use Rattle.lp_cloning.specs.declared.job.Begun.TheVariants as begun
use Rattle.lp_asking.specs.declared.ending.Ending.TheVariants as endings
use Rattle.lp_cloning.specs.Feeding.{LoadedAs}
use Rattle.lp_vm.proofs.Clones.{stop_loaded}
use Rattle.lp_vm.proofs.cloning.clone_loaded.Goals as goal

pub returns-in-Stopped-clause-loaded : goal.returns-in-Stopped-clause-loaded
returns-in-Stopped-clause-loaded g c =
    subst (λ e. LoadedAs (begun.Ends (endings.Stopped c.in-Stopped.stop)) (chars (string_bytes c.args.name)) e (g.W.SwapFile.content c.args.swap.now) c.args.live.now c.args.live.now) (sym c.in-Stopped.is)
    (stop_loaded (chars (string_bytes c.args.name)) c.in-Stopped.stop (g.W.SwapFile.content c.args.swap.now) c.args.live.now)
