use Rattle.std.proofs.Common.{rules}
use Rattle.lp_values.specs.declared.value.Value.TheVariants.{Int}
use Rattle.lp_step.proofs.Moves.{pushed}
use Rattle.lp_step.proofs.Fits.{pushed_fit}
use Rattle.lp_step.proofs.pushes.push_int.Goals as goal

pub returns : goal.returns
returns c = record {
  table = λ live budget a m h fine named. pushed a live _ _ c.args.frame.now budget m _ (Int c.args.z) h c.in_ok-push.ensures (search rules);
  keeps = λ live f. (pushed_fit live _ _ _ tt c.in_ok-push.ensures f, tt);
}
