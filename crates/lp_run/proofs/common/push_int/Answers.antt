use Rattle.std.proofs.Common.{refl, rules}
use Rattle.lp_values.specs.declared.value.Value.TheVariants.{Int}
use Rattle.lp_step.proofs.Moves.{pushed}
use Rattle.lp_step.proofs.Fits.{pushed_fit}
use Rattle.lp_run.specs.Takes.{at_place}
use Rattle.lp_run.proofs.common.push_int.Goals as goal

pub returns : goal.returns
returns c = (
  refl,
  λ live budget. record {
    table = λ a m h fine named. pushed a live _ _ (at_place c.args.frame.now c.args.at.now) budget m _ (Int c.args.z) h c.in_ok-push.ensures (search rules);
    keeps = λ f. (pushed_fit live _ _ _ tt c.in_ok-push.ensures f, tt);
  },
)
