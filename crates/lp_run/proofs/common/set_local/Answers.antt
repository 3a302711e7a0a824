use Rattle.std.proofs.Common.{◌≡◌, refl, rules, length}
use Rattle.lp_step.proofs.Moves.{local_set}
use Rattle.lp_step.proofs.Fits.{set_fit, got_there}
use Rattle.lp_run.specs.Takes.{at_place}
use Rattle.lp_run.proofs.common.set_local.Goals as goal

pub returns : goal.returns
returns c = let n : c.len.result ≡ length c.args.stack.now.items = search rules in (
  refl,
  λ live budget. record {
    table = λ a m h fine named. local_set a live _ _ (at_place c.args.frame.now c.args.at.now) budget m c.args.k c.in_ok-v.v _ n h named fine c.in_ok-v.ensures c.write_at.ensures;
    keeps = λ f. (set_fit live _ _ _ _ (got_there live _ _ _ c.in_ok-v.ensures f) c.write_at.ensures f, tt);
  },
)
