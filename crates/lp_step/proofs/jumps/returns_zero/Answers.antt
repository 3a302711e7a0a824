use Rattle.std.proofs.Common.{refl}
use Rattle.lp_step.proofs.jumps.returns_zero.Goals as goal

pub returns : goal.returns
returns c = record {
  table = λ live budget a m h fine named. record { m = m; matches = h; told = refl };
  keeps = λ live f. (f, tt);
}
