use Rattle.lp_save_laws.proofs.Numbers.{int_again}
use Rattle.lp_save_laws.proofs.integers.law_integers.Goals as goal

pub returns : goal.returns
returns c = int_again
