use Rattle.lp_script.proofs.GivenLemmas.{bad_is, large_is}
use Rattle.lp_script.proofs.laws.refusals.Goals as goal

pub returns : goal.returns
returns c = record { bad = bad_is; large = large_is }
