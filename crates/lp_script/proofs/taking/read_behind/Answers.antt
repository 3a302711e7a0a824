use Rattle.std.proofs.Common.{arith}
use Rattle.std.proofs.lemmas.Grind.{common_steps}
use Rattle.lp_script.proofs.TakingLemmas.{behind_read}
use Rattle.lp_script.proofs.taking.read_behind.Goals as goal

pub returns-clause-given : goal.returns-clause-given
returns-clause-given g c = behind_read c.args.into.now c.read.new.into _ c.args.filled _ _ c.read.result c.requires (grind (arith, common_steps)) c.read.ensures.given
