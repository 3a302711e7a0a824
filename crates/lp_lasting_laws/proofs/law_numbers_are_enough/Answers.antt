use Rattle.lp_lasting_laws.proofs.Numbers.{numbers_are_enough}
use Rattle.lp_lasting_laws.proofs.law_numbers_are_enough.Goals as goal

pub returns : goal.returns
returns c = numbers_are_enough
