use Rattle.lp_inherit.proofs.Numbers.{numbers_lead}
use Rattle.lp_inherit.proofs.law_numbers.Goals as goal

pub returns : goal.returns
returns c = numbers_lead
