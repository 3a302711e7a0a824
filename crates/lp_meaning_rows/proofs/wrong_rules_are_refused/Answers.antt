use Rattle.lp_meaning_rows.proofs.WrongRules.{wrong_rules}
use Rattle.lp_meaning_rows.proofs.wrong_rules_are_refused.Goals as goal

pub returns : goal.returns
returns c = wrong_rules
