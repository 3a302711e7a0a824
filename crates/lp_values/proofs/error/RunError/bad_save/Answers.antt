use Rattle.std.proofs.Common.{rules, append_assoc}
use Rattle.lp_values.proofs.ErrorLemmas.{chars-line}
use Rattle.lp_values.proofs.error.RunError.bad_save.Goals as goal

pub returns : goal.returns
returns c = search (rules, chars-line, append_assoc)
