use Rattle.std.proofs.Common.{rules, append_assoc}
use Rattle.lp_values.proofs.ErrorLemmas.{chars-to}
use Rattle.lp_values.proofs.error.RunError.bad_arg.Goals as goal

pub returns : goal.returns
returns c = search (rules, chars-to, append_assoc)
