use Rattle.std.proofs.Common.{rules}
use Rattle.lp_values.proofs.ErrorLemmas.{chars-words_of}
use Rattle.lp_values.proofs.error.RunError.new.Goals as goal

pub returns : goal.returns
returns c = search (rules, chars-words_of)
