use Rattle.std.proofs.Common.{rules}
use Rattle.std.proofs.lemmas.Str.{chars-IsAscii}
use Rattle.std.proofs.lemmas.Fmt.{IsAscii-decimal}
use Rattle.lp_values.proofs.decimal.spelling.Goals as goal

pub returns : goal.returns
returns c = search (rules, chars-IsAscii, IsAscii-decimal)
