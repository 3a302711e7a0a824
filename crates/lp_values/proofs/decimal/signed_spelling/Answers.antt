use Rattle.std.specs.Fmt.{signed_decimal}
use Rattle.std.proofs.Common.{rules}
use Rattle.std.proofs.lemmas.Str.{chars-IsAscii}
use Rattle.std.proofs.lemmas.Fmt.{IsAscii-signed}
use Rattle.lp_values.proofs.decimal.signed_spelling.Goals as goal

pub returns : goal.returns
returns c = search (rules, chars-IsAscii (signed_decimal c.args.n) (IsAscii-signed c.args.n (search rules)))
