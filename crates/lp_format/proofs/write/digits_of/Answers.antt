use Rattle.std.proofs.Common.{rules}
use Rattle.std.proofs.lemmas.Str.{chars-IsAscii}
use Rattle.lp_format.specs.Conversions.{digits_in}
use Rattle.lp_format.proofs.WriteLemmas.{digits_in_ascii}
use Rattle.lp_format.proofs.write.digits_of.Goals as goal

pub returns : goal.returns
returns c = search (rules, chars-IsAscii (digits_in c.args.base c.args.n) (digits_in_ascii c.args.base c.args.n))
