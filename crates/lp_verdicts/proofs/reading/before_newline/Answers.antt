use Rattle.std.proofs.Common.{Some}
use Rattle.std.specs.Prelude.{codes}
use Rattle.std.proofs.lemmas.Bool.Decides.{Decides-eqb}
use Rattle.std.proofs.lemmas.Slice.Eq.{strip_suffix_is}
use Rattle.lp_verdicts.proofs.reading.before_newline.Goals as goal

pub returns-then-is_shown : goal.returns-then-is_shown
returns-then-is_shown c = strip_suffix_is Decides-eqb c.args.line.now (codes "\n") (Some c.in-Some.text) c.in-Some.ensures.cases
