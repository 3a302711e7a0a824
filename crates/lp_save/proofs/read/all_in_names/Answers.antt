use Rattle.std.proofs.Common.{◌||◌, rules, tests}
use Rattle.std.specs.Char.{is_ascii_digit}
use Rattle.std.proofs.lemmas.Iterator.{YieldsList-from_slice}
use Rattle.std.proofs.lemmas.Iterator.Search.{all_from_yields_List}
use Rattle.lp_save.specs.SaveText.{is_letter}
use Rattle.lp_save.proofs.read.all_in_names.Goals as goal

pub returns : goal.returns
returns c = all_from_yields_List (λ d. is_letter d || is_ascii_digit d) _ _ _ c.all.ensures.ran (YieldsList-from_slice c.args.text.now cc) (λ x b q k. search (rules, tests))
