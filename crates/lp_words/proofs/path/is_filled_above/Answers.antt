use Rattle.lp_words.proofs.PathLaws.{above-stripped, above-kept}
use Rattle.lp_words.proofs.path.is_filled_above.Goals as goal

pub returns-in-Some : goal.returns-in-Some
returns-in-Some c = above-stripped c.args.last.now c.args.word.now c.stem-stem.result.now c.in-Some.rest.now _ _ c.stem-stem.ensures c.in-Some.ensures.cases.0 c.in-Some.ensures.cases.1 c.saturating_sub.ensures c.is_filling_above.ensures

pub returns-in-None : goal.returns-in-None
returns-in-None c = above-kept c.args.last.now c.args.word.now c.stem-stem.result.now _ c.stem-stem.ensures c.in-None.ensures.cases c.is_above.ensures
