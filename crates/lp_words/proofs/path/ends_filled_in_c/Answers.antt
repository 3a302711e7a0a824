use Rattle.lp_words.proofs.PathLaws.{end-short, end-full}
use Rattle.lp_words.proofs.path.ends_filled_in_c.Goals as goal

pub returns-then-stem-lt256 : goal.returns-then-stem-lt256
returns-then-stem-lt256 c = end-short c.args.word.now c.stem-stem.result.now c.stem-stem.ensures c.if-stem-lt256.true

pub returns : goal.returns
returns c = end-full c.args.word.now c.stem-stem.result.now _ c.stem-stem.ensures c.if-stem-lt256.false c.ends_in_c.ensures
