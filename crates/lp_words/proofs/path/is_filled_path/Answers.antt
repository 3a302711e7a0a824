use Rattle.lp_words.proofs.PathLaws.{path-short, path-full, path-long}
use Rattle.lp_words.proofs.path.is_filled_path.Goals as goal

pub returns-then-stem-lt256 : goal.returns-then-stem-lt256
returns-then-stem-lt256 c = path-short _ _ _ _ c.stem-stem.ensures c.progress_after-progress.ensures c.may_go_on.ensures c.if-stem-lt256.true

pub returns-then-stem-eq256 : goal.returns-then-stem-eq256
returns-then-stem-eq256 c = path-full _ _ _ _ c.stem-stem.ensures c.progress_after-progress.ensures c.is_done.ensures c.if-stem-eq256.true

pub returns-else-stem-eq256 : goal.returns-else-stem-eq256
returns-else-stem-eq256 c = path-long _ _ c.stem-stem.ensures c.if-stem-lt256.false c.if-stem-eq256.false
