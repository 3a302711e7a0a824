use Rattle.lp_meaning.proofs.Lists.{list_is_closing}
use Rattle.lp_meaning.proofs.list_is_closing.Goals as goal

pub returns : goal.returns
returns c = list_is_closing
