use Rattle.lp_loading.proofs.OwnRows.{names_are_own}
use Rattle.lp_loading.proofs.own.law_names.Goals as goal

pub returns : goal.returns
returns c = names_are_own
