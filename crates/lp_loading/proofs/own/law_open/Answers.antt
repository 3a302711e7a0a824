use Rattle.lp_loading.proofs.OwnRows.{open_is_callable}
use Rattle.lp_loading.proofs.own.law_open.Goals as goal

pub returns : goal.returns
returns c = open_is_callable
