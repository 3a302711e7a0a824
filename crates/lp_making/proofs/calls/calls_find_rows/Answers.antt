use Rattle.lp_making.proofs.Called.{calls_find_rows}
use Rattle.lp_making.proofs.calls.calls_find_rows.Goals as goal

pub returns : goal.returns
returns c = calls_find_rows
