use Rattle.lp_meaning_rows.proofs.Calls.{calls_rows}
use Rattle.lp_meaning_rows.proofs.rows_on_calls.Goals as goal

pub returns : goal.returns
returns c = calls_rows
