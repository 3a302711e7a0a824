use Rattle.lp_meaning_rows.proofs.Time.{time_rows}
use Rattle.lp_meaning_rows.proofs.rows_on_time.Goals as goal

pub returns : goal.returns
returns c = time_rows
