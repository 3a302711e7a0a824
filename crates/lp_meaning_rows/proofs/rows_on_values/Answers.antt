use Rattle.lp_meaning_rows.proofs.Values.{values_rows}
use Rattle.lp_meaning_rows.proofs.rows_on_values.Goals as goal

pub returns : goal.returns
returns c = values_rows
