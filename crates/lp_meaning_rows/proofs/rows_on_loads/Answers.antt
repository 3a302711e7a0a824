use Rattle.lp_meaning_rows.proofs.Loads.{loads_rows}
use Rattle.lp_meaning_rows.proofs.rows_on_loads.Goals as goal

pub returns : goal.returns
returns c = loads_rows
