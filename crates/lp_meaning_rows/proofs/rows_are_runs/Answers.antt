use Rattle.lp_meaning_rows.proofs.Runs.{rows_are_runs as so}
use Rattle.lp_meaning_rows.proofs.rows_are_runs.Goals as goal

pub returns : goal.returns
returns c = so
