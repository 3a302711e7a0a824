use Rattle.lp_meaning_rows.proofs.Files.{files_rows}
use Rattle.lp_meaning_rows.proofs.rows_on_files.Goals as goal

pub returns : goal.returns
returns c = files_rows
