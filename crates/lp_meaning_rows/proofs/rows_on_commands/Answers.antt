use Rattle.lp_meaning_rows.proofs.Commands.{commands_rows}
use Rattle.lp_meaning_rows.proofs.rows_on_commands.Goals as goal

pub returns : goal.returns
returns c = commands_rows
