use Rattle.lp_door_rows.proofs.rows_of_lines_and_messages.Goals as goal
use Rattle.lp_door_rows.proofs.Rows.{door_rows}

pub returns : goal.returns
returns c = door_rows
