use Rattle.lp_meaning_rows.proofs.Places.{places_rows}
use Rattle.lp_meaning_rows.proofs.rows_on_places.Goals as goal

pub returns : goal.returns
returns c = places_rows
