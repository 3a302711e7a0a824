-- The rows are computed.
use Rattle.std.specs.Prelude.{refl}
use Rattle.std.specs.Char.{encode_utf8}
use Rattle.std.specs.Str.{chars, is_utf8}
use Rattle.lp_telnet.specs.Lines.{max_line}
use Rattle.lp_meaning.specs.EventTurns.{line_text}
use Rattle.lp_door_rows.specs.Rows.{DoorRows}

pub door_rows : DoorRows
unfolding encode_utf8 chars is_utf8 max_line line_text
door_rows = record {
  lines = record { look = refl; empty = refl; empty_read = refl; ends = refl; umlaut = refl };
  messages = record { hidden = refl; shown_again = refl; lone = refl; own = refl; points = refl; run = refl; parted = refl; other = refl; cut = refl; outputs = refl };
}
