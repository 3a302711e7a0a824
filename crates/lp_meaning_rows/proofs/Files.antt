-- Rows on files and saved text: files, events and the transcript that a run of them has. They are computed.
use Rattle.std.specs.Prelude.{refl}
use Rattle.lp_meaning_rows.specs.Files.{FilesRows}
use Rattle.lp_meaning.specs.Computing.{computed}
use Rattle.lp_meaning.specs.EventTurns.{line_text}
use Rattle.lp_instr.specs.EfunList.{efun_named}
use Rattle.lp_meaning.specs.CallingEfuns.{calls}
use Rattle.lp_meaning.specs.FileEfuns.{files}
use Rattle.lp_meaning.specs.ComputingEfuns.{computes}
use Rattle.lp_meaning.specs.WorldEfuns.{deed}
use Rattle.lp_language.specs.Operations.{is_false, unary, binary, item, range, stepped, new_array, new_mapping, put_item, local_of, with_local, global_of, with_global, copied, row_at, scan, labelled}
use Rattle.lp_save.specs.SaveText.{saved_text, restored_text}
use Rattle.lp_values.specs.Errors.{error_text}
use Rattle.lp_format.specs.Forms.{marked, marked_len}
use Rattle.lp_format.specs.Spelled.{deepest}
use Rattle.lp_events.specs.Script.{numeral}
use Rattle.lp_events.specs.Transcript.{output_spelling}
use Rattle.std.specs.Str.{is_utf8, chars}
use Rattle.std.specs.Str.Lossy.{utf8_valid_len}
use Rattle.std.specs.Fmt.{digits}
use Rattle.std.specs.Char.{encode_utf8}

pub files_rows : FilesRows
unfolding computed line_text efun_named calls files computes deed is_false unary binary item range stepped new_array new_mapping put_item local_of with_local global_of with_global copied row_at scan labelled error_text marked marked_len deepest numeral output_spelling is_utf8 chars utf8_valid_len digits encode_utf8 saved_text restored_text
files_rows = record {
  saved_gives = refl;
  bad_save_gives = refl;
  redirected_gives = refl;
  refused_gives = refl;
}
