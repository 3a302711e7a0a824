-- Each of the wrong rules gives another transcript than the meaning.
use Rattle.std.specs.Prelude.{refl}
use Rattle.lp_meaning_rows.specs.WrongRules.{WrongRules}
use Rattle.lp_meaning.specs.Computing.{computed}
use Rattle.lp_meaning.specs.EventTurns.{line_text}
use Rattle.lp_instr.specs.EfunList.{efun_named}
use Rattle.lp_meaning.specs.CallingEfuns.{calls}
use Rattle.lp_meaning.specs.FileEfuns.{files}
use Rattle.lp_meaning.specs.ComputingEfuns.{computes}
use Rattle.lp_meaning.specs.WorldEfuns.{deed}
use Rattle.lp_language.specs.Operations.{is_false, unary, binary, item, range, stepped, new_array, new_mapping, put_item, local_of, with_local, global_of, with_global, copied, row_at, scan, labelled}
use Rattle.lp_save.specs.SaveText.{saved_text, restored_text}
use Rattle.lp_values.specs.Errors.{error_text}
use Rattle.lp_format.specs.Forms.{marked, marked_len}
use Rattle.lp_format.specs.Spelled.{deepest}
use Rattle.lp_events.specs.Script.{numeral}
use Rattle.lp_events.specs.Transcript.{output_spelling}
use Rattle.std.specs.Str.{is_utf8, chars}
use Rattle.std.specs.Str.Lossy.{utf8_valid_len}
use Rattle.std.specs.Fmt.{digits}
use Rattle.std.specs.Char.{encode_utf8}

pub wrong_rules : WrongRules
unfolding computed line_text efun_named calls files computes deed is_false unary binary item range stepped new_array new_mapping put_item local_of with_local global_of with_global copied row_at scan labelled error_text marked marked_len deepest numeral output_spelling is_utf8 chars utf8_valid_len digits encode_utf8 saved_text restored_text
wrong_rules = record {
  operands_from_right_to_left = record { by_the_meaning = refl; by_the_wrong_rules = refl; differ = refl };
  internal_call_stays_in_its_part = record { by_the_meaning = refl; by_the_wrong_rules = refl; differ = refl };
  shadows_are_passed_over = record { by_the_meaning = refl; by_the_wrong_rules = refl; differ = refl };
  static_function_is_called_from_outside = record { by_the_meaning = refl; by_the_wrong_rules = refl; differ = refl };
  oldest_action_is_first = record { by_the_meaning = refl; by_the_wrong_rules = refl; differ = refl };
  player_is_not_put_back = record { by_the_meaning = refl; by_the_wrong_rules = refl; differ = refl };
  init_of_the_other_is_first = record { by_the_meaning = refl; by_the_wrong_rules = refl; differ = refl };
  call_out_comes_in_its_own_tick = record { by_the_meaning = refl; by_the_wrong_rules = refl; differ = refl };
  effects_are_undone = record { by_the_meaning = refl; by_the_wrong_rules = refl; differ = refl };
}
