-- Each wrong line is told apart, by computing it.
use Rattle.std.proofs.Common.{refl}
use Rattle.lp_values.specs.Errors.{error_text}
use Rattle.std.specs.Fmt.{digits}
use Rattle.lp_language.specs.Operations.{is_false, unary, binary, item, stepped, put_item, scan, local_of, with_local, copied, row_at, labelled}
use Rattle.lp_sim.specs.WrongLines.{WrongLines}

pub wrong_lines : WrongLines
unfolding error_text digits is_false unary binary item stepped put_item scan local_of with_local copied row_at labelled
wrong_lines = record {
  budget_by_instructions = record { by_the_meaning = refl; by_its_code = refl; by_the_wrong_line = refl; differ = refl };
  turn_after_body = record { by_the_meaning = refl; by_its_code = refl; by_the_wrong_line = refl; differ = refl };
  spent_is_caught = record { by_the_meaning = refl; by_its_code = refl; by_the_wrong_line = refl; differ = refl };
  height_one_off = record { by_the_meaning = refl; by_its_code = refl; by_the_wrong_line = refl; differ = refl };
  array_itself = record { by_the_meaning = refl; by_its_code = refl; by_the_wrong_line = refl; differ = refl };
  fall_through_lost = record { by_the_meaning = refl; by_its_code = refl; by_the_wrong_line = refl; differ = refl };
  and_as_or = record { by_the_meaning = refl; by_its_code = refl; by_the_wrong_line = refl; differ = refl };
  flag_below_value = record { by_the_meaning = refl; by_its_code = refl; by_the_wrong_line = refl; differ = refl };
}
