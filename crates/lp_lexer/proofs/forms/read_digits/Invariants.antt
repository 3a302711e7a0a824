use Rattle.std.proofs.Common.{◌≡◌, ◌≤◌, min, length}
use Rattle.lp_lexer.specs.Source.{front, past}
use Rattle.lp_lexer.specs.Forms.{is_digit, number_after}
use Rattle.lp_lexer.specs.Steps.{too_large}
use Rattle.lp_lexer.proofs.forms.read_digits.Given as goal

abbrev pub invariant-digits : goal.invariant-digits
invariant-digits l = record {
  bound : l.value ≤ too_large;
  read : min (number_after l.base l.value (front (is_digit l.base) l.cursor.left)) too_large ≡ min (number_after l.base 0 (front (is_digit l.base) l.initial.cursor.left)) too_large;
  left : past (is_digit l.base) l.cursor.behind l.cursor.left ≡ past (is_digit l.base) l.initial.cursor.behind l.initial.cursor.left;
}

abbrev pub decreases-digits : goal.decreases-digits
decreases-digits l = length l.cursor.left
