use Rattle.std.proofs.Common.{◌≡◌, ◌++◌, length}
use Rattle.lp_lexer.specs.Source.{front, past}
use Rattle.lp_lexer.specs.Forms.{is_word}
use Rattle.lp_lexer.proofs.forms.read_name.Given as goal

abbrev pub invariant-letters : goal.invariant-letters
invariant-letters l = record {
  read : l.letters.items ++ front is_word l.cursor.left ≡ front is_word l.initial.cursor.left;
  left : past is_word l.cursor.behind l.cursor.left ≡ past is_word l.initial.cursor.behind l.initial.cursor.left;
}

abbrev pub decreases-letters : goal.decreases-letters
decreases-letters l = length l.cursor.left
