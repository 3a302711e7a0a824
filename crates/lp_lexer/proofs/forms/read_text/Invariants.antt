use Rattle.std.proofs.Common.{◌≡◌, ◌++◌, length}
use Rattle.lp_lexer.specs.Forms.{letters_of}
use Rattle.lp_lexer.proofs.forms.read_text.Given as goal

abbrev pub invariant-letters : goal.invariant-letters
invariant-letters l = record {
  read : l.letters.items ++ (letters_of 0 l.cursor.behind l.cursor.left).letters ≡ (letters_of 0 l.initial.cursor.behind l.initial.cursor.left).letters;
  closed : (letters_of 0 l.cursor.behind l.cursor.left).closed ≡ (letters_of 0 l.initial.cursor.behind l.initial.cursor.left).closed;
  after : (letters_of 0 l.cursor.behind l.cursor.left).after ≡ (letters_of 0 l.initial.cursor.behind l.initial.cursor.left).after;
}

abbrev pub decreases-letters : goal.decreases-letters
decreases-letters l = length l.cursor.left
