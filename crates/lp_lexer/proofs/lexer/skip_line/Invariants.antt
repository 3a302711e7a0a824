use Rattle.std.proofs.Common.{◌≡◌, length}
use Rattle.lp_lexer.specs.Source.{past}
use Rattle.lp_lexer.specs.Lexis.{stays_on_line}
use Rattle.lp_lexer.proofs.lexer.skip_line.Given as goal

abbrev pub invariant-line : goal.invariant-line
invariant-line l = past stays_on_line l.cursor.behind l.cursor.left ≡ past stays_on_line l.initial.cursor.behind l.initial.cursor.left

abbrev pub decreases-line : goal.decreases-line
decreases-line l = length l.cursor.left
