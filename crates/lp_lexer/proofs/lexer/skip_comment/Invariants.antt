use Rattle.std.proofs.Common.{◌≡◌, length, false}
use Rattle.lp_lexer.specs.Lexis.{comment}
use Rattle.lp_lexer.proofs.lexer.skip_comment.Given as goal

abbrev pub invariant-inside : goal.invariant-inside
invariant-inside l = comment l.crosses l.cursor.left ≡ comment false l.initial.cursor.left

abbrev pub decreases-inside : goal.decreases-inside
decreases-inside l = length l.cursor.left
