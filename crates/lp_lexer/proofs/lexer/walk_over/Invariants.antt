use Rattle.std.proofs.Common.{length}
use Rattle.lp_lexer.specs.Lexis.{Reaches}
use Rattle.lp_lexer.specs.Walks.{place_of}
use Rattle.lp_lexer.proofs.lexer.walk_over.Given as goal

abbrev pub invariant-steps : goal.invariant-steps
invariant-steps l = Reaches (place_of l.initial.lexer) (place_of l.lexer)

abbrev pub decreases-steps : goal.decreases-steps
decreases-steps l = length l.lexer.cursor.left
