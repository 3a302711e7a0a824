use Rattle.lp_lexer.specs.Lexis.{here, more}
use Rattle.lp_lexer.specs.Walks.{place_of}
use Rattle.lp_lexer.proofs.Advances.{next-shorter}
use Rattle.lp_lexer.proofs.lexer.walk_over.Goals as goal

pub steps-init : goal.steps-init
steps-init c = here

pub steps-smaller : goal.steps-smaller
steps-smaller c = next-shorter (place_of c.steps.lexer) (place_of c.go_on.new.lexer) (rw c.in-Went.is at c.in_ok-go_on.ensures)

pub steps-preserved : goal.steps-preserved
steps-preserved c = more c.steps.invariant (rw c.in-Went.is at c.in_ok-go_on.ensures)
