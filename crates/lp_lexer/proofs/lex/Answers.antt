use Rattle.lp_lexer.proofs.Walking.{only, only_fault}
use Rattle.lp_lexer.proofs.lex.Goals as goal

pub returns-clause-only : goal.returns-clause-only
returns-clause-only c = only _ _ c.answer.ensures.found c.answer.ensures.fault

pub returns-clause-only_fault : goal.returns-clause-only_fault
returns-clause-only_fault c = only_fault _ _ c.answer.ensures.found c.answer.ensures.fault
