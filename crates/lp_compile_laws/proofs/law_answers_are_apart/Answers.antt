use Rattle.lp_compile_laws.proofs.Apart.{apart}
use Rattle.lp_compile_laws.proofs.law_answers_are_apart.Goals as goal

pub returns : goal.returns
returns c = apart c.law_stores_are_read.ensures
