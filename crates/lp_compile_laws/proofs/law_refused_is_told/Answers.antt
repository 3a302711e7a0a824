use Rattle.lp_compile_laws.proofs.Telling.{refused_is_told}
use Rattle.lp_compile_laws.proofs.law_refused_is_told.Goals as goal

pub returns : goal.returns
returns c = refused_is_told c.law_stores_are_read.ensures c.law_missing_are_the_same.ensures c.law_tables_are_the_same.ensures
