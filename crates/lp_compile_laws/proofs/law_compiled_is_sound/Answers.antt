use Rattle.lp_compile_laws.proofs.Telling.{compiled_is_sound}
use Rattle.lp_compile_laws.proofs.law_compiled_is_sound.Goals as goal

pub returns : goal.returns
returns c = compiled_is_sound c.law_stores_are_read.ensures c.law_missing_are_the_same.ensures c.law_tables_are_the_same.ensures
