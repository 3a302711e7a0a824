use Rattle.lp_unit_laws.proofs.Sounding.{unit_sound}
use Rattle.lp_unit_laws.proofs.law_programs.Goals as goal

pub returns : goal.returns
returns c = unit_sound c.translated_code_is_sound.ensures c.translated_initialisers_are_sound.ensures
