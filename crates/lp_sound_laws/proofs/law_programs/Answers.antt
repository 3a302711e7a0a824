use Rattle.lp_sound_laws.proofs.Programs.{parts_are_program}
use Rattle.lp_sound_laws.proofs.law_programs.Goals as goal

pub returns : goal.returns
returns c = parts_are_program
