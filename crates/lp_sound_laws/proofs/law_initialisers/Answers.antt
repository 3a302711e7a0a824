use Rattle.lp_sound_laws.proofs.PlacingStmts.{initialisers_are_placed}
use Rattle.lp_sound_laws.proofs.law_initialisers.Goals as goal

pub returns : goal.returns
returns c = initialisers_are_placed
