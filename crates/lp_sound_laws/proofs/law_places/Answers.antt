use Rattle.lp_sound_laws.proofs.PlacingStmts.{translated_is_placed}
use Rattle.lp_sound_laws.proofs.law_places.Goals as goal

pub returns : goal.returns
returns c = translated_is_placed
