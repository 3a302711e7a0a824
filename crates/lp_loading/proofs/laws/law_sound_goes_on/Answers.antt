use Rattle.lp_loading.proofs.Telling.{sound_goes_on}
use Rattle.lp_loading.proofs.laws.law_sound_goes_on.Goals as goal

pub returns : goal.returns
returns c = sound_goes_on
