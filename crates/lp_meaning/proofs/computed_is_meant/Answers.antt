use Rattle.lp_meaning.proofs.Computed.{computed_is_meant}
use Rattle.lp_meaning.proofs.computed_is_meant.Goals as goal

pub returns : goal.returns
returns c = computed_is_meant
