use Rattle.lp_preproc.specs.Expansion.{setting}
use Rattle.lp_front.proofs.Units.{unit_spelled}
use Rattle.lp_front.proofs.names.law_spelled.Goals as goal

pub returns : goal.returns
returns c = λ files path is p d. unit_spelled d.tokens (c.law_names.ensures (setting files path) d.tokens p d.expands) d.spelled
