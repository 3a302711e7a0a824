use Rattle.lp_save_laws.proofs.Keys.{pairs_stay}
use Rattle.lp_save_laws.proofs.mappings.law_mappings.Goals as goal

pub returns : goal.returns
returns c = λ m ps rs apart d few h. pairs_stay m apart ps rs d few h
