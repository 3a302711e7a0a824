use Rattle.lp_types_expr.proofs.Clearing.{faultless}
use Rattle.lp_types_expr.proofs.Spelled.{spelled}
use Rattle.lp_types_expr.proofs.walk.law_meaning.Goals as goal

pub returns : goal.returns
returns c = λ a ls t ts rest s h. record { clear = faultless a ls t h; places = spelled s }
