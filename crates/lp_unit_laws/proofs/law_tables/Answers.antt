use Rattle.lp_unit_laws.proofs.Sounding.{tables_fine}
use Rattle.lp_unit_laws.proofs.law_tables.Goals as goal

pub returns : goal.returns
returns c = tables_fine
