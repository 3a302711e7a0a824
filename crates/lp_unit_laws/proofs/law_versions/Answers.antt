use Rattle.lp_unit_laws.proofs.Versioned.{is_version}
use Rattle.lp_unit_laws.proofs.law_versions.Goals as goal

pub returns : goal.returns
returns c = is_version
