use Rattle.std.proofs.Common.{refl}
use Rattle.lp_reload_laws.proofs.Reloads.{makes}
use Rattle.lp_reload_laws.proofs.law_making.Goals as goal

pub returns : goal.returns
returns c = (makes, λ by name o s. refl)
