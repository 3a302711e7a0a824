use Rattle.lp_reload_laws.proofs.Reloads.{leaves}
use Rattle.lp_reload_laws.proofs.law_reload.Goals as goal

pub returns : goal.returns
returns c = leaves
