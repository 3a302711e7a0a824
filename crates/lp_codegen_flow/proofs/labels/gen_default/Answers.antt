use Rattle.std.proofs.Common.{refl}
use Rattle.lp_codegen_flow.proofs.Switching.{default_stands}
use Rattle.lp_codegen_flow.proofs.labels.gen_default.Goals as goal

pub returns-in-None : goal.returns-in-None
returns-in-None c = λ line s. default_stands s line c.in_ok-here.here c.in_ok-here.ensures c.in-None.is refl refl
