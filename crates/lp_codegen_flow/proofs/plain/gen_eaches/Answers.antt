use Rattle.lp_codegen_flow.proofs.Scopes.{eaches_both}
use Rattle.lp_codegen_flow.proofs.plain.gen_eaches.Goals as goal

pub returns : goal.returns
returns c = eaches_both c.args.first.now c.args.second.now c.in_ok-gen_each.ensures c.in_ok-gen_second.ensures
