use Rattle.lp_loading.proofs.SimulFirst.{simul_goes}
use Rattle.lp_loading.proofs.asking.ask_simul.Goals as goal

pub returns-clause-goes : goal.returns-clause-goes
returns-clause-goes c = λ job loads told live budget turn m. simul_goes job loads told live budget turn c.args.name m
