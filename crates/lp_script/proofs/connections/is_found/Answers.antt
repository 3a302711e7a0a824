use Rattle.std.proofs.Common.{eqb, rules}
use Rattle.std.proofs.lemmas.List.Folds.{list_any_at}
use Rattle.lp_script.proofs.connections.is_found.Goals as goal

pub returns-in-Ok : goal.returns-in-Ok
returns-in-Ok c = λ t. list_any_at (eqb c.args.k) c.args.numbers.now c.in-Ok.i 0 (search rules) (search rules)
