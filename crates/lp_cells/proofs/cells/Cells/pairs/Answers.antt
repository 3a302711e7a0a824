use Rattle.std.proofs.Common.{[], subst, unwrap_or}
use Rattle.std.specs.Prelude.{All}
use Rattle.lp_cells.specs.Cells.{IsPairThere}
use Rattle.lp_cells.proofs.ClosedLemmas.{stored_there}
use Rattle.lp_cells.proofs.cells.Cells.pairs.Goals as goal

pub returns-clause-there : goal.returns-clause-there
returns-clause-there c = λ h. subst (λ o. All (IsPairThere c.args.self.now) (unwrap_or o [])) c.mapping_pairs-pairs.ensures.value (stored_there c.args.self.now c.args.id h)
