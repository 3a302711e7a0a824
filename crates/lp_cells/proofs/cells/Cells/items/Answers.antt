use Rattle.std.proofs.Common.{[], subst, unwrap_or}
use Rattle.std.specs.Prelude.{All}
use Rattle.lp_cells.specs.Cells.{IsThere}
use Rattle.lp_cells.proofs.ClosedLemmas.{items_there}
use Rattle.lp_cells.proofs.cells.Cells.items.Goals as goal

pub returns-clause-there : goal.returns-clause-there
returns-clause-there c = λ h. subst (λ o. All (IsThere c.args.self.now) (unwrap_or o [])) c.array_items.ensures.value (items_there c.args.self.now c.args.id h)
