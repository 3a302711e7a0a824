use Rattle.std.proofs.Common.{sym, subst}
use Rattle.std.specs.Prelude.{All}
use Rattle.lp_cells.specs.Cells.{IsPairThere}
use Rattle.lp_cells.proofs.ClosedLemmas.{slots_there}
use Rattle.lp_cells.proofs.cells.Cells.slots.Goals as goal

pub returns-clause-there : goal.returns-clause-there
returns-clause-there c = λ h. slots_there c.args.self.now c.slots.result.now (subst (All (IsPairThere c.args.self.now)) (sym c.slots.ensures) (c.pairs.ensures.there h))
