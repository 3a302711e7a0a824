use Rattle.std.proofs.Common.{[], sym, subst}
use Rattle.std.specs.Prelude.{All}
use Rattle.lp_cells.specs.Cells.{IsPairThere}
use Rattle.std.proofs.lemmas.List.Elements.{All-nil}
use Rattle.lp_cells.proofs.ClosedLemmas.{insert_all_there}
use Rattle.lp_cells.proofs.cells.Cells.new_map.Goals as goal

pub returns-clause-closed : goal.returns-clause-closed
returns-clause-closed c = λ h t. c.new_cell.ensures.closed h (subst (All (IsPairThere c.args.self.now)) (sym c.in-Ok.ensures.1) (insert_all_there c.args.self.now [] c.args.pairs.items (All-nil (IsPairThere c.args.self.now)) t))
