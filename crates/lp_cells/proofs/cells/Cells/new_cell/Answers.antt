use Rattle.std.proofs.Common.{◌≡◌, sym, subst, rules}
use Rattle.lp_cells.specs.Cells.{IsClosed, with_cell}
use Rattle.lp_cells.proofs.ClosedLemmas.{closed_with_cell}
use Rattle.lp_cells.proofs.cells.Cells.new_cell.Goals as goal

pub returns-clause-closed : goal.returns-clause-closed
returns-clause-closed c = λ h t.
    let e : c.push.new.self.items ≡ with_cell c.args.self.now c.args.content = search rules in
    subst IsClosed (sym e) (closed_with_cell c.args.self.now c.args.content h t)
