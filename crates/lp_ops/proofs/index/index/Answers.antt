use Rattle.std.proofs.Common.{subst, sym}
use Rattle.lp_values.specs.Read.{same}
use Rattle.lp_cells.specs.Cells.{IsThere, stored_pairs}
use Rattle.lp_cells.specs.Mapping.{pairs_there}
use Rattle.lp_values.specs.declared.value.Value.TheVariants.{Map}
use Rattle.lp_ops.proofs.ClosedLemmas.{lookup_there, opened_there}
use Rattle.lp_ops.proofs.index.index.Goals as goal

pub returns-in-Map-default-clause-there : goal.returns-in-Map-default-clause-there
returns-in-Map-default-clause-there g c = λ h.
    subst (IsThere c.args.cells.now) (sym c.in_ok-value_at-in-Map-default.ensures) (lookup_there c.args.cells.now (same (g.L.Living.live c.args.live.now) c.in_ok-i.i) (pairs_there (g.L.Living.live c.args.live.now) (stored_pairs c.args.cells.now c.in-Map-default.c)) (opened_there (g.L.Living.live c.args.live.now) c.args.cells.now (Map c.in-Map-default.c) h))
