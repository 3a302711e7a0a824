use Rattle.std.proofs.Common.{List, map, take}
use Rattle.lp_code.specs.declared.tables.Tables.{Tables}
use Rattle.lp_layout.specs.Standing.{Knows, KnowsSome}
use Rattle.lp_layout.proofs.nomask.add_names.Given as goal

abbrev pub invariant-loop-row : goal.invariant-loop-row
invariant-loop-row l = (ts : List Tables) → Knows ts l.fn.known → KnowsSome ts l.parent (map (λ s. s.name) (take l.row-index l.rows)) l.known
