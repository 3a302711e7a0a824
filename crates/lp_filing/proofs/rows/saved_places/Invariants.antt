use Rattle.std.proofs.Common.{◌≡◌, ◌++◌, drop, map}
use Rattle.lp_filing.specs.Rows.{saved_rows}
use Rattle.lp_filing.proofs.rows.saved_places.Given as goal

abbrev pub invariant-loop-i : goal.invariant-loop-i
invariant-loop-i l = l.places.items ++ map (λ x. x.place) (saved_rows l.i (drop l.i l.rows)) ≡ map (λ x. x.place) (saved_rows 0 l.rows)
