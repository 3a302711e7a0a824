use Rattle.std.proofs.Common.{eqb, not}
use Rattle.std.proofs.lemmas.List.Filters.{FiltersInPlace}
use Rattle.lp_script.proofs.connections.leave_out.Given as goal

abbrev pub invariant-loop-i : goal.invariant-loop-i
invariant-loop-i l = FiltersInPlace (λ j. not (eqb j l.k)) l.initial.numbers.items l.numbers.items l.kept l.i
