use Rattle.std.proofs.Common.{◌≡◌, ◌++◌, ℕ, List, take}
use Rattle.lp_layout.specs.Layout.{names_in}
use Rattle.lp_layout.specs.Origins.{left, rowed, taken}
use Rattle.lp_layout.proofs.rows.take_parents.Given as goal

abbrev pub invariant-loop-parent : goal.invariant-loop-parent
invariant-loop-parent l = record {
  rows : l.rows.items ≡ l.fn.rows.items ++ taken (rowed l.fn.origins) (names_in (take l.parent-index l.parents));
  rest : (w : List ℕ) → rowed l.origins w ≡ left (rowed l.fn.origins) (names_in (take l.parent-index l.parents)) w;
}
