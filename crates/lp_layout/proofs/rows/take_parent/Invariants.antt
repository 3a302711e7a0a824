use Rattle.std.proofs.Common.{◌≡◌, ◌++◌, ℕ, List, take, map}
use Rattle.lp_layout.specs.Origins.{left, rowed, taken}
use Rattle.lp_layout.proofs.rows.take_parent.Given as goal

abbrev pub invariant-loop-known : goal.invariant-loop-known
invariant-loop-known l = record {
  rows : l.rows.items ≡ l.fn.rows.items ++ taken (rowed l.fn.origins) (map (λ s. s.name) (take l.known-index l.slots));
  rest : (w : List ℕ) → rowed l.origins w ≡ left (rowed l.fn.origins) (map (λ s. s.name) (take l.known-index l.slots)) w;
}
