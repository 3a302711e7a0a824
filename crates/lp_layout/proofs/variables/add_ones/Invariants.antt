use Rattle.std.proofs.Common.{◌≡◌, ◌++◌, take, map}
use Rattle.lp_tree.specs.StatementView.{declarator_of}
use Rattle.lp_layout.specs.Layout.{AreSpelled, numbered_row}
use Rattle.lp_layout.proofs.variables.add_ones.Given as goal

abbrev pub invariant-loop-one : goal.invariant-loop-one
invariant-loop-one l = AreSpelled (map (λ d. d.name) (map declarator_of (take l.one-index l.ones))) → l.rows.items ≡ l.fn.rows.items ++ map (numbered_row l.part l.number l.base) (map declarator_of (take l.one-index l.ones))
