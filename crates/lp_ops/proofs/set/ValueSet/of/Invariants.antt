use Rattle.std.proofs.Common.{◌≡◌, take}
use Rattle.std.specs.List.{list_any}
use Rattle.lp_values.specs.Read.{as_read, value_eq}
use Rattle.lp_values.specs.declared.value.Value.{Value}
use Rattle.lp_ops.proofs.set.ValueSet.of.Given as goal

abbrev pub invariant-loop-y : goal.invariant-loop-y
invariant-loop-y g l = (q : Value) → list_any (value_eq q) l.set ≡ list_any (λ y. value_eq q (as_read (g.L.Living.live l.live) y)) (take l.y-index l.items)
