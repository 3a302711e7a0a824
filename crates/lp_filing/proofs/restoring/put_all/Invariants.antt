use Rattle.std.proofs.Common.{IsSome}
use Rattle.std.specs.Vec.Iter.{into_iter_items}
use Rattle.lp_world.specs.Rows.{variables_at}
use Rattle.lp_filing.proofs.Putting.{HasPut}
use Rattle.lp_filing.proofs.restoring.put_all.Given as goal

abbrev pub invariant-loop-value : goal.invariant-loop-value
invariant-loop-value l = record {
  memory : IsSome (variables_at l.objects l.this);
  put : HasPut l.fn.objects l.objects l.this l.places l.fn.given.items l.at (into_iter_items l.value-iterator);
}
