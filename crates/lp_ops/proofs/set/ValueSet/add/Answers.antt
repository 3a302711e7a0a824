use Rattle.lp_ops.proofs.ListLemmas.{any_inserted}
use Rattle.lp_ops.proofs.set.ValueSet.add.Goals as goal

pub returns : goal.returns
returns c = λ q. rw (c.in_ok-insert.ensures.keys, ← c.self.view_is) (any_inserted q c.args.v c.self.inside.values.keys)
