use Rattle.std.proofs.Common.{◌≡◌, false, nat_eq, length}
use Rattle.lp_values.specs.declared.id.ObjId.{ObjId}
use Rattle.std.specs.List.{filter}
use Rattle.lp_actions.specs.Stored.{is_of}
use Rattle.lp_actions.proofs.actions.Actions.drop_of.Given as goal

-- the actions of the others are as they were
abbrev pub invariant-loop-place : goal.invariant-loop-place
invariant-loop-place l = record {
  others : (q : ObjId) → nat_eq l.holder.0 q.0 ≡ false → filter (is_of q) l.self.deeds.entries ≡ filter (is_of q) l.fn.self.deeds.entries;
  next : l.self.next ≡ l.fn.self.next;
}

abbrev pub decreases-loop-place : goal.decreases-loop-place
decreases-loop-place l = length l.self.deeds.entries
