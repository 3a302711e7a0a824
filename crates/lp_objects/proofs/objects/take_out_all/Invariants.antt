use Rattle.std.proofs.Common.{◌≡◌, ℕ, None, cond, take}
use Rattle.std.specs.Ordering.{nat_cmp}
use Rattle.std.specs.BTreeMap.{get}
use Rattle.lp_objects.specs.Stands.{is_among}
use Rattle.lp_objects.proofs.objects.take_out_all.Given as goal

abbrev pub invariant-loop-o : goal.invariant-loop-o
invariant-loop-o l = (n : ℕ) → get nat_cmp l.entries n ≡ cond (is_among n (take l.o-index l.objects)) None (get nat_cmp l.initial.entries n)
