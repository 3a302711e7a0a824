use Rattle.std.proofs.Common.{◌≡◌, ℕ, None, cond, take}
use Rattle.std.specs.Ordering.{nat_cmp}
use Rattle.std.specs.BTreeMap.{get}
use Rattle.lp_places.specs.Table.{is_among}
use Rattle.lp_places.proofs.links.cut_behinds.Given as goal

abbrev pub invariant-loop-o : goal.invariant-loop-o
invariant-loop-o l = (n : ℕ) → get nat_cmp l.behinds n ≡ cond (is_among n (take l.o-index l.objects)) None (get nat_cmp l.initial.behinds n)
