use Rattle.std.proofs.Common.{None, ap, cond, nat_eq, ◌∙◌, arith, get_or}
use Rattle.std.specs.Ordering.{nat_cmp}
use Rattle.std.specs.BTreeMap.{get}
use Rattle.lp_places.proofs.TableLemmas.{nat_at, take_out_step}
use Rattle.lp_places.proofs.links.cut_behinds.Goals as goal

pub loop-o-preserved : goal.loop-o-preserved
loop-o-preserved c = λ q.
    c.remove.ensures.updates.0 q
    ∙ ap (λ b. cond b None (get nat_cmp c.loop-o.behinds q)) (nat_at (get_or c.args.objects.now c.loop-o.o-index (record { 0 = 0 })).0 q)
    ∙ ap (cond (nat_eq (get_or c.args.objects.now c.loop-o.o-index (record { 0 = 0 })).0 q) None) (c.loop-o.invariant q)
    ∙ take_out_step q c.loop-o.o-index _ c.args.objects.now (record { 0 = 0 }) (get nat_cmp c.args.behinds.now q) (omega (arith, c.loop-o-test.true)) (omega arith)
