use Rattle.std.proofs.Common.{None, ap, cond, ◌∙◌}
use Rattle.std.specs.Ordering.{nat_cmp}
use Rattle.std.specs.BTreeMap.{get}
use Rattle.lp_places.specs.Table.{is_among, items_in}
use Rattle.lp_places.proofs.TableLemmas.{cut, nat_at}
use Rattle.lp_places.proofs.links.Links.take_out.Goals as goal

pub returns : goal.returns
returns c = λ links tb.
    let t = c.leave.new.self in
    cut t (record { alloc = t.alloc; forward = c.cut_listed.new.forward; backward = c.remove-items.new.self; behind = c.cut_listed.new.behinds }) links c.args.o tb.once (c.leave.ensures links tb) (record {
      forward = λ n. c.cut_listed.ensures.forward n ∙ ap (λ v. cond (is_among n (items_in v)) None (get nat_cmp t.forward n)) c.remove-items.ensures.value;
      behind = λ n. c.cut_listed.ensures.behind n ∙ ap (λ v. cond (is_among n (items_in v)) None (get nat_cmp t.behind n)) c.remove-items.ensures.value;
      backward = λ n. c.remove-items.ensures.updates.0 n ∙ ap (λ b. cond b None (get nat_cmp t.backward n)) (nat_at c.args.o.0 n);
    })
