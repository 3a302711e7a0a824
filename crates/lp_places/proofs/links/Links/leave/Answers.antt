use Rattle.std.proofs.Common.{None, ap, cond, ◌∙◌}
use Rattle.std.specs.Ordering.{nat_cmp}
use Rattle.std.specs.BTreeMap.{get}
use Rattle.lp_places.specs.Table.{behind_in}
use Rattle.lp_places.proofs.TableLemmas.{left, nat_at, set_as}
use Rattle.lp_places.proofs.links.Links.leave.Goals as goal

pub returns : goal.returns
returns c = λ links tb.
    let t = c.args.self.now in
    left t (record { alloc = t.alloc; forward = c.remove-was.new.self; backward = c.leave_place.new.backward; behind = c.set_behind.new.behinds }) links c.args.item c.remove-was.result tb (record {
      forward = λ n. c.remove-was.ensures.updates.0 n ∙ ap (λ b. cond b None (get nat_cmp t.forward n)) (nat_at c.args.item.0 n);
      was_there = c.remove-was.ensures.value;
      behind = λ n. set_as n _ _ _ _ _ _ _ (c.set_behind.ensures n) c.before_at.ensures (c.behind_in-mended.ensures ∙ ap behind_in c.remove.ensures.value)
          (c.remove.ensures.updates.0 n ∙ ap (λ b. cond b None (get nat_cmp t.behind n)) (nat_at c.args.item.0 n));
      backward = c.leave_place.ensures;
    })
