use Rattle.std.proofs.Common.{◌≡◌, ℕ, ◌∷◌, Some, ap, cond, nat_eq, refl, ◌∙◌}
use Rattle.std.specs.Ordering.{nat_cmp}
use Rattle.std.specs.BTreeMap.{get}
use Rattle.lp_places.specs.Table.{all_but, is_number, items_in, left_for, second}
use Rattle.lp_places.proofs.TableLemmas.{before_opened, joined, nat_at, set_as}
use Rattle.lp_places.proofs.links.Links.join.Goals as goal

pub returns-clause-ok : goal.returns-clause-ok
returns-clause-ok c = λ links tb.
    let t = c.args.self.now in
    let was = c.in_ok-was.was' in
    let all : c.in_ok-items.items.items ≡ c.args.item ∷ all_but c.args.item (items_in (get nat_cmp t.backward c.args.place.0)) = c.in_ok-items.ensures ∙ ap (λ os. c.args.item ∷ all_but c.args.item os) c.sources.ensures.items in
    let set : (n : ℕ) → items_in (get nat_cmp c.set_items.new.backward n) ≡ cond (nat_eq c.args.place.0 n) (c.args.item ∷ all_but c.args.item (items_in (get nat_cmp t.backward c.args.place.0))) (items_in (get nat_cmp t.backward n)) =
    λ n. c.set_items.ensures c.in_ok-open.ensures.there n
    ∙ ap (λ os. cond (nat_eq c.args.place.0 n) os (items_in (get nat_cmp c.open.new.backward n))) all
    ∙ ap (cond (nat_eq c.args.place.0 n) (c.args.item ∷ all_but c.args.item (items_in (get nat_cmp t.backward c.args.place.0)))) (c.open.ensures.same n) in
    joined t (record { alloc = t.alloc; forward = c.insert.new.self; backward = c.leave_place.new.backward; behind = c.set_behind-2.new.behinds }) links c.args.item c.args.place was tb (record {
      opened = record { alloc = t.alloc; forward = t.forward; backward = t.backward; behind = c.open_behind.new.behinds };
      forward = λ n. c.in_ok-was.ensures.updates.0 n ∙ ap (λ b. cond b (Some c.args.place) (get nat_cmp t.forward n)) (nat_at c.args.item.0 n);
      was_there = c.in_ok-was.ensures.old;
      there = c.in_ok-open_behind.ensures.there;
      same = c.open_behind.ensures.same;
      kept = c.open_behind.ensures.kept;
      behind = λ n. set_as n (Some c.args.item) (Some c.args.item) _ _ _ _ _ (c.set_behind-2.ensures n) refl (c.second.ensures ∙ ap second (c.as_slice.ensures.value ∙ all))
          (set_as n _ _ _ _ (get nat_cmp c.open_behind.new.behinds n) (get nat_cmp c.open_behind.new.behinds n) _ (c.set_behind.ensures n) (c.before_at.ensures ∙ before_opened t.backward c.open.new.backward was c.args.item c.open.ensures.same) c.behind_of-mended.ensures refl);
      backward = λ n. c.leave_place.ensures n
          ∙ ap (λ w. cond (is_number w n) (all_but c.args.item (items_in (get nat_cmp c.set_items.new.backward n))) (items_in (get nat_cmp c.set_items.new.backward n))) c.left_for.ensures
          ∙ ap (λ os. cond (is_number (left_for was c.args.place) n) (all_but c.args.item os) os) (set n);
    })
