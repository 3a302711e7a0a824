use Rattle.std.proofs.Common.{◌≡◌, ◌+◌, ◌≤◌, List, None, Some, cond, is_some, ℕ, if◌then◌else◌, bytes_eq, true, ap, sym, subst, refl, ◌∙◌, arith, string_bytes}
use Rattle.std.specs.Ordering.{nat_cmp}
use Rattle.std.specs.BTreeMap.{get, get_by_text, btree_map_len, is_at}
use Rattle.std.specs.Map.{lookup}
use Rattle.std.specs.Str.{chars}
use Rattle.std.specs.Vec.{vec_len, vec_capacity}
use Rattle.std.proofs.lemmas.Bool.{cond-true}
use Rattle.std.proofs.lemmas.Map.Text.{btree_map_updates_text}
use Rattle.std.proofs.lemmas.Slice.Eq.{bytes_eq-Decides}
use Rattle.lp_objects.specs.declared.objects.Entry.{Entry}
use Rattle.lp_objects.specs.Objects.{object_named}
use Rattle.lp_objects.proofs.TableLemmas.{may_unnamed, nat_at, stands_as, stands_made, undone}
use Rattle.lp_objects.proofs.objects.Objects.enter.Goals as goal

pub returns-in-Ok-clause-made : goal.returns-in-Ok-clause-made
returns-in-Ok-clause-made c = λ objects st may.
    let key_is : string_bytes c.in_ok-key.key ≡ c.args.name.now = c.in_ok-key.ensures.ok in
    let unnamed : object_named objects (chars c.args.name.now) ≡ None = may_unnamed _ _ may in
    let absent : c.in_ok-insert.field-0 ≡ None = c.in_ok-insert.ensures.old ∙ subst (λ bs. get_by_text c.args.self.now.serials bs ≡ None) (sym key_is) (st.listed c.args.name.now c.utf8.name ∙ unnamed) in
    let count : btree_map_len c.insert.new.self ≡ btree_map_len c.args.self.now.serials + 1 = c.in_ok-insert.ensures.len ∙ ap (λ o. btree_map_len c.args.self.now.serials + (if is_some o then 0 else 1)) absent in
    let many : c.len.result ≡ btree_map_len c.args.self.now.serials = c.len.ensures.len in
    let fits : vec_len c.reserve.new.self + (c.len.result + 1) ≤ vec_capacity c.reserve.new.self = c.in_ok-reserve.ensures.ok in
    record {
      may = may;
      serial = st.next;
      after = stands_made c.args.self.now _ objects c.args.name.now (record { name = c.in_ok-from_str.field-0; program = c.args.program; is_live = true }) c.utf8.name st may c.in_ok-from_str.ensures.ok refl (record {
        next = refl;
        serials = λ q. subst (λ bs. get_by_text c.insert.new.self q ≡ cond (bytes_eq bs q) (Some (record { 0 = c.args.self.now.next })) (get_by_text c.args.self.now.serials q)) key_is (btree_map_updates_text (string_bytes c.in_ok-key.key) c.args.self.now.serials c.insert.new.self _ c.in_ok-insert.ensures.updates q);
        entries = λ n. c.in-Ok.ensures.updates.0 n ∙ ap (λ b. cond b (Some (let e : Entry = record { name = c.in_ok-from_str.field-0; program = c.args.program; is_live = true } in e)) (get nat_cmp c.args.self.now.entries n)) (nat_at c.args.self.now.next n);
        died = c.reserve.ensures.items;
        count = count;
        room = omega arith;
      });
    }

pub returns-clause-refused : goal.returns-clause-refused
returns-clause-refused c = λ objects st may.
    let key_is : string_bytes c.in_ok-key.key ≡ c.args.name.now = c.in_ok-key.ensures.ok in
    let unnamed : object_named objects (chars c.args.name.now) ≡ None = may_unnamed _ _ may in
    let absent : c.in_ok-insert.field-0 ≡ None = c.in_ok-insert.ensures.old ∙ subst (λ bs. get_by_text c.args.self.now.serials bs ≡ None) (sym key_is) (st.listed c.args.name.now c.utf8.name ∙ unnamed) in
    let count : btree_map_len c.insert.new.self ≡ btree_map_len c.args.self.now.serials + 1 = c.in_ok-insert.ensures.len ∙ ap (λ o. btree_map_len c.args.self.now.serials + (if is_some o then 0 else 1)) absent in
    let many : c.len.result ≡ btree_map_len c.args.self.now.serials = c.len.ensures.len in
    let fits : vec_len c.reserve.new.self + (c.len.result + 1) ≤ vec_capacity c.reserve.new.self = c.in_ok-reserve.ensures.ok in
    let put : (q : List ℕ) → get_by_text c.insert.new.self q ≡ cond (bytes_eq c.args.name.now q) (Some (record { 0 = c.args.self.now.next })) (get_by_text c.args.self.now.serials q) =
    λ q. subst (λ bs. get_by_text c.insert.new.self q ≡ cond (bytes_eq bs q) (Some (record { 0 = c.args.self.now.next })) (get_by_text c.args.self.now.serials q)) key_is (btree_map_updates_text (string_bytes c.in_ok-key.key) c.args.self.now.serials c.insert.new.self _ c.in_ok-insert.ensures.updates q) in
    let was : c.remove.result ≡ Some (record { 0 = c.args.self.now.next }) = c.remove.ensures.value ∙ put c.args.name.now ∙ cond-true _ _ _ ((bytes_eq-Decides c.args.name.now c.args.name.now).1 refl) in
    let left : btree_map_len c.remove.new.self + 1 ≡ btree_map_len c.insert.new.self = ap (λ o. btree_map_len c.remove.new.self + (if is_some o then 1 else 0)) (sym was) ∙ c.remove.ensures.len in
    stands_as c.args.self.now _ objects (record {
      next = refl;
      serials = λ q. btree_map_updates_text c.args.name.now c.insert.new.self c.remove.new.self None c.remove.ensures.updates q ∙ ap (cond (bytes_eq c.args.name.now q) None) (put q)
          ∙ undone (bytes_eq c.args.name.now q) _ (get_by_text c.args.self.now.serials q) (λ b. subst (λ r. get_by_text c.args.self.now.serials r ≡ None) ((bytes_eq-Decides c.args.name.now q).0 b) (st.listed c.args.name.now c.utf8.name ∙ unnamed));
      entries = λ n. ap (λ es. lookup (is_at (nat_cmp n)) es) c.in-Err.ensures.err;
      died = c.reserve.ensures.items;
      count = omega arith;
      room = omega arith;
    }) st
