use Rattle.std.proofs.Common.{◌≡◌, ◌+◌, ◌≤◌, ◌++◌, ◌∷◌, [], List, None, Some, cond, is_some, if◌then◌else◌, bytes_eq, true, ap, sym, subst, refl, ◌∙◌, arith, string_bytes, is_ok}
use Rattle.std.specs.BTreeMap.{get_by_text, btree_map_len}
use Rattle.std.specs.Str.{IsUtf8, chars}
use Rattle.std.specs.Vec.{vec_len, vec_capacity}
use Rattle.std.proofs.lemmas.Map.Text.{btree_map_updates_text}
use Rattle.lp_objects.specs.Objects.{Named, object_named}
use Rattle.lp_objects.specs.Stands.{Stands}
use Rattle.lp_objects.proofs.TableLemmas.{its_name, stands_less}
use Rattle.lp_objects.proofs.objects.Objects.kill.Goals as goal

-- the name is in the map, so the map has one fewer without it
fewer : (c : goal.After-push) (objects : List Named) → Stands c.args.self.now objects → btree_map_len c.remove.new.self + 1 ≡ btree_map_len c.args.self.now.serials
fewer c objects st =
    let name_is : c.as_str.result.now ≡ string_bytes c.in-Some.entry.now.name = c.as_str.ensures.value in
    let was : c.remove.result ≡ Some (record { 0 = c.args.id.0 }) =
    c.remove.ensures.value ∙ st.listed c.as_str.result.now c.as_str.utf8
    ∙ ap (λ bs. object_named objects (chars bs)) name_is ∙ its_name c.args.self.now objects c.args.id c.in-Some.entry.now st (sym c.in-Some.ensures.value) c.if-entry.true in
    ap (λ o. btree_map_len c.remove.new.self + (if is_some o then 1 else 0)) (sym was) ∙ c.remove.ensures.len

-- there is room for one more among the dead
pushes : (c : goal.After-push) (objects : List Named) → Stands c.args.self.now objects → is_ok c.push.result ≡ true
pushes c objects st =
    let one : btree_map_len c.remove.new.self + 1 ≡ btree_map_len c.args.self.now.serials = fewer c objects st in
    let room : btree_map_len c.args.self.now.serials + vec_len c.args.self.now.died ≤ vec_capacity c.args.self.now.died = st.room in
    c.push.ensures.succeeds (omega arith)

pub returns-clause-died : goal.returns-clause-died
returns-clause-died c = λ objects st. c.push.ensures.items ∙ ap (λ b. if b then c.args.self.now.died.items ++ c.args.id ∷ [] else c.args.self.now.died.items) (pushes c objects st)

pub returns-clause-killed : goal.returns-clause-killed
returns-clause-killed c = λ objects st.
    let name_is : c.as_str.result.now ≡ string_bytes c.in-Some.entry.now.name = c.as_str.ensures.value in
    let one : btree_map_len c.remove.new.self + 1 ≡ btree_map_len c.args.self.now.serials = fewer c objects st in
    let room : btree_map_len c.args.self.now.serials + vec_len c.args.self.now.died ≤ vec_capacity c.args.self.now.died = st.room in
    let longer : vec_len c.push.new.self ≡ vec_len c.args.self.now.died + 1 = c.push.ensures.len ∙ ap (λ b. if b then vec_len c.args.self.now.died + 1 else vec_len c.args.self.now.died) (pushes c objects st) in
    let large : vec_capacity c.args.self.now.died ≤ vec_capacity c.push.new.self = c.push.ensures.capacity in
    stands_less c.args.self.now _ objects c.args.id c.in-Some.entry.now (subst IsUtf8 name_is c.as_str.utf8) st (sym c.in-Some.ensures.value) c.if-entry.true (record {
      next = refl;
      serials = λ q. subst (λ bs. get_by_text c.remove.new.self q ≡ cond (bytes_eq bs q) None (get_by_text c.args.self.now.serials q)) name_is (btree_map_updates_text c.as_str.result.now c.args.self.now.serials c.remove.new.self None c.remove.ensures.updates q);
      entries = c.mark_dead.ensures.each;
      died = c.push.ensures.items ∙ ap (λ b. if b then c.args.self.now.died.items ++ c.args.id ∷ [] else c.args.self.now.died.items) (pushes c objects st);
      count = one;
      room = omega arith;
    })
