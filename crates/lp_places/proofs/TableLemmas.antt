-- What the two maps of a table stand for after a change.
use Rattle.std.proofs.Common.{◌≡◌, ℕ, zero, suc, ◌+◌, ◌<◌, Bool, true, false, not, ◌||◌, cond, List, [], ◌∷◌, ◌++◌, length, Option, Some, None, is_some, nat_eq, refl, sym, ap, subst, ◌∙◌, inl, inr, arith, take, get_or, Global, Vec}
use Rattle.std.specs.Ordering.{is_eq, nat_cmp}
use Rattle.std.specs.List.{AllByRecursion}
use Rattle.std.specs.List.Sorted.{IsStrictlySortedBy}
use Rattle.std.specs.Map.{keys_of, lookup}
use Rattle.std.specs.declared.cmp.Ordering.TheVariants.{Less}
use Rattle.std.specs.BTreeMap.{BTreeMap, IsOrdered, btree_map_len, get, is_at}
use Rattle.std.proofs.Math.Seq.{take-suc}
use Rattle.std.proofs.lemmas.Bool.{cases_Bool, cond-true, cond-false, true≢false, eq-eqb, eqb-true, or_from, or_left}
use Rattle.std.proofs.lemmas.Grind.{common_steps}
use Rattle.std.proofs.lemmas.List.Folds.{list_any-append}
use Rattle.std.proofs.lemmas.Option.{none-some, same_Some}
use Rattle.lp_values.specs.declared.id.ObjId.{ObjId}
use Rattle.lp_places.specs.declared.links.Links.{Links}
use Rattle.lp_places.specs.Places.{Lying, environment, inventory, is_inside_by, is_object, moved, next_at, places_without, without_item}
use Rattle.lp_places.specs.Table.{IsOnce, IsTable, all_but, before_at, before_in, behind_in, first, is_among, is_number, items_in, left_for, with_behind}
use Rattle.lp_places.proofs.LinkLemmas.{environment_here, environment_past, filter_kept, filter_left, itself, turned, environment-moved, environment-without, environment-without_place, inventory-moved, inventory-without, inventory-without_place, inventory_stays, once-filter, once-moved, once-places_without, places_without-twice}
use Rattle.lp_places.proofs.NextLemmas.{before_for, is_there, next-moved, next-without, next-without_place, not_itself}

-- a look-up by a number asks whether it is that number
pub nat_at : (k q : ℕ) → is_at (nat_cmp k) q ≡ nat_eq k q
nat_at k q = grind (arith, common_steps)

-- whether a serial is among some and one more
among_more : (n : ℕ) (os : List ObjId) (o : ObjId) → is_among n (os ++ o ∷ []) ≡ (is_among n os || nat_eq o.0 n)
among_more n os o = list_any-append (λ p. nat_eq p.0 n) os (o ∷ []) ∙ ap (λ b. is_among n os || b) (or_false (nat_eq o.0 n))
  where
    or_false : (b : Bool) → (b || false) ≡ b
    or_false true = refl
    or_false false = refl

-- one more of some is taken out
pub take_out_step : {X : Type 0} (q i j : ℕ) (os : List ObjId) (d : ObjId) (old : Option X) → i < length os → j ≡ suc i → cond (nat_eq (get_or os i d).0 q) None (cond (is_among q (take i os)) None old) ≡ cond (is_among q (take j os)) None old
take_out_step {X} q i j os d old lt e =
    two (nat_eq (get_or os i d).0 q) (is_among q (take i os)) old
    ∙ ap (λ b. cond b None old) (sym (ap (is_among q) (ap (λ k. take k os) e ∙ take-suc os i d lt) ∙ among_more q (take i os) (get_or os i d)))
  where
    two : (a b : Bool) (old : Option X) → cond a None (cond b None old) ≡ cond (b || a) None old
    two true true old = refl
    two true false old = refl
    two false true old = refl
    two false false old = refl

-- the serial with a number
abbrev pub object : ℕ → ObjId
object n = record { 0 = n }

-- ---- an object more at a place

not_left_here : (was : Option ObjId) (place : ObjId) (n : ℕ) → nat_eq place.0 n ≡ true → is_number (left_for was place) n ≡ false
not_left_here None place n e = refl
not_left_here (Some w) place n e = elim (cases_Bool (is_object w place)) [
  | inl y ↦ ap (λ o. is_number o n) (cond-true _ None (Some w) y)
  | inr a ↦ ap (λ o. is_number o n) (cond-false _ None (Some w) a) ∙ subst (λ k. nat_eq w.0 k ≡ false) (eqb-true _ _ e) a
]

left_there : (was : Option ObjId) (place : ObjId) (n : ℕ) → nat_eq place.0 n ≡ false → is_number (left_for was place) n ≡ is_number was n
left_there None place n e = refl
left_there (Some w) place n e = elim (cases_Bool (is_object w place)) [
  | inl y ↦ ap (λ o. is_number o n) (cond-true _ None (Some w) y) ∙ sym (ap (λ k. nat_eq k n) (eqb-true _ _ y) ∙ e)
  | inr a ↦ ap (λ o. is_number o n) (cond-false _ None (Some w) a)
]

-- where an object was that is at no place of that number
not_at : (was : Option ObjId) (n : ℕ) → is_number was n ≡ false → was ≡ Some (object n) → ⊥
not_at None n e is = none-some _ is
not_at (Some w) n e is = true≢false (sym (eq-eqb w.0 n (ap (λ (o : ObjId). o.0) (same_Some _ _ is))) ∙ e)

-- what is before an object in the list of the place where the links have it
before_same : (t : Links) (links : List Lying) (item : ObjId) → IsTable t links → before_at t.backward (get nat_cmp t.forward item.0) item ≡ before_for links item (environment links item)
before_same t links item tb = ap (λ w. before_at t.backward w item) (tb.forward item.0) ∙ by_list t links item tb (environment links item)
  where
    by_list : (t : Links) (links : List Lying) (item : ObjId) → IsTable t links → (w : Option ObjId) → before_at t.backward w item ≡ before_for links item w
    by_list t links item tb None = refl
    by_list t links item tb (Some w) = ap (before_in None item) (tb.backward w.0)

-- what is before an object where the lists are the same
pub before_opened : (t u : BTreeMap ℕ (Vec ObjId Global)) (w : Option ObjId) (item : ObjId) → ((n : ℕ) → items_in (get nat_cmp u n) ≡ items_in (get nat_cmp t n)) → before_at u w item ≡ before_at t w item
before_opened t u None item h = refl
before_opened t u (Some w) item h = ap (before_in None item) (h w.0)

-- the same change, in other words
pub set_as : (n : ℕ) (b bs x xs : Option ObjId) (l ls r : Option (Option ObjId)) → r ≡ cond (is_number b n) (with_behind x l) l → b ≡ bs → x ≡ xs → l ≡ ls → r ≡ cond (is_number bs n) (with_behind xs ls) ls
set_as n b bs x xs l ls r h e f g =
    h ∙ ap (λ y. cond (is_number y n) (with_behind x l) l) e ∙ ap (λ y. cond (is_number bs n) (with_behind y l) l) f ∙ ap (λ y. cond (is_number bs n) (with_behind xs y) y) g

-- another object behind one that has an entry
behind_changes : (b : Bool) (x : Option ObjId) (l : Option (Option ObjId)) → (b ≡ true → is_some l ≡ true) → behind_in (cond b (with_behind x l) l) ≡ cond b x (behind_in l)
behind_changes false x l h = refl
behind_changes true x None h = absurd (true≢false (sym (h refl)))
behind_changes true x (Some o) h = refl

entry_stays : (b : Bool) (x : Option ObjId) (l : Option (Option ObjId)) → is_some l ≡ true → is_some (cond b (with_behind x l) l) ≡ true
entry_stays false x l h = h
entry_stays true x None h = h
entry_stays true x (Some o) h = refl

-- who has a link is somewhere, and has an entry
some_there : (x : Option ObjId) → (x ≡ None → ⊥) → is_some x ≡ true
some_there None h = absurd (h refl)
some_there (Some o) h = refl

entry_before : (t : Links) (links : List Lying) (item : ObjId) → IsTable t links → (n : ℕ) → is_number (before_for links item (environment links item)) n ≡ true → is_some (get nat_cmp t.behind n) ≡ true
entry_before t links item tb n e = tb.entries n (some_there (get nat_cmp t.forward n) (λ none. is_there links item n tb.once e (sym (tb.forward n) ∙ none)))

within_behind : (b : Bool) (l m : Option (Option ObjId)) → behind_in (cond b l m) ≡ cond b (behind_in l) (behind_in m)
within_behind true l m = refl
within_behind false l m = refl

-- a way out of two conditions: what is somewhere but at one object
none_left : (b : Bool) (f : Option ObjId) (g : Option (Option ObjId)) → (is_some f ≡ true → is_some g ≡ true) → is_some (cond b None f) ≡ true → is_some (cond b None g) ≡ true
none_left true f g h e = absurd (true≢false (sym e))
none_left false f g h e = h e

pub record HasJoined (t t' : Links) (item place : ObjId) (was : Option ObjId) : Type 0 where
  pub opened : Links
  pub forward : (n : ℕ) → get nat_cmp t'.forward n ≡ cond (nat_eq item.0 n) (Some place) (get nat_cmp t.forward n)
  pub was_there : was ≡ get nat_cmp t.forward item.0
  pub there : is_some (get nat_cmp opened.behind item.0) ≡ true
  pub same : (n : ℕ) → behind_in (get nat_cmp opened.behind n) ≡ behind_in (get nat_cmp t.behind n)
  pub kept : (n : ℕ) → is_some (get nat_cmp t.behind n) ≡ true → is_some (get nat_cmp opened.behind n) ≡ true
  pub behind : (n : ℕ) → get nat_cmp t'.behind n
      ≡ cond (nat_eq item.0 n) (with_behind (first (all_but item (items_in (get nat_cmp t.backward place.0)))) (cond (is_number (before_at t.backward was item) n) (with_behind (behind_in (get nat_cmp opened.behind item.0)) (get nat_cmp opened.behind n)) (get nat_cmp opened.behind n)))
      (cond (is_number (before_at t.backward was item) n) (with_behind (behind_in (get nat_cmp opened.behind item.0)) (get nat_cmp opened.behind n)) (get nat_cmp opened.behind n))
  pub backward : (n : ℕ) → items_in (get nat_cmp t'.backward n)
      ≡ cond (is_number (left_for was place) n) (all_but item (cond (nat_eq place.0 n) (item ∷ all_but item (items_in (get nat_cmp t.backward place.0))) (items_in (get nat_cmp t.backward n))))
      (cond (nat_eq place.0 n) (item ∷ all_but item (items_in (get nat_cmp t.backward place.0))) (items_in (get nat_cmp t.backward n)))

pub joined : (t t' : Links) (links : List Lying) (item place : ObjId) (was : Option ObjId) → IsTable t links → HasJoined t t' item place was → IsTable t' (moved links item place)
joined t t' links item place was tb h = record {
  forward = λ n. h.forward n ∙ ap (cond (nat_eq item.0 n) (Some place)) (tb.forward n) ∙ sym (environment-moved links item place (object n));
  behind = λ n. ap behind_in (h.behind n)
      ∙ behind_changes (nat_eq item.0 n) (first (all_but item (items_in (get nat_cmp t.backward place.0)))) (mended n) (λ y. mended_entry n (subst (λ k. is_some (get nat_cmp h.opened.behind k) ≡ true) (eqb-true _ _ y) h.there))
      ∙ ap (λ os. cond (nat_eq item.0 n) (first (all_but item os)) (behind_in (mended n))) (tb.backward place.0)
      ∙ ap (cond (nat_eq item.0 n) (first (all_but item (inventory links place)))) (mended_behind n)
      ∙ sym (next-moved links item place (object n) tb.once);
  entries = λ n e. subst (λ l. is_some l ≡ true) (sym (h.behind n)) (entry_stays (nat_eq item.0 n) (first (all_but item (items_in (get nat_cmp t.backward place.0)))) (mended n) (mended_entry n (opened_entry n (subst (λ l. is_some l ≡ true) (h.forward n) e))));
  backward = λ n. elim (cases_Bool (nat_eq place.0 n)) [
    | inl y ↦
        let here : object n ≡ place = ap object (sym (eqb-true _ _ y)) in
        h.backward n ∙ cond-false _ _ _ (not_left_here was place n y) ∙ cond-true _ _ _ y ∙ ap (λ os. item ∷ all_but item os) (tb.backward place.0 ∙ sym (ap (inventory links) here))
        ∙ sym (inventory-moved links item place (object n) ∙ cond-true _ _ _ y)
    | inr a ↦
        let old : cond (nat_eq place.0 n) (item ∷ all_but item (items_in (get nat_cmp t.backward place.0))) (items_in (get nat_cmp t.backward n)) ≡ inventory links (object n) = cond-false _ _ _ a ∙ tb.backward n in
        h.backward n
        ∙ ap (λ os. cond (is_number (left_for was place) n) (all_but item os) os) old
        ∙ ap (λ b. cond b (all_but item (inventory links (object n))) (inventory links (object n))) (left_there was place n a)
        ∙ left_or_stays t links item was tb h.was_there n
        ∙ sym (inventory-moved links item place (object n) ∙ cond-false _ _ _ a)
  ];
  once = once-moved links item place tb.once;
}
  where
    before : before_at t.backward was item ≡ before_for links item (environment links item)
    before = ap (λ w. before_at t.backward w item) h.was_there ∙ before_same t links item tb

    -- what is behind an object once the item is taken out of its list
    mended : ℕ → Option (Option ObjId)
    mended n = cond (is_number (before_at t.backward was item) n) (with_behind (behind_in (get nat_cmp h.opened.behind item.0)) (get nat_cmp h.opened.behind n)) (get nat_cmp h.opened.behind n)

    mended_entry : (n : ℕ) → is_some (get nat_cmp h.opened.behind n) ≡ true → is_some (mended n) ≡ true
    mended_entry n e = entry_stays (is_number (before_at t.backward was item) n) (behind_in (get nat_cmp h.opened.behind item.0)) (get nat_cmp h.opened.behind n) e

    opened_entry : (n : ℕ) → is_some (cond (nat_eq item.0 n) (Some place) (get nat_cmp t.forward n)) ≡ true → is_some (get nat_cmp h.opened.behind n) ≡ true
    opened_entry n e = elim (cases_Bool (nat_eq item.0 n)) [
      | inl y ↦ subst (λ k. is_some (get nat_cmp h.opened.behind k) ≡ true) (eqb-true _ _ y) h.there
      | inr a ↦ h.kept n (tb.entries n (subst (λ l. is_some l ≡ true) (cond-false _ _ _ a) e))
    ]

    mended_behind : (n : ℕ) → behind_in (mended n) ≡ cond (is_number (before_for links item (environment links item)) n) (next_at links item) (next_at links (object n))
    mended_behind n =
        behind_changes (is_number (before_at t.backward was item) n) (behind_in (get nat_cmp h.opened.behind item.0)) (get nat_cmp h.opened.behind n)
        (λ y. h.kept n (entry_before t links item tb n (sym (ap (λ b. is_number b n) before) ∙ y)))
        ∙ ap (λ b. cond (is_number b n) (behind_in (get nat_cmp h.opened.behind item.0)) (behind_in (get nat_cmp h.opened.behind n))) before
        ∙ ap (λ x. cond (is_number (before_for links item (environment links item)) n) x (behind_in (get nat_cmp h.opened.behind n))) (h.same item.0 ∙ tb.behind item.0)
        ∙ ap (cond (is_number (before_for links item (environment links item)) n) (next_at links item)) (h.same n ∙ tb.behind n)

    left_or_stays : (t : Links) (links : List Lying) (item : ObjId) (was : Option ObjId) → IsTable t links → was ≡ get nat_cmp t.forward item.0 → (n : ℕ)
        → cond (is_number was n) (all_but item (inventory links (object n))) (inventory links (object n)) ≡ all_but item (inventory links (object n))
    left_or_stays t links item was tb is n = elim (cases_Bool (is_number was n)) [
      | inl y ↦ cond-true _ _ _ y
      | inr a ↦ cond-false _ _ _ a ∙ sym (inventory_stays links item (object n) tb.once (λ e. not_at was n a (is ∙ tb.forward item.0 ∙ e)))
    ]

-- ---- an object leaves

pub record HasLeft (t t' : Links) (item : ObjId) (was : Option ObjId) : Type 0 where
  pub forward : (n : ℕ) → get nat_cmp t'.forward n ≡ cond (nat_eq item.0 n) None (get nat_cmp t.forward n)
  pub was_there : was ≡ get nat_cmp t.forward item.0
  pub behind : (n : ℕ) → get nat_cmp t'.behind n
      ≡ cond (is_number (before_at t.backward was item) n) (with_behind (behind_in (get nat_cmp t.behind item.0)) (cond (nat_eq item.0 n) None (get nat_cmp t.behind n))) (cond (nat_eq item.0 n) None (get nat_cmp t.behind n))
  pub backward : (n : ℕ) → items_in (get nat_cmp t'.backward n) ≡ cond (is_number was n) (all_but item (items_in (get nat_cmp t.backward n))) (items_in (get nat_cmp t.backward n))

pub left : (t t' : Links) (links : List Lying) (item : ObjId) (was : Option ObjId) → IsTable t links → HasLeft t t' item was → IsTable t' (without_item links item)
left t t' links item was tb h = record {
  forward = λ n. h.forward n ∙ ap (cond (nat_eq item.0 n) None) (tb.forward n) ∙ sym (environment-without links item (object n));
  behind = λ n. ap behind_in (h.behind n)
      ∙ ap (λ b. behind_in (cond (is_number b n) (with_behind (behind_in (get nat_cmp t.behind item.0)) (cond (nat_eq item.0 n) None (get nat_cmp t.behind n))) (cond (nat_eq item.0 n) None (get nat_cmp t.behind n)))) before
      ∙ by_cases n ∙ sym (next-without links item (object n) tb.once);
  entries = λ n e. subst (λ l. is_some l ≡ true) (sym (h.behind n)) (entry_stays (is_number (before_at t.backward was item) n) (behind_in (get nat_cmp t.behind item.0)) (cond (nat_eq item.0 n) None (get nat_cmp t.behind n))
      (none_left (nat_eq item.0 n) (get nat_cmp t.forward n) (get nat_cmp t.behind n) (tb.entries n) (subst (λ l. is_some l ≡ true) (h.forward n) e)));
  backward = λ n.
      h.backward n ∙ ap (λ os. cond (is_number was n) (all_but item os) os) (tb.backward n)
      ∙ elim (cases_Bool (is_number was n)) [
        | inl y ↦ cond-true _ _ _ y
        | inr a ↦ cond-false _ _ _ a ∙ sym (inventory_stays links item (object n) tb.once (λ e. not_at was n a (h.was_there ∙ tb.forward item.0 ∙ e)))
      ]
      ∙ sym (inventory-without links item (object n));
  once = once-filter (λ p. not (is_object p.item item)) links tb.once;
}
  where
    before : before_at t.backward was item ≡ before_for links item (environment links item)
    before = ap (λ w. before_at t.backward w item) h.was_there ∙ before_same t links item tb

    by_cases : (n : ℕ) → behind_in (cond (is_number (before_for links item (environment links item)) n) (with_behind (behind_in (get nat_cmp t.behind item.0)) (cond (nat_eq item.0 n) None (get nat_cmp t.behind n))) (cond (nat_eq item.0 n) None (get nat_cmp t.behind n)))
        ≡ cond (is_object item (object n)) None (cond (is_number (before_for links item (environment links item)) n) (next_at links item) (next_at links (object n)))
    by_cases n = elim (cases_Bool (nat_eq item.0 n)) [
      | inl y ↦
          let apart : is_number (before_for links item (environment links item)) n ≡ false = subst (λ k. is_number (before_for links item (environment links item)) k ≡ false) (eqb-true _ _ y) (not_itself links item (environment links item)) in
          ap behind_in (cond-false _ _ _ apart ∙ cond-true _ _ _ y) ∙ sym (cond-true _ _ _ y)
      | inr a ↦
          ap (λ (l : Option (Option ObjId)). behind_in (cond (is_number (before_for links item (environment links item)) n) (with_behind (behind_in (get nat_cmp t.behind item.0)) l) l)) (cond-false _ None (get nat_cmp t.behind n) a)
          ∙ behind_changes (is_number (before_for links item (environment links item)) n) (behind_in (get nat_cmp t.behind item.0)) (get nat_cmp t.behind n) (entry_before t links item tb n)
          ∙ ap (λ x. cond (is_number (before_for links item (environment links item)) n) x (behind_in (get nat_cmp t.behind n))) (tb.behind item.0)
          ∙ ap (cond (is_number (before_for links item (environment links item)) n) (next_at links item)) (tb.behind n)
          ∙ sym (cond-false _ _ _ a)
    ]

-- ---- an object is taken out

pub record HasCut (t t' : Links) (o : ObjId) : Type 0 where
  pub forward : (n : ℕ) → get nat_cmp t'.forward n ≡ cond (is_among n (items_in (get nat_cmp t.backward o.0))) None (get nat_cmp t.forward n)
  pub behind : (n : ℕ) → get nat_cmp t'.behind n ≡ cond (is_among n (items_in (get nat_cmp t.backward o.0))) None (get nat_cmp t.behind n)
  pub backward : (n : ℕ) → get nat_cmp t'.backward n ≡ cond (nat_eq o.0 n) None (get nat_cmp t.backward n)

pub cut : (t t' : Links) (links : List Lying) (o : ObjId) → IsOnce links → IsTable t (without_item links o) → HasCut t t' o → IsTable t' (places_without links o)
cut t t' links o once tb h = record {
  forward = λ n. h.forward n ∙ ap (λ os. cond (is_among n os) None (get nat_cmp t.forward n)) (tb.backward o.0) ∙ ap (cond (is_among n (inventory (without_item links o) o)) None) (tb.forward n)
      ∙ sym (ap (λ xs. environment xs (object n)) (places_without-twice links o) ∙ environment-without_place (without_item links o) o (object n) tb.once);
  behind = λ n. ap behind_in (h.behind n ∙ ap (λ os. cond (is_among n os) None (get nat_cmp t.behind n)) (tb.backward o.0))
      ∙ within_behind (is_among n (inventory (without_item links o) o)) None (get nat_cmp t.behind n)
      ∙ ap (cond (is_among n (inventory (without_item links o) o)) None) (tb.behind n)
      ∙ sym (ap (λ xs. next_at xs (object n)) (places_without-twice links o) ∙ next-without_place (without_item links o) o (object n) tb.once);
  entries = λ n e. subst (λ l. is_some l ≡ true) (sym (h.behind n))
      (none_left (is_among n (items_in (get nat_cmp t.backward o.0))) (get nat_cmp t.forward n) (get nat_cmp t.behind n) (tb.entries n) (subst (λ l. is_some l ≡ true) (h.forward n) e));
  backward = λ n. ap items_in (h.backward n) ∙ within (nat_eq o.0 n) (get nat_cmp t.backward n) ∙ ap (cond (nat_eq o.0 n) []) (tb.backward n)
      ∙ sym (ap (λ xs. inventory xs (object n)) (places_without-twice links o) ∙ inventory-without_place (without_item links o) o (object n));
  once = once-places_without links o once;
}
  where
    within : (b : Bool) (v : Option (Vec ObjId Global)) → items_in (cond b None v) ≡ cond b [] (items_in v)
    within true v = refl
    within false v = refl

-- ---- how many links there are

pub without_none : (ls : List Lying) (i : ObjId) → environment ls i ≡ None → without_item ls i ≡ ls
without_none [] i e = refl
without_none (l ∷ ls) i e = elim (cases_Bool (is_object l.item i)) [
  | inl y ↦ absurd (none-some _ (sym e ∙ environment_here l ls i y))
  | inr n ↦ filter_kept (λ p. not (is_object p.item i)) l ls (ap not n) ∙ ap (λ xs. l ∷ xs) (without_none ls i (sym (environment_past l ls i n) ∙ e))
]

pub one_fewer : (ls : List Lying) (i p : ObjId) → IsOnce ls → environment ls i ≡ Some p → length (without_item ls i) + 1 ≡ length ls
one_fewer [] i p h e = absurd (none-some p e)
one_fewer (l ∷ ls) i p h e = elim (cases_Bool (is_object l.item i)) [
  | inl y ↦
      let none : environment ls i ≡ None = subst (λ n. environment ls (object n) ≡ None) (eqb-true _ _ y) h.0 in
      let gone : without_item (l ∷ ls) i ≡ ls = filter_left (λ p. not (is_object p.item i)) l ls (ap not y) ∙ without_none ls i none in
      ap (λ xs. length xs + 1) gone ∙ (omega arith)
  | inr n ↦
      let rest : length (without_item ls i) + 1 ≡ length ls = one_fewer ls i p h.1 (sym (environment_past l ls i n) ∙ e) in
      let kept : without_item (l ∷ ls) i ≡ l ∷ without_item ls i = filter_kept (λ p. not (is_object p.item i)) l ls (ap not n) in
      ap (λ xs. length xs + 1) kept ∙ (omega arith)
]

-- two lists with the same places have the same length
pub same_length : (ls bs : List Lying) → IsOnce ls → IsOnce bs → ((n : ℕ) → environment ls (object n) ≡ environment bs (object n)) → length ls ≡ length bs
same_length [] [] ha hb e = refl
same_length [] (b ∷ bs) ha hb e = absurd (none-some _ (e b.item.0 ∙ environment_here b bs b.item (itself b.item)))
same_length (a ∷ ls) bs ha hb e =
    let there : environment bs a.item ≡ Some a.place = sym (e a.item.0) ∙ environment_here a ls a.item (itself a.item) in
    let rest : (n : ℕ) → environment ls (object n) ≡ environment (without_item bs a.item) (object n) = λ n.
    elim (cases_Bool (is_object a.item (object n))) [
      | inl y ↦ subst (λ k. environment ls (object k) ≡ None) (eqb-true _ _ y) ha.0 ∙ sym (environment-without bs a.item (object n) ∙ cond-true _ _ _ y)
      | inr d ↦ sym (environment_past a ls (object n) d) ∙ e n ∙ sym (environment-without bs a.item (object n) ∙ cond-false _ _ _ d)
    ] in
    let shorter : length ls ≡ length (without_item bs a.item) = same_length ls (without_item bs a.item) ha.1 (once-filter (λ p. not (is_object p.item a.item)) bs hb) rest in
    let one : length (without_item bs a.item) + 1 ≡ length bs = one_fewer bs a.item a.place hb there in
    omega arith

-- the entries of a map, as links
abbrev pub links_of : List (ℕ × ObjId) → List Lying
links_of [] = []
links_of (e ∷ es) = record { item = object e.0; place = e.1 } ∷ links_of es

links_look : (es : List (ℕ × ObjId)) (n : ℕ) → environment (links_of es) (object n) ≡ lookup (is_at (nat_cmp n)) es
links_look [] n = refl
links_look (e ∷ es) n = elim (cases_Bool (nat_eq e.0 n)) [
  | inl y ↦ environment_here (record { item = object e.0; place = e.1 }) (links_of es) (object n) y ∙ sym (cond-true _ _ _ (nat_at n e.0 ∙ turned (object n) (object e.0) ∙ y))
  | inr a ↦ environment_past (record { item = object e.0; place = e.1 }) (links_of es) (object n) a ∙ links_look es n ∙ sym (cond-false _ _ _ (nat_at n e.0 ∙ turned (object n) (object e.0) ∙ a))
]

links_absent : (es : List (ℕ × ObjId)) (k : ℕ) → AllByRecursion (λ y. nat_cmp k y ≡ Less) (keys_of es) → environment (links_of es) (object k) ≡ None
links_absent [] k h = refl
links_absent (e ∷ es) k h =
    let apart : nat_eq e.0 k ≡ false = turned (object e.0) (object k) ∙ sym (nat_at k e.0) ∙ ap is_eq h.0 in
    environment_past (record { item = object e.0; place = e.1 }) (links_of es) (object k) apart ∙ links_absent es k h.1

links_once : (es : List (ℕ × ObjId)) → IsStrictlySortedBy nat_cmp (keys_of es) → IsOnce (links_of es)
unfolding IsStrictlySortedBy
links_once [] h = tt
links_once (e ∷ es) h = (links_absent es e.0 h.0, links_once es h.1)

length_links : (es : List (ℕ × ObjId)) → length (links_of es) ≡ length es
length_links [] = refl
length_links (e ∷ es) = ap suc (length_links es)

pub how_many : (t : Links) (links : List Lying) → IsTable t links → IsOrdered nat_cmp t.forward → btree_map_len t.forward ≡ length links
how_many t links tb o = sym (length_links t.forward.entries) ∙ same_length (links_of t.forward.entries) links (links_once t.forward.entries o) tb.once (λ n. links_look t.forward.entries n ∙ tb.forward n)

-- ---- one step outwards

pub inside_here : (n : ℕ) (links : List Lying) (o outer : ObjId) → is_object o outer ≡ true → is_inside_by n links o outer ≡ true
inside_here zero links o outer e = e
inside_here (suc n) links o outer e = or_left _ _ e

pub inside_out : (n : ℕ) (links : List Lying) (o outer : ObjId) → is_object o outer ≡ false → environment links o ≡ None → is_inside_by n links o outer ≡ false
inside_out zero links o outer e none = e
inside_out (suc n) links o outer e none = or_from _ _ e (ap (λ (x : Option ObjId). elim x [ Some e ↦ is_inside_by n links e outer | None ↦ false ]) none)

pub inside_up : (n : ℕ) (links : List Lying) (o outer place : ObjId) → is_object o outer ≡ false → environment links o ≡ Some place → is_inside_by (suc n) links o outer ≡ is_inside_by n links place outer
inside_up n links o outer place e some =
    ap (λ b. b || elim (environment links o) [ Some e ↦ is_inside_by n links e outer | None ↦ false ]) e
    ∙ ap (λ (x : Option ObjId). elim x [ Some e ↦ is_inside_by n links e outer | None ↦ false ]) some
