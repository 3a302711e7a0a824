-- What moving and taking out do to a list of links.
use Rattle.std.proofs.Common.{◌≡◌, Bool, true, false, not, ◌||◌, cond, List, [], ◌∷◌, map, Option, Some, None, nat_eq, refl, sym, ap, subst, ◌∙◌, inl, inr}
use Rattle.std.specs.Option.{option_map}
use Rattle.std.specs.List.{filter, find}
use Rattle.std.proofs.lemmas.Bool.{cases_Bool, cases_eq, cond-true, cond-false, eq-eqb, eqb-true, ne_eqb, or_parts, or_from, or_left, or_right}
use Rattle.std.proofs.lemmas.Option.{none-some}
use Rattle.lp_values.specs.declared.id.ObjId.{ObjId}
use Rattle.lp_places.specs.Places.{Lying, environment, inventory, is_object, moved, places_without, without_item}
use Rattle.lp_places.specs.Table.{IsOnce, all_but, is_among}

-- ---- steps of the two look-ups

pub environment_here : (l : Lying) (ls : List Lying) (o : ObjId) → is_object l.item o ≡ true → environment (l ∷ ls) o ≡ Some l.place
environment_here l ls o e = ap (option_map (λ (p : Lying). p.place)) (cond-true _ (Some l) (find (λ p. is_object p.item o) ls) e)

pub environment_past : (l : Lying) (ls : List Lying) (o : ObjId) → is_object l.item o ≡ false → environment (l ∷ ls) o ≡ environment ls o
environment_past l ls o e = ap (option_map (λ (p : Lying). p.place)) (cond-false _ (Some l) (find (λ p. is_object p.item o) ls) e)

pub filter_kept : {X : Type 0} (p : X → Bool) (x : X) (xs : List X) → p x ≡ true → filter p (x ∷ xs) ≡ x ∷ filter p xs
filter_kept p x xs e = cond-true _ _ _ e

pub filter_left : {X : Type 0} (p : X → Bool) (x : X) (xs : List X) → p x ≡ false → filter p (x ∷ xs) ≡ filter p xs
filter_left p x xs e = cond-false _ _ _ e

pub inventory_here : (l : Lying) (ls : List Lying) (o : ObjId) → is_object l.place o ≡ true → inventory (l ∷ ls) o ≡ l.item ∷ inventory ls o
inventory_here l ls o e = ap (map (λ (p : Lying). p.item)) (filter_kept (λ p. is_object p.place o) l ls e)

pub inventory_past : (l : Lying) (ls : List Lying) (o : ObjId) → is_object l.place o ≡ false → inventory (l ∷ ls) o ≡ inventory ls o
inventory_past l ls o e = ap (map (λ (p : Lying). p.item)) (filter_left (λ p. is_object p.place o) l ls e)

-- one serial in place of an equal one
pub swapped : (a b o : ObjId) → is_object a b ≡ true → is_object a o ≡ is_object b o
swapped a b o e = ap (λ n. nat_eq n o.0) (eqb-true a.0 b.0 e)

pub turned : (a b : ObjId) → is_object a b ≡ is_object b a
turned a b = elim (cases_eq a.0 b.0) [
  | inl e ↦ eq-eqb a.0 b.0 e ∙ sym (eq-eqb b.0 a.0 (sym e))
  | inr n ↦ ne_eqb a.0 b.0 n ∙ sym (ne_eqb b.0 a.0 (λ e. n (sym e)))
]

pub itself : (a : ObjId) → is_object a a ≡ true
itself a = eq-eqb a.0 a.0 refl

-- ---- a list without some links

pub environment_none : (test : Lying → Bool) (ls : List Lying) (o : ObjId) → environment ls o ≡ None → environment (filter test ls) o ≡ None
environment_none test [] o e = refl
environment_none test (l ∷ ls) o e =
    elim (cases_Bool (is_object l.item o)) [
      | inl y ↦ absurd (none-some _ (sym e ∙ environment_here l ls o y))
      | inr n ↦
          let rest : environment ls o ≡ None = sym (environment_past l ls o n) ∙ e in
          elim (cases_Bool (test l)) [
            | inl t ↦ ap (λ xs. environment xs o) (filter_kept test l ls t) ∙ environment_past l (filter test ls) o n ∙ environment_none test ls o rest
            | inr t ↦ ap (λ xs. environment xs o) (filter_left test l ls t) ∙ environment_none test ls o rest
          ]
    ]

pub once-filter : (test : Lying → Bool) (ls : List Lying) → IsOnce ls → IsOnce (filter test ls)
once-filter test [] h = tt
once-filter test (l ∷ ls) h =
    elim (cases_Bool (test l)) [
      | inl t ↦ subst IsOnce (sym (filter_kept test l ls t)) (environment_none test ls l.item h.0, once-filter test ls h.1)
      | inr t ↦ subst IsOnce (sym (filter_left test l ls t)) (once-filter test ls h.1)
    ]

-- who is nowhere is in no inventory
pub nowhere : (ls : List Lying) (o b : ObjId) → environment ls o ≡ None → is_among o.0 (inventory ls b) ≡ false
nowhere [] o b e = refl
nowhere (l ∷ ls) o b e =
    elim (cases_Bool (is_object l.item o)) [
      | inl y ↦ absurd (none-some _ (sym e ∙ environment_here l ls o y))
      | inr n ↦
          let rest = nowhere ls o b (sym (environment_past l ls o n) ∙ e) in
          elim (cases_Bool (is_object l.place b)) [
            | inl t ↦ ap (is_among o.0) (inventory_here l ls b t) ∙ (rw (n, rest) refl)
            | inr t ↦ ap (is_among o.0) (inventory_past l ls b t) ∙ rest
          ]
    ]

-- ---- leaving

pub environment-without : (ls : List Lying) (i o : ObjId) → environment (without_item ls i) o ≡ cond (is_object i o) None (environment ls o)
environment-without [] i o = elim (cases_Bool (is_object i o)) [ inl y ↦ sym (cond-true _ _ _ y) | inr n ↦ sym (cond-false _ _ _ n) ]
environment-without (l ∷ ls) i o =
    elim (cases_Bool (is_object l.item i)) [
      | inl y ↦
          let gone : without_item (l ∷ ls) i ≡ without_item ls i = filter_left (λ p. not (is_object p.item i)) l ls (ap not y) in
          ap (λ xs. environment xs o) gone ∙ environment-without ls i o
          ∙ elim (cases_Bool (is_object i o)) [
            | inl a ↦ cond-true _ _ _ a ∙ sym (cond-true _ _ _ a)
            | inr a ↦ ap (cond (is_object i o) None) (sym (environment_past l ls o (swapped l.item i o y ∙ a)))
          ]
      | inr n ↦
          let kept : without_item (l ∷ ls) i ≡ l ∷ without_item ls i = filter_kept (λ p. not (is_object p.item i)) l ls (ap not n) in
          ap (λ xs. environment xs o) kept
          ∙ elim (cases_Bool (is_object l.item o)) [
            | inl a ↦
                let other : is_object i o ≡ false = sym (swapped l.item o i a ∙ turned o i) ∙ n in
                environment_here l (without_item ls i) o a ∙ sym (cond-false _ _ _ other ∙ environment_here l ls o a)
            | inr a ↦ environment_past l (without_item ls i) o a ∙ environment-without ls i o ∙ ap (cond (is_object i o) None) (sym (environment_past l ls o a))
          ]
    ]

pub inventory-without : (ls : List Lying) (i o : ObjId) → inventory (without_item ls i) o ≡ all_but i (inventory ls o)
inventory-without [] i o = refl
inventory-without (l ∷ ls) i o =
    elim (cases_Bool (is_object l.item i)) [
      | inl y ↦
          let gone : without_item (l ∷ ls) i ≡ without_item ls i = filter_left (λ p. not (is_object p.item i)) l ls (ap not y) in
          ap (λ xs. inventory xs o) gone ∙ inventory-without ls i o
          ∙ elim (cases_Bool (is_object l.place o)) [
            | inl a ↦ sym (ap (all_but i) (inventory_here l ls o a) ∙ filter_left (λ x. not (is_object x i)) l.item (inventory ls o) (ap not y))
            | inr a ↦ sym (ap (all_but i) (inventory_past l ls o a))
          ]
      | inr n ↦
          let kept : without_item (l ∷ ls) i ≡ l ∷ without_item ls i = filter_kept (λ p. not (is_object p.item i)) l ls (ap not n) in
          ap (λ xs. inventory xs o) kept
          ∙ elim (cases_Bool (is_object l.place o)) [
            | inl a ↦ inventory_here l (without_item ls i) o a ∙ ap (λ os. l.item ∷ os) (inventory-without ls i o)
                ∙ sym (ap (all_but i) (inventory_here l ls o a) ∙ filter_kept (λ x. not (is_object x i)) l.item (inventory ls o) (ap not n))
            | inr a ↦ inventory_past l (without_item ls i) o a ∙ inventory-without ls i o ∙ sym (ap (all_but i) (inventory_past l ls o a))
          ]
    ]

-- an inventory stays where an object that is not in it leaves
pub none_there : (os : List ObjId) (i : ObjId) → is_among i.0 os ≡ false → all_but i os ≡ os
none_there [] i e = refl
none_there (x ∷ xs) i e =
    let parts = or_parts _ _ e in
    filter_kept (λ y. not (is_object y i)) x xs (ap not parts.0) ∙ ap (λ ys. x ∷ ys) (none_there xs i parts.1)

-- who is in an inventory is at that place
pub elsewhere : (ls : List Lying) (i o : ObjId) → IsOnce ls → (environment ls i ≡ Some o → ⊥) → is_among i.0 (inventory ls o) ≡ false
elsewhere [] i o h apart = refl
elsewhere (l ∷ ls) i o h apart =
    elim (cases_Bool (is_object l.item i)) [
      | inl y ↦
          let none : environment ls i ≡ None = subst (λ n. environment ls (let x : ObjId = record { 0 = n } in x) ≡ None) (eqb-true _ _ y) h.0 in
          elim (cases_Bool (is_object l.place o)) [
            | inl a ↦ absurd (apart (environment_here l ls i y ∙ ap (λ n. Some (let x : ObjId = record { 0 = n } in x)) (eqb-true _ _ a)))
            | inr a ↦ ap (is_among i.0) (inventory_past l ls o a) ∙ nowhere ls i o none
          ]
      | inr n ↦
          let rest = elsewhere ls i o h.1 (λ e. apart (environment_past l ls i n ∙ e)) in
          elim (cases_Bool (is_object l.place o)) [
            | inl a ↦ ap (is_among i.0) (inventory_here l ls o a) ∙ (rw (n, rest) refl)
            | inr a ↦ ap (is_among i.0) (inventory_past l ls o a) ∙ rest
          ]
    ]

pub inventory_stays : (ls : List Lying) (i o : ObjId) → IsOnce ls → (environment ls i ≡ Some o → ⊥) → all_but i (inventory ls o) ≡ inventory ls o
inventory_stays ls i o h apart = none_there (inventory ls o) i (elsewhere ls i o h apart)

pub once-moved : (ls : List Lying) (i d : ObjId) → IsOnce ls → IsOnce (moved ls i d)
once-moved ls i d h = (environment-without ls i i ∙ cond-true _ _ _ (itself i), once-filter (λ p. not (is_object p.item i)) ls h)

pub environment-moved : (ls : List Lying) (i d o : ObjId) → environment (moved ls i d) o ≡ cond (is_object i o) (Some d) (environment ls o)
environment-moved ls i d o =
    elim (cases_Bool (is_object i o)) [
      | inl y ↦ environment_here (record { item = i; place = d }) (without_item ls i) o y ∙ sym (cond-true _ _ _ y)
      | inr n ↦ environment_past (record { item = i; place = d }) (without_item ls i) o n ∙ environment-without ls i o ∙ cond-false _ _ _ n ∙ sym (cond-false _ _ _ n)
    ]

pub inventory-moved : (ls : List Lying) (i d o : ObjId) → inventory (moved ls i d) o ≡ cond (is_object d o) (i ∷ all_but i (inventory ls o)) (all_but i (inventory ls o))
inventory-moved ls i d o =
    elim (cases_Bool (is_object d o)) [
      | inl y ↦ inventory_here (record { item = i; place = d }) (without_item ls i) o y ∙ ap (λ os. i ∷ os) (inventory-without ls i o) ∙ sym (cond-true _ _ _ y)
      | inr n ↦ inventory_past (record { item = i; place = d }) (without_item ls i) o n ∙ inventory-without ls i o ∙ sym (cond-false _ _ _ n)
    ]

-- ---- taking out

-- the links but those to an object
abbrev pub without_place : List Lying → ObjId → List Lying
without_place ls b = filter (λ p. not (is_object p.place b)) ls

pub places_without-twice : (ls : List Lying) (b : ObjId) → places_without ls b ≡ without_place (without_item ls b) b
places_without-twice [] b = refl
places_without-twice (l ∷ ls) b =
    elim (cases_Bool (is_object l.item b)) [
      | inl y ↦
          filter_left (λ p. not (is_object p.item b || is_object p.place b)) l ls (ap not (or_left _ _ y)) ∙ places_without-twice ls b
          ∙ sym (ap (λ xs. without_place xs b) (filter_left (λ p. not (is_object p.item b)) l ls (ap not y)))
      | inr n ↦
          let kept : without_item (l ∷ ls) b ≡ l ∷ without_item ls b = filter_kept (λ p. not (is_object p.item b)) l ls (ap not n) in
          elim (cases_Bool (is_object l.place b)) [
            | inl a ↦ filter_left (λ p. not (is_object p.item b || is_object p.place b)) l ls (ap not (or_right _ _ a)) ∙ places_without-twice ls b
                ∙ sym (ap (λ xs. without_place xs b) kept ∙ filter_left (λ p. not (is_object p.place b)) l (without_item ls b) (ap not a))
            | inr a ↦ filter_kept (λ p. not (is_object p.item b || is_object p.place b)) l ls (ap not (or_from _ _ n a)) ∙ ap (λ xs. l ∷ xs) (places_without-twice ls b)
                ∙ sym (ap (λ xs. without_place xs b) kept ∙ filter_kept (λ p. not (is_object p.place b)) l (without_item ls b) (ap not a))
          ]
    ]

pub environment-without_place : (ls : List Lying) (b o : ObjId) → IsOnce ls → environment (without_place ls b) o ≡ cond (is_among o.0 (inventory ls b)) None (environment ls o)
environment-without_place [] b o h = refl
environment-without_place (l ∷ ls) b o h =
    elim (cases_Bool (is_object l.place b)) [
      | inl a ↦
          let gone : without_place (l ∷ ls) b ≡ without_place ls b = filter_left (λ p. not (is_object p.place b)) l ls (ap not a) in
          let among : is_among o.0 (inventory (l ∷ ls) b) ≡ (is_object l.item o || is_among o.0 (inventory ls b)) = ap (is_among o.0) (inventory_here l ls b a) in
          ap (λ xs. environment xs o) gone ∙ environment-without_place ls b o h.1
          ∙ elim (cases_Bool (is_object l.item o)) [
            | inl y ↦
                let none : environment ls o ≡ None = subst (λ n. environment ls (let x : ObjId = record { 0 = n } in x) ≡ None) (eqb-true _ _ y) h.0 in
                ap (cond (is_among o.0 (inventory ls b)) None) none ∙ both_none (is_among o.0 (inventory ls b)) ∙ sym (cond-true _ _ _ (among ∙ or_left _ _ y))
            | inr n ↦
                let same : is_among o.0 (inventory (l ∷ ls) b) ≡ is_among o.0 (inventory ls b) = among ∙ (rw n refl) in
                ap (λ e. cond (is_among o.0 (inventory ls b)) None e) (sym (environment_past l ls o n)) ∙ ap (λ t. cond t None (environment (l ∷ ls) o)) (sym same)
          ]
      | inr a ↦
          let kept : without_place (l ∷ ls) b ≡ l ∷ without_place ls b = filter_kept (λ p. not (is_object p.place b)) l ls (ap not a) in
          let among : is_among o.0 (inventory (l ∷ ls) b) ≡ is_among o.0 (inventory ls b) = ap (is_among o.0) (inventory_past l ls b a) in
          ap (λ xs. environment xs o) kept
          ∙ elim (cases_Bool (is_object l.item o)) [
            | inl y ↦
                let none : environment ls o ≡ None = subst (λ n. environment ls (let x : ObjId = record { 0 = n } in x) ≡ None) (eqb-true _ _ y) h.0 in
                environment_here l (without_place ls b) o y ∙ sym (cond-false _ _ _ (among ∙ nowhere ls o b none) ∙ environment_here l ls o y)
            | inr n ↦ environment_past l (without_place ls b) o n ∙ environment-without_place ls b o h.1
                ∙ ap (λ e. cond (is_among o.0 (inventory ls b)) None e) (sym (environment_past l ls o n)) ∙ ap (λ t. cond t None (environment (l ∷ ls) o)) (sym among)
          ]
    ]
  where
    both_none : (t : Bool) → cond t None (let e : Option ObjId = None in e) ≡ None
    both_none true = refl
    both_none false = refl

pub inventory-without_place : (ls : List Lying) (b o : ObjId) → inventory (without_place ls b) o ≡ cond (is_object b o) [] (inventory ls o)
inventory-without_place [] b o = elim (cases_Bool (is_object b o)) [ inl y ↦ sym (cond-true _ _ _ y) | inr n ↦ sym (cond-false _ _ _ n) ]
inventory-without_place (l ∷ ls) b o =
    elim (cases_Bool (is_object l.place b)) [
      | inl a ↦
          ap (λ xs. inventory xs o) (filter_left (λ p. not (is_object p.place b)) l ls (ap not a)) ∙ inventory-without_place ls b o
          ∙ elim (cases_Bool (is_object b o)) [
            | inl y ↦ cond-true _ _ _ y ∙ sym (cond-true _ _ _ y)
            | inr n ↦ ap (cond (is_object b o) []) (sym (inventory_past l ls o (swapped l.place b o a ∙ n)))
          ]
      | inr a ↦
          ap (λ xs. inventory xs o) (filter_kept (λ p. not (is_object p.place b)) l ls (ap not a))
          ∙ elim (cases_Bool (is_object l.place o)) [
            | inl y ↦
                let other : is_object b o ≡ false = sym (swapped l.place o b y ∙ turned o b) ∙ a in
                inventory_here l (without_place ls b) o y ∙ ap (λ os. l.item ∷ os) (inventory-without_place ls b o ∙ cond-false _ _ _ other)
                ∙ sym (cond-false _ _ _ other ∙ inventory_here l ls o y)
            | inr n ↦ inventory_past l (without_place ls b) o n ∙ inventory-without_place ls b o ∙ ap (cond (is_object b o) []) (sym (inventory_past l ls o n))
          ]
    ]

pub once-places_without : (ls : List Lying) (b : ObjId) → IsOnce ls → IsOnce (places_without ls b)
once-places_without ls b h = once-filter (λ p. not (is_object p.item b || is_object p.place b)) ls h
