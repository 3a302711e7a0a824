-- Forests, chains of shadows, and shadows outside: what a move, a shadow and a destruction keep.
use Rattle.std.proofs.Common.{◌≡◌, ℕ, zero, suc, ◌+◌, ◌-◌, ◌≤◌, ◌==◌, Bool, true, false, not, ◌||◌, cond, List, [], ◌∷◌, length, map, Option, Some, None, is_some, refl, sym, ap, subst, ◌∙◌, inl, inr, ◌⊎◌, arith}
use Rattle.std.specs.Option.{option_map}
use Rattle.std.specs.List.{filter, find}
use Rattle.std.proofs.lemmas.Bool.{cases_Bool, cases_lt, cond-true, cond-false, true≢false, eqb-true, ne_eqb, or_parts, false_from_ne_true, not-false}
use Rattle.std.proofs.lemmas.Option.{none-some, same_Some}
use Rattle.lp_values.specs.declared.id.ObjId.{ObjId}
use Rattle.lp_places.specs.Places.{Lying, ShadowNo, Shadowing, environment, inventory, is_bare, is_inside, is_inside_by, is_object, may_shadow, moved, places_without, shadowed, shadowing, shadows_of, shadows_without, unshadowed, without_item}
use Rattle.lp_places.specs.Stands.{AreChains, IsForest, ShadowsAreOutside, as_lying, climbed}
use Rattle.lp_places.specs.Table.{IsOnce, is_among}
use Rattle.lp_places.proofs.LinkLemmas.{environment-moved, environment-without, environment-without_place, environment_here, environment_past, filter_kept, filter_left, inventory_here, inventory_past, itself, once-filter, places_without-twice, turned}
use Rattle.lp_places.proofs.TableLemmas.{object, one_fewer, without_none}

-- ---- climbing

-- the step after an environment
abbrev pub on : ℕ → List Lying → Option ObjId → Option ObjId
on n places x = elim x [ Some e ↦ climbed n places e | None ↦ None ]

pub climbs : (n : ℕ) (places : List Lying) (o : ObjId) (x : Option ObjId) → environment places o ≡ x → climbed (suc n) places o ≡ on n places x
climbs n places o x e = ap (on n places) e

climbed_longer : (a b : ℕ) (places : List Lying) (o : ObjId) → a ≤ b → climbed a places o ≡ None → climbed b places o ≡ None
climbed_longer zero b places o le e = absurd (none-some o (sym e))
climbed_longer (suc a) zero places o le e = absurd (omega arith)
climbed_longer (suc a) (suc b) places o le e =
    elim (environment places o) as (λ x. environment places o ≡ x → climbed (suc b) places o ≡ None) [
      | None ↦ λ is. climbs b places o None is
      | Some p ↦ λ is. climbs b places o (Some p) is ∙ climbed_longer a b places p (omega arith) (sym (climbs a places o (Some p) is) ∙ e)
    ] refl

climbed-add : (a b c : ℕ) (places : List Lying) (o p : ObjId) → c ≡ a + b → climbed a places o ≡ Some p → climbed c places o ≡ climbed b places p
climbed-add zero b c places o p sum e =
    let same : c ≡ b = omega arith in
    ap (λ n. climbed n places o) same ∙ ap (climbed b places) (same_Some _ _ e)
climbed-add (suc a) b zero places o p sum e = absurd (omega arith)
climbed-add (suc a) b (suc c) places o p sum e =
    elim (environment places o) as (λ x. environment places o ≡ x → climbed (suc c) places o ≡ climbed b places p) [
      | None ↦ λ is. absurd (none-some p (sym (climbs a places o None is) ∙ e))
      | Some q ↦ λ is. climbs c places o (Some q) is ∙ climbed-add a b c places q p (omega arith) (sym (climbs a places o (Some q) is) ∙ e)
    ] refl

-- who comes back to itself never gets outside
endless : (fuel n j : ℕ) (places : List Lying) (o : ObjId) → n ≤ fuel → climbed (suc j) places o ≡ Some o → climbed n places o ≡ None → ⊥
endless zero n j places o le round e = none-some o (sym (climbed_longer n (suc j) places o (omega arith) e) ∙ round)
endless (suc fuel) n j places o le round e =
    elim (cases_lt n (suc j)) [
      | inl lt ↦ none-some o (sym (climbed_longer n (suc j) places o (omega arith) e) ∙ round)
      | inr ge ↦
          let sum : n ≡ suc j + (n - suc j) = omega arith in
          endless fuel (n - suc j) j places o (omega arith) round (sym (climbed-add (suc j) (n - suc j) n places o o sum round) ∙ e)
    ]

-- the way of who never comes to an object does not need that object's environment
same_way : (places others : List Lying) (o : ObjId) → ((x : ObjId) → is_object o x ≡ false → environment others x ≡ environment places x) → (k : ℕ) (x : ObjId)
    → ((j : ℕ) → climbed j places x ≡ Some o → ⊥) → climbed k others x ≡ climbed k places x
same_way places others o agree zero x avoids = refl
same_way places others o agree (suc k) x avoids =
    let apart : is_object o x ≡ false = false_from_ne_true _ (λ e. avoids 0 (ap (λ n. Some (object n)) (sym (eqb-true _ _ e)))) in
    elim (environment places x) as (λ y. environment places x ≡ y → climbed (suc k) others x ≡ climbed (suc k) places x) [
      | None ↦ λ is. climbs k others x None (agree x apart ∙ is) ∙ sym (climbs k places x None is)
      | Some e ↦ λ is. climbs k others x (Some e) (agree x apart ∙ is) ∙ same_way places others o agree k e (λ j h. avoids (suc j) (climbs j places x (Some e) is ∙ h)) ∙ sym (climbs k places x (Some e) is)
    ] refl

-- a way outside has no more steps than there are links
pub few_steps : (n : ℕ) (places : List Lying) (o : ObjId) → IsOnce places → climbed n places o ≡ None → climbed (suc (length places)) places o ≡ None
few_steps zero places o once e = absurd (none-some o (sym e))
few_steps (suc n) places o once e =
    elim (environment places o) as (λ x. environment places o ≡ x → climbed (suc (length places)) places o ≡ None) [
      | None ↦ λ is. climbs (length places) places o None is
      | Some p ↦ λ is.
          let ends : climbed n places p ≡ None = sym (climbs n places o (Some p) is) ∙ e in
          let avoids : ((j : ℕ) → climbed j places p ≡ Some o → ⊥) = λ j h. endless (suc n) (suc n) j places o (omega arith) (climbs j places o (Some p) is ∙ h) e in
          let agree : ((x : ObjId) → is_object o x ≡ false → environment (without_item places o) x ≡ environment places x) = λ x apart. environment-without places o x ∙ cond-false _ _ _ apart in
          let fewer = few_steps n (without_item places o) p (once-filter (λ q. not (is_object q.item o)) places once) (same_way places (without_item places o) o agree n p avoids ∙ ends) in
          let back : climbed (suc (length (without_item places o))) places p ≡ None = sym (same_way places (without_item places o) o agree (suc (length (without_item places o))) p avoids) ∙ fewer in
          let one : length (without_item places o) + 1 ≡ length places = one_fewer places o p once is in
          climbs (length places) places o (Some p) is ∙ climbed_longer (suc (length (without_item places o))) (length places) places p (omega arith) back
    ] refl

-- ---- a move

-- the way of who is not inside an item stays when the item is moved
stays_outside : (k : ℕ) (places : List Lying) (item dest x : ObjId) → is_inside_by k places x item ≡ false → climbed (suc k) places x ≡ None → climbed (suc k) (moved places item dest) x ≡ None
stays_outside zero places item dest x out e =
    let same : environment (moved places item dest) x ≡ environment places x = environment-moved places item dest x ∙ cond-false _ _ _ (turned item x ∙ out) in
    elim (environment places x) as (λ y. environment places x ≡ y → climbed 1 (moved places item dest) x ≡ None) [
      | None ↦ λ is. climbs 0 (moved places item dest) x None (same ∙ is)
      | Some p ↦ λ is. absurd (none-some p (sym e ∙ climbs 0 places x (Some p) is))
    ] refl
stays_outside (suc k) places item dest x out e =
    let parts = or_parts _ _ out in
    let same : environment (moved places item dest) x ≡ environment places x = environment-moved places item dest x ∙ cond-false _ _ _ (turned item x ∙ parts.0) in
    elim (environment places x) as (λ y. environment places x ≡ y → climbed (suc (suc k)) (moved places item dest) x ≡ None) [
      | None ↦ λ is. climbs (suc k) (moved places item dest) x None (same ∙ is)
      | Some p ↦ λ is.
          let deeper : is_inside_by k places p item ≡ false = sym (ap (λ (y : Option ObjId). elim y [ Some q ↦ is_inside_by k places q item | None ↦ false ]) is) ∙ parts.1 in
          climbs (suc k) (moved places item dest) x (Some p) (same ∙ is) ∙ stays_outside k places item dest p deeper (sym (climbs (suc k) places x (Some p) is) ∙ e)
    ] refl

rises : (n : ℕ) (places : List Lying) (item dest : ObjId) (k : ℕ) → climbed k (moved places item dest) dest ≡ None → (o : ObjId) → climbed n places o ≡ None → (m : ℕ) × (climbed m (moved places item dest) o ≡ None)
rises zero places item dest k up o e = absurd (none-some o (sym e))
rises (suc n) places item dest k up o e =
    elim (cases_Bool (is_object item o)) [
      | inl y ↦ (suc k, climbs k (moved places item dest) o (Some dest) (environment-moved places item dest o ∙ cond-true _ _ _ y) ∙ up)
      | inr a ↦
          let same : environment (moved places item dest) o ≡ environment places o = environment-moved places item dest o ∙ cond-false _ _ _ a in
          elim (environment places o) as (λ x. environment places o ≡ x → (m : ℕ) × (climbed m (moved places item dest) o ≡ None)) [
            | None ↦ λ is. (1, climbs 0 (moved places item dest) o None (same ∙ is))
            | Some p ↦ λ is.
                let r = rises n places item dest k up p (sym (climbs n places o (Some p) is) ∙ e) in
                (suc r.0, climbs r.0 (moved places item dest) o (Some p) (same ∙ is) ∙ r.1)
          ] refl
    ]

pub forest-moved : (places : List Lying) (item dest : ObjId) → IsOnce places → IsForest places → is_inside places dest item ≡ false → IsForest (moved places item dest)
forest-moved places item dest once forest out o =
    let up = forest dest in
    let way = forest o in
    rises way.0 places item dest (suc (length places)) (stays_outside (length places) places item dest dest out (few_steps up.0 places dest once up.1)) o way.1

-- ---- fewer links

-- each object is nowhere, or where it was
abbrev pub IsLess : List Lying → List Lying → Type 0
IsLess places others = (o : ObjId) → (environment others o ≡ None) ⊎ (environment others o ≡ environment places o)

climbed_less : (n : ℕ) (places others : List Lying) → IsLess places others → (o : ObjId) → climbed n places o ≡ None → climbed n others o ≡ None
climbed_less zero places others less o e = e
climbed_less (suc n) places others less o e =
    elim (less o) [
      | inl none ↦ climbs n others o None none
      | inr same ↦ elim (environment places o) as (λ x. environment places o ≡ x → climbed (suc n) others o ≡ None) [
        | None ↦ λ is. climbs n others o None (same ∙ is)
        | Some p ↦ λ is. climbs n others o (Some p) (same ∙ is) ∙ climbed_less n places others less p (sym (climbs n places o (Some p) is) ∙ e)
      ] refl
    ]

pub forest-less : (places others : List Lying) → IsLess places others → IsForest places → IsForest others
forest-less places others less forest o = ((forest o).0, climbed_less (forest o).0 places others less o (forest o).1)

pub less-without : (places : List Lying) (i : ObjId) → IsLess places (without_item places i)
less-without places i o = elim (cases_Bool (is_object i o)) [
  | inl y ↦ inl (environment-without places i o ∙ cond-true _ _ _ y)
  | inr a ↦ inr (environment-without places i o ∙ cond-false _ _ _ a)
]

pub less-places_without : (places : List Lying) (b : ObjId) → IsOnce places → IsLess places (places_without places b)
less-places_without places b once o =
    let once' : IsOnce (without_item places b) = once-filter (λ p. not (is_object p.item b)) places once in
    let is : environment (places_without places b) o ≡ cond (is_among o.0 (inventory (without_item places b) b)) None (environment (without_item places b) o) =
    ap (λ xs. environment xs o) (places_without-twice places b) ∙ environment-without_place (without_item places b) b o once' in
    elim (cases_Bool (is_among o.0 (inventory (without_item places b) b))) [
      | inl y ↦ inl (is ∙ cond-true _ _ _ y)
      | inr a ↦ elim (less-without places b o) [ inl none ↦ inl (is ∙ cond-false _ _ _ a ∙ none) | inr same ↦ inr (is ∙ cond-false _ _ _ a ∙ same) ]
    ]

-- ---- shadows as links

pub shadowing_as : (shadows : List Shadowing) (o : ObjId) → environment (map as_lying shadows) o ≡ shadowing shadows o
shadowing_as [] o = refl
shadowing_as (s ∷ ss) o = elim (cases_Bool (is_object s.shadow o)) [
  | inl y ↦ environment_here (as_lying s) (map as_lying ss) o y ∙ sym (ap (option_map (λ (p : Shadowing). p.victim)) (cond-true _ (Some s) (find (λ p. is_object p.shadow o) ss) y))
  | inr a ↦ environment_past (as_lying s) (map as_lying ss) o a ∙ shadowing_as ss o ∙ sym (ap (option_map (λ (p : Shadowing). p.victim)) (cond-false _ (Some s) (find (λ p. is_object p.shadow o) ss) a))
]

-- a filter of shadows as one of links
filter_as : (test : Shadowing → Bool) (as_test : Lying → Bool) → ((s : Shadowing) → as_test (as_lying s) ≡ test s) → (shadows : List Shadowing) → filter as_test (map as_lying shadows) ≡ map as_lying (filter test shadows)
filter_as test as_test same [] = refl
filter_as test as_test same (s ∷ ss) = elim (cases_Bool (test s)) [
  | inl y ↦ filter_kept as_test (as_lying s) (map as_lying ss) (same s ∙ y) ∙ ap (λ xs. as_lying s ∷ xs) (filter_as test as_test same ss) ∙ sym (ap (map as_lying) (filter_kept test s ss y))
  | inr a ↦ filter_left as_test (as_lying s) (map as_lying ss) (same s ∙ a) ∙ filter_as test as_test same ss ∙ sym (ap (map as_lying) (filter_left test s ss a))
]

items_as : (shadows : List Shadowing) → map (λ (p : Lying). p.item) (map as_lying shadows) ≡ map (λ (s : Shadowing). s.shadow) shadows
items_as [] = refl
items_as (s ∷ ss) = ap (λ os. s.shadow ∷ os) (items_as ss)

pub shadows_of_as : (shadows : List Shadowing) (o : ObjId) → inventory (map as_lying shadows) o ≡ shadows_of shadows o
shadows_of_as shadows o = ap (map (λ (p : Lying). p.item)) (filter_as (λ s. is_object s.victim o) (λ p. is_object p.place o) (λ s. refl) shadows) ∙ items_as (filter (λ s. is_object s.victim o) shadows)

pub unshadowed_as : (shadows : List Shadowing) (by : ObjId) → without_item (map as_lying shadows) by ≡ map as_lying (unshadowed shadows by)
unshadowed_as shadows by = filter_as (λ s. not (is_object s.shadow by)) (λ p. not (is_object p.item by)) (λ s. refl) shadows

pub shadows_without_as : (shadows : List Shadowing) (o : ObjId) → places_without (map as_lying shadows) o ≡ map as_lying (shadows_without shadows o)
shadows_without_as shadows o = filter_as (λ s. not (is_object s.shadow o || is_object s.victim o)) (λ p. not (is_object p.item o || is_object p.place o)) (λ s. refl) shadows

pub shadowed_as : (shadows : List Shadowing) (by victim : ObjId) → shadowing shadows by ≡ None → moved (map as_lying shadows) by victim ≡ map as_lying (shadowed shadows by victim)
shadowed_as shadows by victim none = ap (λ (xs : List Lying). record { item = by; place = victim } ∷ xs) (without_none (map as_lying shadows) by (shadowing_as shadows by ∙ none))

-- ---- chains

-- who is shadowed has a shadow in its chain
not_bare : (shadows : List Shadowing) (o v : ObjId) → shadowing shadows o ≡ Some v → is_bare (shadows_of shadows v) ≡ false
not_bare shadows o v e = ap is_bare (sym (shadows_of_as shadows v)) ∙ links_not_bare (map as_lying shadows) o v (shadowing_as shadows o ∙ e)
  where
    links_not_bare : (ls : List Lying) (o v : ObjId) → environment ls o ≡ Some v → is_bare (inventory ls v) ≡ false
    links_not_bare [] o v e = absurd (none-some v e)
    links_not_bare (l ∷ ls) o v e = elim (cases_Bool (is_object l.place v)) [
      | inl y ↦ ap is_bare (inventory_here l ls v y)
      | inr a ↦ elim (cases_Bool (is_object l.item o)) [
        | inl here ↦ absurd (true≢false (sym (subst (λ p. is_object p v ≡ true) (sym (same_Some _ _ (sym (environment_here l ls o here) ∙ e))) (itself v)) ∙ a))
        | inr past ↦ ap is_bare (inventory_past l ls v a) ∙ links_not_bare ls o v (sym (environment_past l ls o past) ∙ e)
      ]
    ]

shadowing-shadowed : (shadows : List Shadowing) (by victim o : ObjId) → shadowing (shadowed shadows by victim) o ≡ cond (is_object by o) (Some victim) (shadowing shadows o)
shadowing-shadowed shadows by victim o = elim (cases_Bool (is_object by o)) [
  | inl y ↦ ap (option_map (λ (p : Shadowing). p.victim)) (cond-true _ (Some (record { shadow = by; victim = victim })) (find (λ p. is_object p.shadow o) shadows) y) ∙ sym (cond-true _ _ _ y)
  | inr a ↦ ap (option_map (λ (p : Shadowing). p.victim)) (cond-false _ (Some (record { shadow = by; victim = victim })) (find (λ p. is_object p.shadow o) shadows) a) ∙ sym (cond-false _ _ _ a)
]

pub chains-shadowed : (shadows : List Shadowing) (by victim : ObjId) → AreChains shadows → is_object by victim ≡ false → is_bare (shadows_of shadows by) ≡ true → shadowing shadows victim ≡ None → AreChains (shadowed shadows by victim)
chains-shadowed shadows by victim chains apart bare free o v e =
    elim (cases_Bool (is_object by o)) [
      | inl y ↦
          let is : victim ≡ v = same_Some _ _ (sym (shadowing-shadowed shadows by victim o ∙ cond-true _ _ _ y) ∙ e) in
          subst (λ x. shadowing (shadowed shadows by victim) x ≡ None) is (shadowing-shadowed shadows by victim victim ∙ cond-false _ _ _ apart ∙ free)
      | inr a ↦
          let was : shadowing shadows o ≡ Some v = sym (shadowing-shadowed shadows by victim o ∙ cond-false _ _ _ a) ∙ e in
          let other : is_object by v ≡ false = false_from_ne_true _ (λ y. true≢false (sym bare ∙ ap (λ n. is_bare (shadows_of shadows (object n))) (eqb-true _ _ y) ∙ not_bare shadows o v was)) in
          shadowing-shadowed shadows by victim v ∙ cond-false _ _ _ other ∙ chains o v was
    ]

pub outside-shadowed : (places : List Lying) (shadows : List Shadowing) (by victim : ObjId) → ShadowsAreOutside places shadows → environment places by ≡ None → ShadowsAreOutside places (shadowed shadows by victim)
outside-shadowed places shadows by victim outside free o v e =
    elim (cases_Bool (is_object by o)) [
      | inl y ↦ ap (λ n. environment places (object n)) (sym (eqb-true _ _ y)) ∙ free
      | inr a ↦ outside o v (sym (shadowing-shadowed shadows by victim o ∙ cond-false _ _ _ a) ∙ e)
    ]

pub outside-moved : (places : List Lying) (shadows : List Shadowing) (item dest : ObjId) → ShadowsAreOutside places shadows → shadowing shadows item ≡ None → ShadowsAreOutside (moved places item dest) shadows
outside-moved places shadows item dest outside free o v e =
    let other : is_object item o ≡ false = false_from_ne_true _ (λ y. none-some v (sym free ∙ ap (λ n. shadowing shadows (object n)) (eqb-true _ _ y) ∙ e)) in
    environment-moved places item dest o ∙ cond-false _ _ _ other ∙ outside o v e

-- each object shadows nothing, or what it shadowed
abbrev pub AreFewer : List Shadowing → List Shadowing → Type 0
AreFewer shadows others = (o : ObjId) → (shadowing others o ≡ None) ⊎ (shadowing others o ≡ shadowing shadows o)

pub fewer-unshadowed : (shadows : List Shadowing) (by : ObjId) → AreFewer shadows (unshadowed shadows by)
fewer-unshadowed shadows by o =
    let as_links = sym (shadowing_as (unshadowed shadows by) o) ∙ sym (ap (λ xs. environment xs o) (unshadowed_as shadows by)) in
    elim (less-without (map as_lying shadows) by o) [ inl none ↦ inl (as_links ∙ none) | inr same ↦ inr (as_links ∙ same ∙ shadowing_as shadows o) ]

pub fewer-shadows_without : (shadows : List Shadowing) (b : ObjId) → IsOnce (map as_lying shadows) → AreFewer shadows (shadows_without shadows b)
fewer-shadows_without shadows b once o =
    let as_links = sym (shadowing_as (shadows_without shadows b) o) ∙ sym (ap (λ xs. environment xs o) (shadows_without_as shadows b)) in
    elim (less-places_without (map as_lying shadows) b once o) [ inl none ↦ inl (as_links ∙ none) | inr same ↦ inr (as_links ∙ same ∙ shadowing_as shadows o) ]

was_shadowing : (shadows others : List Shadowing) → AreFewer shadows others → (o v : ObjId) → shadowing others o ≡ Some v → shadowing shadows o ≡ Some v
was_shadowing shadows others fewer o v e = elim (fewer o) [ inl none ↦ absurd (none-some v (sym none ∙ e)) | inr same ↦ sym same ∙ e ]

pub chains-fewer : (shadows others : List Shadowing) → AreFewer shadows others → AreChains shadows → AreChains others
chains-fewer shadows others fewer chains o v e = elim (fewer v) [ inl none ↦ none | inr same ↦ same ∙ chains o v (was_shadowing shadows others fewer o v e) ]

pub outside-fewer : (places places' : List Lying) (shadows others : List Shadowing) → IsLess places places' → AreFewer shadows others → ShadowsAreOutside places shadows → ShadowsAreOutside places' others
outside-fewer places places' shadows others less fewer outside o v e = elim (less o) [ inl none ↦ none | inr same ↦ same ∙ outside o v (was_shadowing shadows others fewer o v e) ]

pub same-less : (places : List Lying) → IsLess places places
same-less places o = inr refl

-- ---- what an answer tells

pub none_from : {A : Type 0} (x : Option A) → is_some x ≡ false → x ≡ None
none_from None e = refl
none_from (Some a) e = absurd (true≢false e)

-- an object may shadow another one: none of the five reasons is there
pub record HasLeave (places : List Lying) (shadows : List Shadowing) (by victim : ObjId) : Type 0 where
  pub apart : is_object by victim ≡ false
  pub idle : shadowing shadows by ≡ None
  pub bare : is_bare (shadows_of shadows by) ≡ true
  pub free : environment places by ≡ None
  pub real : shadowing shadows victim ≡ None

pub has_leave : (places : List Lying) (shadows : List Shadowing) (by victim : ObjId) → may_shadow places shadows by victim ≡ None → HasLeave places shadows by victim
has_leave places shadows by victim e =
    let a = past (is_object by victim) _ _ e in
    let b = past (is_some (shadowing shadows by)) _ _ a.1 in
    let d = past (not (is_bare (shadows_of shadows by))) _ _ b.1 in
    let f = past (is_some (environment places by)) _ _ d.1 in
    let g = past (is_some (shadowing shadows victim)) _ _ f.1 in
    record { apart = a.0; idle = none_from _ b.0; bare = not-false _ d.0; free = none_from _ f.0; real = none_from _ g.0 }
  where
    past : (b : Bool) (x : ShadowNo) (y : Option ShadowNo) → cond b (Some x) y ≡ None → (b ≡ false) × (y ≡ None)
    past true x y e = absurd (none-some x (sym e))
    past false x y e = (refl, e)

-- whether a list is bare is whether it has no length
pub bare_by_length : (os : List ObjId) → is_bare os ≡ (length os == 0)
bare_by_length [] = refl
bare_by_length (o ∷ os) = sym (ne_eqb (suc (length os)) 0 (λ e. omega arith))
