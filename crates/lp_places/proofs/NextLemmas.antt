-- What is behind an object in its list, after changes.
use Rattle.std.proofs.Common.{◌≡◌, ℕ, true, false, not, cond, List, [], ◌∷◌, Option, Some, None, refl, sym, ap, subst, ◌∙◌, inl, inr}
use Rattle.std.specs.Bool.{⊤}
use Rattle.std.proofs.lemmas.Bool.{cases_Bool, cond-true, cond-false, true≢false, eq-eqb, eqb-true, false_from_ne_true, or_left, or_parts, or_right}
use Rattle.std.proofs.lemmas.Option.{none-some, same_Some}
use Rattle.lp_values.specs.declared.id.ObjId.{ObjId}
use Rattle.lp_places.specs.Places.{Lying, environment, inventory, is_object, moved, next_at, next_in, without_item}
use Rattle.lp_places.specs.Table.{IsOnce, all_but, before_in, first, is_among, is_number}
use Rattle.lp_places.proofs.LinkLemmas.{elsewhere, environment_here, environment_past, environment-moved, environment-without, environment-without_place, filter_kept, filter_left, inventory_here, inventory_past, inventory-moved, inventory-without, inventory-without_place, inventory_stays, none_there, nowhere, swapped, without_place}

-- the serial with a number
abbrev object : ℕ → ObjId
object n = record { 0 = n }

-- ---- lists without repetitions

-- each object stands once
abbrev AreApart : List ObjId → Type 0
AreApart [] = ⊤
AreApart (o ∷ os) = (is_among o.0 os ≡ false) × AreApart os

apart-inventory : (ls : List Lying) (o : ObjId) → IsOnce ls → AreApart (inventory ls o)
apart-inventory [] o h = tt
apart-inventory (l ∷ ls) o h = elim (cases_Bool (is_object l.place o)) [
  | inl y ↦ subst AreApart (sym (inventory_here l ls o y)) (nowhere ls l.item o h.0, apart-inventory ls o h.1)
  | inr n ↦ subst AreApart (sym (inventory_past l ls o n)) (apart-inventory ls o h.1)
]

-- ---- steps

next_here : (p : ObjId) (ps : List ObjId) (o : ObjId) → is_object p o ≡ true → next_in o (p ∷ ps) ≡ first ps
next_here p [] o e = refl
next_here p (q ∷ qs) o e = cond-true _ _ _ e

next_past : (p : ObjId) (ps : List ObjId) (o : ObjId) → is_object p o ≡ false → next_in o (p ∷ ps) ≡ next_in o ps
next_past p [] o e = refl
next_past p (q ∷ qs) o e = cond-false _ _ _ e

-- who is before another one in a list, or before the list, is not that one
before_apart : (last : Option ObjId) (i : ObjId) (ps : List ObjId) → is_number last i.0 ≡ false → is_number (before_in last i ps) i.0 ≡ false
before_apart last i [] e = refl
before_apart last i (p ∷ ps) e = elim (cases_Bool (is_object p i)) [
  | inl y ↦ ap (λ b. is_number b i.0) (cond-true _ last (before_in (Some p) i ps) y) ∙ e
  | inr n ↦ ap (λ b. is_number b i.0) (cond-false _ last (before_in (Some p) i ps) n) ∙ before_apart (Some p) i ps n
]

-- who is neither in a list nor before it is before nobody there
before_other : (last : Option ObjId) (i : ObjId) (ps : List ObjId) (n : ℕ) → is_number last n ≡ false → is_among n ps ≡ false → is_number (before_in last i ps) n ≡ false
before_other last i [] n e among = refl
before_other last i (p ∷ ps) n e among =
    let parts = or_parts _ _ among in
    elim (cases_Bool (is_object p i)) [
      | inl y ↦ ap (λ b. is_number b n) (cond-true _ last (before_in (Some p) i ps) y) ∙ e
      | inr a ↦ ap (λ b. is_number b n) (cond-false _ last (before_in (Some p) i ps) a) ∙ before_other (Some p) i ps n parts.0 parts.1
    ]

-- ---- one is taken out of a list

next_all_but_behind : (p : ObjId) (ps : List ObjId) (i o : ObjId) → AreApart (p ∷ ps) → is_object p i ≡ false → is_object i o ≡ false
    → next_in o (all_but i (p ∷ ps)) ≡ cond (is_number (before_in (Some p) i ps) o.0) (next_in i (p ∷ ps)) (next_in o (p ∷ ps))
next_all_but_behind p [] i o h e d = ap (next_in o) (filter_kept (λ x. not (is_object x i)) p [] (ap not e))
next_all_but_behind p (q ∷ qs) i o h e d =
    let kept : all_but i (p ∷ q ∷ qs) ≡ p ∷ all_but i (q ∷ qs) = filter_kept (λ x. not (is_object x i)) p (q ∷ qs) (ap not e) in
    ap (next_in o) kept ∙ elim (cases_Bool (is_object q i)) [
      | inl y ↦
          let same : q.0 ≡ i.0 = eqb-true _ _ y in
          let gone : all_but i (q ∷ qs) ≡ qs = filter_left (λ x. not (is_object x i)) q qs (ap not y) ∙ none_there qs i (subst (λ n. is_among n qs ≡ false) same h.1.0) in
          let before : before_in (Some p) i (q ∷ qs) ≡ Some p = cond-true _ _ _ y in
          let follows : next_in i (p ∷ q ∷ qs) ≡ first qs = next_past p (q ∷ qs) i e ∙ next_here q qs i y in
          ap (λ os. next_in o (p ∷ os)) gone
          ∙ elim (cases_Bool (is_object p o)) [
            | inl a ↦ next_here p qs o a ∙ sym (ap (λ b. cond (is_number b o.0) (next_in i (p ∷ q ∷ qs)) (next_in o (p ∷ q ∷ qs))) before ∙ cond-true _ _ _ a ∙ follows)
            | inr a ↦ next_past p qs o a ∙ sym (ap (λ b. cond (is_number b o.0) (next_in i (p ∷ q ∷ qs)) (next_in o (p ∷ q ∷ qs))) before ∙ cond-false _ _ _ a
                ∙ next_past p (q ∷ qs) o a ∙ next_past q qs o (swapped q i o y ∙ d))
          ]
      | inr n ↦
          let before : before_in (Some p) i (q ∷ qs) ≡ before_in (Some q) i qs = cond-false _ _ _ n in
          let kept_2 : all_but i (q ∷ qs) ≡ q ∷ all_but i qs = filter_kept (λ x. not (is_object x i)) q qs (ap not n) in
          elim (cases_Bool (is_object p o)) [
            | inl a ↦
                let other : is_number (before_in (Some p) i (q ∷ qs)) o.0 ≡ false =
                ap (λ b. is_number b o.0) before ∙ (let parts = or_parts _ _ (subst (λ n. is_among n (q ∷ qs) ≡ false) (eqb-true _ _ a) h.0) in before_other (Some q) i qs o.0 parts.0 parts.1) in
                next_here p (all_but i (q ∷ qs)) o a ∙ ap first kept_2 ∙ sym (cond-false _ _ _ other ∙ next_here p (q ∷ qs) o a)
            | inr a ↦
                next_past p (all_but i (q ∷ qs)) o a ∙ next_all_but_behind q qs i o h.1 n d
                ∙ ap (λ x. cond (is_number (before_in (Some q) i qs) o.0) x (next_in o (q ∷ qs))) (sym (next_past p (q ∷ qs) i e))
                ∙ ap (cond (is_number (before_in (Some q) i qs) o.0) (next_in i (p ∷ q ∷ qs))) (sym (next_past p (q ∷ qs) o a))
                ∙ ap (λ b. cond (is_number b o.0) (next_in i (p ∷ q ∷ qs)) (next_in o (p ∷ q ∷ qs))) (sym before)
          ]
    ]

next-all_but : (os : List ObjId) (i o : ObjId) → AreApart os → is_object i o ≡ false → next_in o (all_but i os) ≡ cond (is_number (before_in None i os) o.0) (next_in i os) (next_in o os)
next-all_but [] i o h d = refl
next-all_but (p ∷ ps) i o h d = elim (cases_Bool (is_object p i)) [
  | inl y ↦
      let gone : all_but i (p ∷ ps) ≡ ps = filter_left (λ x. not (is_object x i)) p ps (ap not y) ∙ none_there ps i (subst (λ n. is_among n ps ≡ false) (eqb-true _ _ y) h.0) in
      ap (next_in o) gone
      ∙ sym (ap (λ b. cond (is_number b o.0) (next_in i (p ∷ ps)) (next_in o (p ∷ ps))) (cond-true _ _ _ y) ∙ next_past p ps o (swapped p i o y ∙ d))
  | inr n ↦ next_all_but_behind p ps i o h n d ∙ ap (λ b. cond (is_number b o.0) (next_in i (p ∷ ps)) (next_in o (p ∷ ps))) (sym (cond-false _ _ _ n))
]

-- ---- links

-- who is before an object at the place that there may be
abbrev pub before_for : List Lying → ObjId → Option ObjId → Option ObjId
before_for ls i None = None
before_for ls i (Some w) = before_in None i (inventory ls w)

pub not_itself : (ls : List Lying) (i : ObjId) (w : Option ObjId) → is_number (before_for ls i w) i.0 ≡ false
not_itself ls i None = refl
not_itself ls i (Some w) = before_apart None i (inventory ls w) refl

-- what is behind an object that is at the place that there may be
abbrev next_for : List Lying → ObjId → Option ObjId → Option ObjId
next_for ls o None = None
next_for ls o (Some e) = next_in o (inventory ls e)

next_as : (ls : List Lying) (o : ObjId) (e : Option ObjId) → environment ls o ≡ e → next_at ls o ≡ next_for ls o e
next_as ls o None e = rw (e, next_at) refl
next_as ls o (Some p) e = rw (e, next_at) refl

-- who is before an object in the list of a place is at that place
before_is_at : (ls : List Lying) (i : ObjId) (n : ℕ) (w : ObjId) → IsOnce ls → (environment ls (object n) ≡ Some w → ⊥) → is_number (before_in None i (inventory ls w)) n ≡ false
before_is_at ls i n w once apart = before_other None i (inventory ls w) n refl (elsewhere ls (object n) w once apart)

pub is_there : (ls : List Lying) (i : ObjId) (n : ℕ) → IsOnce ls → is_number (before_for ls i (environment ls i)) n ≡ true → environment ls (object n) ≡ None → ⊥
is_there ls i n once e none = by_place ls i n once none (environment ls i) e
  where
    by_place : (ls : List Lying) (i : ObjId) (n : ℕ) → IsOnce ls → environment ls (object n) ≡ None → (w : Option ObjId) → is_number (before_for ls i w) n ≡ true → ⊥
    by_place ls i n once none None e = true≢false (sym e)
    by_place ls i n once none (Some w) e = true≢false (sym e ∙ before_is_at ls i n w once (λ q. none-some w (sym none ∙ q)))

next_left : (ls : List Lying) (i o : ObjId) → IsOnce ls → is_object i o ≡ false → (w e : Option ObjId) → environment ls i ≡ w → environment ls o ≡ e
    → next_for (without_item ls i) o e ≡ cond (is_number (before_for ls i w) o.0) (next_for ls i w) (next_for ls o e)
next_left ls i o once d None None x y = refl
next_left ls i o once d None (Some e) x y = ap (next_in o) (inventory-without ls i e ∙ inventory_stays ls i e once (λ q. none-some e (sym x ∙ q)))
next_left ls i o once d (Some w) None x y = sym (cond-false _ _ _ (before_is_at ls i o.0 w once (λ q. none-some w (sym y ∙ q))))
next_left ls i o once d (Some w) (Some e) x y = elim (cases_Bool (is_object w e)) [
  | inl same ↦
      let there : w ≡ e = ap object (eqb-true _ _ same) in
      ap (next_in o) (inventory-without ls i e) ∙ next-all_but (inventory ls e) i o (apart-inventory ls e once) d
      ∙ ap (λ v. cond (is_number (before_in None i (inventory ls v)) o.0) (next_in i (inventory ls v)) (next_in o (inventory ls e))) (sym there)
  | inr n ↦
      let differ : w ≡ e → ⊥ = λ q. true≢false (sym (eq-eqb w.0 e.0 (ap (λ (v : ObjId). v.0) q)) ∙ n) in
      ap (next_in o) (inventory-without ls i e ∙ inventory_stays ls i e once (λ q. differ (same_Some _ _ (sym x ∙ q))))
      ∙ sym (cond-false _ _ _ (before_is_at ls i o.0 w once (λ q. differ (same_Some _ _ (sym q ∙ y)))))
]

pub next-without : (ls : List Lying) (i o : ObjId) → IsOnce ls → next_at (without_item ls i) o ≡ cond (is_object i o) None (cond (is_number (before_for ls i (environment ls i)) o.0) (next_at ls i) (next_at ls o))
next-without ls i o once = elim (cases_Bool (is_object i o)) [
  | inl y ↦ next_as (without_item ls i) o None (environment-without ls i o ∙ cond-true _ _ _ y) ∙ sym (cond-true _ _ _ y)
  | inr n ↦
      next_as (without_item ls i) o (environment ls o) (environment-without ls i o ∙ cond-false _ _ _ n) ∙ next_left ls i o once n (environment ls i) (environment ls o) refl refl
      ∙ ap (λ x. cond (is_number (before_for ls i (environment ls i)) o.0) x (next_for ls o (environment ls o))) (sym (next_as ls i (environment ls i) refl))
      ∙ ap (cond (is_number (before_for ls i (environment ls i)) o.0) (next_at ls i)) (sym (next_as ls o (environment ls o) refl))
      ∙ sym (cond-false _ _ _ n)
]

-- an item more changes nothing behind the others
next_more : (ls : List Lying) (i d o : ObjId) → is_object i o ≡ false → (e : Option ObjId) → next_for (moved ls i d) o e ≡ next_for (without_item ls i) o e
next_more ls i d o n None = refl
next_more ls i d o n (Some e) = ap (next_in o) (inventory-moved ls i d e) ∙ elim (cases_Bool (is_object d e)) [
  | inl y ↦ ap (next_in o) (cond-true _ _ _ y) ∙ next_past i (all_but i (inventory ls e)) o n ∙ sym (ap (next_in o) (inventory-without ls i e))
  | inr a ↦ ap (next_in o) (cond-false _ _ _ a) ∙ sym (ap (next_in o) (inventory-without ls i e))
]

pub next-moved : (ls : List Lying) (i d o : ObjId) → IsOnce ls
    → next_at (moved ls i d) o ≡ cond (is_object i o) (first (all_but i (inventory ls d))) (cond (is_number (before_for ls i (environment ls i)) o.0) (next_at ls i) (next_at ls o))
next-moved ls i d o once = elim (cases_Bool (is_object i o)) [
  | inl y ↦ next_as (moved ls i d) o (Some d) (environment-moved ls i d o ∙ cond-true _ _ _ y)
      ∙ ap (next_in o) (inventory-moved ls i d d ∙ cond-true _ _ _ (eq-eqb d.0 d.0 refl)) ∙ next_here i (all_but i (inventory ls d)) o y ∙ sym (cond-true _ _ _ y)
  | inr n ↦
      next_as (moved ls i d) o (environment ls o) (environment-moved ls i d o ∙ cond-false _ _ _ n) ∙ next_more ls i d o n (environment ls o)
      ∙ sym (next_as (without_item ls i) o (environment ls o) (environment-without ls i o ∙ cond-false _ _ _ n))
      ∙ next-without ls i o once ∙ cond-false _ _ _ n ∙ sym (cond-false _ _ _ n)
]

-- who is at a place is in its list
among_there : (ls : List Lying) (o b : ObjId) → environment ls o ≡ Some b → is_among o.0 (inventory ls b) ≡ true
among_there [] o b e = absurd (none-some b e)
among_there (l ∷ ls) o b e = elim (cases_Bool (is_object l.item o)) [
  | inl y ↦
      let here : is_object l.place b ≡ true = eq-eqb _ _ (ap (λ (v : ObjId). v.0) (same_Some _ _ (sym (environment_here l ls o y) ∙ e))) in
      ap (is_among o.0) (inventory_here l ls b here) ∙ or_left _ _ y
  | inr n ↦
      let rest = among_there ls o b (sym (environment_past l ls o n) ∙ e) in
      elim (cases_Bool (is_object l.place b)) [
        | inl t ↦ ap (is_among o.0) (inventory_here l ls b t) ∙ or_right _ _ rest
        | inr t ↦ ap (is_among o.0) (inventory_past l ls b t) ∙ rest
      ]
]

next_elsewhere : (ls : List Lying) (b o : ObjId) → is_among o.0 (inventory ls b) ≡ false → (e : Option ObjId) → environment ls o ≡ e → next_for (without_place ls b) o e ≡ next_for ls o e
next_elsewhere ls b o n None x = refl
next_elsewhere ls b o n (Some e) x =
    let apart : is_object b e ≡ false = false_from_ne_true _ (λ q. true≢false (sym (among_there ls o e x) ∙ subst (λ k. is_among o.0 (inventory ls (object k)) ≡ false) (eqb-true _ _ q) n)) in
    ap (next_in o) (inventory-without_place ls b e ∙ cond-false _ _ _ apart)

pub next-without_place : (ls : List Lying) (b o : ObjId) → IsOnce ls → next_at (without_place ls b) o ≡ cond (is_among o.0 (inventory ls b)) None (next_at ls o)
next-without_place ls b o once = elim (cases_Bool (is_among o.0 (inventory ls b))) [
  | inl y ↦ next_as (without_place ls b) o None (environment-without_place ls b o once ∙ cond-true _ _ _ y) ∙ sym (cond-true _ _ _ y)
  | inr n ↦
      next_as (without_place ls b) o (environment ls o) (environment-without_place ls b o once ∙ cond-false _ _ _ n) ∙ next_elsewhere ls b o n (environment ls o) refl
      ∙ sym (next_as ls o (environment ls o) refl) ∙ sym (cond-false _ _ _ n)
]
