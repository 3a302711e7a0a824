-- What an object's making and its death do to the list of objects.
use Rattle.std.proofs.Common.{◌≡◌, ℕ, zero, suc, ◌+◌, true, false, cond, List, [], ◌∷◌, ◌++◌, length, Option, Some, None, nat_eq, refl, sym, ap, subst, ◌∙◌, inl, inr, arith}
use Rattle.std.specs.Option.{option_map}
use Rattle.std.proofs.lemmas.Bool.{cases_Bool, cases_eq, cond-true, cond-false, true≢false, eq-eqb, ne_eqb}
use Rattle.std.proofs.lemmas.Option.{none-some, same_Some}
use Rattle.lp_values.specs.declared.id.ObjId.{ObjId}
use Rattle.lp_objects.specs.Objects.{Named, bears, dead, killed_from, live_count, lives, named_from, object_at}

-- the object that a name names: its place in the list, and that it is live and has the name
pub record IsFound (name : List ℕ) (k : ℕ) (xs : List Named) (o : ObjId) : Type 0 where
  pub place : ℕ
  pub object : Named
  pub serial : o.0 ≡ k + place
  pub there : object_at xs place ≡ Some object
  pub bearing : bears name object ≡ true

pub found : (name : List ℕ) (k : ℕ) (xs : List Named) (o : ObjId) → named_from name k xs ≡ Some o → IsFound name k xs o
found name k [] o e = absurd (none-some o e)
found name k (x ∷ xs) o e =
    elim (cases_Bool (bears name x)) [
      | inl y ↦ record { place = 0; object = x; serial = let s : k ≡ o.0 = ap (λ (p : ObjId). p.0) (same_Some _ _ (sym (cond-true _ _ _ y) ∙ e)) in omega arith; there = refl; bearing = y }
      | inr n ↦ let r = found name (suc k) xs o (sym (cond-false _ _ _ n) ∙ e) in
          record { place = suc r.place; object = r.object; serial = let s : o.0 ≡ suc k + r.place = r.serial in omega arith; there = r.there; bearing = r.bearing }
    ]

-- where a name names nothing, no object bears it
pub unborne : (name : List ℕ) (k : ℕ) (xs : List Named) → named_from name k xs ≡ None → (n : ℕ) (x : Named) → object_at xs n ≡ Some x → bears name x ≡ false
unborne name k [] e n x h = absurd (none-some x h)
unborne name k (y ∷ ys) e zero x h =
    elim (cases_Bool (bears name y)) [
      | inl b ↦ absurd (none-some _ (sym e ∙ cond-true _ _ _ b))
      | inr b ↦ subst (λ z. bears name z ≡ false) (same_Some _ _ h) b
    ]
unborne name k (y ∷ ys) e (suc n) x h =
    elim (cases_Bool (bears name y)) [
      | inl b ↦ absurd (none-some _ (sym e ∙ cond-true _ _ _ b))
      | inr b ↦ unborne name (suc k) ys (sym (cond-false _ _ _ b) ∙ e) n x h
    ]

-- ---- an object more

-- the first of two that is there
abbrev pub or_else : Option ObjId → Option ObjId → Option ObjId
or_else None b = b
or_else (Some a) b = Some a

pub named_from-more : (name : List ℕ) (k : ℕ) (xs : List Named) (x : Named) → named_from name k (xs ++ x ∷ []) ≡ or_else (named_from name k xs) (cond (bears name x) (Some (record { 0 = k + length xs })) None)
named_from-more name k [] x = let e : k ≡ k + 0 = omega arith in ap (λ j. cond (bears name x) (Some (let o : ObjId = record { 0 = j } in o)) None) e
named_from-more name k (y ∷ ys) x =
    elim (cases_Bool (bears name y)) [
      | inl b ↦ cond-true _ _ _ b ∙ sym (ap (λ o. or_else o (cond (bears name x) (Some (record { 0 = k + length (y ∷ ys) })) None)) (cond-true _ (Some (record { 0 = k })) (named_from name (suc k) ys) b))
      | inr b ↦
          let e : suc k + length ys ≡ k + suc (length ys) = omega arith in
          cond-false _ _ _ b ∙ named_from-more name (suc k) ys x
          ∙ ap (λ j. or_else (named_from name (suc k) ys) (cond (bears name x) (Some (let o : ObjId = record { 0 = j } in o)) None)) e
          ∙ sym (ap (λ o. or_else o (cond (bears name x) (Some (record { 0 = k + suc (length ys) })) None)) (cond-false _ (Some (record { 0 = k })) (named_from name (suc k) ys) b))
    ]

pub at_old : (xs : List Named) (x y : Named) (n : ℕ) → object_at xs n ≡ Some y → object_at (xs ++ x ∷ []) n ≡ Some y
at_old [] x y n e = absurd (none-some y e)
at_old (z ∷ zs) x y zero e = e
at_old (z ∷ zs) x y (suc n) e = at_old zs x y n e

pub at_new : (xs : List Named) (x : Named) → object_at (xs ++ x ∷ []) (length xs) ≡ Some x
at_new [] x = refl
at_new (z ∷ zs) x = at_new zs x

pub at_others : (xs : List Named) (x : Named) (n : ℕ) → (n ≡ length xs → ⊥) → object_at (xs ++ x ∷ []) n ≡ object_at xs n
at_others [] x zero apart = absurd (apart refl)
at_others [] x (suc n) apart = refl
at_others (z ∷ zs) x zero apart = refl
at_others (z ∷ zs) x (suc n) apart = at_others zs x n (λ e. apart (ap suc e))

pub live_count-more : (xs : List Named) (x : Named) → x.is_live ≡ true → live_count (xs ++ x ∷ []) ≡ live_count xs + 1
live_count-more [] x e = rw e refl
live_count-more (z ∷ zs) x e = rw (live_count-more zs x e) (omega arith)

-- ---- a death

eqb-suc : (i n : ℕ) → nat_eq (suc i) (suc n) ≡ nat_eq i n
eqb-suc i n =
    elim (cases_eq i n) [
      | inl e ↦ eq-eqb (suc i) (suc n) (ap suc e) ∙ sym (eq-eqb i n e)
      | inr apart ↦ ne_eqb (suc i) (suc n) (λ e. apart (omega arith)) ∙ sym (ne_eqb i n apart)
    ]

pub at_killed : (i : ℕ) (xs : List Named) (n : ℕ) → object_at (killed_from i xs) n ≡ cond (nat_eq i n) (option_map dead (object_at xs n)) (object_at xs n)
at_killed i [] n = grind arith
at_killed zero (x ∷ xs) zero = refl
at_killed zero (x ∷ xs) (suc n) = sym (cond-false _ _ _ (ne_eqb zero (suc n) (λ e. omega arith)))
at_killed (suc i) (x ∷ xs) zero = sym (cond-false _ _ _ (ne_eqb (suc i) zero (λ e. omega arith)))
at_killed (suc i) (x ∷ xs) (suc n) = at_killed i xs n ∙ ap (λ b. cond b (option_map dead (object_at xs n)) (object_at xs n)) (sym (eqb-suc i n))

pub length-killed : (i : ℕ) (xs : List Named) → length (killed_from i xs) ≡ length xs
length-killed i [] = refl
length-killed zero (x ∷ xs) = refl
length-killed (suc i) (x ∷ xs) = ap suc (length-killed i xs)

pub live_count-killed : (i : ℕ) (xs : List Named) → lives (object_at xs i) ≡ true → live_count (killed_from i xs) + 1 ≡ live_count xs
live_count-killed i [] e = absurd (true≢false (sym e))
live_count-killed zero (x ∷ xs) e = rw e (omega arith)
live_count-killed (suc i) (x ∷ xs) e = let r : live_count (killed_from i xs) + 1 ≡ live_count xs = live_count-killed i xs e in omega arith
