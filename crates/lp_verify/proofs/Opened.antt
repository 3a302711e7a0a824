-- Numbers of lists of open catches.
use Rattle.std.proofs.Common.{◌≡◌, ◌≤◌, ◌<◌, ℕ, zero, suc, ◌+◌, ◌⊎◌, inl, inr, refl, sym, ◌∙◌, ap, subst, arith, List, [], ◌∷◌, ◌++◌, length, Option, Some, None, slice_get, Bool, true, false, cond, ◌&&◌, ◌||◌, ◌-◌}
use Rattle.std.specs.Prelude.{MatchOption, IsTrue, nat_eq}
use Rattle.std.proofs.lemmas.Bool.{eqb-true, eq-eqb}
use Rattle.std.specs.List.{list_any}
use Rattle.indexmap.specs.IndexSet.{insert_key}
use Rattle.std.proofs.lemmas.List.{length-append, append_assoc, append-nil}
use Rattle.lp_instr.specs.Code.{Catching, or_none}
use Rattle.lp_verify.specs.declared.openings.Opening.{Opening}
use Rattle.lp_verify.specs.Openings.{catching, list_at, lists_on, lists_of, AreLinked, AreDistinct, AreOpenings, GoesOn, Adds}

pub get_left : {A : Type 0} (xs ys : List A) (k : ℕ) → k < length xs → slice_get (xs ++ ys) k ≡ slice_get xs k
get_left [] ys k h = absurd (omega (arith, h))
get_left (x ∷ xs) ys zero h = refl
get_left (x ∷ xs) ys (suc k) h = get_left xs ys k (omega (arith, h))

pub get_last : {A : Type 0} (xs : List A) (y : A) (k : ℕ) → k ≡ length xs → slice_get (xs ++ (y ∷ [])) k ≡ Some y
get_last [] y zero h = refl
get_last [] y (suc k) h = absurd (omega (arith, h))
get_last (x ∷ xs) y zero h = absurd (omega (arith, h))
get_last (x ∷ xs) y (suc k) h = get_last xs y k (omega (arith, h))

-- one opening more makes one list more
pub lists_more : (done : List (List Catching)) (os : List Opening) (o : Opening) → lists_on done (os ++ (o ∷ [])) ≡ lists_on done os ++ ((catching o ∷ list_at (lists_on done os) o.outer) ∷ [])
lists_more done [] o = refl
lists_more done (x ∷ os) o = lists_more (done ++ ((catching x ∷ list_at done x.outer) ∷ [])) os o

pub lists_length : (done : List (List Catching)) (os : List Opening) → length (lists_on done os) ≡ length done + length os
lists_length done [] = omega arith
lists_length done (x ∷ os) = let e = lists_length (done ++ ((catching x ∷ list_at done x.outer) ∷ [])) os in
    let f = length-append done ((catching x ∷ list_at done x.outer) ∷ []) in omega (arith, e, f)

pub lists_keep : (done : List (List Catching)) (os : List Opening) (k : ℕ) → k < length done → slice_get (lists_on done os) k ≡ slice_get done k
lists_keep done [] k h = refl
lists_keep done (x ∷ os) k h = let f = length-append done ((catching x ∷ list_at done x.outer) ∷ []) in
    lists_keep (done ++ ((catching x ∷ list_at done x.outer) ∷ [])) os k (omega (arith, f, h)) ∙ get_left done ((catching x ∷ list_at done x.outer) ∷ []) k h

-- the list of an opening
pub lists_row : (done : List (List Catching)) (os : List Opening) (m k i : ℕ) (o : Opening) → length done ≡ suc m → AreLinked m os → slice_get os k ≡ Some o → i ≡ length done + k
    → slice_get (lists_on done os) i ≡ Some (catching o ∷ list_at (lists_on done os) o.outer)
lists_row done [] m k i o l h g e = cc
lists_row done (x ∷ os) m zero i o l h g e =
    let s : x ≡ o = cc in
    let now = done ++ ((catching x ∷ list_at done x.outer) ∷ []) in
    let f = length-append done ((catching x ∷ list_at done x.outer) ∷ []) in
    let here = lists_keep now os i (omega (arith, e, f)) ∙ get_last done (catching x ∷ list_at done x.outer) i (omega (arith, e)) in
    let below : x.outer < length done = omega (arith, h.0, l) in
    let same = lists_keep now os x.outer (omega (arith, below, f)) ∙ get_left done ((catching x ∷ list_at done x.outer) ∷ []) x.outer below in
    here ∙ ap (λ z. Some (catching x ∷ or_none z)) (sym same) ∙ ap (λ (z : Opening). Some (catching z ∷ list_at (lists_on now os) z.outer)) s
lists_row done (x ∷ os) m (suc k) i o l h g e =
    let f = length-append done ((catching x ∷ list_at done x.outer) ∷ []) in
    lists_row (done ++ ((catching x ∷ list_at done x.outer) ∷ [])) os (suc m) k i o (omega (arith, l, f)) h.1 g (omega (arith, e, f))

pub linked_row : (m : ℕ) (os : List Opening) (k : ℕ) (o : Opening) → AreLinked m os → slice_get os k ≡ Some o → o.outer ≤ m + k
linked_row m [] k o h g = cc
linked_row m (x ∷ os) zero o h g = let s : x ≡ o = cc in let t = ap (λ (z : Opening). z.outer) s in omega (arith, h.0, t)
linked_row m (x ∷ os) (suc k) o h g = let r = linked_row (suc m) os k o h.1 g in omega (arith, r)

pub linked_more : (m : ℕ) (os : List Opening) (o : Opening) → AreLinked m os → o.outer ≤ m + length os → AreLinked m (os ++ (o ∷ []))
linked_more m [] o h g = (omega (arith, g), tt)
linked_more m (x ∷ os) o h g = (h.0, linked_more (suc m) os o h.1 (omega (arith, g)))

pub goes_same : (lists : List (List Catching)) → GoesOn lists lists
goes_same lists = record { more = []; is = sym (append-nil lists) }

pub goes_more : (os : List Opening) (o : Opening) → GoesOn (lists_of os) (lists_of (os ++ (o ∷ [])))
goes_more os o = record { more = (catching o ∷ list_at (lists_of os) o.outer) ∷ []; is = lists_more ([] ∷ []) os o }

pub goes_then : (a b c : List (List Catching)) → GoesOn a b → GoesOn b c → GoesOn a c
goes_then a b c g h = record { more = g.more ++ h.more; is = h.is ∙ ap (λ z. z ++ h.more) g.is ∙ append_assoc a g.more h.more }

pub goes_at : (a b : List (List Catching)) (k : ℕ) → GoesOn a b → k < length a → list_at b k ≡ list_at a k
goes_at a b k g h = ap (λ z. list_at z k) g.is ∙ ap or_none (get_left a g.more k h)

pub goes_longer : (a b : List (List Catching)) → GoesOn a b → length a ≤ length b
goes_longer a b g = let e = ap length g.is ∙ length-append a g.more in omega (arith, e)

pub slice_get_none : {A : Type 0} (xs : List A) (k : ℕ) → slice_get xs k ≡ None → length xs ≤ k
slice_get_none [] k h = omega arith
slice_get_none (x ∷ xs) zero h = cc
slice_get_none (x ∷ xs) (suc k) h = let r = slice_get_none xs k h in omega (arith, r)

-- an opening is known by its list
row_known : (os : List Opening) (j : ℕ) (o : Opening) → AreOpenings os → o.outer < length (lists_of os) → j < length os → list_at (lists_of os) (suc j) ≡ catching o ∷ list_at (lists_of os) o.outer → slice_get os j ≡ Some o
row_known os j o h below inside e = go (slice_get os j) refl
  where
    one : (x : Opening) → slice_get os j ≡ Some x → x ≡ o
    one x g =
        let row = ap or_none (lists_row ([] ∷ []) os 0 j (suc j) x refl h.linked g (omega arith)) in
        let both : catching x ∷ list_at (lists_of os) x.outer ≡ catching o ∷ list_at (lists_of os) o.outer = sym row ∙ e in
        let heads : catching x ≡ catching o = cc in
        let tails : list_at (lists_of os) x.outer ≡ list_at (lists_of os) o.outer = cc in
        let n = lists_length ([] ∷ []) os in
        let low = linked_row 0 os j x h.linked g in
        let outers = h.distinct x.outer o.outer (omega (arith, low, n, inside)) below tails in
        let tos : x.to ≡ o.to = ap (λ (c : Catching). c.place) heads in
        let heights : x.height ≡ o.height = ap (λ (c : Catching). c.height) heads in
        λ i. record { to = tos i; height = heights i; outer = outers i }

    go : (r : Option Opening) → slice_get os j ≡ r → slice_get os j ≡ Some o
    go None g = absurd (let l = slice_get_none os j g in omega (arith, l, inside))
    go (Some x) g = g ∙ ap Some (one x g)

below_or : (i n : ℕ) → i ≤ n → (i < n) ⊎ (i ≡ n)
below_or zero zero h = inr refl
below_or zero (suc n) h = inl (omega arith)
below_or (suc i) zero h = absurd (omega (arith, h))
below_or (suc i) (suc n) h = elim (below_or i n (omega (arith, h))) [ inl l ↦ inl (omega (arith, l)) | inr e ↦ inr (ap suc e) ]

new_distinct : (os : List Opening) (o : Opening) → AreOpenings os → o.outer < length (lists_of os) → ((j : ℕ) → slice_get os j ≡ Some o → ⊥)
    → (i : ℕ) → i < length (lists_of os) → list_at (lists_of os) i ≡ catching o ∷ list_at (lists_of os) o.outer → ⊥
new_distinct os o h below none zero l e = let z = ap or_none (lists_keep ([] ∷ []) os 0 (omega arith)) in let y : [] ≡ catching o ∷ list_at (lists_of os) o.outer = sym z ∙ e in cc
new_distinct os o h below none (suc i) l e = let n = lists_length ([] ∷ []) os in none i (row_known os i o h below (omega (arith, l, n)) e)

-- a new opening
pub openings_more : (os : List Opening) (o : Opening) → AreOpenings os → o.outer < length (lists_of os) → ((j : ℕ) → slice_get os j ≡ Some o → ⊥) → AreOpenings (os ++ (o ∷ []))
openings_more os o h below none = record { linked = linked_more 0 os o h.linked (let n = lists_length ([] ∷ []) os in omega (arith, below, n)); distinct = distinct }
  where
    old : (i : ℕ) → i < length (lists_of os) → list_at (lists_of (os ++ (o ∷ []))) i ≡ list_at (lists_of os) i
    old i l = goes_at (lists_of os) (lists_of (os ++ (o ∷ []))) i (goes_more os o) l

    new : (i : ℕ) → i ≡ length (lists_of os) → list_at (lists_of (os ++ (o ∷ []))) i ≡ catching o ∷ list_at (lists_of os) o.outer
    new i e = ap (λ z. list_at z i) (lists_more ([] ∷ []) os o) ∙ ap or_none (get_last (lists_of os) (catching o ∷ list_at (lists_of os) o.outer) i e)

    size : length (lists_of (os ++ (o ∷ []))) ≡ suc (length (lists_of os))
    size = let a = lists_length ([] ∷ []) (os ++ (o ∷ [])) in let b = lists_length ([] ∷ []) os in let c = length-append os (o ∷ []) in omega (arith, a, b, c)

    either : (i n : ℕ) → i < suc n → (i < n) ⊎ (i ≡ n)
    either i n l = below_or i n (omega (arith, l))

    distinct : AreDistinct (lists_of (os ++ (o ∷ [])))
    distinct i j li lj e = elim (either i (length (lists_of os)) (omega (arith, li, size))) [
      | inl a ↦ elim (either j (length (lists_of os)) (omega (arith, lj, size))) [
        | inl b ↦ h.distinct i j a b (sym (old i a) ∙ e ∙ old j b)
        | inr b ↦ absurd (new_distinct os o h below none i a (sym (old i a) ∙ e ∙ new j b))
      ]
      | inr a ↦ elim (either j (length (lists_of os)) (omega (arith, lj, size))) [
        | inl b ↦ absurd (new_distinct os o h below none j b (sym (old j b) ∙ sym e ∙ new i a))
        | inr b ↦ a ∙ sym b
      ]
    ]

-- an opening is added where it is new
pub adds_openings : (os new : List Opening) (o : Opening) → AreOpenings os → o.outer < length (lists_of os) → Adds os o new → AreOpenings new
adds_openings os new o h below (inl e) = subst AreOpenings (sym e) h
adds_openings os new o h below (inr n) = subst AreOpenings (sym n.0) (openings_more os o h below n.1)

pub adds_goes : (os new : List Opening) (o : Opening) (lists : List (List Catching)) → lists_of os ≡ lists → Adds os o new → GoesOn lists (lists_of new)
adds_goes os new o lists v (inl e) = subst (λ l. GoesOn l (lists_of new)) v (subst (λ n. GoesOn (lists_of os) (lists_of n)) (sym e) (goes_same (lists_of os)))
adds_goes os new o lists v (inr n) = subst (λ l. GoesOn l (lists_of new)) v (subst (λ n. GoesOn (lists_of os) (lists_of n)) (sym n.0) (goes_more os o))

pub adds_list : (os new : List Opening) (o : Opening) (k : ℕ) (lists : List (List Catching)) → AreOpenings os → lists_of os ≡ lists → o.outer < length lists → Adds os o new → slice_get new k ≡ Some o
    → slice_get (lists_of new) (k + 1) ≡ Some (catching o ∷ list_at lists o.outer)
adds_list os new o k lists h v below a g =
    let below' : o.outer < length (lists_of os) = let e = ap length v in omega (arith, below, e) in
    let n = adds_openings os new o h below' a in
    lists_row ([] ∷ []) new 0 k (k + 1) o refl n.linked g (omega arith)
    ∙ ap (λ z. Some (catching o ∷ z)) (goes_at lists (lists_of new) o.outer (adds_goes os new o lists v a) below)

pub below_view : (os : List Opening) (k : ℕ) (lists : List (List Catching)) → lists_of os ≡ lists → k < length lists → k < length (lists_of os)
below_view os k lists v l = let e = ap length v in omega (arith, l, e)

-- numbers of one list are one
pub same_number : (os : List Opening) (lists : List (List Catching)) (i j : ℕ) → AreOpenings os → lists_of os ≡ lists → i < length lists → j < length lists → list_at lists i ≡ list_at lists j → i ≡ j
same_number os lists i j h v li lj e = h.distinct i j (below_view os i lists v li) (below_view os j lists v lj) (ap (λ z. list_at z i) v ∙ e ∙ ap (λ z. list_at z j) (sym v))

pub same_numbers : (i j : ℕ) (f : ℕ → List Catching) → (f i ≡ f j → i ≡ j) → (IsTrue (nat_eq i j) → f i ≡ f j) × (f i ≡ f j → IsTrue (nat_eq i j))
same_numbers i j f h = (λ t. ap f (eqb-true i j (is_true (nat_eq i j) t)), λ e. so (nat_eq i j) (eq-eqb i j (h e)))
  where
    is_true : (b : Bool) → IsTrue b → b ≡ true
    is_true true t = refl
    is_true false t = t

    so : (b : Bool) → b ≡ true → IsTrue b
    so true e = refl
    so false e = cc

pub first_empty : (os : List Opening) (lists : List (List Catching)) (k : ℕ) → lists_of os ≡ lists → k ≡ 0 → list_at lists k ≡ []
first_empty os lists k v e = ap (λ z. list_at lists z) e ∙ ap (λ z. list_at z 0) (sym v) ∙ ap or_none (lists_keep ([] ∷ []) os 0 (omega arith))

pub innermost_of : (os : List Opening) (lists : List (List Catching)) (k : ℕ) (r : Option Opening) → AreOpenings os → lists_of os ≡ lists → k < length lists → (k ≡ 0 → ⊥) → r ≡ slice_get os (k - 1)
    → MatchOption r (list_at lists k ≡ []) (λ o. (list_at lists k ≡ catching o ∷ list_at lists o.outer) × (o.outer < length lists))
innermost_of os lists k None h v l n e = absurd (let b = below_view os k lists v l in let s = lists_length ([] ∷ []) os in let p = slice_get_none os (k - 1) (sym e) in omega (arith, b, s, p, n))
innermost_of os lists k (Some o) h v l n e = (
  ap (λ z. list_at z k) (sym v) ∙ ap or_none (lists_row ([] ∷ []) os 0 (k - 1) k o refl h.linked (sym e) (omega (arith, n))) ∙ ap (λ z. catching o ∷ list_at z o.outer) v,
  let low = linked_row 0 os (k - 1) o h.linked (sym e) in omega (arith, low, l, n),
)

or_first : (a b : Bool) → a ≡ true → (a || b) ≡ false → ⊥
or_first true b h g = cc
or_first false b h g = cc

or_second : (a b : Bool) → (a || b) ≡ false → b ≡ false
or_second true b h = cc
or_second false b h = h

no_any : (eq : Opening → Opening → Bool) → ((x y : Opening) → (eq x y ≡ true → x ≡ y) × (x ≡ y → eq x y ≡ true)) → (xs : List Opening) (o : Opening) → list_any (eq o) xs ≡ false → (j : ℕ) → slice_get xs j ≡ Some o → ⊥
no_any eq d [] o f j g = cc
no_any eq d (x ∷ xs) o f zero g = let s : o ≡ x = cc in or_first (eq o x) (list_any (eq o) xs) ((d o x).1 s) f
no_any eq d (x ∷ xs) o f (suc j) g = no_any eq d xs o (or_second (eq o x) (list_any (eq o) xs) f) j g

-- what a set of openings is when one was put in
pub adds_from : (os new : List Opening) (o : Opening) (eq : Opening → Opening → Bool) → new ≡ insert_key eq os o → ((x y : Opening) → (eq x y ≡ true → x ≡ y) × (x ≡ y → eq x y ≡ true)) → Adds os o new
adds_from os new o eq e d = go (list_any (eq o) os) refl
  where
    go : (b : Bool) → list_any (eq o) os ≡ b → Adds os o new
    go true f = inl (e ∙ ap (λ z. cond z os (os ++ (o ∷ []))) f)
    go false f = inr (e ∙ ap (λ z. cond z os (os ++ (o ∷ []))) f, λ j g. no_any eq d os o f j g)

pub stored_at : (new : List Opening) (o : Opening) (k : ℕ) (eq : Opening → Opening → Bool) → (x : Opening) × (slice_get new k ≡ Some x) × (eq o x ≡ true)
    → ((x y : Opening) → (eq x y ≡ true → x ≡ y) × (x ≡ y → eq x y ≡ true)) → slice_get new k ≡ Some o
stored_at new o k eq (x, g, e) d = g ∙ ap Some (sym ((d o x).0 e))

abbrev pub same_opening : Opening → Opening → Bool
same_opening a b = nat_eq a.to b.to && (nat_eq a.height b.height && nat_eq a.outer b.outer)

and_true : (a b : Bool) → (a && b) ≡ true → (a ≡ true) × (b ≡ true)
and_true true b h = (refl, h)
and_true false b h = cc

pub decides_opening : (x y : Opening) → (same_opening x y ≡ true → x ≡ y) × (x ≡ y → same_opening x y ≡ true)
decides_opening x y = (same, λ e. subst (λ z. same_opening x z ≡ true) e (own x))
  where
    same : same_opening x y ≡ true → x ≡ y
    same h = let a = and_true (nat_eq x.to y.to) (nat_eq x.height y.height && nat_eq x.outer y.outer) h in
        let b = and_true (nat_eq x.height y.height) (nat_eq x.outer y.outer) a.1 in
        let t = eqb-true x.to y.to a.0 in let g = eqb-true x.height y.height b.0 in let o = eqb-true x.outer y.outer b.1 in
        λ i. record { to = t i; height = g i; outer = o i }

    own : (z : Opening) → same_opening z z ≡ true
    own z = let a = eq-eqb z.to z.to refl in let b = eq-eqb z.height z.height refl in let d = eq-eqb z.outer z.outer refl in
        ap (λ q. q && (nat_eq z.height z.height && nat_eq z.outer z.outer)) a ∙ ap (λ q. q && nat_eq z.outer z.outer) b ∙ d
