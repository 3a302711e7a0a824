-- The list of kept versions has just the kept ones.
use Rattle.std.proofs.Common.{◌≡◌, ◌⊎◌, inl, inr, ℕ, zero, suc, ◌<◌, Bool, true, false, cond, List, [], ◌∷◌, ◌++◌, length, Some, refl, sym, ap, ◌∙◌, subst, arith, nat_eq, map, unwrap_or}
use Rattle.std.specs.Prelude.{Contains, slice_get, slice_index_or, filter, ◌||◌}
use Rattle.std.proofs.Math.Bool.{or-true}
use Rattle.std.specs.List.{list_any}
use Rattle.std.proofs.lemmas.Bool.{eqb-true, eq-eqb, cases_eq}
use Rattle.lp_values.specs.declared.id.ProgId.{ProgId}
use Rattle.lp_language.specs.World.{World, Object, version_at}
use Rattle.lp_meaning.specs.IdleAndKept.{IsKept, by_object, by_child, kept_below, kept_versions, IsOrdered, ListHasTheKept}

-- membership, from the front
abbrev In : {A : Type 0} → List A → A → Type 0
In [] x = ⊥
In (y ∷ ys) x = (y ≡ x) ⊎ In ys x

in_list : {A : Type 0} (xs : List A) (x : A) → Contains xs x → In xs x
in_list [] x h = let l = h.1 in absurd (omega (arith, l))
in_list (y ∷ ys) x h = at_place h.0 h.1 h.2 (λ k l e. in_list ys x (k, l, e))
  where
    at_place : (k : ℕ) → k < suc (length ys) → slice_index_or (y ∷ ys) k x ≡ x → ((k : ℕ) → k < length ys → slice_index_or ys k x ≡ x → In ys x) → In (y ∷ ys) x
    at_place zero l e next = inl e
    at_place (suc k) l e next = inr (next k (omega (arith, l)) e)

of_list : {A : Type 0} (xs : List A) (x : A) → In xs x → Contains xs x
of_list [] x h = absurd h
of_list (y ∷ ys) x (inl e) = (0, omega arith, e)
of_list (y ∷ ys) x (inr h) = let c = of_list ys x h in let l = c.1 in (suc c.0, omega (arith, l), c.2)

in_left : {A : Type 0} (xs ys : List A) (x : A) → In xs x → In (xs ++ ys) x
in_left [] ys x h = absurd h
in_left (y ∷ xs) ys x (inl e) = inl e
in_left (y ∷ xs) ys x (inr h) = inr (in_left xs ys x h)

in_right : {A : Type 0} (xs ys : List A) (x : A) → In ys x → In (xs ++ ys) x
in_right [] ys x h = h
in_right (y ∷ xs) ys x h = inr (in_right xs ys x h)

in_either : {A : Type 0} (xs ys : List A) (x : A) → In (xs ++ ys) x → In xs x ⊎ In ys x
in_either [] ys x h = inr h
in_either (y ∷ xs) ys x (inl e) = inl (inl e)
in_either (y ∷ xs) ys x (inr h) = elim (in_either xs ys x h) [ inl l ↦ inl (inr l) | inr r ↦ inr r ]

abbrev numbered_at : ℕ → ProgId
numbered_at n = record { 0 = n }

true_false : true ≡ false → ⊥
true_false p = cc

some_object : {x y : Object} → Some x ≡ Some y → x ≡ y
some_object {x} p = ap (λ o. unwrap_or o x) p

-- a number that is needed
needed_one : (n : ℕ) (vs : List ProgId) → list_any (λ v. nat_eq v.0 n) vs ≡ true → (u : ProgId) × In vs u × (u.0 ≡ n)
needed_one n [] h = cc
needed_one n (v ∷ vs) h = by_test (nat_eq v.0 n) refl h (λ g. needed_one n vs g)
  where
    by_test : (b : Bool) → nat_eq v.0 n ≡ b → b || list_any (λ v. nat_eq v.0 n) vs ≡ true → (list_any (λ v. nat_eq v.0 n) vs ≡ true → (u : ProgId) × In vs u × (u.0 ≡ n)) → (u : ProgId) × In (v ∷ vs) u × (u.0 ≡ n)
    by_test true e h next = (v, inl refl, eqb-true v.0 n e)
    by_test false e h next = let x = next h in (x.0, inr x.1, x.2)

is_needed : (n : ℕ) (vs : List ProgId) (v : ProgId) → In vs v → v.0 ≡ n → list_any (λ v. nat_eq v.0 n) vs ≡ true
is_needed n [] v h e = absurd h
is_needed n (u ∷ vs) v (inl p) e = ap (λ b. b || list_any (λ v. nat_eq v.0 n) vs) (eq-eqb u.0 n (ap (λ x. x.0) p ∙ e))
is_needed n (u ∷ vs) v (inr h) e = ap (λ b. nat_eq u.0 n || b) (is_needed n vs v h e) ∙ or-true (nat_eq u.0 n)

module _ (w : World) where
  -- whatever is in the list is kept
  kept_sound : (n : ℕ) (needed : List ProgId) → ((v : ProgId) → In needed v → IsKept w v) → (v : ProgId) → In (kept_below w n needed) v → IsKept w v
  kept_sound zero needed all v h = absurd h
  kept_sound (suc n) needed all v h = by_test (list_any (λ v. nat_eq v.0 n) needed) refl h (λ g. kept_sound n needed all v g) (λ more g. kept_sound n (needed ++ (version_at w (record { 0 = n })).parents) more v g)
    where
      all_more : IsKept w (record { 0 = n }) → (u : ProgId) → In needed u ⊎ In (version_at w (record { 0 = n })).parents u → IsKept w u
      all_more k u (inl g) = all u g
      all_more k u (inr g) = by_child (record { 0 = n }) u k (of_list (version_at w (record { 0 = n })).parents u g)

      this_one : (u : ProgId) × In needed u × (u.0 ≡ n) → IsKept w (record { 0 = n })
      this_one x = subst (IsKept w) (ap numbered_at x.2) (all x.0 x.1)

      with_this : IsKept w (record { 0 = n }) → (record { 0 = n } ≡ v) ⊎ In (kept_below w n (needed ++ (version_at w (record { 0 = n })).parents)) v
          → (((u : ProgId) → In (needed ++ (version_at w (record { 0 = n })).parents) u → IsKept w u) → In (kept_below w n (needed ++ (version_at w (record { 0 = n })).parents)) v → IsKept w v) → IsKept w v
      with_this k (inl e) next = subst (IsKept w) e k
      with_this k (inr g) next = next (λ u m. all_more k u (in_either needed (version_at w (record { 0 = n })).parents u m)) g

      by_test : (b : Bool) → list_any (λ v. nat_eq v.0 n) needed ≡ b
          → In (cond b (record { 0 = n } ∷ kept_below w n (needed ++ (version_at w (record { 0 = n })).parents)) (kept_below w n needed)) v
          → (In (kept_below w n needed) v → IsKept w v)
          → (((u : ProgId) → In (needed ++ (version_at w (record { 0 = n })).parents) u → IsKept w u) → In (kept_below w n (needed ++ (version_at w (record { 0 = n })).parents)) v → IsKept w v) → IsKept w v
      by_test true e g skip next = with_this (this_one (needed_one n needed e)) g next
      by_test false e g skip next = skip g

  -- what is needed and below is in the list
  needed_below : (n : ℕ) (needed : List ProgId) (v : ProgId) → v.0 < n → In needed v → In (kept_below w n needed) v
  needed_below zero needed v l h = absurd (omega (arith, l))
  needed_below (suc n) needed v l h = here_or_below (cases_eq v.0 n) (list_any (λ v. nat_eq v.0 n) needed) refl
      (λ m. needed_below n needed v m h) (λ m. needed_below n (needed ++ (version_at w (record { 0 = n })).parents) v m (in_left needed (version_at w (record { 0 = n })).parents v h))
    where
      here_or_below : (v.0 ≡ n) ⊎ (v.0 ≡ n → ⊥) → (b : Bool) → list_any (λ v. nat_eq v.0 n) needed ≡ b
          → (v.0 < n → In (kept_below w n needed) v) → (v.0 < n → In (kept_below w n (needed ++ (version_at w (record { 0 = n })).parents)) v)
          → In (cond b (record { 0 = n } ∷ kept_below w n (needed ++ (version_at w (record { 0 = n })).parents)) (kept_below w n needed)) v
      here_or_below (inl e) true t skip next = inl (ap numbered_at (sym e))
      here_or_below (inl e) false t skip next = absurd (true_false (sym (is_needed n needed v h e) ∙ t))
      here_or_below (inr ne) true t skip next = inr (next (omega (arith, l, ne)))
      here_or_below (inr ne) false t skip next = skip (omega (arith, l, ne))

  -- and so is each parent of what is in it
  parents_too : (lower : (v p : ProgId) → Contains (version_at w v).parents p → p.0 < v.0) (n : ℕ) (needed : List ProgId) (v p : ProgId) → Contains (version_at w v).parents p → In (kept_below w n needed) v → In (kept_below w n needed) p
  parents_too lower zero needed v p c h = absurd h
  parents_too lower (suc n) needed v p c h = by_test (list_any (λ v. nat_eq v.0 n) needed) h (λ g. parents_too lower n needed v p c g) (λ g. parents_too lower n (needed ++ (version_at w (record { 0 = n })).parents) v p c g)
    where
      this_one : (record { 0 = n } ≡ v) → In (kept_below w n (needed ++ (version_at w (record { 0 = n })).parents)) p
      this_one e =
          let q : Contains (version_at w (record { 0 = n })).parents p = subst (λ x. Contains (version_at w x).parents p) (sym e) c in
          needed_below n (needed ++ (version_at w (record { 0 = n })).parents) p (lower (record { 0 = n }) p q) (in_right needed (version_at w (record { 0 = n })).parents p (in_list (version_at w (record { 0 = n })).parents p q))

      by_test : (b : Bool) → In (cond b (record { 0 = n } ∷ kept_below w n (needed ++ (version_at w (record { 0 = n })).parents)) (kept_below w n needed)) v
          → (In (kept_below w n needed) v → In (kept_below w n needed) p)
          → (In (kept_below w n (needed ++ (version_at w (record { 0 = n })).parents)) v → In (kept_below w n (needed ++ (version_at w (record { 0 = n })).parents)) p)
          → In (cond b (record { 0 = n } ∷ kept_below w n (needed ++ (version_at w (record { 0 = n })).parents)) (kept_below w n needed)) p
      by_test true (inl e) skip next = inr (this_one e)
      by_test true (inr g) skip next = inr (next g)
      by_test false g skip next = skip g

  -- the versions of live objects
  live_versions : (xs : List Object) → ((x : Object) (n : ℕ) → slice_get xs n ≡ Some x → x.is_live ≡ true → IsKept w x.version) → (v : ProgId) → In (map (λ x. x.version) (filter (λ x. x.is_live) xs)) v → IsKept w v
  live_versions [] k v h = absurd h
  live_versions (x ∷ xs) k v h = by_life x.is_live refl h (λ g. live_versions xs (λ y n. k y (suc n)) v g)
    where
      by_life : (b : Bool) → x.is_live ≡ b → In (map (λ x. x.version) (cond b (x ∷ filter (λ x. x.is_live) xs) (filter (λ x. x.is_live) xs))) v → (In (map (λ x. x.version) (filter (λ x. x.is_live) xs)) v → IsKept w v) → IsKept w v
      by_life true e (inl p) next = subst (IsKept w) p (k x 0 refl e)
      by_life true e (inr g) next = next g
      by_life false e g next = next g

  live_there : (xs : List Object) (n : ℕ) (x : Object) → slice_get xs n ≡ Some x → x.is_live ≡ true → In (map (λ x. x.version) (filter (λ x. x.is_live) xs)) x.version
  live_there [] n x e l = cc
  live_there (y ∷ xs) zero x e l = first_of y.is_live (ap (λ z. z.is_live) (some_object e) ∙ l) (some_object e)
    where
      first_of : (b : Bool) → b ≡ true → y ≡ x → In (map (λ x. x.version) (cond b (y ∷ filter (λ x. x.is_live) xs) (filter (λ x. x.is_live) xs))) x.version
      first_of true t p = inl (ap (λ z. z.version) p)
      first_of false t p = absurd (true_false (sym t))
  live_there (y ∷ xs) (suc n) x e l = behind y.is_live (live_there xs n x e l)
    where
      behind : (b : Bool) → In (map (λ x. x.version) (filter (λ x. x.is_live) xs)) x.version → In (map (λ x. x.version) (cond b (y ∷ filter (λ x. x.is_live) xs) (filter (λ x. x.is_live) xs))) x.version
      behind true g = inr g
      behind false g = g

  kept_there : IsOrdered w → (v : ProgId) → IsKept w v → In (kept_versions w) v
  kept_there o v (by_object n x e l) = needed_below (length w.versions) (map (λ x. x.version) (filter (λ x. x.is_live) w.objects)) x.version (o.there n x e l) (live_there w.objects n x e l)
  kept_there o q (by_child v p k c) = parents_too o.lower (length w.versions) (map (λ x. x.version) (filter (λ x. x.is_live) w.objects)) v p c (kept_there o v k)

pub list_has_the_kept : ListHasTheKept
list_has_the_kept w o v = (
  λ h. kept_sound w (length w.versions) (map (λ x. x.version) (filter (λ x. x.is_live) w.objects)) (live_versions w w.objects (λ x n e l. by_object n x e l)) v (in_list (kept_versions w) v h),
  λ k. of_list (kept_versions w) v (kept_there w o v k),
)
