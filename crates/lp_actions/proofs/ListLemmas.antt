-- Filters of lists, among maps and reversed lists.
use Rattle.std.proofs.Common.{◌≡◌, Bool, true, false, cond, ◌&&◌, ◌||◌, List, [], ◌∷◌, ◌++◌, map, refl, sym, ap, subst, ◌∙◌}
use Rattle.std.specs.Prelude.{reverse}
use Rattle.std.specs.List.{filter, list_any, AllByRecursion}
use Rattle.std.proofs.lemmas.List.{append-nil, append_assoc}
use Rattle.std.proofs.lemmas.List.Elements.{filter-append}
use Rattle.std.proofs.lemmas.List.Folds.{list_any-append}
use mathlib.Core.List.{reverse-cons}

and_swap : (a b : Bool) → (a && b) ≡ (b && a)
and_swap true true = refl
and_swap true false = refl
and_swap false true = refl
and_swap false false = refl

module _ {X : Type 0} where
  -- what passes both tests, one after the other
  step_twice : (p q : X → Bool) (b c : Bool) (x : X) (xs ys : List X) → p x ≡ b → q x ≡ c → filter p xs ≡ ys → filter p (cond c (x ∷ xs) xs) ≡ cond (c && b) (x ∷ ys) ys
  step_twice p q true true x xs ys e f h = rw e (ap (λ zs. x ∷ zs) h)
  step_twice p q false true x xs ys e f h = rw e h
  step_twice p q true false x xs ys e f h = h
  step_twice p q false false x xs ys e f h = h

  pub filter_twice : (p q : X → Bool) (xs : List X) → filter p (filter q xs) ≡ filter (λ x. q x && p x) xs
  filter_twice p q [] = refl
  filter_twice p q (x ∷ xs) = step_twice p q (p x) (q x) x (filter q xs) (filter (λ x. q x && p x) xs) refl refl (filter_twice p q xs)

  pub filter_agrees : (p q : X → Bool) (xs : List X) → AllByRecursion (λ x. p x ≡ q x) xs → filter p xs ≡ filter q xs
  filter_agrees p q [] h = refl
  filter_agrees p q (x ∷ xs) h = rw (h.0, filter_agrees p q xs h.1) refl

  pub every : {P : X → Type 0} → ((x : X) → P x) → (xs : List X) → AllByRecursion P xs
  every h [] = tt
  every h (x ∷ xs) = (h x, every h xs)

  pub filter_swap : (p q : X → Bool) (xs : List X) → filter p (filter q xs) ≡ filter q (filter p xs)
  filter_swap p q xs = filter_twice p q xs ∙ filter_agrees _ _ xs (every (λ x. and_swap (q x) (p x)) xs) ∙ sym (filter_twice q p xs)

  pub filter_reverse : (p : X → Bool) (xs : List X) → filter p (reverse xs) ≡ reverse (filter p xs)
  filter_reverse p [] = refl
  filter_reverse p (x ∷ xs) =
      ap (filter p) (reverse-cons x xs) ∙ filter-append p (reverse xs) (x ∷ []) ∙ ap (λ ys. ys ++ filter p (x ∷ [])) (filter_reverse p xs) ∙ last (p x)
    where
      last : (b : Bool) → reverse (filter p xs) ++ cond b (x ∷ []) [] ≡ reverse (cond b (x ∷ filter p xs) (filter p xs))
      last true = sym (reverse-cons x (filter p xs))
      last false = append-nil (reverse (filter p xs))

  pub any_reverse : (p : X → Bool) (xs : List X) → list_any p (reverse xs) ≡ list_any p xs
  any_reverse p [] = refl
  any_reverse p (x ∷ xs) = ap (list_any p) (reverse-cons x xs) ∙ list_any-append p (reverse xs) (x ∷ []) ∙ ap (λ b. b || (p x || false)) (any_reverse p xs) ∙ swapped (list_any p xs) (p x)
    where
      swapped : (a b : Bool) → (a || (b || false)) ≡ (b || a)
      swapped true true = refl
      swapped true false = refl
      swapped false true = refl
      swapped false false = refl

  pub any_filter : (p q : X → Bool) (xs : List X) → list_any p (filter q xs) ≡ list_any (λ x. q x && p x) xs
  any_filter p q [] = refl
  any_filter p q (x ∷ xs) = step (q x) (any_filter p q xs)
    where
      step : (b : Bool) → list_any p (filter q xs) ≡ list_any (λ x. q x && p x) xs → list_any p (cond b (x ∷ filter q xs) (filter q xs)) ≡ ((b && p x) || list_any (λ x. q x && p x) xs)
      step true e = ap (λ b. p x || b) e
      step false e = e

  pub any_agrees : (p q : X → Bool) → ((x : X) → p x ≡ q x) → (xs : List X) → list_any p xs ≡ list_any q xs
  any_agrees p q h [] = refl
  any_agrees p q h (x ∷ xs) = rw (h x, any_agrees p q h xs) refl

  pub filter_none : (p : X → Bool) → ((x : X) → p x ≡ false) → (xs : List X) → filter p xs ≡ []
  filter_none p h [] = refl
  filter_none p h (x ∷ xs) = rw (h x, filter_none p h xs) refl

  pub all_filter : (P : X → Type 0) (p : X → Bool) (xs : List X) → AllByRecursion P xs → AllByRecursion P (filter p xs)
  all_filter P p [] h = tt
  all_filter P p (x ∷ xs) h = step (p x) (all_filter P p xs h.1)
    where
      step : (b : Bool) → AllByRecursion P (filter p xs) → AllByRecursion P (cond b (x ∷ filter p xs) (filter p xs))
      step true k = (h.0, k)
      step false k = k

  all_front : (P : X → Type 0) (xs ys : List X) → AllByRecursion P (xs ++ ys) → AllByRecursion P xs
  all_front P [] ys h = tt
  all_front P (x ∷ xs) ys h = (h.0, all_front P xs ys h.1)

  all_last : (P : X → Type 0) (xs : List X) (y : X) → AllByRecursion P (xs ++ y ∷ []) → P y
  all_last P [] y h = h.0
  all_last P (x ∷ xs) y h = all_last P xs y h.1

  pub all_reversed : (P : X → Type 0) (xs : List X) → AllByRecursion P (reverse xs) → AllByRecursion P xs
  all_reversed P [] h = tt
  all_reversed P (x ∷ xs) h =
      let k : AllByRecursion P (reverse xs ++ x ∷ []) = subst (AllByRecursion P) (reverse-cons x xs) h in
      (all_last P (reverse xs) x k, all_reversed P xs (all_front P (reverse xs) (x ∷ []) k))

module _ {X Y : Type 0} where
  -- two maps that agree where a test holds
  pub map_agrees : (f g : X → Y) (p : X → Bool) → ((x : X) → p x ≡ true → f x ≡ g x) → (xs : List X) → map f (filter p xs) ≡ map g (filter p xs)
  map_agrees f g p h [] = refl
  map_agrees f g p h (x ∷ xs) = step (p x) refl (map_agrees f g p h xs)
    where
      step : (b : Bool) → p x ≡ b → map f (filter p xs) ≡ map g (filter p xs) → map f (cond b (x ∷ filter p xs) (filter p xs)) ≡ map g (cond b (x ∷ filter p xs) (filter p xs))
      step true e k = rw (h x e, k) refl
      step false e k = k

  pub filter_map : (f : X → Y) (p : Y → Bool) (xs : List X) → filter p (map f xs) ≡ map f (filter (λ x. p (f x)) xs)
  filter_map f p [] = refl
  filter_map f p (x ∷ xs) = step (p (f x)) (filter_map f p xs)
    where
      step : (b : Bool) → filter p (map f xs) ≡ map f (filter (λ x. p (f x)) xs) → cond b (f x ∷ filter p (map f xs)) (filter p (map f xs)) ≡ map f (cond b (x ∷ filter (λ x. p (f x)) xs) (filter (λ x. p (f x)) xs))
      step true e = ap (λ ys. f x ∷ ys) e
      step false e = e

  pub map_append : (f : X → Y) (xs ys : List X) → map f (xs ++ ys) ≡ map f xs ++ map f ys
  map_append f [] ys = refl
  map_append f (x ∷ xs) ys = ap (λ zs. f x ∷ zs) (map_append f xs ys)

  pub any_map : (f : X → Y) (p : Y → Bool) (xs : List X) → list_any p (map f xs) ≡ list_any (λ x. p (f x)) xs
  any_map f p [] = refl
  any_map f p (x ∷ xs) = ap (λ b. p (f x) || b) (any_map f p xs)

  pub all_map : (f : X → Y) (P : Y → Type 0) (xs : List X) → AllByRecursion P (map f xs) → AllByRecursion (λ x. P (f x)) xs
  all_map f P [] h = tt
  all_map f P (x ∷ xs) h = (h.0, all_map f P xs h.1)

  pub map_reverse : (f : X → Y) (xs : List X) → map f (reverse xs) ≡ reverse (map f xs)
  map_reverse f [] = refl
  map_reverse f (x ∷ xs) =
      ap (map f) (reverse-cons x xs) ∙ map_append f (reverse xs) (x ∷ []) ∙ ap (λ ys. ys ++ f x ∷ []) (map_reverse f xs) ∙ sym (reverse-cons (f x) (map f xs))

-- what was found, and then what is left to find
module _ {X Y Z : Type 0} (g : X → Z) (f : Y → Z) (m : Z → Bool) (found : List X) where
  pub found_more : (x : X) (y : Y) (ys : List Y) → g x ≡ f y → m (f y) ≡ true → map g (found ++ x ∷ []) ++ filter m (map f ys) ≡ map g found ++ filter m (map f (y ∷ ys))
  found_more x y ys same passes =
      rw passes (ap (λ zs. zs ++ filter m (map f ys)) (map_append g found (x ∷ [])) ∙ append_assoc (map g found) (g x ∷ []) (filter m (map f ys)) ∙ ap (λ z. map g found ++ z ∷ filter m (map f ys)) same)

  pub found_no_more : (y : Y) (ys : List Y) → m (f y) ≡ false → map g found ++ filter m (map f ys) ≡ map g found ++ filter m (map f (y ∷ ys))
  found_no_more y ys fails = rw fails refl
