-- A loop over a list has come one item further.
use Rattle.std.proofs.Common.{◌≡◌, ℕ, ◌+◌, ◌<◌, ◌≤◌, List, [], ◌∷◌, ◌++◌, length, get_or, take, sym, ap, subst, ◌∙◌, append_assoc, append-nil}
use Rattle.std.specs.List.{flat_map, AllByRecursion}
use Rattle.std.proofs.lemmas.Grind.{flat_map-append}
use Rattle.std.proofs.lemmas.List.{take_more, take_all}

module _ {A : Type 0} where
  pub one_more : (xs : List A) (i : ℕ) (x : A) → i < length xs → x ≡ get_or xs i x → take (i + 1) xs ≡ take i xs ++ x ∷ []
  one_more xs i x lt is = take_more xs i x lt ∙ ap (λ y. take i xs ++ y ∷ []) (sym is)

  pub all_end : (P : A → Type 0) (xs ys : List A) → AllByRecursion P xs → AllByRecursion P ys → AllByRecursion P (xs ++ ys)
  all_end P [] ys a b = b
  all_end P (x ∷ xs) ys a b = (a.0, all_end P xs ys a.1 b)

  pub all_more : (P : A → Type 0) (xs : List A) (i : ℕ) (x : A) → i < length xs → x ≡ get_or xs i x → AllByRecursion P (take i xs) → P x → AllByRecursion P (take (i + 1) xs)
  all_more P xs i x lt is a p = subst (AllByRecursion P) (sym (one_more xs i x lt is)) (all_end P (take i xs) (x ∷ []) a (p, tt))

  pub all_taken : (P : A → Type 0) (xs : List A) (i : ℕ) → length xs ≤ i → AllByRecursion P (take i xs) → AllByRecursion P xs
  all_taken P xs i le a = subst (AllByRecursion P) (take_all i xs le) a

  pub mapped_more : {B : Type 0} (f : A → List B) (xs : List A) (i : ℕ) (x : A) → i < length xs → x ≡ get_or xs i x → flat_map f (take (i + 1) xs) ≡ flat_map f (take i xs) ++ f x
  mapped_more f xs i x lt is =
      ap (flat_map f) (one_more xs i x lt is) ∙ flat_map-append f (take i xs) (x ∷ []) ∙ ap (λ y. flat_map f (take i xs) ++ y) (append-nil (f x))

  -- bytes behind others, behind a head
  pub bytes_more : (f : A → List ℕ) (old head : List ℕ) (xs : List A) (i : ℕ) (x : A) (now new : List ℕ) → i < length xs → x ≡ get_or xs i x
      → now ≡ old ++ (head ++ flat_map f (take i xs)) → new ≡ now ++ f x → new ≡ old ++ (head ++ flat_map f (take (i + 1) xs))
  bytes_more f old head xs i x now new lt is before step =
      step ∙ ap (λ y. y ++ f x) before
      ∙ append_assoc old (head ++ flat_map f (take i xs)) (f x)
      ∙ ap (λ y. old ++ y) (append_assoc head (flat_map f (take i xs)) (f x) ∙ ap (λ y. head ++ y) (sym (mapped_more f xs i x lt is)))

  pub bytes_taken : (f : A → List ℕ) (old head : List ℕ) (xs : List A) (i : ℕ) (now : List ℕ) → length xs ≤ i
      → now ≡ old ++ (head ++ flat_map f (take i xs)) → now ≡ old ++ (head ++ flat_map f xs)
  bytes_taken f old head xs i now le e = e ∙ ap (λ y. old ++ (head ++ flat_map f y)) (take_all i xs le)
