-- Lists whose last item comes first.
use Rattle.std.proofs.Common.{◌≡◌, ◌∙◌, ◌-◌, ◌++◌, ◌∷◌, [], List, Option, Some, None, refl, ap, sym, drop, length, map, reverse, slice_get, take, arith, length-append}
use Rattle.std.proofs.lemmas.List.{reverse-append, reverse-reverse, take_at}
use Rattle.lp_world.proofs.Keeping.{get_end}

-- the first of a list
abbrev pub first : {A : Type 0} → List A → Option A
first [] = None
first (x ∷ xs) = Some x

-- a list with one item more
pub turned : {A : Type 0} (xs : List A) (x : A) → reverse (xs ++ x ∷ []) ≡ x ∷ reverse xs
turned xs x = reverse-append xs (x ∷ [])

-- without its last item
front_of : {A : Type 0} (ys : List A) → reverse (take (length (reverse ys) - 1) (reverse ys)) ≡ drop 1 ys
front_of [] = refl
front_of (y ∷ ys) =
    let is : reverse (y ∷ ys) ≡ reverse ys ++ y ∷ [] = reverse-append (y ∷ []) ys in
    let n : length (reverse ys) ≡ length (reverse ys ++ y ∷ []) - 1 = omega (arith, length-append (reverse ys) (y ∷ [])) in
    ap (λ l. reverse (take (length l - 1) l)) is
    ∙ ap reverse (take_at (reverse ys) (y ∷ []) (length (reverse ys ++ y ∷ []) - 1) n)
    ∙ reverse-reverse ys

pub reverse_front : {A : Type 0} (xs : List A) → reverse (take (length xs - 1) xs) ≡ drop 1 (reverse xs)
reverse_front xs = ap (λ l. reverse (take (length l - 1) l)) (sym (reverse-reverse xs)) ∙ front_of (reverse xs)

-- the last item
last_item : {A : Type 0} (ys : List A) (x : A) → slice_get (ys ++ x ∷ []) (length (ys ++ x ∷ []) - 1) ≡ Some x
last_item ys x = ap (λ n. slice_get (ys ++ x ∷ []) n) (omega (arith, length-append ys (x ∷ []))) ∙ get_end ys x

of_turned : {A : Type 0} (r : List A) → slice_get (reverse r) (length (reverse r) - 1) ≡ first r
of_turned [] = refl
of_turned (x ∷ xs) = ap (λ l. slice_get l (length l - 1)) (reverse-append (x ∷ []) xs) ∙ last_item (reverse xs) x

pub last_is : {A : Type 0} (xs : List A) → slice_get xs (length xs - 1) ≡ first (reverse xs)
last_is xs = ap (λ l. slice_get l (length l - 1)) (sym (reverse-reverse xs)) ∙ of_turned (reverse xs)

-- the rest of what was mapped
pub drop_map : {A B : Type 0} (f : A → B) (xs : List A) → drop 1 (map f xs) ≡ map f (drop 1 xs)
drop_map f [] = refl
drop_map f (x ∷ xs) = refl
