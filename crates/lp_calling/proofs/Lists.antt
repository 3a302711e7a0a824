-- Parts of lists.
use Rattle.std.proofs.Common.{◌≡◌, ◌∙◌, ◌+◌, ◌-◌, ◌<◌, ◌≤◌, ◌++◌, ◌∷◌, [], ℕ, zero, suc, List, Some, refl, ap, sym, drop, length, slice_get, take, arith, length-append, length-drop, append_assoc, get_or, nat_lt, Bool, true, false, length-take}
use Rattle.std.proofs.lemmas.List.{take-append-le, drop-append-le, drop-drop, drop_all, append-nil, take-take, drop-take}
use Rattle.std.proofs.lemmas.Bool.{ltb-true, ltb-false}

-- the value at a place
pub get_above : {A : Type 0} (low own : List A) (n i : ℕ) → length low ≡ n → slice_get (low ++ own) (n + i) ≡ slice_get own i
get_above [] own n i e = let z : n + i ≡ i = omega (arith, e) in ap (slice_get own) z
get_above (x ∷ low) own zero i e = absurd (omega (arith, e))
get_above (x ∷ low) own (suc n) i e =
    let z : suc n + i ≡ suc (n + i) = omega arith in ap (slice_get (x ∷ (low ++ own))) z ∙ get_above low own n i (omega (arith, e))

-- a value that is there is the first of what is left
pub left_at : {A : Type 0} (xs : List A) (i : ℕ) (v : A) → slice_get xs i ≡ Some v → drop i xs ≡ v ∷ drop (i + 1) xs
left_at [] i v h = cc
left_at (x ∷ xs) zero v h = let e : x ≡ v = cc in ap (λ y. y ∷ xs) e
left_at (x ∷ xs) (suc i) v h = let z : suc i + 1 ≡ suc (i + 1) = omega arith in left_at xs i v h ∙ ap (λ n. v ∷ drop n (x ∷ xs)) (sym z)

-- one more value is taken
pub taken_more : {A : Type 0} (xs : List A) (i : ℕ) (v : A) → slice_get xs i ≡ Some v → take (i + 1) xs ≡ take i xs ++ v ∷ []
taken_more [] i v h = cc
taken_more (x ∷ xs) zero v h = let e : x ≡ v = cc in ap (λ y. y ∷ []) e
taken_more (x ∷ xs) (suc i) v h = let z : suc i + 1 ≡ suc (i + 1) = omega arith in ap (λ n. take n (x ∷ xs)) z ∙ ap (λ l. x ∷ l) (taken_more xs i v h)

-- what there is at a place of the front of a list
pub get_front : {A : Type 0} (xs ys : List A) (i : ℕ) → i < length xs → slice_get (xs ++ ys) i ≡ slice_get xs i
get_front [] ys i h = absurd (omega (arith, h))
get_front (x ∷ xs) ys zero h = refl
get_front (x ∷ xs) ys (suc i) h = get_front xs ys i (omega (arith, h))

pub get_dropped : {A : Type 0} (xs : List A) (n i : ℕ) → slice_get (drop n xs) i ≡ slice_get xs (n + i)
get_dropped xs zero i = let z : i ≡ 0 + i = omega arith in ap (slice_get xs) z
get_dropped [] (suc n) i = refl
get_dropped (x ∷ xs) (suc n) i = let z : suc (n + i) ≡ suc n + i = omega arith in get_dropped xs n i ∙ ap (slice_get (x ∷ xs)) z

-- one more value is copied
pub copied_more : {A : Type 0} (start now : List A) (from i : ℕ) (v : A) → now ≡ start ++ take (i - from) (drop from start) → from ≤ i → i < length start → slice_get now i ≡ Some v
    → now ++ v ∷ [] ≡ start ++ take (i + 1 - from) (drop from start)
copied_more start now from i v e h l g =
    let at : from + (i - from) ≡ i = omega (arith, h) in
    let step : i - from + 1 ≡ i + 1 - from = omega (arith, h) in
    let there : slice_get (drop from start) (i - from) ≡ Some v =
    get_dropped start from (i - from) ∙ ap (slice_get start) at ∙ sym (get_front start (take (i - from) (drop from start)) i l) ∙ ap (λ xs. slice_get xs i) (sym e) ∙ g in
    ap (λ xs. xs ++ v ∷ []) e ∙ append_assoc start (take (i - from) (drop from start)) (v ∷ []) ∙ ap (λ xs. start ++ xs) (sym (taken_more (drop from start) (i - from) v there))
    ∙ ap (λ n. start ++ take n (drop from start)) step

-- what was read at a place
pub got_read : {A : Type 0} (xs : List A) (i : ℕ) (x : A) → i < length xs → x ≡ get_or xs i x → slice_get xs i ≡ Some x
got_read [] i x l e = absurd (omega (arith, l))
got_read (y ∷ xs) zero x l e = ap Some (sym e)
got_read (y ∷ xs) (suc i) x l e = got_read xs i x (omega (arith, l)) e

pub inside_more : {A : Type 0} (start more now : List A) (i : ℕ) → now ≡ start ++ more → i < length start → i < length now
inside_more start more now i e l = let z : length now ≡ length start + length more = ap length e ∙ length-append start more in omega arith

-- nothing is copied yet, and all is
pub copied_none : {A : Type 0} (start : List A) (from : ℕ) → start ≡ start ++ take (from - from) (drop from start)
copied_none start from = let z : 0 ≡ from - from = omega arith in sym (append-nil start) ∙ ap (λ n. start ++ take n (drop from start)) z

-- Items between the arguments and what was taken

-- the next of what is left
pub left_split : {A : Type 0} (xs : List A) (i : ℕ) → i < length xs → (x : A) × (drop i xs ≡ x ∷ drop (i + 1) xs)
left_split [] i l = absurd (omega (arith, l))
left_split (x ∷ xs) zero l = (x, refl)
left_split (x ∷ xs) (suc i) l =
    let z : suc (i + 1) ≡ suc i + 1 = omega arith in
    let n = left_split xs i (omega (arith, l)) in (n.0, n.1 ∙ ap (λ k. n.0 ∷ drop k (x ∷ xs)) z)

-- a part of the front
pub part_kept : {A : Type 0} (xs ys : List A) (k m : ℕ) → k + m ≤ length xs → take m (drop k (xs ++ ys)) ≡ take m (drop k xs)
part_kept xs ys k m l = ap (take m) (drop-append-le k xs ys (omega arith)) ∙ take-append-le m (drop k xs) ys (omega (arith, length-drop k xs))

-- by whether there are more than three
pub further_is : {A : Type 0} (own : List A) (a : ℕ) → drop 3 (take a own) ≡ take (a - 3) (drop 3 own)
further_is own a = by (nat_lt 3 a) refl
  where
    by : (b : Bool) → nat_lt 3 a ≡ b → drop 3 (take a own) ≡ take (a - 3) (drop 3 own)
    by true q =
        let l : 3 < a = ltb-true 3 a q in
        let z : a ≡ 3 + (a - 3) = omega arith in
        ap (λ n. drop 3 (take n own)) z ∙ drop-take 3 (a - 3) own
    by false q =
        let l : a ≤ 3 = ltb-false 3 a q in
        let z : 0 ≡ a - 3 = omega arith in
        drop_all 3 (take a own) (omega (arith, length-take a own)) ∙ ap (λ n. take n (drop 3 own)) z

-- they are laid on top
pub further_laid : {A : Type 0} (s0 s1 : List A) (low a : ℕ) → 3 < a → s1 ≡ s0 ++ take (low + a - (low + 3)) (drop (low + 3) s0) → s1 ≡ s0 ++ take (a - 3) (drop (low + 3) s0)
further_laid s0 s1 low a l e = let z : low + a - (low + 3) ≡ a - 3 = omega arith in e ∙ ap (λ n. s0 ++ take n (drop (low + 3) s0)) z

pub no_further_laid : {A : Type 0} (s0 : List A) (low a : ℕ) → a ≤ 3 → s0 ≡ s0 ++ take (a - 3) (drop (low + 3) s0)
no_further_laid s0 low a l = let z : 0 ≡ a - 3 = omega arith in sym (append-nil s0) ∙ ap (λ n. s0 ++ take n (drop (low + 3) s0)) z

further_kept : {A : Type 0} (s0 x : List A) (low a : ℕ) → low + a ≤ length s0 → take (a - 3) (drop (low + 3) (s0 ++ x)) ≡ take (a - 3) (drop (low + 3) s0)
further_kept s0 x low a l = by (nat_lt 3 a) refl
  where
    by : (b : Bool) → nat_lt 3 a ≡ b → take (a - 3) (drop (low + 3) (s0 ++ x)) ≡ take (a - 3) (drop (low + 3) s0)
    by true q = let g : 3 < a = ltb-true 3 a q in part_kept s0 x (low + 3) (a - 3) (omega arith)
    by false q =
        let g : a ≤ 3 = ltb-false 3 a q in
        let z : a - 3 ≡ 0 = omega arith in
        ap (λ n. take n (drop (low + 3) (s0 ++ x))) z ∙ sym (ap (λ n. take n (drop (low + 3) s0)) z)

-- and the item below them
pub question_laid : {A : Type 0} (s0 s1 s2 : List A) (low a at : ℕ) → low + a ≤ length s0 → s1 ≡ s0 ++ take (at + 1 - at) (drop at s0) → s2 ≡ s1 ++ take (a - 3) (drop (low + 3) s1)
    → s2 ≡ s0 ++ (take 1 (drop at s0) ++ take (a - 3) (drop (low + 3) s0))
question_laid s0 s1 s2 low a at l e1 e2 =
    let one : at + 1 - at ≡ 1 = omega arith in
    let first : s1 ≡ s0 ++ take 1 (drop at s0) = e1 ∙ ap (λ n. s0 ++ take n (drop at s0)) one in
    e2 ∙ ap (λ s. s ++ take (a - 3) (drop (low + 3) s)) first ∙ ap (λ t. (s0 ++ take 1 (drop at s0)) ++ t) (further_kept s0 (take 1 (drop at s0)) low a l)
    ∙ append_assoc s0 (take 1 (drop at s0)) (take (a - 3) (drop (low + 3) s0))

-- the next item, by its place
pub item_first : {A : Type 0} (own rest : List A) (a c d : ℕ) (x : A) → d < c → drop d (take c (drop a own)) ≡ x ∷ rest → take 1 (drop (a + d) own) ≡ x ∷ []
item_first own rest a c d x l e =
    let z : d + (c - d) ≡ c = omega arith in
    let some : 1 ≤ c - d = omega arith in
    let left : take (c - d) (drop d (drop a own)) ≡ x ∷ rest = sym (drop-take d (c - d) (drop a own)) ∙ ap (λ n. drop d (take n (drop a own))) z ∙ e in
    ap (take 1) (sym (drop-drop d a own)) ∙ sym (take-take 1 (c - d) (drop d (drop a own)) some) ∙ ap (take 1) left

first_of : {A : Type 0} (l : List A) (x : A) → take 1 l ≡ x ∷ [] → slice_get l 0 ≡ Some x
first_of [] x e = cc
first_of (y ∷ l) x e = let z : y ≡ x = cc in ap Some z

pub item_got : {A : Type 0} (own rest : List A) (a c d : ℕ) (x : A) → d < c → drop d (take c (drop a own)) ≡ x ∷ rest → slice_get own (a + d) ≡ Some x
item_got own rest a c d x l e =
    let z : a + d ≡ a + d + 0 = omega arith in
    ap (slice_get own) z ∙ sym (get_dropped own (a + d) 0) ∙ first_of (drop (a + d) own) x (item_first own rest a c d x l e)

-- what is left behind it
pub left_behind : {A : Type 0} (own t rest : List A) (a c d : ℕ) (x : A) → a + c ≤ length own → drop d (take c (drop a own)) ≡ x ∷ rest → drop (d + 1) (take c (drop a (own ++ t))) ≡ rest
left_behind own t rest a c d x l e = ap (drop (d + 1)) (part_kept own t a c l) ∙ sym (drop-drop 1 d (take c (drop a own))) ∙ ap (drop 1) e

-- what was taken grows
pub taken_grown : {A : Type 0} (own t : List A) (a c : ℕ) → a + c ≤ length own → drop c (drop a (own ++ t)) ≡ drop c (drop a own) ++ t
taken_grown own t a c l = ap (drop c) (drop-append-le a own t (omega arith)) ∙ drop-append-le c (drop a own) t (omega (arith, length-drop a own))

-- the value at a place, as a part
pub part_at : {A : Type 0} (xs : List A) (i : ℕ) (x : A) → slice_get xs i ≡ Some x → take (i + 1 - i) (drop i xs) ≡ x ∷ []
part_at xs i x e =
    let z : i + 1 - i ≡ 1 = omega arith in
    ap (λ n. take n (drop i xs)) z ∙ ap (take 1) (left_at xs i x e)

-- what there is at a place lies within
pub got_within : {A : Type 0} (xs : List A) (i : ℕ) (v : A) → slice_get xs i ≡ Some v → i < length xs
got_within [] i v h = cc
got_within (x ∷ xs) zero v h = omega arith
got_within (x ∷ xs) (suc i) v h = let l : i < length xs = got_within xs i v h in omega (arith, l)

-- and it is what was read there
pub read_got : {A : Type 0} (xs : List A) (i : ℕ) (v y : A) → slice_get xs i ≡ Some v → y ≡ get_or xs i y → v ≡ y
read_got xs i v y h e = let z : Some v ≡ Some y = sym h ∙ got_read xs i y (got_within xs i v h) e in cc
