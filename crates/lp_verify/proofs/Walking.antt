-- What is learned while paths are walked.
use Rattle.std.proofs.Common.{◌≡◌, ◌<◌, ℕ, zero, suc, refl, sym, ◌∙◌, ap, subst, arith, List, [], ◌∷◌, ◌++◌, All, length, map, slice_set, get_or, Some, slice_get, Bool, true, false, IsTrue}
use Rattle.std.proofs.lemmas.List.{length-append, length-map, append-nil}
use Rattle.std.proofs.lemmas.Option.{slice_get_read}
use Rattle.std.proofs.lemmas.List.Elements.{All-cons, All-head, All-tail}
use Rattle.lp_instr.specs.Code.{Catching}
use Rattle.lp_verify.specs.declared.seen.Seen.{Seen}
use Rattle.lp_verify.specs.declared.walk.Walk.{Walk}
use Rattle.lp_verify.specs.Paths.{Known, Fits, joined, Way, at, said}
use Rattle.lp_verify.specs.Work.{Grows}
use Rattle.lp_verify.specs.Walks.{known_of, IsIn, facts, IsWalk, Moves}
use Rattle.lp_verify.proofs.Growing.{grows_none, grows_one, grows_then, grows_nothing}
use Rattle.lp_verify.proofs.Opened.{goes_same, goes_then}

pub map_set : {A B : Type 0} (f : A → B) (xs : List A) (i : ℕ) (v : A) → map f (slice_set xs i v) ≡ slice_set (map f xs) i (f v)
map_set f [] i v = refl
map_set f (x ∷ xs) zero v = refl
map_set f (x ∷ xs) (suc i) v = ap (λ z. f x ∷ z) (map_set f xs i v)

pub all_set : {A : Type 0} (P : A → Type 0) (xs : List A) (i : ℕ) (v : A) → All P xs → P v → All P (slice_set xs i v)
all_set P [] i v h p = h
all_set P (x ∷ xs) zero v h p = All-cons P v xs p (All-tail P x xs h)
all_set P (x ∷ xs) (suc i) v h p = All-cons P x (slice_set xs i v) (All-head P x xs h) (all_set P xs i v (All-tail P x xs h) p)

get_map : {A B : Type 0} (f : A → B) (xs : List A) (i : ℕ) (x : A) → slice_get xs i ≡ Some x → slice_get (map f xs) i ≡ Some (f x)
get_map f [] i x e = cc
get_map f (y ∷ xs) zero x e = let s : y ≡ x = cc in ap (λ z. Some (f z)) s
get_map f (y ∷ xs) (suc i) x e = get_map f xs i x e

-- what was read at a place is what is known of it
pub fact_at : (lists : List (List Catching)) (xs : List Seen) (i : ℕ) (x : Seen) → i < length xs → x ≡ get_or xs i x → at (map (known_of lists) xs) i ≡ known_of lists x
fact_at lists xs i x h e = ap said (get_map (known_of lists) xs i x (slice_get_read xs (length xs) i x refl h e))

read_all : (P : Seen → Type 0) (xs : List Seen) (i : ℕ) (x : Seen) → i < length xs → x ≡ get_or xs i x → All P xs → P x
read_all P [] i x h e a = absurd (omega (arith, h))
read_all P (y ∷ xs) zero x h e a = subst P (sym e) (All-head P y xs a)
read_all P (y ∷ xs) (suc i) x h e a = read_all P xs i x (omega (arith, h)) e (All-tail P y xs a)

pub in_at : (lists : List (List Catching)) (xs : List Seen) (i : ℕ) (x : Seen) → i < length xs → x ≡ get_or xs i x → All (IsIn lists) xs → IsIn lists x
in_at lists xs i x h e a = read_all (IsIn lists) xs i x h e a

-- it was known already
pub learn_none : (a : Walk) (to : ℕ) (v old : Seen) → IsWalk a → to < length a.seen.items → old ≡ get_or a.seen.items to old → Fits (known_of a.openings v) (known_of a.openings old)
    → Moves (record { to = to; known = known_of a.openings v } ∷ []) a a
learn_none a to v old h l e f = record {
  goes_on = goes_same a.openings;
  walk = h;
  grows = grows_none (facts a) a.todo.items (record { to = to; known = known_of a.openings v })
      (let P : Known → Type 0 = λ k. Fits (known_of a.openings v) k in subst P (sym (fact_at a.openings a.seen.items to old l e)) f);
}

-- it is new
pub learn_more : (a b : Walk) (to : ℕ) (v old new : Seen) → IsWalk a → to < length a.seen.items → old ≡ get_or a.seen.items to old → (Fits (known_of a.openings v) (known_of a.openings old) → ⊥)
    → known_of a.openings new ≡ joined (known_of a.openings old) (known_of a.openings v) → IsIn a.openings new
    → b.openings ≡ a.openings → b.seen.items ≡ slice_set a.seen.items to new → b.todo.items ≡ a.todo.items ++ (to ∷ [])
    → Moves (record { to = to; known = known_of a.openings v } ∷ []) a b
learn_more a b to v old new h l e n j i o s t =
    let w : Way = record { to = to; known = known_of a.openings v } in
    let here = fact_at a.openings a.seen.items to old l e in
    let size : to < length (facts a) = let z = length-map a.seen.items (known_of a.openings) in omega (arith, z, l) in
    let g : Grows (w ∷ []) (facts a) a.todo.items (slice_set (facts a) to (known_of a.openings new)) b.todo.items
    = grows_one (facts a) a.todo.items b.todo.items w (known_of a.openings new) size
    (λ f. n (let P : Known → Type 0 = λ k. Fits (known_of a.openings v) k in subst P here f))
    (j ∙ ap (λ k. joined k (known_of a.openings v)) (sym here)) t (ap length t ∙ length-append a.todo.items (to ∷ [])) in
    let news : facts b ≡ slice_set (facts a) to (known_of a.openings new) = ap (λ z. map (known_of z) b.seen.items) o ∙ ap (map (known_of a.openings)) s ∙ map_set (known_of a.openings) a.seen.items to new in
    record {
      goes_on = record { more = []; is = o ∙ sym (append-nil a.openings) };
      walk = (let P : List (List Catching) → Type 0 = λ z. All (IsIn z) b.seen.items in
          subst P (sym o) (let Q : List Seen → Type 0 = λ z. All (IsIn a.openings) z in subst Q (sym s) (all_set (IsIn a.openings) a.seen.items to new h i)));
      grows = (let P : List Known → Type 0 = λ z. Grows (w ∷ []) (facts a) a.todo.items z b.todo.items in subst P (sym news) g);
    }

-- nothing is learned
pub moves_none : (a : Walk) → IsWalk a → Moves [] a a
moves_none a h = record { goes_on = goes_same a.openings; walk = h; grows = grows_nothing (facts a) a.todo.items }

-- one after the other
pub moves_then : (xs ys : List Way) (a b c : Walk) → Moves xs a b → Moves ys b c → Moves (xs ++ ys) a c
moves_then xs ys a b c g h = record {
  goes_on = goes_then a.openings b.openings c.openings g.goes_on h.goes_on;
  walk = h.walk;
  grows = grows_then xs ys (facts a) (facts b) (facts c) a.todo.items b.todo.items c.todo.items g.grows h.grows;
}

pub not_known : (b : Bool) (P : Type 0) → (P → IsTrue b) → b ≡ false → P → ⊥
not_known true P f e p = cc
not_known false P f e p = let t = f p in cc
