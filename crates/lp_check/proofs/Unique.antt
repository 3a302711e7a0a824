-- Two rising lists of the same paths are one.
use Rattle.std.proofs.Common.{◌≡◌, ◌∙◌, ◌||◌, ℕ, List, [], ◌∷◌, Bool, true, false, refl, sym, ap, subst}
use Rattle.std.specs.List.{AllByRecursion}
use Rattle.std.specs.Ordering.{is_eq, ordering_reverse}
use Rattle.std.specs.Str.{bytes_eq}
use Rattle.std.specs.declared.cmp.Ordering.{Ordering}
use Rattle.std.specs.declared.cmp.Ordering.TheVariants.{Less, Equal, Greater}
use Rattle.std.specs.Cmp.Lexicographic.{nat_list_cmp_total}
use Rattle.std.specs.FinMap.{nat_cmp-IsAntisymmetric, slice_cmp-IsAntisymmetric}
use Rattle.std.proofs.lemmas.Bool.{true≢false}
use Rattle.std.proofs.lemmas.Map.Keys.{sorted_head, sorted_tail}
use Rattle.std.proofs.lemmas.Map.Text.{is_eq-slice_cmp}
use Rattle.std.proofs.lemmas.Slice.Eq.{bytes_eq-Decides}
use Rattle.lp_files.specs.Paths.{path_cmp, IsRising, lists}

-- a path is not among those above it
above_absent : (p : List ℕ) (qs : List (List ℕ)) → AllByRecursion (λ q. path_cmp p q ≡ Less) qs → lists p qs ≡ false
above_absent p [] h = refl
above_absent p (q ∷ qs) h = ap (λ b. b || lists p qs) (sym (is_eq-slice_cmp p q) ∙ ap is_eq h.0) ∙ above_absent p qs h.1

all_above : (p q : List ℕ) (qs : List (List ℕ)) → path_cmp p q ≡ Less → AllByRecursion (λ r. path_cmp q r ≡ Less) qs → AllByRecursion (λ r. path_cmp p r ≡ Less) qs
all_above p q [] e h = h
all_above p q (r ∷ qs) e h = (nat_list_cmp_total.trans p q r e h.0, all_above p q qs e h.1)

below_absent : (p q : List ℕ) (qs : List (List ℕ)) → path_cmp p q ≡ Less → IsRising (q ∷ qs) → lists p (q ∷ qs) ≡ false
below_absent p q qs e s = above_absent p (q ∷ qs) (e, all_above p q qs e (sorted_head path_cmp q qs s))

itself : (p : List ℕ) → bytes_eq p p ≡ true
itself p = (bytes_eq-Decides p p).1 refl

first_there : (p : List ℕ) (ps : List (List ℕ)) → lists p (p ∷ ps) ≡ true
first_there p ps = ap (λ b. b || lists p ps) (itself p)

-- what one list has and the other has not
apart : {A : Type 0} (a b : Bool) → a ≡ b → a ≡ true → b ≡ false → A
apart a b e t f = absurd (true≢false (sym t ∙ e ∙ f))

turned : (p q : List ℕ) → path_cmp p q ≡ Greater → path_cmp q p ≡ Less
turned p q e = nat_list_cmp_total.antisymm q p ∙ ap ordering_reverse e

rest_same : (p x : List ℕ) (ps qs : List (List ℕ)) → IsRising (p ∷ ps) → IsRising (p ∷ qs) → (b : Bool) → bytes_eq x p ≡ b → lists x (p ∷ ps) ≡ lists x (p ∷ qs) → lists x ps ≡ lists x qs
rest_same p x ps qs s t true e h =
    let is : x ≡ p = (bytes_eq-Decides x p).0 e in
    subst (λ y. lists y ps ≡ lists y qs) (sym is) (above_absent p ps (sorted_head path_cmp p ps s) ∙ sym (above_absent p qs (sorted_head path_cmp p qs t)))
rest_same p x ps qs s t false e h = sym (ap (λ b. b || lists x ps) e) ∙ h ∙ ap (λ b. b || lists x qs) e

heads_same : (p q : List ℕ) (ps qs : List (List ℕ)) (r : Ordering) → path_cmp p q ≡ r → IsRising (p ∷ ps) → IsRising (q ∷ qs) → ((x : List ℕ) → lists x (p ∷ ps) ≡ lists x (q ∷ qs)) → p ≡ q
heads_same p q ps qs Less e s t h = apart (lists p (p ∷ ps)) (lists p (q ∷ qs)) (h p) (first_there p ps) (below_absent p q qs e t)
heads_same p q ps qs Greater e s t h = apart (lists q (q ∷ qs)) (lists q (p ∷ ps)) (sym (h q)) (first_there q qs) (below_absent q p ps (turned p q e) s)
heads_same p q ps qs Equal e s t h = slice_cmp-IsAntisymmetric nat_cmp-IsAntisymmetric p q e

pub rising_same : (ps qs : List (List ℕ)) → IsRising ps → IsRising qs → ((x : List ℕ) → lists x ps ≡ lists x qs) → ps ≡ qs
rising_same [] [] s t h = refl
rising_same [] (q ∷ qs) s t h = apart (lists q (q ∷ qs)) false (sym (h q)) (first_there q qs) refl
rising_same (p ∷ ps) [] s t h = apart (lists p (p ∷ ps)) false (h p) (first_there p ps) refl
rising_same (p ∷ ps) (q ∷ qs) s t h =
    let is : p ≡ q = heads_same p q ps qs (path_cmp p q) refl s t h in
    let t' : IsRising (p ∷ qs) = subst (λ y. IsRising (y ∷ qs)) (sym is) t in
    let h' : (x : List ℕ) → lists x (p ∷ ps) ≡ lists x (p ∷ qs) = subst (λ y. (x : List ℕ) → lists x (p ∷ ps) ≡ lists x (y ∷ qs)) (sym is) h in
    ap (λ y. y ∷ ps) is ∙ ap (λ ys. q ∷ ys) (rising_same ps qs (sorted_tail path_cmp p ps s) (sorted_tail path_cmp p qs t') (λ x. rest_same p x ps qs s t' (bytes_eq x p) refl (h' x)))
