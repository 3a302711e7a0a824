-- What the store has at a path after one of its files changed.
use Rattle.std.proofs.Common.{◌≡◌, ℕ, Bool, true, false, not, if◌then◌else◌, cond, List, [], ◌∷◌, ◌++◌, Option, Some, None, String, Vec, Global, string_bytes, refl, sym, subst, ap, ◌∙◌, inl, inr}
use Rattle.std.specs.Option.{option_map}
use Rattle.std.specs.Ordering.{nat_cmp}
use Rattle.std.specs.Cmp.Lexicographic.{slice_cmp}
use Rattle.std.specs.BTreeMap.{is_at}
use Rattle.std.specs.Map.{lookup}
use Rattle.std.specs.Str.{IsUtf8, bytes_eq}
use Rattle.std.proofs.lemmas.Bool.{cases_Bool, cond-false, cond-true}
use Rattle.std.proofs.lemmas.Grind.{not_there}
use Rattle.std.proofs.lemmas.Map.Text.{is_eq-slice_cmp}
use Rattle.std.proofs.lemmas.Slice.Eq.{bytes_eq-Decides}
use Rattle.lp_files.specs.Paths.{lists, with_path, without_path}
use Rattle.lp_files.proofs.PathLemmas.{without_path-with_path}

-- one of two, mapped
pub option_map-cond : {A B : Type 0} (f : A → B) (b : Bool) (x y : Option A) → option_map f (cond b x y) ≡ cond b (option_map f x) (option_map f y)
option_map-cond f true x y = refl
option_map-cond f false x y = refl

-- each path of a store is text, so there is nothing at other bytes
pub none_at : (bs : List ℕ) → (IsUtf8 bs → ⊥) → (es : List (String Global × Vec ℕ Global)) → lookup (is_at (λ k. slice_cmp nat_cmp bs (string_bytes k))) es ≡ None
none_at bs bad [] = refl
none_at bs bad (e ∷ es) =
    elim (cases_Bool (is_at (λ k. slice_cmp nat_cmp bs (string_bytes k)) e.0)) [
      | inl y ↦ absurd (not_there e.0.ok (λ u. bad (subst IsUtf8 (sym ((bytes_eq-Decides bs (string_bytes e.0)).0 (sym (is_eq-slice_cmp bs (string_bytes e.0)) ∙ y))) u)))
      | inr n ↦ cond-false _ _ _ n ∙ none_at bs bad es
    ]

-- what a file has when bytes went behind its own, at each path
pub grown_there : (p : List ℕ) (old : List ℕ → Option (List ℕ)) (x more y : List ℕ) → old p ≡ Some x → y ≡ x ++ more → (q : List ℕ)
    → cond (bytes_eq p q) (Some y) (old q) ≡ cond (bytes_eq p q) (option_map (λ bs. bs ++ more) (old q)) (old q)
grown_there p old x more y has is q =
    elim (cases_Bool (bytes_eq p q)) [
      | inl e ↦ cond-true _ _ _ e ∙ ap Some is ∙ ap (option_map (λ bs. bs ++ more)) (sym (subst (λ (r : List ℕ). old r ≡ Some x) ((bytes_eq-Decides p q).0 e) has)) ∙ sym (cond-true _ _ _ e)
      | inr n ↦ cond-false _ _ _ n ∙ sym (cond-false _ _ _ n)
    ]

-- what a file has that was given its own bytes again, at each path
pub same_there : (p : List ℕ) (old : List ℕ → Option (List ℕ)) (x y : List ℕ) → old p ≡ Some x → y ≡ x → (q : List ℕ) → cond (bytes_eq p q) (Some y) (old q) ≡ old q
same_there p old x y has is q =
    elim (cases_Bool (bytes_eq p q)) [
      | inl e ↦ cond-true _ _ _ e ∙ ap Some is ∙ sym (subst (λ (r : List ℕ). old r ≡ Some x) ((bytes_eq-Decides p q).0 e) has)
      | inr n ↦ cond-false _ _ _ n
    ]

-- the changed list as it was: a path that was put in is taken out again
pub undone : (fresh : Bool) (p : List ℕ) (old new : List (List ℕ)) → fresh ≡ not (lists p old) → (fresh ≡ false → new ≡ old) → new ≡ with_path p old → (if fresh then without_path p new else new) ≡ old
undone true p old new e there is = ap (without_path p) is ∙ without_path-with_path p old (turn (lists p old) e)
  where
    turn : (b : Bool) → true ≡ not b → b ≡ false
    turn true e = e
    turn false e = refl
undone false p old new e there is = there refl
