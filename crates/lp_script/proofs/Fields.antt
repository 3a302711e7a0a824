-- What is read of an item is spelled so, and fits.
use Rattle.std.proofs.Common.{◌≡◌, ap, sym, refl, ◌∙◌, subst, ℕ, ◌<◌, ◌≤◌, Bool, true, false, cond, eqb, not, ◌&&◌, List, [], ◌∷◌, ◌++◌, Some, None, length, arith, ◌⊎◌, inl, inr}
use Rattle.std.specs.List.{list_all}
use Rattle.std.specs.Ordering.{nat_cmp, is_lt}
use Rattle.std.specs.Cmp.Lexicographic.{slice_cmp}
use Rattle.std.specs.declared.cmp.Ordering.{Ordering}
use Rattle.std.specs.declared.cmp.Ordering.TheVariants.{Less, Equal, Greater}
use Rattle.lp_events.specs.Script.{numeral, counted, IsPath, IsObjectName}
use Rattle.lp_words.specs.Paths.{is_path, begins_path, is_name, begins_name}
use Rattle.lp_script.specs.Reading.{is_digit, is_between, is_one_of, passes}
use Rattle.lp_script.specs.Items.{between_at, count_at, one_of_at, path_named, path_at, name_named, name_at, file_bytes_at, line_bytes_at}
use Rattle.lp_script.proofs.Exact.{Words, Exact, NotIn, word_exact, same_fits}
use Rattle.lp_script.proofs.Numbers.{both, any_words, between_words, one_of_words}
use Rattle.lp_script.proofs.Counted.{counted_exact}
use Rattle.lp_words.proofs.PathLaws.{is_path-yes, is_path-no, begins_path-yes, begins_path-no, is_name-yes, is_name-no, begins_name-yes, begins_name-no, path-bytes, name-bytes}

-- ---- fields

pub between_exact : (low high end : ℕ) → low ≤ high → high < 100000000000000000000 → is_digit end ≡ false → Exact ℕ (λ n. is_between low high n ≡ true) (λ n. numeral n ++ end ∷ []) (between_at low high end)
unfolding between_at
between_exact low high end some small other = word_exact ℕ (λ n. is_between low high n ≡ true) numeral end _ _ (between_words low high end some small other)

pub one_of_exact : (numbers : List ℕ) (end : ℕ) → is_digit end ≡ false → Exact ℕ (λ n. is_one_of numbers n ≡ true) (λ n. numeral n ++ end ∷ []) (one_of_at numbers end)
unfolding one_of_at
one_of_exact numbers end other = word_exact ℕ (λ n. is_one_of numbers n ≡ true) numeral end _ _ (one_of_words numbers end other)

pub yes_no : (b : Bool) → (b ≡ true) ⊎ (b ≡ false)
yes_no true = inl refl
yes_no false = inr refl

less : (o : Ordering) → is_lt o ≡ true → o ≡ Less
less Less e = refl
less Equal e = absurd cc
less Greater e = absurd cc

apart_bytes : (end : ℕ) (w : List ℕ) → ((c : ℕ) → (not (eqb c 32) && not (eqb c 10)) ≡ true → c ≡ end → ⊥) → list_all (λ c. not (eqb c 32) && not (eqb c 10)) w ≡ true → NotIn end w
apart_bytes end [] h e = tt
apart_bytes end (c ∷ w) h e = let k = both (not (eqb c 32) && not (eqb c 10)) (list_all (λ c. not (eqb c 32) && not (eqb c 10)) w) e in (h c k.0, apart_bytes end w h k.1)

no_space : (c : ℕ) → (not (eqb c 32) && not (eqb c 10)) ≡ true → c ≡ 32 → ⊥
no_space c e same = let f : false ≡ true = sym (ap (λ (i : ℕ). not (eqb i 32) && not (eqb i 10)) same) ∙ e in cc

no_newline : (c : ℕ) → (not (eqb c 32) && not (eqb c 10)) ≡ true → c ≡ 10 → ⊥
no_newline c e same = let f : false ≡ true = sym (ap (λ (i : ℕ). not (eqb i 32) && not (eqb i 10)) same) ∙ e in cc

path_words : (last : List ℕ) → Words (List ℕ) (λ p. IsPath p × (slice_cmp nat_cmp last p ≡ Less)) (λ p. p) 32 (path_named last) (begins_path last)
path_words last = record {
  named_is = named_is;
  named_again = named_again;
  begins_is = λ w e. let h = begins_path-yes last w e in (h.0, (h.1, h.2), h.3, h.4);
  begins_again = begins_again;
  apart = λ p f. apart_bytes 32 p no_space (path-bytes p f.0);
}
  where
    named_is : (w p : List ℕ) → path_named last w ≡ Some p → (IsPath p × (slice_cmp nat_cmp last p ≡ Less)) × (p ≡ w)
    named_is w p e = one (is_path w && is_lt (slice_cmp nat_cmp last w)) refl e
      where
        one : (s : Bool) → (is_path w && is_lt (slice_cmp nat_cmp last w)) ≡ s → cond s (Some w) None ≡ Some p → (IsPath p × (slice_cmp nat_cmp last p ≡ Less)) × (p ≡ w)
        one true f e = let same : w ≡ p = cc in let h = both _ _ f in subst (λ (q : List ℕ). (IsPath q × (slice_cmp nat_cmp last q ≡ Less)) × (q ≡ w)) same ((is_path-yes w h.0, less _ h.1), refl)
        one false f e = absurd cc

    named_again : (p : List ℕ) → IsPath p × (slice_cmp nat_cmp last p ≡ Less) → path_named last p ≡ Some p
    named_again p f = elim (yes_no (is_path p)) as (λ _. path_named last p ≡ Some p) [
      | inl e ↦ ap (λ (s : Bool). cond (s && is_lt (slice_cmp nat_cmp last p)) (Some p) None) e ∙ ap (λ (o : Ordering). cond (is_lt o) (Some p) None) f.1
      | inr e ↦ absurd (is_path-no p e f.0)
    ]

    begins_again : (p w others : List ℕ) → IsPath p × (slice_cmp nat_cmp last p ≡ Less) → p ≡ w ++ others → begins_path last w ≡ true
    begins_again p w others f e = elim (yes_no (begins_path last w)) as (λ _. begins_path last w ≡ true) [
      | inl g ↦ g
      | inr g ↦ absurd (begins_path-no last w g p others f.0 f.1 e)
    ]

name_words : Words (List ℕ) IsObjectName (λ p. p) 10 name_named begins_name
name_words = record {
  named_is = named_is;
  named_again = named_again;
  begins_is = λ w e. begins_name-yes w e;
  begins_again = begins_again;
  apart = λ p f. apart_bytes 10 p no_newline (name-bytes p f);
}
  where
    named_is : (w p : List ℕ) → name_named w ≡ Some p → IsObjectName p × (p ≡ w)
    named_is w p e = one (is_name w) refl e
      where
        one : (s : Bool) → is_name w ≡ s → cond s (Some w) None ≡ Some p → IsObjectName p × (p ≡ w)
        one true f e = let same : w ≡ p = cc in subst (λ (q : List ℕ). IsObjectName q × (q ≡ w)) same (is_name-yes w f, refl)
        one false f e = absurd cc

    named_again : (p : List ℕ) → IsObjectName p → name_named p ≡ Some p
    named_again p f = elim (yes_no (is_name p)) as (λ _. name_named p ≡ Some p) [
      | inl e ↦ ap (λ (s : Bool). cond s (Some p) None) e
      | inr e ↦ absurd (is_name-no p e f)
    ]

    begins_again : (p w others : List ℕ) → IsObjectName p → p ≡ w ++ others → begins_name w ≡ true
    begins_again p w others f e = elim (yes_no (begins_name w)) as (λ _. begins_name w ≡ true) [
      | inl g ↦ g
      | inr g ↦ absurd (begins_name-no w g p others f e)
    ]

pub path_exact : (last : List ℕ) → Exact (List ℕ) (λ p. IsPath p × (slice_cmp nat_cmp last p ≡ Less)) (λ p. p ++ 32 ∷ []) (path_at last)
unfolding path_at
path_exact last = word_exact (List ℕ) (λ p. IsPath p × (slice_cmp nat_cmp last p ≡ Less)) (λ p. p) 32 _ _ (path_words last)

pub name_exact : Exact (List ℕ) IsObjectName (λ p. p ++ 10 ∷ []) name_at
unfolding name_at
name_exact = word_exact (List ℕ) IsObjectName (λ p. p) 10 _ _ name_words

pub file_bytes_exact : Exact (List ℕ) (λ x. (true ≡ true) × (list_all (passes false) x ≡ true)) counted file_bytes_at
unfolding file_bytes_at count_at
file_bytes_exact = counted_exact false (λ n. true) _ (same_fits ℕ (λ n. Unit {0}) (λ n. numeral n ++ 10 ∷ []) _ (word_exact ℕ (λ n. Unit {0}) numeral 10 _ _ (any_words 10 refl)) (λ n. true ≡ true) (λ v f. refl) (λ v f. tt))

pub line_bytes_exact : Exact (List ℕ) (λ x. (is_between 0 4096 (length x) ≡ true) × (list_all (passes true) x ≡ true)) counted line_bytes_at
unfolding line_bytes_at
line_bytes_exact = counted_exact true (is_between 0 4096) _ (between_exact 0 4096 10 (omega arith) (omega arith) refl)

-- there is a path, and a name
pub some_path : (p : List ℕ) × IsPath p × (slice_cmp nat_cmp [] p ≡ Less)
unfolding is_path
some_path = (47 ∷ 97 ∷ [], is_path-yes (47 ∷ 97 ∷ []) refl, refl)

pub some_name : (p : List ℕ) × IsObjectName p
unfolding is_name is_path
some_name = (47 ∷ 97 ∷ [], is_name-yes (47 ∷ 97 ∷ []) refl)
