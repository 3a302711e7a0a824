-- Maps with names as keys, before and after a change.
use Rattle.std.specs.Option.{option_map, is_some}
use Rattle.lp_preproc.specs.Names.{same_name}
use Rattle.lp_preproc.specs.Places.{place_of}
use Rattle.std.proofs.Common.{◌≡◌, ℕ, suc, [], ◌∷◌, ◌++◌, length, Bool, true, false, cond, Vec, Global, List, Option, None, Some, refl, sym, ap, subst, ◌∙◌, inl, inr}
use Rattle.std.specs.Ordering.{nat_cmp, is_eq}
use Rattle.std.specs.Cmp.{eq_by_cmp_equiv}
use Rattle.std.specs.Cmp.Lexicographic.{slice_cmp, nat_list_cmp_total}
use Rattle.std.specs.BTreeMap.{BTreeMap, get_by, UpdatesBy}
use Rattle.std.specs.Map.{lookup, KeepsOthers}
use Rattle.std.specs.Str.{bytes_eq}
use Rattle.std.proofs.lemmas.Bool.{true≢false, cases_Bool, cond-true, cond-false}
use Rattle.std.proofs.lemmas.Map.Text.{is_eq-slice_cmp}
use Rattle.std.proofs.lemmas.Slice.Eq.{bytes_eq-Decides}

-- what a map has at some letters
abbrev pub at_letters : {X : Type 0} → BTreeMap (Vec ℕ Global) X → List ℕ → Option X
at_letters m q = get_by (λ k. slice_cmp nat_cmp q k.items) m

-- keys that are other letters are not these
apart : (n q k : List ℕ) → bytes_eq n q ≡ false → is_eq (slice_cmp nat_cmp n k) ≡ true → is_eq (slice_cmp nat_cmp q k) ≡ false
apart n q k a e =
    let same : n ≡ k = (bytes_eq-Decides n k).0 (sym (is_eq-slice_cmp n k) ∙ e) in
    elim (cases_Bool (is_eq (slice_cmp nat_cmp q k))) [
      | inl y ↦
          let other : q ≡ k = (bytes_eq-Decides q k).0 (sym (is_eq-slice_cmp q k) ∙ y) in
          absurd (true≢false (sym ((bytes_eq-Decides n q).1 (same ∙ sym other)) ∙ a))
      | inr n ↦ n
    ]

others : {K X : Type 0} (eq : K → K → Bool) (test : K → Bool) (old new : List (K × X)) → KeepsOthers eq test old new
    → (other : K → Bool) → ((x y : K) → other x ≡ true → other y ≡ eq x y) → ((x : K) → test x ≡ true → other x ≡ false) → lookup other new ≡ lookup other old
unfolding KeepsOthers
others eq test old new h = h

-- at these letters it has the new value, and at others what it had
pub after_change : {X : Type 0} (n : List ℕ) (m o : BTreeMap (Vec ℕ Global) X) (w : Option X)
    → UpdatesBy (λ x y. slice_cmp nat_cmp x.items y.items) (λ k. slice_cmp nat_cmp n k.items) m o w
    → (q : List ℕ) → at_letters o q ≡ cond (bytes_eq n q) w (at_letters m q)
after_change n m o w h q =
    elim (cases_Bool (bytes_eq n q)) [
      | inl y ↦ subst (λ l. at_letters o l ≡ w) ((bytes_eq-Decides n q).0 y) h.1 ∙ sym (cond-true (bytes_eq n q) w (at_letters m q) y)
      | inr e ↦
          others _ _ _ _ h.3 _ (λ x y. (eq_by_cmp_equiv nat_list_cmp_total).congr q x.items y.items) (λ k. apart n q k.items e)
          ∙ sym (cond-false (bytes_eq n q) w (at_letters m q) e)
    ]

-- two maps that have the same at each name are one table
pub same_table : {X : Type 0} (f g : List ℕ → X) → ((q : List ℕ) → f q ≡ g q) → f ≡ g
same_table f g h = λ i q. h q i

-- ---- places of names

some_none : {i : ℕ} → Some i ≡ None → ⊥
some_none e = cc

unmapped : (r : Option ℕ) → option_map suc r ≡ None → r ≡ None
unmapped None e = refl
unmapped (Some i) e = absurd (some_none e)

option_map_cond : (b : Bool) (x y : Option ℕ) → option_map suc (cond b x y) ≡ cond b (option_map suc x) (option_map suc y)
option_map_cond true x y = refl
option_map_cond false x y = refl

-- letters are the same either way round
turned : (q n : List ℕ) (b : Bool) → bytes_eq n q ≡ b → same_name q n ≡ b
turned q n true y = (bytes_eq-Decides q n).1 (sym ((bytes_eq-Decides n q).0 y))
turned q n false y =
    elim (cases_Bool (same_name q n)) [
      | inl t ↦ absurd (true≢false (sym ((bytes_eq-Decides n q).1 (sym ((bytes_eq-Decides q n).0 t))) ∙ y))
      | inr f ↦ f
    ]

-- a name that is another than one that is p
apart_names : (q n p : List ℕ) → same_name q p ≡ true → same_name n p ≡ false → bytes_eq n q ≡ false
apart_names q n p f g =
    elim (cases_Bool (bytes_eq n q)) [
      | inl t ↦ absurd (true≢false (sym f ∙ ap (λ l. same_name l p) (sym ((bytes_eq-Decides n q).0 t)) ∙ g))
      | inr e ↦ e
    ]

-- one more name: the others keep their places
pub place_of-more : (q n : List ℕ) (ps : List (List ℕ)) → place_of n ps ≡ None → place_of q (ps ++ n ∷ []) ≡ cond (bytes_eq n q) (Some (length ps)) (place_of q ps)
place_of-more q n [] e = at_end (bytes_eq n q) refl
  where
    at_end : (b : Bool) → bytes_eq n q ≡ b → place_of q (n ∷ []) ≡ cond (bytes_eq n q) (Some 0) None
    at_end true y = rw (turned q n true y, y) refl
    at_end false y = rw (turned q n false y, y) refl
place_of-more q n (p ∷ ps) e = at_name (same_name q p) (same_name n p) refl refl e (place_of-more q n ps)
  where
    at_name : (a b : Bool) → same_name q p ≡ a → same_name n p ≡ b → cond (same_name n p) (Some 0) (option_map suc (place_of n ps)) ≡ None
        → (place_of n ps ≡ None → place_of q (ps ++ n ∷ []) ≡ cond (bytes_eq n q) (Some (length ps)) (place_of q ps))
        → place_of q (p ∷ (ps ++ n ∷ [])) ≡ cond (bytes_eq n q) (Some (suc (length ps))) (place_of q (p ∷ ps))
    at_name a true f g none more = absurd (some_none (rw g at none))
    at_name true false f g none more = rw (f, apart_names q n p f g) refl
    at_name false false f g none more = rw f (ap (option_map suc) (more (unmapped (place_of n ps) (rw g at none))) ∙ option_map_cond (bytes_eq n q) (Some (length ps)) (place_of q ps))

-- what was looked up and is not there
pub none_of_get : {A B : Type 0} (f : A → B) (r : Option A) (o : Option B) → option_map f r ≡ o → is_some r ≡ false → o ≡ None
none_of_get f None o e h = sym e
none_of_get f (Some x) o e h = absurd (true≢false h)
