-- Keys that were apart are apart when they are restored, but for those that have become 0.
use Rattle.std.proofs.Common.{◌≡◌, ℕ, ◌≤◌, ◌⊎◌, inl, inr, Bool, true, false, cond, ℤ, pos, List, [], ◌∷◌, ◌++◌, append-nil, append_assoc, length, map, refl, sym, ap, subst, ◌∙◌, arith}
use Rattle.std.specs.Ordering.{int_eq}
use Rattle.std.specs.List.{AllByRecursion, IsDistinct, filter}
use Rattle.std.proofs.lemmas.Bool.{cond-false, true≢false}
use Rattle.indexmap.specs.IndexMap.{insert_all, insert_entry}
use Rattle.lp_values.specs.Read.{value_eq}
use Rattle.lp_values.specs.declared.id.CellId.{CellId}
use Rattle.lp_values.specs.declared.value.Value.{Value}
use Rattle.lp_values.specs.declared.value.Value.TheVariants.{Arr, Int, Map, Obj, Str}
use Rattle.lp_values.proofs.ReadLemmas.{value_eq_one, value_eq_refl}
use Rattle.lp_cells.specs.Mapping.{HasDistinctKeys, pairs_of}
use Rattle.lp_save_laws.specs.Matching.{InOrder, Matched, Matching, PairsMatch, ValuesMatch, becomes_zero}

-- ---- values that match one value

zero_one : (i n : ℤ) → i ≡ n → n ≡ pos 0 → int_eq i (pos 0) ≡ true
zero_one i n h g = subst (λ j. int_eq j (pos 0) ≡ true) (sym (h ∙ g)) refl

module _ (m : Matching) (apart : (c d e : CellId) → Matched m c e → Matched m d e → c ≡ d) where
  abbrev One : Value → Value → Type 0
  One k l = (k ≡ l) ⊎ ((becomes_zero k ≡ true) × (becomes_zero l ≡ true))

  one_int : (i n : ℤ) (l : Value) → i ≡ n → ValuesMatch m l (Int n) → One (Int i) l
  one_int i n (Int j) h g = inl (ap Int (h ∙ sym g))
  one_int i n (Str t) h g = absurd g
  one_int i n (Arr c) h g = absurd g
  one_int i n (Map c) h g = absurd g
  one_int i n (Obj o) h g = inr (zero_one i n h g, refl)

  one_object : (k : Value) (n : ℤ) (l : Value) → becomes_zero k ≡ true → n ≡ pos 0 → ValuesMatch m l (Int n) → One k l
  one_object k n (Int j) z h g = inr (z, zero_one j n g h)
  one_object k n (Str t) z h g = absurd g
  one_object k n (Arr c) z h g = absurd g
  one_object k n (Map c) z h g = absurd g
  one_object k n (Obj o) z h g = inr (z, refl)

  one_text : (s u : List ℕ) (l : Value) → s ≡ u → ValuesMatch m l (Str u) → One (Str s) l
  one_text s u (Int j) h g = absurd g
  one_text s u (Str t) h g = inl (ap Str (h ∙ sym g))
  one_text s u (Arr c) h g = absurd g
  one_text s u (Map c) h g = absurd g
  one_text s u (Obj o) h g = absurd g

  one_array : (c e : CellId) (l : Value) → Matched m c e → ValuesMatch m l (Arr e) → One (Arr c) l
  one_array c e (Int j) h g = absurd g
  one_array c e (Str t) h g = absurd g
  one_array c e (Arr d) h g = inl (ap Arr (apart c d e h g))
  one_array c e (Map d) h g = absurd g
  one_array c e (Obj o) h g = absurd g

  one_mapping : (c e : CellId) (l : Value) → Matched m c e → ValuesMatch m l (Map e) → One (Map c) l
  one_mapping c e (Int j) h g = absurd g
  one_mapping c e (Str t) h g = absurd g
  one_mapping c e (Arr d) h g = absurd g
  one_mapping c e (Map d) h g = inl (ap Map (apart c d e h g))
  one_mapping c e (Obj o) h g = absurd g

  one_by : (k l u : Value) → ValuesMatch m k u → ValuesMatch m l u → One k l
  one_by (Int i) l (Int n) h g = one_int i n l h g
  one_by (Str s) l (Str u) h g = one_text s u l h g
  one_by (Arr c) l (Arr e) h g = one_array c e l h g
  one_by (Map c) l (Map e) h g = one_mapping c e l h g
  one_by (Obj o) l (Int n) h g = one_object (Obj o) n l refl h g
  one_by k l u h g = absurd h

  -- ---- keys behind a key

  abbrev zeros : List (Value × Value) → ℕ
  zeros ps = length (filter (λ p. becomes_zero p.0) ps)

  abbrev Unlike : Value → List (Value × Value) → Type 0
  Unlike k rs = AllByRecursion (λ q. value_eq q.0 k ≡ false) rs

  differs : (p q u v : Value × Value) (b : Bool) → value_eq v.0 u.0 ≡ b → PairsMatch m p u → PairsMatch m q v → value_eq p.0 q.0 ≡ false → (becomes_zero p.0 ≡ true → becomes_zero q.0 ≡ false) → value_eq v.0 u.0 ≡ false
  differs p q u v false e h g other zero = e
  differs p q u v true e h g other zero =
      elim (one_by p.0 q.0 u.0 h.0 (subst (ValuesMatch m q.0) (value_eq_one v.0 u.0 e) g.0)) [
        | inl same ↦ absurd (true≢false (sym (subst (λ x. value_eq p.0 x ≡ true) same (value_eq_refl p.0)) ∙ other))
        | inr both ↦ absurd (true≢false (sym both.1 ∙ zero both.0))
      ]

  none_zero : (b : Bool) (q : Value × Value) (xs : List (Value × Value)) → length (cond b (q ∷ xs) xs) ≡ 0 → (b ≡ false) × (length xs ≡ 0)
  none_zero true q xs h = absurd (omega arith)
  none_zero false q xs h = (refl, h)

  behind : (p u : Value × Value) (ps rs : List (Value × Value)) → PairsMatch m p u → InOrder (PairsMatch m) ps rs → AllByRecursion (λ y. value_eq p.0 y ≡ false) (map (λ q. q.0) ps) → (becomes_zero p.0 ≡ true → zeros ps ≡ 0) → Unlike u.0 rs
  behind p u [] [] h g other zero = tt
  behind p u [] (v ∷ rs) h g other zero = absurd g
  behind p u (q ∷ ps) [] h g other zero = absurd g
  behind p u (q ∷ ps) (v ∷ rs) h g other zero = (
    differs p q u v (value_eq v.0 u.0) refl h g.0 other.0 (λ z. (none_zero (becomes_zero q.0) q (filter (λ p. becomes_zero p.0) ps) (zero z)).0),
    behind p u ps rs h g.1 other.1 (λ z. (none_zero (becomes_zero q.0) q (filter (λ p. becomes_zero p.0) ps) (zero z)).1),
  )

  Apart : List (Value × Value) → Type 0
  Apart [] = Unit {0}
  Apart (r ∷ rs) = Unlike r.0 rs × Apart rs

  one_zero : (b : Bool) (q : Value × Value) (xs : List (Value × Value)) → length (cond b (q ∷ xs) xs) ≤ 1 → (b ≡ true → length xs ≡ 0) × (length xs ≤ 1)
  one_zero true q xs h = (λ e. omega arith, omega arith)
  one_zero false q xs h = (λ e. absurd (true≢false (sym e)), h)

  apart_again : (ps rs : List (Value × Value)) → InOrder (PairsMatch m) ps rs → IsDistinct value_eq (map (λ p. p.0) ps) → zeros ps ≤ 1 → Apart rs
  unfolding Apart IsDistinct
  apart_again [] [] h d few = tt
  apart_again [] (v ∷ rs) h d few = absurd h
  apart_again (q ∷ ps) [] h d few = absurd h
  apart_again (q ∷ ps) (v ∷ rs) h d few = let k = one_zero (becomes_zero q.0) q (filter (λ p. becomes_zero p.0) ps) few in (behind q v ps rs h.0 h.1 d.0 k.0, apart_again ps rs h.1 d.1 k.1)

  -- ---- pairs with new keys go last

  insert_last : (es : List (Value × Value)) (k v : Value) → AllByRecursion (λ e. value_eq k e.0 ≡ false) es → insert_entry value_eq es k v ≡ es ++ (k, v) ∷ []
  insert_last [] k v h = refl
  insert_last (e ∷ es) k v h = cond-false (value_eq k e.0) ((e.0, v) ∷ es) (e ∷ insert_entry value_eq es k v) h.0 ∙ ap (λ x. e ∷ x) (insert_last es k v h.1)

  abbrev News : List (Value × Value) → List (Value × Value) → Type 0
  News es rs = AllByRecursion (λ r. AllByRecursion (λ e. value_eq r.0 e.0 ≡ false) es) rs

  news_one : (k : Value) (es : List (Value × Value)) (r : Value × Value) → AllByRecursion (λ e. value_eq k e.0 ≡ false) es → value_eq k r.0 ≡ false → AllByRecursion (λ e. value_eq k e.0 ≡ false) (es ++ r ∷ [])
  news_one k [] r h g = (g, tt)
  news_one k (e ∷ es) r h g = (h.0, news_one k es r h.1 g)

  news_more : (es rs : List (Value × Value)) (r : Value × Value) → News es rs → Unlike r.0 rs → News (es ++ r ∷ []) rs
  news_more es [] r h g = tt
  news_more es (q ∷ rs) r h g = (news_one q.0 es r h.0 g.0, news_more es rs r h.1 g.1)

  all_last : (es rs : List (Value × Value)) → News es rs → Apart rs → insert_all value_eq es rs ≡ es ++ rs
  unfolding Apart
  all_last es [] h a = sym (append-nil es)
  all_last es (r ∷ rs) h a = ap (λ x. insert_all value_eq x rs) (insert_last es r.0 r.1 h.0) ∙ all_last (es ++ r ∷ []) rs (news_more es rs r h.1 a.0) a.1 ∙ append_assoc es (r ∷ []) rs

  news_none : (rs : List (Value × Value)) → News [] rs
  news_none [] = tt
  news_none (r ∷ rs) = (tt, news_none rs)

  -- all pairs stay
  pub pairs_stay : (ps rs : List (Value × Value)) → HasDistinctKeys ps → zeros ps ≤ 1 → InOrder (PairsMatch m) ps rs → pairs_of rs ≡ rs
  pairs_stay ps rs d few h = all_last [] rs (news_none rs) (apart_again ps rs h d few)
