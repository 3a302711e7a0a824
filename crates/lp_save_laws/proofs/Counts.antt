-- No more cells are gone over than there are.
use Rattle.std.proofs.Common.{◌≡◌, ℕ, zero, suc, ◌<◌, ◌≤◌, Bool, true, false, cond, ◌||◌, ◌⊎◌, inl, inr, List, [], ◌∷◌, length, map, Option, Some, None, unwrap_or, IsSome, is_some, refl, sym, ap, arith}
use Rattle.std.specs.Prelude.{All, filter, flat_map, fold, nat_eq, slice_get}
use Rattle.std.specs.List.{AllByRecursion, IsDistinct, list_any}
use Rattle.std.proofs.lemmas.Bool.{cond_both, eqb-true}
use Rattle.std.proofs.lemmas.List.Elements.{All-cons, All-filter, All-head, All-nil, All-push, All-tail}
use Rattle.std.proofs.lemmas.Map.Steps.{length-le_from_distinct_below}
use Rattle.std.proofs.lemmas.Option.{slice_get_within}
use Rattle.lp_values.specs.Read.{live_part}
use Rattle.lp_values.specs.declared.id.CellId.{CellId}
use Rattle.lp_values.specs.declared.id.ObjId.{ObjId}
use Rattle.lp_values.specs.declared.value.Value.{Value}
use Rattle.lp_values.specs.declared.value.Value.TheVariants.{Arr, Int, Map, Obj, Str}
use Rattle.lp_cells.specs.declared.content.Content.{Content}
use Rattle.lp_cells.specs.Cells.{IsClosed, IsPairThere, IsThere, Store, as_items, as_pairs, items_of, stored_pairs}
use Rattle.lp_cells.specs.Mapping.{pairs_there}
use Rattle.lp_cells.proofs.ClosedLemmas.{items_there, stored_there}
use Rattle.lp_save.specs.SaveText.{Walk, is_among, max_saved_levels, met_again, met_deep, met_first, walk_of, walked}

-- ---- a cell that is there has a serial below the count of cells

array_below : (cells : Store) (c : CellId) (o : Option (Option Content)) → slice_get cells c.0 ≡ o → IsSome (as_items (unwrap_or o None)) → c.0 < length cells
array_below cells c None e h = cc
array_below cells c (Some x) e h = slice_get_within cells c.0 x e

mapping_below : (cells : Store) (c : CellId) (o : Option (Option Content)) → slice_get cells c.0 ≡ o → IsSome (as_pairs (unwrap_or o None)) → c.0 < length cells
mapping_below cells c None e h = cc
mapping_below cells c (Some x) e h = slice_get_within cells c.0 x e

both_there : (cells : Store) (ps : List (Value × Value)) → All (IsPairThere cells) ps → All (IsThere cells) (flat_map (λ p. p.0 ∷ p.1 ∷ []) ps)
both_there cells [] h = All-nil (IsThere cells)
both_there cells (p ∷ ps) h =
    let k = All-head (IsPairThere cells) p ps h in
    let rest : List Value = flat_map (λ p. p.0 ∷ p.1 ∷ []) ps in
    All-cons (IsThere cells) p.0 (p.1 ∷ rest) k.0 (All-cons (IsThere cells) p.1 rest k.1 (both_there cells ps (All-tail (IsPairThere cells) p ps h)))

module _ (live : ObjId → Bool) (cells : Store) (closed : IsClosed cells) where
  abbrev Low : CellId → Type 0
  Low c = c.0 < length cells

  low_all : (n : ℕ) → ((w : Walk) (v : Value) → IsThere cells v → All Low w.met → All Low (walked live cells n w v).met) → (vs : List Value) (w : Walk) → All (IsThere cells) vs → All Low w.met → All Low (fold (walked live cells n) w vs).met
  low_all n f [] w there h = h
  low_all n f (v ∷ vs) w there h = low_all n f vs (walked live cells n w v) (All-tail (IsThere cells) v vs there) (f w v (All-head (IsThere cells) v vs there) h)

  low_cell : (n : ℕ) → ((w : Walk) (v : Value) → IsThere cells v → All Low w.met → All Low (walked live cells n w v).met) → (c : CellId) (vs : List Value) (w : Walk) → Low c → All (IsThere cells) vs → All Low w.met
      → All Low (cond (is_among c w.met) (met_again c w) (fold (walked live cells n) (met_first c w) vs)).met
  low_cell n f c vs w lt there h = cond_both (is_among c w.met) (met_again c w) (fold (walked live cells n) (met_first c w) vs) (λ x. All Low x.met) (λ e. h) (λ e. low_all n f vs (met_first c w) there (All-push Low w.met c h lt))

  low_last : (c : CellId) (w : Walk) → All Low w.met → All Low (cond (is_among c w.met) (met_again c w) (met_deep w)).met
  low_last c w h = cond_both (is_among c w.met) (met_again c w) (met_deep w) (λ x. All Low x.met) (λ e. h) (λ e. h)

  low_value : (n : ℕ) (w : Walk) (v : Value) → IsThere cells v → All Low w.met → All Low (walked live cells n w v).met
  low_value zero w (Int i) there h = h
  low_value zero w (Str t) there h = h
  low_value zero w (Obj o) there h = h
  low_value zero w (Arr c) there h = low_last c w h
  low_value zero w (Map c) there h = low_last c w h
  low_value (suc n) w (Int i) there h = h
  low_value (suc n) w (Str t) there h = h
  low_value (suc n) w (Obj o) there h = h
  low_value (suc n) w (Arr c) there h = low_cell n (low_value n) c (items_of cells c) w (array_below cells c (slice_get cells c.0) refl there) (items_there cells c closed) h
  low_value (suc n) w (Map c) there h =
      low_cell n (low_value n) c (flat_map (λ p. p.0 ∷ p.1 ∷ []) (pairs_there live (stored_pairs cells c))) w (mapping_below cells c (slice_get cells c.0) refl there)
      (both_there cells (pairs_there live (stored_pairs cells c)) (All-filter (λ p. is_some (live_part live p.0)) (IsPairThere cells) (stored_pairs cells c) (stored_there cells c closed))) h

  low_walk : (vs : List Value) → All (IsThere cells) vs → All Low (walk_of live cells vs).met
  low_walk vs there = low_all max_saved_levels (low_value max_saved_levels) vs (record { met = []; again = []; is_deep = false }) there (All-nil Low)

-- ---- serials that differ

abbrev pub Distinct : List CellId → Type 0
Distinct xs = (k j : ℕ) (c : CellId) → slice_get xs k ≡ Some c → slice_get xs j ≡ Some c → k ≡ j

abbrev serials : List CellId → List ℕ
serials xs = map (λ c. c.0) xs

others : (c : CellId) (xs : List CellId) → ((k : ℕ) → slice_get xs k ≡ Some c → ⊥) → AllByRecursion (λ n. nat_eq c.0 n ≡ false) (serials xs)
others c [] h = tt
others c (x ∷ xs) h = (by (nat_eq c.0 x.0) refl, others c xs (λ k e. h (suc k) e))
  where
    by : (b : Bool) → nat_eq c.0 x.0 ≡ b → nat_eq c.0 x.0 ≡ false
    by true e = absurd (h 0 (ap (λ n. Some (record { 0 = n })) (sym (eqb-true c.0 x.0 e))))
    by false e = e

serials_differ : (xs : List CellId) → Distinct xs → IsDistinct nat_eq (serials xs)
unfolding IsDistinct
serials_differ [] d = tt
serials_differ (x ∷ xs) d = (others x xs (λ k e. let z : 0 ≡ suc k = d 0 (suc k) x refl e in omega arith), serials_differ xs (λ k j c h g. let e : suc k ≡ suc j = d (suc k) (suc j) c h g in omega arith))

or_split : (a b : Bool) → (a || b) ≡ true → (a ≡ true) ⊎ (b ≡ true)
or_split true b h = inl refl
or_split false b h = inr h

serial_low : (n : ℕ) (xs : List CellId) → All (λ c. c.0 < n) xs → (q : ℕ) → list_any (nat_eq q) (serials xs) ≡ true → q < n
serial_low n [] h q e = cc
serial_low n (x ∷ xs) h q e =
    let lt : x.0 < n = All-head (λ c. c.0 < n) x xs h in
    elim (or_split (nat_eq q x.0) (list_any (nat_eq q) (serials xs)) e) [ inl a ↦ let same = eqb-true q x.0 a in omega arith | inr b ↦ serial_low n xs (All-tail (λ c. c.0 < n) x xs h) q b ]

serials_length : (xs : List CellId) → length (serials xs) ≡ length xs
serials_length [] = refl
serials_length (x ∷ xs) = ap suc (serials_length xs)

filter_length : {A : Type 0} (p : A → Bool) (xs : List A) → length (filter p xs) ≤ length xs
filter_length p [] = omega arith
filter_length p (x ∷ xs) = let h = filter_length p xs in cond_both (p x) (x ∷ filter p xs) (filter p xs) (λ ys. length ys ≤ length (x ∷ xs)) (λ e. omega arith) (λ e. omega arith)

-- no more cells occur more than once than there are
pub few_again : (live : ObjId → Bool) (cells : Store) (vs : List Value) (p : CellId → Bool) → IsClosed cells → All (IsThere cells) vs → Distinct (walk_of live cells vs).met → length (filter p (walk_of live cells vs).met) ≤ length cells
few_again live cells vs p closed there d =
    let met : List CellId = (walk_of live cells vs).met in
    let all : length (serials met) ≤ length cells = length-le_from_distinct_below (serials met) (length cells) (serials_differ met d) (serial_low (length cells) met (low_walk live cells closed vs there)) in
    let long = serials_length met in
    let less = filter_length p met in
    omega arith
