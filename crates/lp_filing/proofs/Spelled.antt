-- Values are spelled in the same way by other cells that hold the same where the values lead.
use Rattle.std.proofs.Common.{◌≡◌, ◌∙◌, ℕ, zero, suc, Bool, false, List, [], ◌∷◌, ◌++◌, Some, None, refl, ap, All, map, if◌then◌else◌, codes, is_some}
use Rattle.std.specs.Prelude.{encode_utf8_all, flat_map, fold}
use Rattle.std.proofs.lemmas.List.Elements.{All-cons, All-filter, All-head, All-map, All-nil, All-tail}
use Rattle.lp_values.specs.declared.id.CellId.{CellId}
use Rattle.lp_values.specs.declared.id.ObjId.{ObjId}
use Rattle.lp_values.specs.declared.value.Value.{Value}
use Rattle.lp_values.specs.declared.value.Value.TheVariants.{Int, Str, Arr, Map, Obj}
use Rattle.lp_values.specs.Read.{live_part}
use Rattle.lp_cells.specs.Cells.{IsClosed, IsPairThere, IsThere, Store, items_of, stored_pairs}
use Rattle.lp_cells.specs.Mapping.{pairs_there}
use Rattle.lp_cells.proofs.ClosedLemmas.{items_there, stored_there}
use Rattle.lp_save.specs.SaveText.{Spelt, Walk, add, again_text, begun, is_among, line_spelt, max_saved_levels, met_again, met_first, saved_text, share_number, shared_in, spelled_by, spelt, text_spelt, walk_of, walked}

pub fold_same : {A B : Type 0} (P : B → Type 0) (f g : A → B → A) (a : A) (xs : List B) → ((a : A) (x : B) → P x → f a x ≡ g a x) → All P xs → fold f a xs ≡ fold g a xs
fold_same P f g a [] h t = refl
fold_same P f g a (x ∷ xs) h t = ap (λ z. fold f z xs) (h a x (All-head P x xs t)) ∙ fold_same P f g (g a x) xs h (All-tail P x xs t)

abbrev pair_values : Value × Value → List Value
pair_values p = p.0 ∷ p.1 ∷ []

pairs_values : (cells : Store) (ps : List (Value × Value)) → All (IsPairThere cells) ps → All (IsThere cells) (flat_map pair_values ps)
pairs_values cells [] h = All-nil (IsThere cells)
pairs_values cells (p ∷ ps) h =
    let t = All-head (IsPairThere cells) p ps h in
    All-cons (IsThere cells) p.0 (p.1 ∷ flat_map pair_values ps) t.0 (All-cons (IsThere cells) p.1 (flat_map pair_values ps) t.1 (pairs_values cells ps (All-tail (IsPairThere cells) p ps h)))

module _ (live : ObjId → Bool) (part whole : Store) (closed : IsClosed part) (items : (c : CellId) → IsThere part (Arr c) → items_of part c ≡ items_of whole c) (pairs : (c : CellId) → IsThere part (Map c) → stored_pairs part c ≡ stored_pairs whole c) where
  walked_same : (n : ℕ) (w : Walk) (v : Value) → IsThere part v → walked live part n w v ≡ walked live whole n w v
  walked_same zero w (Int i) t = refl
  walked_same zero w (Str s) t = refl
  walked_same zero w (Obj o) t = refl
  walked_same zero w (Arr c) t = refl
  walked_same zero w (Map c) t = refl
  walked_same (suc n) w (Int i) t = refl
  walked_same (suc n) w (Str s) t = refl
  walked_same (suc n) w (Obj o) t = refl
  walked_same (suc n) w (Arr c) t =
      ap (λ (z : Walk). if is_among c w.met then met_again c w else z)
      (fold_same (IsThere part) (walked live part n) (walked live whole n) (met_first c w) (items_of part c) (walked_same n) (items_there part c closed) ∙ ap (fold (walked live whole n) (met_first c w)) (items c t))
  walked_same (suc n) w (Map c) t =
      let there : All (IsPairThere part) (pairs_there live (stored_pairs part c)) = All-filter (λ p. is_some (live_part live p.0)) (IsPairThere part) (stored_pairs part c) (stored_there part c closed) in
      ap (λ (z : Walk). if is_among c w.met then met_again c w else z)
      (fold_same (IsThere part) (walked live part n) (walked live whole n) (met_first c w) (flat_map pair_values (pairs_there live (stored_pairs part c))) (walked_same n) (pairs_values part (pairs_there live (stored_pairs part c)) there)
      ∙ ap (λ ps. fold (walked live whole n) (met_first c w) (flat_map pair_values (pairs_there live ps))) (pairs c t))

  module _ (shared : List CellId) where
    spelt_same : (n : ℕ) (s : Spelt) (v : Value) → IsThere part v → spelt live part shared n s v ≡ spelt live whole shared n s v
    spelt_same zero s (Int i) t = refl
    spelt_same zero s (Str x) t = refl
    spelt_same zero s (Obj o) t = refl
    spelt_same zero s (Arr c) t = refl
    spelt_same zero s (Map c) t = refl
    spelt_same (suc n) s (Int i) t = refl
    spelt_same (suc n) s (Str x) t = refl
    spelt_same (suc n) s (Obj o) t = refl
    spelt_same (suc n) s (Arr c) t =
        let start : Spelt = add (codes "({") (begun (share_number shared c) c s) in
        ap (λ (z : Spelt). if is_among c s.done then add (again_text (share_number shared c)) s else add (codes "})") z)
        (fold_same (IsThere part) (λ x v. add (codes ",") (spelt live part shared n x v)) (λ x v. add (codes ",") (spelt live whole shared n x v)) start (items_of part c) (λ x v i. ap (add (codes ",")) (spelt_same n x v i)) (items_there part c closed)
        ∙ ap (fold (λ x v. add (codes ",") (spelt live whole shared n x v)) start) (items c t))
    spelt_same (suc n) s (Map c) t =
        let start : Spelt = add (codes "([") (begun (share_number shared c) c s) in
        let there : All (IsPairThere part) (pairs_there live (stored_pairs part c)) = All-filter (λ p. is_some (live_part live p.0)) (IsPairThere part) (stored_pairs part c) (stored_there part c closed) in
        ap (λ (z : Spelt). if is_among c s.done then add (again_text (share_number shared c)) s else add (codes "])") z)
        (fold_same (IsPairThere part) (λ x p. add (codes ",") (spelt live part shared n (add (codes ":") (spelt live part shared n x p.0)) p.1)) (λ x p. add (codes ",") (spelt live whole shared n (add (codes ":") (spelt live whole shared n x p.0)) p.1)) start
        (pairs_there live (stored_pairs part c))
        (λ x p i. ap (add (codes ",")) (spelt_same n (add (codes ":") (spelt live part shared n x p.0)) p.1 i.1 ∙ ap (λ y. spelt live whole shared n (add (codes ":") y) p.1) (spelt_same n x p.0 i.0))) there
        ∙ ap (λ ps. fold (λ x p. add (codes ",") (spelt live whole shared n (add (codes ":") (spelt live whole shared n x p.0)) p.1)) start (pairs_there live ps)) (pairs c t))

    line_same : (s : Spelt) (p : List ℕ × Value) → IsThere part p.1 → line_spelt live part shared s p ≡ line_spelt live whole shared s p
    line_same s p t = ap (add (codes "\n")) (spelt_same max_saved_levels (add (p.0 ++ codes " ") s) p.1 t)

    text_same : (ps : List (List ℕ × Value)) → All (λ p. IsThere part p.1) ps → text_spelt live part shared ps ≡ text_spelt live whole shared ps
    text_same ps t = ap (λ (s : Spelt). s.text) (fold_same (λ p. IsThere part p.1) (line_spelt live part shared) (line_spelt live whole shared) (record { done = []; text = codes "#2:0\n" }) ps line_same t)

  -- the same text
  pub saved_same : (ps : List (List ℕ × Value)) → All (λ p. IsThere part p.1) ps → saved_text live part ps ≡ saved_text live whole ps
  unfolding saved_text
  saved_same ps t =
      ap (spelled_by live part ps)
      (fold_same (IsThere part) (walked live part max_saved_levels) (walked live whole max_saved_levels) (record { met = []; again = []; is_deep = false }) (map (λ p. p.1) ps) (walked_same max_saved_levels) (All-map (IsThere part) (λ p. p.1) ps t))
      ∙ by (walk_of live whole (map (λ p. p.1) ps))
    where
      by : (w : Walk) → spelled_by live part ps w ≡ spelled_by live whole ps w
      by w = ap (λ (x : List ℕ). if w.is_deep then None else Some (encode_utf8_all x)) (text_same (shared_in w) ps t)
