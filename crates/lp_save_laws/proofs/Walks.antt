-- What holds of cells that were gone over at the end held before.
use Rattle.std.proofs.Common.{◌≡◌, ℕ, zero, suc, Bool, true, false, cond, List, [], ◌∷◌, ◌++◌, refl, ◌∙◌, append_assoc}
use Rattle.std.specs.Prelude.{fold, nat_eq}
use Rattle.std.proofs.lemmas.Bool.{cond_both, true≢false}
use Rattle.lp_values.specs.declared.id.CellId.{CellId}
use Rattle.lp_values.specs.declared.id.ObjId.{ObjId}
use Rattle.lp_values.specs.declared.value.Value.{Value}
use Rattle.lp_values.specs.declared.value.Value.TheVariants.{Int, Str, Arr, Map, Obj}
use Rattle.lp_cells.specs.Cells.{Store}
use Rattle.lp_save.specs.SaveText.{Walk, inner, is_among, met_again, met_deep, met_first, walked}
use Rattle.lp_save_laws.proofs.Places.{or_right}

-- the cells met are the first of these, those met again are among those, and none lies too deep
pub record Within (again met : List CellId) (w : Walk) : Type 0 where
  pub later : List CellId
  pub front : met ≡ w.met ++ later
  pub more : (c : CellId) → is_among c w.again ≡ true → is_among c again ≡ true
  pub deep : w.is_deep ≡ false

module _ (live : ObjId → Bool) (cells : Store) (again met : List CellId) where
  pub within_again : (c : CellId) (w : Walk) → Within again met (met_again c w) → Within again met w
  within_again c w h = record { later = h.later; front = h.front; more = λ d t. h.more d (or_right (nat_eq c.0 d.0) (is_among d w.again) t); deep = h.deep }

  pub within_first : (c : CellId) (w : Walk) → Within again met (met_first c w) → Within again met w
  within_first c w h = record { later = c ∷ h.later; front = h.front ∙ append_assoc w.met (c ∷ []) h.later; more = h.more; deep = h.deep }

  -- a cell that does not lie too deep was met before
  met_by : (c : CellId) (w : Walk) (b : Bool) → is_among c w.met ≡ b → Within again met (cond b (met_again c w) (met_deep w)) → (is_among c w.met ≡ true) × Within again met (met_again c w)
  met_by c w true e h = (e, h)
  met_by c w false e h = absurd (true≢false h.deep)

  pub met_before : (c : CellId) (w : Walk) → Within again met (cond (is_among c w.met) (met_again c w) (met_deep w)) → (is_among c w.met ≡ true) × Within again met (met_again c w)
  met_before c w h = met_by c w (is_among c w.met) refl h

  pub within_all : (n : ℕ) → ((w : Walk) (v : Value) → Within again met (walked live cells n w v) → Within again met w) → (vs : List Value) (w : Walk) → Within again met (fold (walked live cells n) w vs) → Within again met w
  within_all n f [] w h = h
  within_all n f (v ∷ vs) w h = f w v (within_all n f vs (walked live cells n w v) h)

  within_cell : (n : ℕ) → ((w : Walk) (v : Value) → Within again met (walked live cells n w v) → Within again met w) → (c : CellId) (vs : List Value) (w : Walk)
      → Within again met (cond (is_among c w.met) (met_again c w) (fold (walked live cells n) (met_first c w) vs)) → Within again met w
  within_cell n f c vs w h =
      cond_both (is_among c w.met) (met_again c w) (fold (walked live cells n) (met_first c w) vs) (λ x. Within again met x → Within again met w) (λ e x. within_again c w x) (λ e x. within_first c w (within_all n f vs (met_first c w) x)) h

  pub within_value : (n : ℕ) (w : Walk) (v : Value) → Within again met (walked live cells n w v) → Within again met w
  within_value zero w (Int i) h = h
  within_value zero w (Str t) h = h
  within_value zero w (Obj o) h = h
  within_value zero w (Arr c) h = within_again c w (met_before c w h).1
  within_value zero w (Map c) h = within_again c w (met_before c w h).1
  within_value (suc n) w (Int i) h = h
  within_value (suc n) w (Str t) h = h
  within_value (suc n) w (Obj o) h = h
  within_value (suc n) w (Arr c) h = within_cell n (within_value n) c (inner live cells (Arr c)) w h
  within_value (suc n) w (Map c) h = within_cell n (within_value n) c (inner live cells (Map c)) w h
