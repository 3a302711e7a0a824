-- Parents that a call names are found.
use Rattle.std.proofs.Common.{◌≡◌, ℕ, refl, sym, ap, ◌∙◌, List, [], ◌∷◌, true}
use Rattle.std.specs.Prelude.{filter}
use Rattle.std.specs.List.{AllZip}
use Rattle.lp_code.specs.declared.tables.Tables.{Tables}
use Rattle.lp_types_expr.specs.declared.parent.Parent.{Parent}
use Rattle.lp_types_expr.specs.Known.{Nobody, as_function, has_path, of_these}
use Rattle.lp_types_expr.specs.NameMaps.{named}
use Rattle.lp_types_expr.specs.ParentRows.{IsParent, parent_has, path_fits, found_of}
use Rattle.lp_types_expr.specs.Signatures.{or_else, last_shown}
use Rattle.lp_types_expr.proofs.Choosing.{zip_filter}

same_path : (p : List ℕ) (t : Tables) (q : Parent) → IsParent t q → has_path p t ≡ parent_has p q
same_path p t q h = ap (path_fits p) (sym h.path)

same_found : (ts : List Tables) (qs : List Parent) (w : List ℕ) → AllZip IsParent ts qs → found_of qs w ≡ of_these ts w
same_found [] [] w h = refl
same_found [] (q ∷ qs) w h = absurd h
same_found (t ∷ ts) [] w h = absurd h
same_found (t ∷ []) (q ∷ []) w h = ap (λ o. as_function (or_else o (named q.shown.rows w)) Nobody) (h.0.shows.bodies w) ∙ ap (λ o. as_function (or_else (last_shown true (t ∷ []) w) o) Nobody) (h.0.shows.rows w)
same_found (t ∷ []) (q ∷ r ∷ qs) w h = absurd h.1
same_found (t ∷ u ∷ ts) (q ∷ []) w h = absurd h.1
same_found (t ∷ u ∷ ts) (q ∷ r ∷ qs) w h = refl

pub found_parents : (ts : List Tables) (qs : List Parent) → AllZip IsParent ts qs → (p w : List ℕ) → found_of (filter (parent_has p) qs) w ≡ of_these (filter (has_path p) ts) w
found_parents ts qs h p w = same_found (filter (has_path p) ts) (filter (parent_has p) qs) w (zip_filter IsParent (has_path p) (parent_has p) (same_path p) ts qs h)
