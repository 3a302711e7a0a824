-- The functions that tables show stand in the versions of the inheritance tree.
use Rattle.std.proofs.Common.{◌≡◌, ℕ, zero, suc, refl, sym, ◌∙◌, ap, Bool, true, false, ◌&&◌, not, List, [], ◌∷◌, ◌++◌, map, Option, Some, None}
use Rattle.std.proofs.lemmas.List.{map-append}
use Rattle.std.specs.Prelude.{slice_get, if◌then◌else◌}
use Rattle.lp_values.specs.declared.id.ProgId.{ProgId}
use Rattle.lp_code.specs.declared.tables.Slot.{Slot}
use Rattle.lp_language.specs.Resolve.{Heritage, Heir, Heritages, NoParent, OneParent, Found, Part, number_of, part_at, resolve, shown, is_private}
use Rattle.lp_types_expr.specs.Signatures.{has_function, is_private_number}
use Rattle.lp_layout.specs.Layout.{slot_named}
use Rattle.lp_layout.specs.Layout as layout
use Rattle.lp_layout.specs.LayoutFaults.{source, source_of}
use Rattle.lp_inherit.specs.Heirs.{table, tables, with_function, tree_of_part, number_of_part, source_found, MeansTheSame, IsRowOf, IsNumbered}
use Rattle.lp_inherit.proofs.Meanings.{private_bit, row_agrees}
use Rattle.lp_inherit.proofs.Numbers.{trees, trees_before, part_read}

mutual
  parts_numbers : (h : Heritage) → (table h).parts ≡ map number_of (trees h)
  parts_numbers (Heir n v ps) = ap (λ z. z ++ n ∷ []) (before_numbers ps) ∙ sym (map-append number_of (trees_before ps) (Heir n v ps ∷ []))

  before_numbers : (hs : Heritages) → layout.parts_before (tables hs) ≡ map number_of (trees_before hs)
  before_numbers NoParent = refl
  before_numbers (OneParent h hs) = ap (λ z. z ++ layout.parts_before (tables hs)) (parts_numbers h) ∙ ap (λ z. map number_of (trees h) ++ z) (before_numbers hs) ∙ sym (map-append number_of (trees h) (trees_before hs))

abbrev number_if : Option Heritage → Option ProgId
number_if None = None
number_if (Some h) = Some (number_of h)

number_read : (hs : List Heritage) (k : ℕ) → slice_get (map number_of hs) k ≡ number_if (slice_get hs k)
number_read [] k = refl
number_read (h ∷ hs) zero = refl
number_read (h ∷ hs) (suc k) = number_read hs k

number_same : (p : Option Part) → number_if (tree_of_part p) ≡ number_of_part p
number_same None = refl
number_same (Some p) = refl

-- the version of a part
version_read : (h : Heritage) (k : ℕ) → slice_get (table h).parts k ≡ number_of_part (part_at h k)
version_read h k = ap (λ z. slice_get z k) (parts_numbers h) ∙ number_read (trees h) k ∙ sym (ap number_if (part_read h k)) ∙ number_same (part_at h k)

pub sources_agree : (h : Heritage) (w : List ℕ) → IsNumbered h → source (table h) w ≡ source_found h (shown (resolve h w))
sources_agree h w c = by (slot_named (table h).slots w) (resolve h w) (row_agrees h w c)
  where
    seen : (s : Slot) (f : Found) → IsRowOf s f → (p q : Bool) → p ≡ q → (if true && not p then Some (record { version = slice_get (table h).parts s.part; mods = s.mods }) else None) ≡ source_found h (if q then None else Some f)
    seen s f r true true e = refl
    seen s f r false false e = ap (λ z. Some (record { version = z; mods = s.mods })) (version_read h s.part ∙ ap (λ z. number_of_part (part_at h z)) r.part) ∙ ap (λ z. Some (record { version = number_of_part (part_at h f.part); mods = z })) r.mods
    seen s f r true false e = absurd cc
    seen s f r false true e = absurd cc

    row : (s : Slot) (o : Option Found) (b : Bool) → MeansTheSame (if b then Some s else None) o → (if b && not (is_private_number s.mods) then Some (record { version = slice_get (table h).parts s.part; mods = s.mods }) else None) ≡ source_found h (shown o)
    row s None true m = absurd m
    row s (Some f) true m = seen s f m (is_private_number s.mods) (is_private f.function.modifiers) (ap is_private_number m.mods ∙ private_bit f.function.modifiers)
    row s None false m = refl
    row s (Some f) false m = absurd m

    by : (r : Option Slot) (o : Option Found) → MeansTheSame (with_function r) o → source_of (table h) r ≡ source_found h (shown o)
    by None None m = refl
    by None (Some f) m = absurd m
    by (Some s) o m = row s o (has_function s) m
