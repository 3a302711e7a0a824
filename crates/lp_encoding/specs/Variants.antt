-- Forms of values that come in variants.
use Rattle.std.specs.Prelude.{ℕ, List, ◌++◌, Option, Some, None, slice_get}
use Rattle.std.specs.Int.{Width, to_le_bytes}
use Rattle.lp_encoding.specs.Forms.{Form, ◌>>=◌, number_at}

-- what reads the fields of a variant, and makes the value
abbrev pub Reads : Type 0 → Type 0
Reads A = List ℕ → Option (A × List ℕ)

abbrev pub reads : {A B : Type 0} → Form B → (B → A) → Reads A
reads f make bytes = f.read bytes >>= λ x. Some (make x.0, x.1)

-- no variant has this number
abbrev pub no_variant : {A : Type 0} → Reads A
no_variant bytes = None

-- what stands behind the number of a variant
abbrev pub variant_at : {A : Type 0} → List (Reads A) → ℕ → List ℕ → Option (A × List ℕ)
variant_at readers n bytes = slice_get readers n >>= λ r. r bytes

-- the number of the variant, then its fields
abbrev pub variants : {A : Type 0} → Width → (A → ℕ) → (A → List ℕ) → (A → Type 0) → List (Reads A) → Form A
variants w variant fields FieldsFit readers = record {
  spelled = λ x. to_le_bytes w (variant x) ++ fields x;
  Fits = FieldsFit;
  read = λ bytes. number_at w bytes >>= λ n. variant_at readers n.0 n.1;
}
