-- What is written of a list, and what its rest still gives.
use Rattle.std.proofs.Common.{◌≡◌, ◌∙◌, ◌<◌, ◌+◌, ℕ, List, [], ◌∷◌, ◌++◌, Bool, true, Option, length, drop, get_or, map, Err, ap, sym, append_assoc}
use Rattle.std.proofs.lemmas.List.{drop_more}
use Rattle.std.specs.List.{flat_map}
use Rattle.std.specs.Option.{option_to_list}
use Rattle.lp_cells.specs.Mapping.{pairs_there}
use Rattle.lp_cells.specs.Slots.{filled}
use Rattle.lp_cells.proofs.SlotLemmas.{there_rest}
use Rattle.lp_values.specs.declared.id.ObjId.{ObjId}
use Rattle.lp_values.specs.declared.value.Value.{Value}
use Rattle.lp_format.specs.declared.fault.FormatFault.{FormatFault}
use Rattle.lp_format.specs.Answers.{Becomes}
use Rattle.lp_format.specs.Spelled.{quoted_point, separator, spaced}
use Rattle.lp_format.proofs.AnswerLemmas.{stops}

-- the next code point between quotes
next_point : (s : List ℕ) (i x : ℕ) (tail : List ℕ) → i < length s → x ≡ get_or s i x → flat_map quoted_point (drop i s) ++ tail ≡ quoted_point x ++ (flat_map quoted_point (drop (i + 1) s) ++ tail)
next_point s i x tail lt e =
    ap (λ (l : List ℕ). flat_map quoted_point l ++ tail) (drop_more s i x lt ∙ ap (λ (y : ℕ). y ∷ drop (i + 1) s) (sym e)) ∙ append_assoc (quoted_point x) (flat_map quoted_point (drop (i + 1) s)) tail

pub quoted_stops : (fault : FormatFault) (n m out whole s : List ℕ) (i x : ℕ) → i < length s → x ≡ get_or s i x → whole ≡ out ++ (flat_map quoted_point (drop i s) ++ 34 ∷ []) → Becomes (Err fault) n (out ++ quoted_point x) → Becomes (Err fault) m whole
quoted_stops fault n m out whole s i x lt e whole_is b =
    stops fault n m out (quoted_point x) (flat_map quoted_point (drop (i + 1) s) ++ 34 ∷ []) whole (whole_is ∙ ap (λ (l : List ℕ). out ++ l) (next_point s i x (34 ∷ []) lt e)) b

-- the next item of an array
pub next_item : (f : Value → List ℕ) (others : Bool) (out whole tail : List ℕ) (vs : List Value) (i : ℕ) (v : Value) → i < length vs → v ≡ get_or vs i v → whole ≡ out ++ (spaced others (map f (drop i vs)) ++ tail) → whole ≡ out ++ (separator others ++ (f v ++ (spaced true (map f (drop (i + 1) vs)) ++ tail)))
next_item f others out whole tail vs i v lt e whole_is =
    whole_is ∙ ap (λ (l : List ℕ). out ++ l) (ap (λ (l : List Value). spaced others (map f l) ++ tail) (drop_more vs i v lt ∙ ap (λ (y : Value). y ∷ drop (i + 1) vs) (sym e)) ∙ append_assoc (separator others) (f v ++ spaced true (map f (drop (i + 1) vs))) tail ∙ ap (λ (l : List ℕ). separator others ++ l) (append_assoc (f v) (spaced true (map f (drop (i + 1) vs))) tail))

-- the next pair of a mapping
pub next_pair : (live : ObjId → Bool) (f : Value × Value → List ℕ) (others : Bool) (out whole tail : List ℕ) (slots : List (Option (Value × Value))) (i : ℕ) (x : Option (Value × Value)) (p : Value × Value) → i < length slots → x ≡ get_or slots i x → p ∷ [] ≡ pairs_there live (option_to_list x) → whole ≡ out ++ (spaced others (map f (pairs_there live (filled (drop i slots)))) ++ tail) → whole ≡ out ++ (separator others ++ (f p ++ (spaced true (map f (pairs_there live (filled (drop (i + 1) slots)))) ++ tail)))
next_pair live f others out whole tail slots i x p lt at e whole_is =
    let more : pairs_there live (filled (drop i slots)) ≡ p ∷ pairs_there live (filled (drop (i + 1) slots)) = there_rest live slots i x lt at ∙ ap (λ (l : List (Value × Value)). l ++ pairs_there live (filled (drop (i + 1) slots))) (sym e) in
    whole_is ∙ ap (λ (l : List ℕ). out ++ l) (ap (λ (l : List (Value × Value)). spaced others (map f l) ++ tail) more ∙ append_assoc (separator others) (f p ++ spaced true (map f (pairs_there live (filled (drop (i + 1) slots))))) tail ∙ ap (λ (l : List ℕ). separator others ++ l) (append_assoc (f p) (spaced true (map f (pairs_there live (filled (drop (i + 1) slots))))) tail))

-- a slot with no pair that is there
pub no_pair : (live : ObjId → Bool) (f : Value × Value → List ℕ) (others : Bool) (out whole tail : List ℕ) (slots : List (Option (Value × Value))) (i : ℕ) (x : Option (Value × Value)) → i < length slots → x ≡ get_or slots i x → [] ≡ pairs_there live (option_to_list x) → whole ≡ out ++ (spaced others (map f (pairs_there live (filled (drop i slots)))) ++ tail) → whole ≡ out ++ (spaced others (map f (pairs_there live (filled (drop (i + 1) slots)))) ++ tail)
no_pair live f others out whole tail slots i x lt at e whole_is =
    let more : pairs_there live (filled (drop i slots)) ≡ pairs_there live (filled (drop (i + 1) slots)) = there_rest live slots i x lt at ∙ ap (λ (l : List (Value × Value)). l ++ pairs_there live (filled (drop (i + 1) slots))) (sym e) in
    whole_is ∙ ap (λ (l : List ℕ). out ++ l) (ap (λ (l : List (Value × Value)). spaced others (map f l) ++ tail) more)
