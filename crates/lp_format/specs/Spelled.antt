-- How values are spelled.
use Rattle.std.specs.Prelude.{ℕ, zero, suc, List, [], ◌∷◌, ◌++◌, Bool, true, false, Option, Some, None, nat_eq, map, if◌then◌else◌}
use Rattle.std.specs.List.{flat_map, list_any}
use Rattle.std.specs.Fmt.{signed_decimal}
use Rattle.lp_values.specs.declared.id.CellId.{CellId}
use Rattle.lp_values.specs.declared.id.ObjId.{ObjId}
use Rattle.lp_values.specs.declared.value.Value.{Value}
use Rattle.lp_values.specs.declared.value.Value.TheVariants.{Int, Str, Arr, Map, Obj}
use Rattle.lp_cells.specs.Cells.{Store, items_of, stored_pairs}
use Rattle.lp_cells.specs.Mapping.{pairs_there}

-- a code point between quotes: `"` and `\` have a `\` before them, a newline is `\n`
abbrev pub quoted_point : ℕ → List ℕ
quoted_point c = if nat_eq c 34 then 92 ∷ 34 ∷ [] else if nat_eq c 92 then 92 ∷ 92 ∷ [] else if nat_eq c 10 then 92 ∷ 110 ∷ [] else c ∷ []

-- a text between quotes
abbrev pub quoted : List ℕ → List ℕ
quoted s = 34 ∷ flat_map quoted_point s ++ 34 ∷ []

-- an object by its name; one that has none reads as 0
abbrev pub object_text : Option (List ℕ) → List ℕ
object_text None = 48 ∷ []
object_text (Some name) = name

-- a live object by its name; a destructed one reads as 0
abbrev pub object_spelled : (ObjId → Bool) → (ObjId → Option (List ℕ)) → ObjId → List ℕ
object_spelled live name o = object_text (if live o then name o else None)

-- a cell that is not spelled: `<...>`
abbrev pub hidden : List ℕ
hidden = 60 ∷ 46 ∷ 46 ∷ 46 ∷ 62 ∷ []

-- what stands before a text: a space before the first, and a comma and a space before each other
abbrev pub separator : Bool → List ℕ
separator false = 32 ∷ []
separator true = 44 ∷ 32 ∷ []

-- texts with what stands before each, behind others or not
abbrev pub spaced : Bool → List (List ℕ) → List ℕ
spaced others [] = []
spaced others (t ∷ ts) = separator others ++ (t ++ spaced true ts)

-- `({ a, b })`, and `({ })` where nothing is in it
abbrev pub array_spelled : List (List ℕ) → List ℕ
array_spelled ts = 40 ∷ 123 ∷ spaced false ts ++ 32 ∷ 125 ∷ 41 ∷ []

-- `([ k: v, k: v ])`, and `([ ])` where nothing is in it
abbrev pub mapping_spelled : List (List ℕ) → List ℕ
mapping_spelled ts = 40 ∷ 91 ∷ spaced false ts ++ 32 ∷ 93 ∷ 41 ∷ []

-- a key and its value
abbrev pub pair_spelled : (Value → List ℕ) → Value × Value → List ℕ
pair_spelled spell p = spell p.0 ++ 58 ∷ 32 ∷ spell p.1

-- whether a cell is one of these
abbrev pub is_among : CellId → List CellId → Bool
is_among c path = list_any (λ d. nat_eq d.0 c.0) path

-- a value within cells that are open, where cells may lie so many levels deep: a cell inside itself, or deeper, is not spelled
abbrev pub spelled_within : (ObjId → Bool) → (ObjId → Option (List ℕ)) → Store → ℕ → List CellId → Value → List ℕ
spelled_within live name cells levels path (Int n) = signed_decimal n
spelled_within live name cells levels path (Str s) = quoted s
spelled_within live name cells levels path (Obj o) = object_spelled live name o
spelled_within live name cells zero path (Arr c) = hidden
spelled_within live name cells (suc n) path (Arr c) = if is_among c path then hidden else array_spelled (map (spelled_within live name cells n (path ++ c ∷ [])) (items_of cells c))
spelled_within live name cells zero path (Map c) = hidden
spelled_within live name cells (suc n) path (Map c) = if is_among c path then hidden else mapping_spelled (map (pair_spelled (spelled_within live name cells n (path ++ c ∷ []))) (pairs_there live (stored_pairs cells c)))

-- how deep cells are spelled: the outermost is one level deep
unfoldable pub deepest : ℕ
deepest = 20

-- a value: integers in decimal, texts between quotes, objects by name, cells with what is in them
abbrev pub spelled : (ObjId → Bool) → (ObjId → Option (List ℕ)) → Store → Value → List ℕ
spelled live name cells v = spelled_within live name cells deepest [] v
