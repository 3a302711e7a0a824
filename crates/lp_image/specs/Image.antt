-- The image of a record: the bytes that spell it.
use Rattle.std.specs.Prelude.{◌≡◌, ℕ, ◌+◌, ◌<◌, ◌^◌, Bool, true, false, List, [], ◌∷◌, ◌++◌, length, codes, encode_utf8_all}
use Rattle.std.specs.List.{flat_map, AllByRecursion}
use Rattle.std.specs.Int.{w32, w64, to_le_bytes, cast_unsigned}
use Rattle.std.specs.Int.RustNames.{FitsSigned}
use Rattle.std.specs.Str.{all_scalars}
use Rattle.lp_image.specs.declared.record.Packed.{Packed}
use Rattle.lp_image.specs.declared.record.Packed.TheVariants.{Int, Str, Arr, Map, Obj, OwnArr, OwnMap}
use Rattle.lp_image.specs.declared.record.PackedCell.{PackedCell}
use Rattle.lp_image.specs.declared.record.PackedCell.TheVariants.{Array, Mapping}
use Rattle.lp_image.specs.declared.record.Record.{Record}

-- The image

-- numbers of four and of eight bytes, the least first
abbrev pub four : ℕ → List ℕ
four n = to_le_bytes w32 n

abbrev pub eight : ℕ → List ℕ
eight n = to_le_bytes w64 n

-- a text is the number of its bytes in UTF-8, and they
abbrev pub text_image : List ℕ → List ℕ
text_image bytes = four (length bytes) ++ bytes

-- a value is a tag and what the tag says
abbrev pub value_image : Packed → List ℕ
value_image (Int n) = 0 ∷ eight (cast_unsigned w64 n)
value_image (Str t) = 1 ∷ text_image (encode_utf8_all t)
value_image (Arr c) = 2 ∷ eight c.0
value_image (Map c) = 3 ∷ eight c.0
value_image (Obj o) = 4 ∷ eight o.0
value_image (OwnArr n) = 5 ∷ four n
value_image (OwnMap n) = 6 ∷ four n

-- a pair is the key and the value
abbrev pub pair_image : Packed × Packed → List ℕ
pair_image p = value_image p.0 ++ value_image p.1

-- a list is the number of its items, and they
abbrev pub list_image : {A : Type 0} → (A → List ℕ) → List A → List ℕ
list_image image xs = four (length xs) ++ flat_map image xs

-- a cell is a tag, and the items or pairs
abbrev pub cell_image : PackedCell → List ℕ
cell_image (Array vs) = 0 ∷ list_image value_image vs
cell_image (Mapping ps) = 1 ∷ list_image pair_image ps

-- a record is the mark `LPO1`, the owner, the variables and the cells
abbrev pub image : Record → List ℕ
image r = codes "LPO1" ++ (eight r.owner.0 ++ (list_image value_image r.vars ++ list_image cell_image r.cells))

-- What has an image

-- a value whose numbers and length fit their bytes
abbrev pub IsValue : Packed → Type 0
IsValue (Int n) = FitsSigned w64 n
IsValue (Str t) = (all_scalars t ≡ true) × (length (encode_utf8_all t) < 2 ^ 32)
IsValue (Arr c) = c.0 < 2 ^ 64
IsValue (Map c) = c.0 < 2 ^ 64
IsValue (Obj o) = o.0 < 2 ^ 64
IsValue (OwnArr n) = n < 2 ^ 32
IsValue (OwnMap n) = n < 2 ^ 32

abbrev pub IsPair : Packed × Packed → Type 0
IsPair p = IsValue p.0 × IsValue p.1

-- a list whose length fits, of such items
abbrev pub IsListOf : {A : Type 0} → (A → Type 0) → List A → Type 0
IsListOf Is xs = (length xs < 2 ^ 32) × AllByRecursion Is xs

abbrev pub IsCell : PackedCell → Type 0
IsCell (Array vs) = IsListOf IsValue vs
IsCell (Mapping ps) = IsListOf IsPair ps

-- The order of the cells

-- a mention of one of the record's own cells: whether it is a mapping, and its place
abbrev pub Mention : Type 0
Mention = Bool × ℕ

abbrev pub mention_of : Packed → List Mention
mention_of (Int n) = []
mention_of (Str t) = []
mention_of (Arr c) = []
mention_of (Map c) = []
mention_of (Obj o) = []
mention_of (OwnArr n) = (false, n) ∷ []
mention_of (OwnMap n) = (true, n) ∷ []

abbrev pub pair_mentions : Packed × Packed → List Mention
pair_mentions p = mention_of p.0 ++ mention_of p.1

abbrev pub cell_mentions : PackedCell → List Mention
cell_mentions (Array vs) = flat_map mention_of vs
cell_mentions (Mapping ps) = flat_map pair_mentions ps

-- the mentions of a record, from left to right
abbrev pub mentions : Record → List Mention
mentions r = flat_map mention_of r.vars ++ flat_map cell_mentions r.cells

abbrev pub is_mapping : PackedCell → Bool
is_mapping (Array vs) = false
is_mapping (Mapping ps) = true

-- the cells in order, each with its kind and its place
abbrev pub numbered : ℕ → List PackedCell → List Mention
numbered n [] = []
numbered n (c ∷ cs) = (is_mapping c, n) ∷ numbered (n + 1) cs

-- Each of the record's own cells is mentioned once, by its kind, in the order of the cells, and no others are.
abbrev pub IsOrdered : Record → Type 0
IsOrdered r = mentions r ≡ numbered 0 r.cells

-- a record that has an image
pub record IsRecord (r : Record) : Type 0 where
  pub owner : r.owner.0 < 2 ^ 64
  pub vars : IsListOf IsValue r.vars
  pub cells : IsListOf IsCell r.cells
  pub ordered : IsOrdered r

-- No image begins another.
abbrev pub NoImageBeginsAnother : Type 0
NoImageBeginsAnother = (r s : Record) (x y : List ℕ) → IsRecord r → IsRecord s → image r ++ x ≡ image s ++ y → (r ≡ s) × (x ≡ y)
