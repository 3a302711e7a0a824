-- Cells, found by their serials.
use Rattle.std.specs.Prelude.{◌≡◌, List, [], ◌++◌, ◌∷◌, ℕ, ⊤, Bool, Option, Some, None, All, IfSome, IsSome, length, slice_get, slice_set, unwrap_or}
use Rattle.lp_values.specs.declared.id.CellId.{CellId}
use Rattle.lp_values.specs.declared.id.ObjId.{ObjId}
use Rattle.lp_values.specs.declared.value.Value.{Value}
use Rattle.lp_values.specs.declared.value.Value.TheVariants.{Int, Str, Arr, Map, Obj}
use Rattle.lp_cells.specs.declared.content.Content.{Content}
use Rattle.lp_cells.specs.declared.content.Content.TheVariants.{Array, Mapping}
use Rattle.lp_cells.specs.declared.content.Kind.{Kind}
use Rattle.lp_cells.specs.declared.content.Kind.TheVariants as kind
use Rattle.lp_cells.specs.Mapping.{pairs_there}

-- all cells: the one with serial n stands at place n, and a place may be empty
abbrev pub Store : Type 0
Store = List (Option Content)

-- what the cell with a serial holds
abbrev pub content_at : Store → CellId → Option Content
content_at cells c = unwrap_or (slice_get cells c.0) None

-- and of which kind it is
abbrev pub kind_of : Option Content → Kind
kind_of (Some (Array vs)) = kind.Array
kind_of (Some (Mapping ps)) = kind.Mapping
kind_of None = kind.Nothing

abbrev pub as_items : Option Content → Option (List Value)
as_items (Some (Array vs)) = Some vs
as_items (Some (Mapping ps)) = None
as_items None = None

abbrev pub as_pairs : Option Content → Option (List (Value × Value))
as_pairs (Some (Array vs)) = None
as_pairs (Some (Mapping ps)) = Some ps
as_pairs None = None

-- the items of the array with a serial
abbrev pub items_at : Store → CellId → Option (List Value)
items_at cells c = as_items (content_at cells c)

-- the stored pairs of the mapping with a serial
abbrev pub pairs_at : Store → CellId → Option (List (Value × Value))
pairs_at cells c = as_pairs (content_at cells c)

-- these, or none
abbrev pub items_of : Store → CellId → List Value
items_of cells c = unwrap_or (items_at cells c) []

abbrev pub stored_pairs : Store → CellId → List (Value × Value)
stored_pairs cells c = unwrap_or (pairs_at cells c) []

-- the item at a place of an array
abbrev pub item_at : Store → CellId → ℕ → Option Value
item_at cells c i = slice_get (items_of cells c) i

-- the cells with one cell more, whose serial is next
abbrev pub with_cell : Store → Content → Store
with_cell cells x = cells ++ Some x ∷ []

-- the cells after one of them got another content
abbrev pub content_set : Store → CellId → Content → Store
content_set cells c x = slice_set cells c.0 (Some x)

-- after a write of the item at a place
abbrev pub item_set : Store → CellId → ℕ → Value → Store
item_set cells c i v = content_set cells c (Array (slice_set (items_of cells c) i v))

-- how many items an array has, and a mapping as read
abbrev pub size_read : (ObjId → Bool) → Content → ℕ
size_read live (Array vs) = length vs
size_read live (Mapping ps) = length (pairs_there live ps)

-- an array or a mapping that a value names is there
abbrev pub IsThere : Store → Value → Type 0
IsThere cells (Int n) = ⊤
IsThere cells (Str s) = ⊤
IsThere cells (Arr c) = IsSome (items_at cells c)
IsThere cells (Map c) = IsSome (pairs_at cells c)
IsThere cells (Obj o) = ⊤

-- and both values of a pair
abbrev pub IsPairThere : Store → Value × Value → Type 0
IsPairThere cells p = IsThere cells p.0 × IsThere cells p.1

-- and of the pair in a slot
abbrev pub IsSlotThere : Store → Option (Value × Value) → Type 0
IsSlotThere cells slot = IfSome slot (IsPairThere cells)

-- and each value that a cell holds
abbrev pub AreThere : Store → Content → Type 0
AreThere cells (Array vs) = All (IsThere cells) vs
AreThere cells (Mapping ps) = All (IsPairThere cells) ps

-- closed: each array or mapping that a cell names is there
abbrev pub IsClosed : Store → Type 0
IsClosed cells = (c : CellId) (x : Content) → content_at cells c ≡ Some x → AreThere cells x

-- what was there stays there, and of its kind
abbrev pub KeepsThere : Store → Store → Type 0
KeepsThere old new = (v : Value) → IsThere old v → IsThere new v
