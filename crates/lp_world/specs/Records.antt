-- The record of an object that is out: a function of its variables and of its own cells, which nothing else names.
use Rattle.std.specs.Prelude.{ℕ, suc, List, [], ◌∷◌, ◌++◌, Option, Some, None, map, nat_eq, if◌then◌else◌}
use Rattle.std.specs.List.{flat_map}
use Rattle.std.specs.Option.{option_map}
use Rattle.lp_values.specs.declared.id.CellId.{CellId}
use Rattle.lp_values.specs.declared.id.ObjId.{ObjId}
use Rattle.lp_values.specs.declared.value.Value.{Value}
use Rattle.lp_values.specs.declared.value.Value.TheVariants.{Int, Str, Arr, Map, Obj}
use Rattle.lp_cells.specs.Cells.{Store, content_at}
use Rattle.lp_cells.specs.declared.content.Content.{Content}
use Rattle.lp_cells.specs.declared.content.Content.TheVariants as content
use Rattle.lp_image.specs.declared.record.Packed.{Packed}
use Rattle.lp_image.specs.declared.record.Packed.TheVariants as packs
use Rattle.lp_image.specs.declared.record.PackedCell.{PackedCell}
use Rattle.lp_image.specs.declared.record.PackedCell.TheVariants as cells
use Rattle.lp_image.specs.declared.record.Record.{Record}

-- where a cell stands among the record's own
abbrev pub place_of : CellId → List CellId → Option ℕ
place_of c [] = None
place_of c (d ∷ ds) = if nat_eq d.0 c.0 then Some 0 else option_map suc (place_of c ds)

abbrev pub packed_array : CellId → Option ℕ → Packed
packed_array c None = packs.Arr c
packed_array c (Some k) = packs.OwnArr k

abbrev pub packed_mapping : CellId → Option ℕ → Packed
packed_mapping c None = packs.Map c
packed_mapping c (Some k) = packs.OwnMap k

-- a value in a record with these own cells
abbrev pub packed : List CellId → Value → Packed
packed own (Int n) = packs.Int n
packed own (Str s) = packs.Str s
packed own (Arr c) = packed_array c (place_of c own)
packed own (Map c) = packed_mapping c (place_of c own)
packed own (Obj o) = packs.Obj o

abbrev pub packed_pair : List CellId → Value × Value → Packed × Packed
packed_pair own p = (packed own p.0, packed own p.1)

-- what a cell holds, in it
abbrev pub packed_cell : List CellId → Option Content → PackedCell
packed_cell own None = cells.Array []
packed_cell own (Some (content.Array vs)) = cells.Array (map (packed own) vs)
packed_cell own (Some (content.Mapping ps)) = cells.Mapping (map (packed_pair own) ps)

-- The record of an object with these variables, whose own cells hold this.
abbrev pub record_for : ObjId → List Value → List CellId → List (Option Content) → Record
record_for o vs own contents = record { owner = o; vars = map (packed own) vs; cells = map (packed_cell own) contents }

-- The cells that it names and does not have, each as often as it names it.
abbrev pub shared_cell : CellId → Option ℕ → List CellId
shared_cell c None = c ∷ []
shared_cell c (Some k) = []

abbrev pub shared_in : List CellId → Value → List CellId
shared_in own (Int n) = []
shared_in own (Str s) = []
shared_in own (Arr c) = shared_cell c (place_of c own)
shared_in own (Map c) = shared_cell c (place_of c own)
shared_in own (Obj o) = []

abbrev pub shared_in_pair : List CellId → Value × Value → List CellId
shared_in_pair own p = shared_in own p.0 ++ shared_in own p.1

abbrev pub shared_in_cell : List CellId → Option Content → List CellId
shared_in_cell own None = []
shared_in_cell own (Some (content.Array vs)) = flat_map (shared_in own) vs
shared_in_cell own (Some (content.Mapping ps)) = flat_map (shared_in_pair own) ps

abbrev pub shared_for : List Value → List CellId → List (Option Content) → List CellId
shared_for vs own contents = flat_map (shared_in own) vs ++ flat_map (shared_in_cell own) contents

-- what these cells hold
abbrev pub contents_of : Store → List CellId → List (Option Content)
contents_of store own = map (content_at store) own
