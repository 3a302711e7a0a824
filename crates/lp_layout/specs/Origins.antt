-- Rows in the making: what is known of each name, and the rows that are taken from it.
use Rattle.std.specs.Prelude.{ℕ, List, [], ◌∷◌, Option, None, option_map, Vec, if◌then◌else◌}
use Rattle.std.specs.HashMap.{HashMap}
use Rattle.std.specs.declared.alloc.Global.{Global}
use Rattle.lp_code.specs.declared.tables.Slot.{Slot}
use Rattle.lp_instr.specs.EfunList.{is_name}
use Rattle.lp_types_expr.specs.NameMaps.{named}
use Rattle.lp_layout.specs.declared.origin.Origin.{Origin}
use Rattle.lp_layout.specs.declared.origin.Origin.TheVariants.{Own, Inherited}
use Rattle.lp_layout.specs.Layout.{slot, with_slot}

-- the row of a name
abbrev pub row_of : List ℕ → Origin → Slot
row_of w (Own part number ms ty ps) = slot w part number ms.now ty ps.now
row_of w (Inherited part s) = record s.now { name = w; part = part }

-- the row that a map has for a name
abbrev pub rowed : {S : Type 0} → HashMap (Vec ℕ Global) Origin S → List ℕ → Option Slot
rowed m w = option_map (row_of w) (named m w)

-- all but the row of one name
abbrev pub without : List ℕ → (List ℕ → Option Slot) → List ℕ → Option Slot
without w f v = if is_name v w then None else f v

-- what is left when the rows of some names were taken
abbrev pub left : (List ℕ → Option Slot) → List (List ℕ) → List ℕ → Option Slot
left f [] = f
left f (w ∷ ws) = left (without w f) ws

-- the rows of some names, each taken once
abbrev pub taken : (List ℕ → Option Slot) → List (List ℕ) → List Slot
taken f [] = []
taken f (w ∷ ws) = with_slot (f w) (taken (without w f) ws)
