-- Locals by their names: each knows the one that it hides.
use Rattle.std.specs.Prelude.{◌≡◌, ℕ, List, [], ◌∷◌, map, take, slice_get, Option, Some, None, suc, option_map, if◌then◌else◌, Vec}
use Rattle.std.specs.HashMap.{HashMap}
use Rattle.std.specs.declared.alloc.Global.{Global}
use Rattle.lp_tree.specs.declared.types.TypeName.{TypeName}
use Rattle.lp_instr.specs.EfunList.{is_name}
use Rattle.lp_types_expr.specs.declared.row.Row.{Row}
use Rattle.lp_types_expr.specs.declared.local.Local.{Local}
use Rattle.lp_types_expr.specs.NameMaps.{named}
use Rattle.lp_types_expr.specs.Signatures.{or_else}

abbrev pub locals_of : List Row → List Local
locals_of rs = map (λ r. r.local) rs

-- the place of the last local with a name
abbrev pub last_place : List Row → List ℕ → Option ℕ
last_place [] w = None
last_place (r ∷ rs) w = or_else (option_map suc (last_place rs w)) (if is_name w r.local.name then Some 0 else None)

-- each local hides the last one of its name before it
abbrev pub AreHidden : List Row → Type 0
AreHidden rs = (i : ℕ) (r : Row) → slice_get rs i ≡ Some r → r.hidden ≡ last_place (take i rs) r.local.name

-- the map has the place of the last local of each name
pub record ArePlaced {S : Type 0} (rs : List Row) (places : HashMap (Vec ℕ Global) ℕ S) : Type 0 where
  pub each : (w : List ℕ) → named places w ≡ last_place rs w
  pub hidden : AreHidden rs

abbrev pub kind_of_row : Option Row → Option TypeName
kind_of_row None = None
kind_of_row (Some r) = Some r.local.kind

-- the type of the local at a place
abbrev pub kind_at : List Row → Option ℕ → Option TypeName
kind_at rs None = None
kind_at rs (Some k) = kind_of_row (slice_get rs k)
