-- How a function begins and ends, beside what it means.
use Rattle.std.specs.Prelude.{◌≡◌, ◌+◌, ◌++◌, ℕ, Bool, true, false, Option, Some, is_some}
use Rattle.std.specs.Option.{option_to_list}
use Rattle.lp_values.specs.declared.id.ObjId.{ObjId}
use Rattle.lp_language.specs.Resolve.{or_else}
use Rattle.lp_asking.specs.declared.asker.Asker.{Asker}
use Rattle.lp_asking.specs.declared.ending.Ending.{Ending}
use Rattle.lp_asking.specs.declared.ending.Ending.TheVariants as endings
use Rattle.lp_asking.specs.declared.ending.Place.{Place}

-- the price of an entry
abbrev pub IsPaid : Bool → ℕ → ℕ → Type 0
IsPaid true old new = old ≡ new + 1
IsPaid false old new = (old ≡ 0) × (new ≡ 0)

-- one deeper, with one caller more if one is given
pub record HasCaller (caller : Option ObjId) (old new : Asker) : Type 0 where
  pub turn : new.turn ≡ old.turn
  pub interactive : new.interactive ≡ old.interactive
  pub loads : new.loads ≡ old.loads
  pub callers : new.callers.items ≡ old.callers.items ++ option_to_list caller
  pub depth : new.depth ≡ old.depth + 1

-- as it was before that, but for the turn, which is that of now
pub record HasNoCaller (is_called : Bool) (caller : Option ObjId) (was old new : Asker) : Type 0 where
  pub turn : new.turn ≡ old.turn
  pub interactive : new.interactive ≡ old.interactive
  pub loads : new.loads ≡ old.loads
  pub callers : is_called ≡ is_some caller → new.callers.items ≡ was.callers.items
  pub depth : new.depth ≡ was.depth

-- a stop without a place gets this one
abbrev pub IsPlaced : Place → Ending → Ending → Type 0
IsPlaced place (endings.Value v) e = e ≡ endings.Value v
IsPlaced place (endings.Stopped s) e = e ≡ endings.Stopped (record s { place = or_else s.place (Some place) })
