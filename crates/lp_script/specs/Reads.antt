-- What a reader of one item answers, in the words of the definition.
use Rattle.std.specs.Prelude.{◌≡◌, ℕ, List, ◌++◌, Result, Ok, Err}
use Rattle.std.specs.Borrow.{Bor}
use Rattle.lp_events.specs.declared.item.Item.{Item}
use Rattle.lp_events.specs.Script.{Context, Fits, spelling, BeginsWith, IsBegun}
use Rattle.lp_script.specs.declared.stop.Stop.TheVariants.{Short, Wrong}
use Rattle.lp_script.specs.declared.stop.ReadError.{ReadError}
use Rattle.lp_script.specs.declared.stop.ReadError.TheVariants as errors

-- An item that fits, and the bytes behind it; or the bytes begin with none, and an item that fits is begun, or none is.
abbrev pub ReadsItem : Context → List ℕ → Result (Item × Bor (List ℕ)) ReadError → Type 0
ReadsItem c bytes (Ok x) = Fits c x.0 × (bytes ≡ spelling x.0 ++ x.1.now)
ReadsItem c bytes (Err errors.NoMemory) = Unit {0}
ReadsItem c bytes (Err (errors.Stop Short)) = IsBegun c bytes × ((x : Item) → BeginsWith c bytes x → ⊥)
ReadsItem c bytes (Err (errors.Stop Wrong)) = (IsBegun c bytes → ⊥) × ((x : Item) → BeginsWith c bytes x → ⊥)
