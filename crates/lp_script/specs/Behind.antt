-- What stands at a place of a script.
use Rattle.std.specs.Prelude.{◌≡◌, ℕ, ◌<◌, ◌≤◌, List, ◌++◌, length, drop, Bool, true, false, Result, Ok, Err, ◌⊎◌}
use Rattle.lp_events.specs.declared.item.Item.{Item}
use Rattle.lp_events.specs.Script.{Context, Fits, spelling, BeginsWith, IsBegun}
use Rattle.lp_script.specs.declared.behind.Refusal.{Refusal}
use Rattle.lp_script.specs.declared.behind.Refusal.TheVariants.{NoMemory, Bad, Large}

-- An item stands at a place and ends at another; or none does, and the bytes are bad there, or too many. The
-- bytes are the whole input, or as many as a script may have where the input goes on.
abbrev pub Behind : Context → List ℕ → Bool → ℕ → Result (Item × ℕ) Refusal → Type 0
Behind c bytes whole cut (Ok x) = Fits c x.0 × (x.1 ≤ length bytes) × (drop cut bytes ≡ spelling x.0 ++ drop x.1 bytes)
Behind c bytes whole cut (Err NoMemory) = Unit {0}
Behind c bytes whole cut (Err (Bad at)) = (at ≡ cut) × ((x : Item) → BeginsWith c (drop cut bytes) x → ⊥) × ((whole ≡ true) ⊎ ((cut < length bytes) × (IsBegun c (drop cut bytes) → ⊥)))
Behind c bytes whole cut (Err Large) = (whole ≡ false) × ((x : Item) → BeginsWith c (drop cut bytes) x → ⊥) × ((cut ≡ length bytes) ⊎ IsBegun c (drop cut bytes))
