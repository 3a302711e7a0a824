-- What was read of a script so far.
use Rattle.std.specs.Prelude.{◌≡◌, ℕ, ◌+◌, ◌≤◌, List, length, take}
use Rattle.lp_events.specs.declared.item.Item.{Item}
use Rattle.lp_events.specs.Script.{Context, beginning, after_items, AllFit, spellings}

-- Of bytes, of which a script may have this many, at most one more was taken; these items are spelled up to a
-- place, each fitting after those before it, and this stands before the next one.
pub record Stands (most : ℕ) (bytes taken : List ℕ) (xs : List Item) (cut : ℕ) (c : Context) : Type 0 where
  pub input : taken ≡ take (most + 1) bytes
  pub within : cut ≤ length (take most taken)
  pub spelled : take cut taken ≡ spellings xs
  pub fit : AllFit beginning xs
  pub before : c ≡ after_items beginning xs
