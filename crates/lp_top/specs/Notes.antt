-- What is noted of an item before the start.
use Rattle.std.specs.Prelude.{◌≡◌, ℕ, List, Option, Some, None, if◌then◌else◌}
use Rattle.std.specs.Str.{bytes_eq}
use Rattle.lp_events.specs.declared.item.Item.{Item}
use Rattle.lp_events.specs.declared.item.Item.TheVariants as items
use Rattle.lp_files.specs.declared.store.Store.{Store}
use Rattle.lp_files.specs.Store.{file_at}
use Rattle.lp_top.specs.declared.opening.Opening.{Opening}

-- the first of two, if there is one
abbrev pub first_of : Option (List ℕ) → Option (List ℕ) → Option (List ℕ)
first_of (Some a) o = Some a
first_of None o = o

-- the store has one more file, if it had none of this path
abbrev pub HasOneMore : Store → Store → List ℕ → List ℕ → Type 0
HasOneMore old new path bytes = (q : List ℕ) → file_at new q ≡ first_of (file_at old q) (if bytes_eq path q then Some bytes else None)

-- the head's numbers and the files are noted, and nothing else
abbrev pub Notes : Opening → Item → Opening → Type 0
Notes old (items.Head seed moment) new = (new.seed ≡ seed) × (new.moment ≡ moment) × (new.store ≡ old.store)
Notes old (items.File path bytes) new = (new.seed ≡ old.seed) × (new.moment ≡ old.moment) × HasOneMore old.store new.store path bytes
Notes old items.Start new = new ≡ old
Notes old (items.Event event) new = new ≡ old
Notes old items.End new = new ≡ old
