-- The store as a map of paths to bytes, and the paths that were written or removed since.
use Rattle.std.specs.Prelude.{◌≡◌, ℕ, List, Option, String, Vec, if◌then◌else◌}
use Rattle.std.specs.Global.{Global}
use Rattle.std.specs.Option.{option_map}
use Rattle.std.specs.BTreeMap.{BTreeMap, get_by_text}
use Rattle.std.specs.Str.{bytes_eq}
use Rattle.lp_files.specs.declared.store.Store.{Store}

-- the bytes at a path, where there is a file
abbrev pub bytes_at : BTreeMap (String Global) (Vec ℕ Global) → List ℕ → Option (List ℕ)
bytes_at files path = option_map (λ v. v.items) (get_by_text files path)

-- the bytes at a path, where the store has a file there
abbrev pub file_at : Store → List ℕ → Option (List ℕ)
file_at s path = bytes_at s.files path

-- the paths on the changed list
abbrev pub changed_in : Store → List (List ℕ)
changed_in s = s.changed

-- The new store has this at a path, and everywhere else what the old one has.
abbrev pub IsWith : Store → Store → List ℕ → Option (List ℕ) → Type 0
IsWith old new path bytes = (q : List ℕ) → file_at new q ≡ (if bytes_eq path q then bytes else file_at old q)

-- Both stores have the same files and the same changed list.
pub record IsSame (old new : Store) : Type 0 where
  pub files : (q : List ℕ) → file_at new q ≡ file_at old q
  pub changed : changed_in new ≡ changed_in old
