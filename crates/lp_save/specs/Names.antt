-- Names and the lines that are for them, as they are found by hashing.
use Rattle.std.specs.Prelude.{ℕ, List, Bool, ◌&&◌, Option, map, bytes_eq, nat_eq, unwrap_or}
use Rattle.indexmap.specs.IndexMap.{IndexMap, get}
use Rattle.lp_values.specs.declared.value.Value.{Value}
use Rattle.lp_save.specs.declared.given.Place.{Place}
use Rattle.lp_save.specs.SaveText.{Line, lines_of}

-- how often a name came
abbrev pub times : {S : Type 0} → IndexMap (List ℕ) ℕ S → List ℕ → ℕ
times m q = unwrap_or (get bytes_eq m q) 0

-- the same name, and the same number of lines before
abbrev pub same_place : Place → Place → Bool
same_place a b = bytes_eq a.name b.name && nat_eq a.before b.before

-- the value of the k-th line of a name, from 0
abbrev pub found_at : {S : Type 0} → IndexMap Place Value S → List ℕ → ℕ → Option Value
found_at m q k = get same_place m (record { name = q; before = k })

-- the values of the lines of a name
abbrev pub values_of : List ℕ → List Line → List Value
values_of q ls = map (λ l. l.value) (lines_of q ls)
