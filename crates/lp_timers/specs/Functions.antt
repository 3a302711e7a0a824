-- Call-outs by the names of their functions.
use Rattle.std.specs.Prelude.{◌≡◌, ℕ, List, [], true, false, cond, nat_eq, ◌&&◌, Option, Some, None}
use Rattle.std.specs.Cmp.Lexicographic.{pointwise}
use Rattle.std.specs.Ordering.{is_eq}
use Rattle.std.specs.BTreeSet.{BTreeSet}
use Rattle.std.specs.HashMap.{get}
use Rattle.lp_timers.specs.declared.spot.Spot.{Spot}
use Rattle.lp_timers.specs.declared.functions.Functions.{Functions}
use Rattle.lp_timers.specs.Spots.{spot_cmp, is_among}

-- those of a set, if there is one
abbrev pub keys_or_none : Option (BTreeSet Spot) → List Spot
keys_or_none None = []
keys_or_none (Some s) = s.keys

-- the call-outs of a function
abbrev pub spots_at : Functions → List ℕ → List Spot
spots_at f fun = keys_or_none (get (pointwise nat_eq) f.spots fun)

-- one more is there, and all else as before
abbrev pub HasAlso : Functions → Functions → List ℕ → Spot → Type 0
HasAlso old new fun spot = (g : List ℕ) (s : Spot) → is_among (spots_at new g) s ≡ cond (pointwise nat_eq fun g && is_eq (spot_cmp spot s)) true (is_among (spots_at old g) s)

-- one is not there, and all else as before
abbrev pub HasNot : Functions → Functions → List ℕ → Spot → Type 0
HasNot old new fun spot = (g : List ℕ) (s : Spot) → is_among (spots_at new g) s ≡ cond (pointwise nat_eq fun g && is_eq (spot_cmp spot s)) false (is_among (spots_at old g) s)

-- the same ones are there
abbrev pub HasSame : Functions → Functions → Type 0
HasSame old new = (g : List ℕ) (s : Spot) → is_among (spots_at new g) s ≡ is_among (spots_at old g) s
