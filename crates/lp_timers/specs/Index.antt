-- Call-outs in order: all of them, those of each object, and those of each function of it.
use Rattle.std.specs.Prelude.{◌≡◌, ℕ, List, Bool, true, false, cond, nat_eq, ◌&&◌}
use Rattle.std.specs.Cmp.Lexicographic.{pointwise}
use Rattle.std.specs.Ordering.{is_eq}
use Rattle.std.specs.declared.ops.Bound.TheVariants.{Included, Excluded}
use Rattle.std.specs.BTreeMap.Range.{range_contains}
use Rattle.lp_timers.specs.declared.spot.Spot.{Spot}
use Rattle.lp_timers.specs.declared.index.Index.{Index}
use Rattle.lp_timers.specs.Spots.{spot_cmp, is_among}
use Rattle.lp_timers.specs.Functions.{spots_at}

-- all call-outs, as one group
abbrev pub all_in : Index → List Spot
all_in i = i.all.keys

-- the call-outs by objects
abbrev pub objects_in : Index → List Spot
objects_in i = i.objects.keys

-- those of a function, by objects
abbrev pub function_in : Index → List ℕ → List Spot
function_in i fun = spots_at i.functions fun

-- whether one spot is another
abbrev pub is_spot : Spot → Spot → Bool
is_spot a b = is_eq (spot_cmp a b)

-- whether a spot is one in the group of all
abbrev pub is_alike : Spot → Spot → Bool
is_alike a b = is_eq (spot_cmp (record { group = 0; due = a.due; number = a.number }) b)

-- one more is there, and all else as before
pub record HasAlsoIn (old new : Index) (fun : List ℕ) (spot : Spot) : Type 0 where
  pub all : (s : Spot) → is_among (all_in new) s ≡ cond (is_alike spot s) true (is_among (all_in old) s)
  pub objects : (s : Spot) → is_among (objects_in new) s ≡ cond (is_spot spot s) true (is_among (objects_in old) s)
  pub functions : (g : List ℕ) (s : Spot) → is_among (function_in new g) s ≡ cond (pointwise nat_eq fun g && is_spot spot s) true (is_among (function_in old g) s)

-- one is not there, and all else as before
pub record HasNotIn (old new : Index) (fun : List ℕ) (spot : Spot) : Type 0 where
  pub all : (s : Spot) → is_among (all_in new) s ≡ cond (is_alike spot s) false (is_among (all_in old) s)
  pub objects : (s : Spot) → is_among (objects_in new) s ≡ cond (is_spot spot s) false (is_among (objects_in old) s)
  pub functions : (g : List ℕ) (s : Spot) → is_among (function_in new g) s ≡ cond (pointwise nat_eq fun g && is_spot spot s) false (is_among (function_in old g) s)

-- the same ones are there
pub record HasSameIn (old new : Index) : Type 0 where
  pub all : (s : Spot) → is_among (all_in new) s ≡ is_among (all_in old) s
  pub objects : (s : Spot) → is_among (objects_in new) s ≡ is_among (objects_in old) s
  pub functions : (g : List ℕ) (s : Spot) → is_among (function_in new g) s ≡ is_among (function_in old g) s

-- a spot is not there, neither among all nor among those of its object
pub record IsNewIn (i : Index) (spot : Spot) : Type 0 where
  pub all : is_among (all_in i) (record { group = 0; due = spot.due; number = spot.number }) ≡ false
  pub objects : is_among (objects_in i) spot ≡ false

-- whether a spot of the group of all is due at a moment: it stands before the next one of that moment
abbrev pub is_due : ℕ → ℕ → Spot → Bool
is_due t next s = range_contains spot_cmp (Included (record { group = 0; due = 0; number = 0 })) (Excluded (record { group = 0; due = t; number = next })) s
