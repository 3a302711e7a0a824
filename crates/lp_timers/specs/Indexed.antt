-- What the index has of the call-outs that are kept.
use Rattle.std.specs.Prelude.{◌≡◌, ℕ, ◌<◌, List, Bool, false, nat_eq, ◌&&◌, Option, Some, None}
use Rattle.std.specs.Cmp.Lexicographic.{pointwise}
use Rattle.std.specs.Ordering.{nat_cmp}
use Rattle.std.specs.List.{AllByRecursion}
use Rattle.std.specs.List.Sorted.{IsStrictlySortedBy}
use Rattle.std.specs.Map.{keys_of, lookup}
use Rattle.std.specs.BTreeMap.{is_at}
use Rattle.lp_timers.specs.declared.spot.Spot.{Spot}
use Rattle.lp_timers.specs.declared.call_out.Call.{Call}
use Rattle.lp_timers.specs.declared.index.Index.{Index}
use Rattle.lp_timers.specs.Spots.{is_among}
use Rattle.lp_timers.specs.Index.{all_in, objects_in, function_in}

-- the call-out that is kept at a number
abbrev pub kept_at : List (ℕ × Call) → ℕ → Option Call
kept_at es n = lookup (is_at (nat_cmp n)) es

-- whether a call-out that may be there passes a test
abbrev pub passes : (Call → Bool) → Option Call → Bool
passes test None = false
passes test (Some c) = test c

-- whether a call-out stands at a spot: among all, among those of its object, and among those of a function
abbrev pub at_all : Spot → Call → Bool
at_all s c = nat_eq s.group 0 && nat_eq c.due s.due

-- among those of its object
abbrev pub at_object : Spot → Call → Bool
at_object s c = nat_eq c.ob.0 s.group && nat_eq c.due s.due

-- among those of a function
abbrev pub at_function : List ℕ → Spot → Call → Bool
at_function fun s c = pointwise nat_eq c.fun fun && (nat_eq c.ob.0 s.group && nat_eq c.due s.due)

-- The index has the spots of the call-outs that are kept, and no others; their numbers are below the next one.
pub record IsIndexed (next : ℕ) (es : List (ℕ × Call)) (i : Index) : Type 0 where
  pub all : (s : Spot) → is_among (all_in i) s ≡ passes (at_all s) (kept_at es s.number)
  pub objects : (s : Spot) → is_among (objects_in i) s ≡ passes (at_object s) (kept_at es s.number)
  pub functions : (fun : List ℕ) (s : Spot) → is_among (function_in i fun) s ≡ passes (at_function fun s) (kept_at es s.number)
  pub below : AllByRecursion (λ e. e.0 < next) es
  pub rising : IsStrictlySortedBy nat_cmp (keys_of es)
