-- Lists of paths, by their bytes.
use Rattle.std.specs.Prelude.{◌≡◌, ℕ, ◌<◌, ◌≤◌, Bool, not, List, [], ◌∷◌, length, filter, slice_index_or}
use Rattle.std.specs.declared.cmp.Ordering.{Ordering}
use Rattle.std.specs.declared.cmp.Ordering.TheVariants.{Less, Equal, Greater}
use Rattle.std.specs.Ordering.{nat_cmp}
use Rattle.std.specs.Cmp.Lexicographic.{slice_cmp}
use Rattle.std.specs.List.{list_any}
use Rattle.std.specs.List.Sorted.{IsStrictlySortedBy}
use Rattle.std.specs.Str.{bytes_eq}

-- how a path stands to another, by their bytes
abbrev pub path_cmp : List ℕ → List ℕ → Ordering
path_cmp p q = slice_cmp nat_cmp p q

-- each path is below those after it
abbrev pub IsRising : List (List ℕ) → Type 0
IsRising ps = IsStrictlySortedBy path_cmp ps

-- whether a path is in a list
abbrev pub lists : List ℕ → List (List ℕ) → Bool
lists p ps = list_any (bytes_eq p) ps

-- one of three lists, by an order
abbrev pub by_order : Ordering → List (List ℕ) → List (List ℕ) → List (List ℕ) → List (List ℕ)
by_order Less less equal greater = less
by_order Equal less equal greater = equal
by_order Greater less equal greater = greater

-- a rising list with a path in its place: behind those below it, once
abbrev pub with_path : List ℕ → List (List ℕ) → List (List ℕ)
with_path p [] = p ∷ []
with_path p (q ∷ qs) = by_order (path_cmp q p) (q ∷ with_path p qs) (q ∷ qs) (p ∷ q ∷ qs)

-- a list without a path
abbrev pub without_path : List ℕ → List (List ℕ) → List (List ℕ)
without_path p ps = filter (λ q. not (bytes_eq p q)) ps

-- the path stands at place i
pub record IsAt (p : List ℕ) (ps : List (List ℕ)) (i : ℕ) : Type 0 where
  pub in_range : i < length ps
  pub has : slice_index_or ps i [] ≡ p

-- the path would go to place i: those before it are below it, and those from i on above it
pub record IsGapFor (p : List ℕ) (ps : List (List ℕ)) (i : ℕ) : Type 0 where
  pub in_range : i ≤ length ps
  pub below : (j : ℕ) → j < i → path_cmp (slice_index_or ps j []) p ≡ Less
  pub above : (j : ℕ) → i ≤ j → j < length ps → path_cmp (slice_index_or ps j []) p ≡ Greater
