-- Objects that are known by their names.
use Rattle.std.proofs.Common.{◌≡◌, ◌<◌, ◌⊎◌, ◌+◌, ◌≤◌, inl, inr, arith, ℕ, zero, suc, Bool, true, false, List, Option, Some, None, refl, subst, length, map, slice_get, option_map, if◌then◌else◌}
use Rattle.std.proofs.lemmas.List.{length-map}
use Rattle.std.proofs.lemmas.Option.{slice_get-get_or, slice_get_within}
use Rattle.lp_cells.specs.Cells.{Store}
use Rattle.lp_objects.specs.Objects.{Named, object_at}
use Rattle.lp_objects.specs.Stands as names
use Rattle.lp_objects.specs.declared.objects.Objects.{Objects}
use Rattle.lp_swapfile.specs.Device.{Bytes}
use Rattle.lp_language.specs.World as world
use Rattle.lp_language.specs.World.{no_object}
use Rattle.lp_world.specs.Stands.{AreObjects, ObjectIs, Stands, named_of}
use Rattle.lp_world.specs.declared.live.Live.{Live}
use Rattle.lp_world.specs.declared.objects.Object.{Object}
use Rattle.lp_driver.specs.Knowing.{KnowsAll}

-- what has a name is known
pub name_known : (t : Objects) (objects : List Named) (n : ℕ) (name : List ℕ) → Some name ≡ option_map (λ x. x.name) (names.known_at t objects n) → names.is_known t objects n ≡ true
name_known t objects n name e = by (names.is_known t objects n) e
  where
    by : (b : Bool) → Some name ≡ option_map (λ x. x.name) (if b then object_at objects n else None) → b ≡ true
    by true e = refl
    by false e = cc

-- so are all below a number
abbrev pub KnownBelow : Live → ℕ → Type 0
KnownBelow live m = (n : ℕ) → n < m → (objects : List Named) → names.Stands live.names objects → names.is_known live.names objects n ≡ true

below_or : (n m : ℕ) → (n < m) ⊎ (m ≤ n)
below_or n zero = inr (omega arith)
below_or zero (suc m) = inl (omega arith)
below_or (suc n) (suc m) = by (below_or n m)
  where
    by : (n < m) ⊎ (m ≤ n) → (suc n < suc m) ⊎ (suc m ≤ suc n)
    by (inl a) = inl (omega (arith, a))
    by (inr a) = inr (omega (arith, a))

pub known_more : (live : Live) (m : ℕ) → KnownBelow live m → ((objects : List Named) → names.Stands live.names objects → names.is_known live.names objects m ≡ true) → KnownBelow live (m + 1)
known_more live m below here n lt objects h = by (below_or n m)
  where
    by : (n < m) ⊎ (m ≤ n) → names.is_known live.names objects n ≡ true
    by (inl a) = below n a objects h
    by (inr a) = let e : m ≡ n = omega (arith, lt, a) in subst (λ k. names.is_known live.names objects k ≡ true) e (here objects h)

pub known_less : (live : Live) (m k : ℕ) → KnownBelow live m → k ≤ m → KnownBelow live k
known_less live m k below le n lt objects h = below n (omega (arith, le, lt)) objects h

-- each object of the world has its row
rows_reach : (told : Option Bytes) (part whole : Store) (rows : List (Option Object)) (xs : List world.Object) (n : ℕ) → AreObjects told part whole rows xs → n < length xs → n < length rows
rows_reach told part whole rows xs n h lt = by (slice_get rows n) refl (h n)
  where
    by : (r : Option (Option Object)) → slice_get rows n ≡ r → ObjectIs told part whole n r (slice_get xs n) → n < length rows
    by (Some o) e i = slice_get_within rows n o e
    by None e i = absurd (subst (λ q. ObjectIs told part whole n None q) (slice_get-get_or xs n no_object lt) i)

pub all_known : (live : Live) → KnownBelow live (length live.objects) → KnowsAll live
all_known live known told programs w h n lt =
    known n (rows_reach told live.cells w.cells live.objects w.objects n h.objects (subst (λ k. n < k) (length-map w.objects named_of) lt)) (map named_of w.objects) h.names
