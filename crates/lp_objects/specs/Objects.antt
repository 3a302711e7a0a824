-- The objects that were ever made: the n-th, from 0, has the serial n. Nothing is removed from this list.
use Rattle.std.specs.Prelude.{◌≡◌, ℕ, zero, suc, ◌+◌, ◌==◌, List, [], ◌∷◌, ◌++◌, Bool, true, false, ◌&&◌, Option, Some, None, is_some, slice_get, nat_eq, if◌then◌else◌}
use Rattle.std.specs.Cmp.Lexicographic.{pointwise}
use Rattle.lp_values.specs.declared.id.ObjId.{ObjId}
use Rattle.lp_values.specs.declared.id.ProgId.{ProgId}
use Rattle.lp_objects.specs.declared.fault.ObjectFault.{ObjectFault}
use Rattle.lp_objects.specs.declared.fault.ObjectFault.TheVariants.{NameTaken, TooMany}

-- an object: its name by code points, its version of a program, and whether it is live
pub record Named : Type 0 where
  pub name : List ℕ
  pub program : ProgId
  pub is_live : Bool

-- how many objects may be live
abbrev pub max_live : ℕ
max_live = 100000

-- whether an object is live and has a name
abbrev pub bears : List ℕ → Named → Bool
bears name x = x.is_live && pointwise nat_eq x.name name

-- the live object with a name, in a list whose first has the serial n
abbrev pub named_from : List ℕ → ℕ → List Named → Option ObjId
named_from name n [] = None
named_from name n (x ∷ xs) = if bears name x then Some (record { 0 = n }) else named_from name (suc n) xs

-- the live object with a name
abbrev pub object_named : List Named → List ℕ → Option ObjId
object_named objects name = named_from name 0 objects

-- the object with a serial, if one was made
abbrev pub object_at : List Named → ℕ → Option Named
object_at objects n = slice_get objects n

-- whether there is an object, and it is live
abbrev pub lives : Option Named → Bool
lives None = false
lives (Some x) = x.is_live

-- which objects are live
abbrev pub is_live : List Named → ObjId → Bool
is_live objects o = lives (object_at objects o.0)

-- how many objects are live
abbrev pub live_count : List Named → ℕ
live_count [] = 0
live_count (x ∷ xs) = (if x.is_live then 1 else 0) + live_count xs

-- a new object comes last and is live
abbrev pub with_object : List Named → List ℕ → ProgId → List Named
with_object objects name program = objects ++ record { name = name; program = program; is_live = true } ∷ []

-- what a death leaves of an object: its name and its version
abbrev pub dead : Named → Named
dead x = record x { is_live = false }

-- a live object dies, and keeps its place
abbrev pub killed_from : ℕ → List Named → List Named
killed_from n [] = []
killed_from zero (x ∷ xs) = dead x ∷ xs
killed_from (suc n) (x ∷ xs) = x ∷ killed_from n xs

abbrev pub killed : List Named → ObjId → List Named
killed objects o = killed_from o.0 objects

-- No two live objects have one name.
abbrev pub HasDistinctNames : List Named → Type 0
HasDistinctNames objects = (n m : ℕ) (x y : Named) → object_at objects n ≡ Some x → object_at objects m ≡ Some y → x.is_live ≡ true → y.is_live ≡ true → x.name ≡ y.name → n ≡ m

-- Whether an object with a name may be made, and else the first of two reasons: a live object has the name; there are
-- as many live ones as there may be.
abbrev pub may_add : List Named → List ℕ → Option ObjectFault
may_add objects name =
    if is_some (object_named objects name) then Some NameTaken
    else (if live_count objects == max_live then Some TooMany else None)
