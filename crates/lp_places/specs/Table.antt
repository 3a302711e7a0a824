-- A table of links stands for a list of them: by the object from which a link goes, and by that to which it goes.
use Rattle.std.specs.Prelude.{◌≡◌, ⊤, ℕ, List, [], ◌∷◌, Bool, not, true, is_some, Option, Some, None, false, filter, nat_eq, if◌then◌else◌}
use Rattle.std.specs.Ordering.{nat_cmp}
use Rattle.std.specs.BTreeMap.{BTreeMap, get}
use Rattle.std.specs.List.{list_any}
use Rattle.std.specs.declared.vec.Vec.{Vec}
use Rattle.std.specs.declared.alloc.Global.{Global}
use Rattle.lp_values.specs.declared.id.ObjId.{ObjId}
use Rattle.lp_places.specs.declared.links.Links.{Links}
use Rattle.lp_places.specs.Places.{Lying, environment, inventory, is_object, next_at}

-- each object is at one place at most
abbrev pub IsOnce : List Lying → Type 0
IsOnce [] = ⊤
IsOnce (l ∷ ls) = (environment ls l.item ≡ None) × IsOnce ls

-- the objects of a list that there may be
abbrev pub items_in : Option (Vec ObjId Global) → List ObjId
items_in None = []
items_in (Some v) = v.items

-- the objects but one
abbrev pub all_but : ObjId → List ObjId → List ObjId
all_but o os = filter (λ x. not (is_object x o)) os

-- whether a serial is among some
abbrev pub is_among : ℕ → List ObjId → Bool
is_among n os = list_any (λ o. nat_eq o.0 n) os

-- whether a number is that of the object that there may be
abbrev pub is_number : Option ObjId → ℕ → Bool
is_number None n = false
is_number (Some o) n = nat_eq o.0 n

-- the place that an object leaves, where it goes to another one
abbrev pub left_for : Option ObjId → ObjId → Option ObjId
left_for None place = None
left_for (Some before) place = if is_object before place then None else Some before

-- which object is behind one, by what there may be of that
abbrev pub behind_in : Option (Option ObjId) → Option ObjId
behind_in None = None
behind_in (Some o) = o

-- the same with another object behind it, where there is an entry
abbrev pub with_behind : Option ObjId → Option (Option ObjId) → Option (Option ObjId)
with_behind behind None = None
with_behind behind (Some o) = Some behind

-- the object before another one in a list, where that is what came last before the list
abbrev pub before_in : Option ObjId → ObjId → List ObjId → Option ObjId
before_in last o [] = None
before_in last o (p ∷ ps) = if is_object p o then last else before_in (Some p) o ps

-- the object before another one in the list of the place that there may be
abbrev pub before_at : BTreeMap ℕ (Vec ObjId Global) → Option ObjId → ObjId → Option ObjId
before_at t None o = None
before_at t (Some place) o = before_in None o (items_in (get nat_cmp t place.0))

-- the first of some
abbrev pub first : List ObjId → Option ObjId
first [] = None
first (p ∷ ps) = Some p

-- the one behind it
abbrev pub second : List ObjId → Option ObjId
second [] = None
second (p ∷ ps) = first ps

-- The table stands for the links: it has the link from each object, with what is behind that object, and for each object those to it, the latest first.
pub record IsTable (t : Links) (links : List Lying) : Type 0 where
  pub forward : (n : ℕ) → get nat_cmp t.forward n ≡ environment links (record { 0 = n })
  pub behind : (n : ℕ) → behind_in (get nat_cmp t.behind n) ≡ next_at links (record { 0 = n })
  pub entries : (n : ℕ) → is_some (get nat_cmp t.forward n) ≡ true → is_some (get nat_cmp t.behind n) ≡ true
  pub backward : (n : ℕ) → items_in (get nat_cmp t.backward n) ≡ inventory links (record { 0 = n })
  pub once : IsOnce links
