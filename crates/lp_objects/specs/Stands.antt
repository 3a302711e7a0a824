-- The table of objects stands for a list of all that were ever made.
use Rattle.std.specs.Prelude.{◌≡◌, ℕ, ◌+◌, ◌≤◌, List, length, Bool, true, false, not, ◌||◌, Option, Some, None, nat_eq, if◌then◌else◌}
use Rattle.std.specs.Option.{option_map}
use Rattle.std.specs.Ordering.{nat_cmp}
use Rattle.std.specs.BTreeMap.{get, get_by_text, btree_map_len}
use Rattle.std.specs.List.{list_any}
use Rattle.std.specs.Str.{chars, IsUtf8}
use Rattle.std.specs.String.{string_bytes}
use Rattle.std.specs.Vec.{vec_len, vec_capacity}
use Rattle.lp_values.specs.declared.id.ObjId.{ObjId}
use Rattle.lp_objects.specs.declared.fault.ObjectFault.{ObjectFault}
use Rattle.lp_objects.specs.declared.fault.ObjectFault.TheVariants.{NoMemory}
use Rattle.lp_values.specs.declared.id.ProgId.{ProgId}
use Rattle.lp_objects.specs.declared.objects.Entry.{Entry}
use Rattle.lp_objects.specs.declared.objects.Objects.{Objects}
use Rattle.lp_objects.specs.Objects.{Named, HasDistinctNames, lives, live_count, max_live, may_add, object_at, object_named, with_object}

-- the objects that died and are not forgotten, in the order of their deaths
abbrev pub died_in : Objects → List ObjId
died_in t = t.died.items

-- the number of the next clone
abbrev pub next_clone_in : Objects → ℕ
next_clone_in t = t.clones

-- the end of a counter
abbrev pub last_number : ℕ
last_number = 18446744073709551615

-- an entry as an object
abbrev pub named : Entry → Named
named e = record { name = chars (string_bytes e.name); program = e.program; is_live = e.is_live }

-- an entry after its object died
abbrev pub ended_entry : Entry → Entry
ended_entry e = record e { is_live = false }

-- whether a serial is among some
abbrev pub is_among : ℕ → List ObjId → Bool
is_among n os = list_any (λ o. nat_eq o.0 n) os

-- whether an object was made and is dead
abbrev pub is_dead : Option Named → Bool
is_dead None = false
is_dead (Some x) = not x.is_live

-- whether the name and the version of an object are still known: it is live, or it died and is not forgotten
abbrev pub is_known : Objects → List Named → ℕ → Bool
is_known t objects n = lives (object_at objects n) || is_among n (died_in t)

-- what is still known of an object
abbrev pub known_at : Objects → List Named → ℕ → Option Named
known_at t objects n = if is_known t objects n then object_at objects n else None

-- The table stands for the list: the next serial is its length; each name is found where a live object has it; what is
-- known is as in the list; live names differ, and there are no more live objects than there may be.
pub record Stands (t : Objects) (objects : List Named) : Type 0 where
  pub next : t.next ≡ length objects
  pub listed : (bs : List ℕ) → IsUtf8 bs → get_by_text t.serials bs ≡ object_named objects (chars bs)
  pub known : (n : ℕ) → option_map named (get nat_cmp t.entries n) ≡ known_at t objects n
  pub ended : (n : ℕ) → is_among n (died_in t) ≡ true → is_dead (object_at objects n) ≡ true
  pub distinct : HasDistinctNames objects
  pub count : btree_map_len t.serials ≡ live_count objects
  pub few : live_count objects ≤ max_live
  -- a death needs no memory: there is room for each live object among the dead
  pub room : btree_map_len t.serials + vec_len t.died ≤ vec_capacity t.died

-- whether a fault is want of memory
abbrev pub is_memory : ObjectFault → Bool
is_memory NoMemory = true
is_memory _ = false

-- an object was made: it might be, its serial is the next one, and it comes last
pub record IsAdded (t : Objects) (objects : List Named) (name : List ℕ) (program : ProgId) (id : ObjId) : Type 0 where
  pub may : may_add objects name ≡ None
  pub serial : id.0 ≡ length objects
  pub after : Stands t (with_object objects name program)

-- no object was made, for the reason that there is, or for want of memory where there is none
pub record IsNotAdded (t : Objects) (objects : List Named) (name : List ℕ) (fault : ObjectFault) : Type 0 where
  pub reason : may_add objects name ≡ (if is_memory fault then None else Some fault)
  pub after : Stands t objects
