-- Objects that arguments name, and objects as values, by which objects are live.
use Rattle.std.specs.Prelude.{◌≡◌, ℕ, ◌-◌, negsuc, pos, List, [], ◌∷◌, ◌++◌, Bool, false, not, Option, Some, None, filter, find, map, nat_eq, option_map, slice_get, if◌then◌else◌}
use Rattle.lp_values.specs.declared.id.CellId.{CellId}
use Rattle.lp_values.specs.declared.id.ObjId.{ObjId}
use Rattle.lp_values.specs.declared.value.Value.{Value}
use Rattle.lp_values.specs.declared.value.Value.TheVariants.{Int, Str, Arr, Map, Obj}
use Rattle.lp_values.specs.Read.{as_read}
use Rattle.lp_ops.specs.Operands.{Opened}
use Rattle.lp_meaning.specs.EfunArguments.{object_in}
use Rattle.lp_events.specs.declared.out.Out.TheVariants as outs
use Rattle.lp_world.specs.Connecting.{given_to}
use Rattle.lp_world.specs.declared.live.Live.{Live}
use Rattle.lp_world.specs.declared.objects.Object.{Object}
use Rattle.lp_world.specs.declared.versions.Version.{Version}
use Rattle.lp_world.specs.Rows.{row_at, version_path}
use Rattle.lp_efuns.specs.declared.answer.Did.{Did}
use Rattle.lp_efuns.specs.declared.answer.Did.TheVariants as did

-- an object, or none, as a value: one that is not live reads as 0
abbrev pub object_read : (ObjId → Bool) → Option ObjId → Value
object_read live None = Int (pos 0)
object_read live (Some o) = as_read live (Obj o)

-- this object, where it is live
abbrev pub this_live : (ObjId → Bool) → ObjId → Option ObjId
this_live live this = if live this then Some this else None

-- the object of an argument; a missing one is this object
abbrev pub subject : (ObjId → Bool) → ObjId → List Opened → ℕ → Option ObjId
subject live this xs n = elim (slice_get xs n) [ Some x ↦ object_in x | None ↦ this_live live this ]

-- whether a row is that of a living object
abbrev pub is_living_row : Option Object → Bool
is_living_row None = false
is_living_row (Some o) = o.is_living

-- the mapping that a value is
abbrev pub mapping_in : Value → Option CellId
mapping_in (Int n) = None
mapping_in (Str s) = None
mapping_in (Arr c) = None
mapping_in (Map c) = Some c
mapping_in (Obj o) = None

-- the same, where there is a value
abbrev pub mapping_in_option : Option Value → Option CellId
mapping_in_option None = None
mapping_in_option (Some v) = mapping_in v

-- and an argument
abbrev pub mapping_arg : List Value → ℕ → Option CellId
mapping_arg vs n = mapping_in_option (slice_get vs n)

-- the seconds from a clock to a moment, or -1 where there is none
abbrev pub seconds_from : ℕ → Option ℕ → Value
seconds_from clock None = Int (negsuc 0)
seconds_from clock (Some due) = Int (pos (due - clock))

-- the connection of an object, if it has one
abbrev pub number_of : Live → ObjId → Option ℕ
number_of live o = option_map (λ c. c.number) (find (λ c. nat_eq c.object.0 o.0) live.connections.opened)

-- it is closed, and told so
abbrev pub hung_up : Live → Option ℕ → Live
hung_up live None = live
hung_up live (Some k) = record live {
  outputs = live.outputs ++ outs.Close k ∷ [];
  connections = record { opened = filter (λ c. not (nat_eq c.number k)) live.connections.opened; highest = live.connections.highest; present = live.connections.present; waiting = filter (λ x. not (nat_eq x.connection k)) live.connections.waiting };
}

-- the state after that
abbrev pub IsHungUp : Live → ObjId → Live → Type 0
IsHungUp live0 o live1 = live1 ≡ hung_up live0 (number_of live0 o)

-- a connection goes to an object
abbrev pub handed : Live → ℕ → ObjId → Live
handed live k o = record live {
  connections = record { opened = map (given_to o k) live.connections.opened; highest = live.connections.highest; present = live.connections.present; waiting = live.connections.waiting };
}

-- unless that has one: 1, or 0
abbrev pub IsGivenTo : Option ℕ → Live → ℕ → ObjId → Did → Live → Type 0
IsGivenTo None live0 k o d live1 = (d ≡ did.Value (Int (pos 1))) × (live1 ≡ handed live0 k o)
IsGivenTo (Some j) live0 k o d live1 = (d ≡ did.Value (Int (pos 0))) × (live1 ≡ live0)

abbrev pub IsGivenUnless : Live → ℕ → ObjId → Did → Live → Type 0
IsGivenUnless live0 k o d live1 = IsGivenTo (number_of live0 o) live0 k o d live1

-- the path of the file from which the version of an object was compiled
abbrev pub path_of_row : List (Option Version) → Option Object → Option (List ℕ)
path_of_row versions None = None
path_of_row versions (Some o) = version_path (row_at versions o.program.0)

abbrev pub path_at : Live → ObjId → Option (List ℕ)
path_at live o = path_of_row live.versions (row_at live.objects o.0)
