-- The end of an object.
use Rattle.std.specs.Prelude.{ℕ, Bool, false, ◌||◌, Option, Some, None, filter, nat_eq, not}
use Rattle.std.specs.Ordering.{nat_cmp}
use Rattle.std.specs.BTreeMap.{get}
use Rattle.lp_values.specs.declared.id.ObjId.{ObjId}
use Rattle.lp_places.specs.Places.{is_at, is_object}
use Rattle.lp_places.specs.declared.places.Places.{Places}
use Rattle.lp_timers.specs.Timers.{beat_off, call_outs_without, watches_without}
use Rattle.lp_timers.specs.Timing.{Timing}
use Rattle.lp_world.specs.Connecting.{Connecting}

-- what is to come without what is of an object
abbrev pub timing_without : Timing → ObjId → Timing
timing_without t o = record { next = t.next; call_outs = call_outs_without t.call_outs o; beats = beat_off t.beats o; watches = watches_without t.watches o }

-- connections without one of them
abbrev pub without_number : Connecting → Option ℕ → Connecting
without_number c None = c
without_number c (Some k) = record { opened = filter (λ x. not (nat_eq x.number k)) c.opened; highest = c.highest; present = c.present; waiting = filter (λ x. not (nat_eq x.connection k)) c.waiting }

-- where the table of places has an object
abbrev pub place_in : Places → ObjId → Option ObjId
place_in t o = get nat_cmp t.lyings.forward o.0

-- who is in reach of whom, where both are
abbrev pub is_beside : Option ObjId → Option ObjId → ObjId → Bool
is_beside None place giver = false
is_beside (Some e) place giver = is_object giver e || is_at place e

abbrev pub reaches_by : Option ObjId → Option ObjId → ObjId → ObjId → Bool
reaches_by around place holder giver = is_object giver holder || is_at place holder || is_beside around place giver

abbrev pub reached_in : Places → ObjId → ObjId → Bool
reached_in t holder giver = reaches_by (place_in t holder) (place_in t giver) holder giver
