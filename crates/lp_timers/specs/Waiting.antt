-- The call-outs that wait, and which one is meant.
use Rattle.std.specs.Prelude.{ℕ, List, filter, nat_eq, Option, Some, None}
use Rattle.lp_values.specs.declared.id.ObjId.{ObjId}
use Rattle.lp_timers.specs.declared.call_out.Call.{Call}
use Rattle.lp_timers.specs.declared.call_out.CallOut as given
use Rattle.lp_timers.specs.declared.spot.Spot.{Spot}
use Rattle.lp_timers.specs.Timers.{CallOut, by_due, first_call_out, without_call_out}

-- the number of the next call-out, and those that wait, in order of making
pub record Waiting : Type 0 where
  pub next : ℕ
  pub call_outs : List CallOut

-- a call-out that is given out
abbrev pub call_out_of : given.CallOut → CallOut
call_out_of c = record { number = c.number; object = c.ob; function = c.fun; due = c.due; arguments = c.args.items }

-- a call-out that is kept at a number
abbrev pub call_from : ℕ → Call → CallOut
call_from number c = record { number = number; object = c.ob; function = c.fun; due = c.due; arguments = c.args.items }

-- the same of an entry
abbrev pub entry_call : ℕ × Call → CallOut
entry_call e = call_from e.0 e.1

-- the call-out with a number, if it waits
abbrev pub numbered : List CallOut → ℕ → Option CallOut
numbered cs number = first_call_out (filter (λ c. nat_eq c.number number) cs)

-- the earliest call-out of an object, if there is one
abbrev pub earliest_of : List CallOut → ObjId → Option CallOut
earliest_of cs o = first_call_out (by_due (filter (λ c. nat_eq c.object.0 o.0) cs))

-- the spot of a call-out in a group
abbrev pub spot_in : ℕ → CallOut → Spot
spot_in group c = record { group = group; due = c.due; number = c.number }

-- without one of them, if there is one
abbrev pub without_this : List CallOut → Option CallOut → List CallOut
without_this cs None = cs
without_this cs (Some c) = without_call_out cs c.number
