-- In which state a stop goes on.
use Rattle.std.proofs.Common.{◌≡◌, ◌∷◌, [], List, Option, Some, None, ap, sym}
use Rattle.lp_values.specs.declared.value.Value.{Value}
use Rattle.lp_instr.specs.Code.{Catching}
use Rattle.lp_language.specs.Course.{State, Stop}
use Rattle.lp_isa.specs.Machine.{Moment, Next, Goes, Ended, Awaits, Wrong, stop_at}

abbrev state_or : State → Next → State
state_or s (Goes m) = m.state
state_or s (Ended e) = s
state_or s (Awaits a k) = s
state_or s Wrong = s

pub stop_state : (o : Option Value) (x : Stop) (catches : List Catching) (stack : List Value) (s : State) (at : Moment) → stop_at o x catches stack s ≡ Goes at → at.state ≡ s
stop_state None x catches stack s at e = sym (ap (state_or s) e)
stop_state (Some v) x [] stack s at e = sym (ap (state_or s) e)
stop_state (Some v) x (c ∷ cs) stack s at e = sym (ap (state_or s) e)
