-- How questions and jobs end, on the state.
use Rattle.std.specs.Prelude.{List, ◌≡◌}
use Rattle.lp_values.specs.declared.value.Value.{Value}
use Rattle.lp_code.specs.declared.program.RawProgram.{RawProgram}
use Rattle.lp_language.specs.Course.{End, Gives, Reply, State, Stops}
use Rattle.lp_asking.specs.declared.ending.Ending.{Ending}
use Rattle.lp_asking.specs.declared.ending.Ending.TheVariants as endings
use Rattle.lp_asking.specs.Endings.{IsReply, IsStop}

-- the state in which something ends
abbrev pub state_at : {A : Type 0} → End A → State
state_at (Gives x s) = s
state_at (Stops x s) = s

-- a question ends with a value, or with a stop, whose place is by numbers
abbrev pub IsValueEnd : List RawProgram → Ending → End Value → Type 0
IsValueEnd programs (endings.Value v) (Gives u s) = v ≡ u
IsValueEnd programs (endings.Value v) (Stops x s) = ⊥
IsValueEnd programs (endings.Stopped stop) (Gives u s) = ⊥
IsValueEnd programs (endings.Stopped stop) (Stops x s) = IsStop programs s.world stop x

-- and so does a job, with a plain value
abbrev pub IsReplyEnd : List RawProgram → Ending → End Reply → Type 0
IsReplyEnd programs (endings.Value v) (Gives r s) = IsReply v r
IsReplyEnd programs (endings.Value v) (Stops x s) = ⊥
IsReplyEnd programs (endings.Stopped stop) (Gives r s) = ⊥
IsReplyEnd programs (endings.Stopped stop) (Stops x s) = IsStop programs s.world stop x
