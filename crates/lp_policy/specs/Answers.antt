-- What the master says of a path.
use Rattle.std.specs.Prelude.{ℕ, List, pos, if◌then◌else◌}
use Rattle.std.specs.Ordering.{int_eq}
use Rattle.lp_values.specs.declared.value.Value.{Value}
use Rattle.lp_values.specs.declared.value.Value.TheVariants.{Int, Str}
use Rattle.lp_policy.specs.declared.answer.Answer.{Answer}
use Rattle.lp_policy.specs.declared.answer.Answer.TheVariants as told

-- the path may not be used, it may, or another one is to be used in its place
pub data Leave : Type 0 where
  Denied : Leave
  Given : Leave
  Named : List ℕ → Leave

-- of the master's answer as it reads: 0 denies the path, a text names the one to use, and every other value gives it
abbrev pub answer_of : Value → Leave
answer_of (Int n) = if int_eq n (pos 0) then Denied else Given
answer_of (Str path) = Named path
answer_of _ = Given

-- an answer without where its text lies in memory
abbrev pub answered : Answer → Leave
answered told.Denied = Denied
answered told.Given = Given
answered (told.Named path) = Named path.now
