-- What the driver does where its calls end.
use Rattle.std.specs.Prelude.{◌≡◌, ◌++◌, ◌∷◌, ℕ, List, Option, Bool, true, false}
use Rattle.lp_values.specs.declared.id.ObjId.{ObjId}
use Rattle.lp_values.specs.declared.value.Value.{Value}
use Rattle.lp_code.specs.declared.program.RawProgram.{RawProgram}
use Rattle.lp_events.specs.declared.out.Out.{Out}
use Rattle.lp_swapfile.specs.Device.{Bytes}
use Rattle.lp_language.specs.World.{World}
use Rattle.lp_language.specs.Course as course
use Rattle.lp_language.specs.Course.{Answer, Course, State, gives}
use Rattle.lp_meaning.specs.Askers as askers
use Rattle.lp_meaning.specs.EventTurns.{Done, notice}
use Rattle.lp_world.specs.declared.live.Live.{Live}
use Rattle.lp_world.specs.Stands.{Stands}
use Rattle.lp_asking.specs.Endings.{IsStop}
use Rattle.lp_asking.specs.declared.ending.Ending.TheVariants as endings
use Rattle.lp_asking.specs.declared.ending.Stop.{Stop}
use Rattle.lp_turn.specs.Calls.{IsEndOf, load_course, value_course}
use Rattle.lp_turn.specs.Resting.{Rests}
use Rattle.lp_turn.specs.declared.job.CallEnd.{CallEnd}
use Rattle.lp_turn.specs.declared.job.CallEnd.TheVariants as ends

-- A record and what the player is told are the next outputs, and nothing else changed.
abbrev pub TellsBoth : Option ObjId → Out → Live → Live → Type 0
TellsBoth player out old new =
    (told : Option Bytes) (programs : List RawProgram) (w : World) → Stands told programs old w → new ≡ record old { outputs = old.outputs ++ (out ∷ notice w player) }

-- An uncaught end was told: for each world for which the state stood it stands still, and the outputs are those of the meaning.
abbrev pub Tells : Option ObjId → Stop → Option Bytes → Live → Option Bytes → Live → Type 0
Tells player stop told0 old told1 new =
    (programs : List RawProgram) (w : World) (x : course.Stop) → Stands told0 programs old w → IsStop programs w stop x
    → Stands told1 programs new w × (new.outputs ≡ old.outputs ++ (askers.error_record x ∷ notice w player))

-- whether an end was uncaught
abbrev pub is_uncaught : CallEnd → Bool
is_uncaught (ends.Ended (endings.Value v)) = false
is_uncaught (ends.Ended (endings.Stopped x)) = true
is_uncaught (ends.Faulty fs) = false

-- a course gives the driver a value in a state for which the live state stands, and tells whether the end was uncaught
pub record GivesValue (told : Option Bytes) (programs : List RawProgram) (before : List Out) (live : Live) (v : Value) (uncaught : Bool) (c : Course Done) : Type 0 where
  pub done : Done
  pub value : done.value ≡ v
  pub end : done.is_uncaught ≡ uncaught
  pub state : State
  pub rests : Rests told programs before live state
  pub course : c ≡ gives done state

-- WHAT A CALL GIVES THE DRIVER where it ends so: from each state behind an answer that this end is, for which the live state stood.
abbrev pub HasValueOf : Option ObjId → CallEnd → Option Bytes → Live → Option Bytes → Live → Value → Type 0
HasValueOf player end told0 old told1 new v =
    (programs : List RawProgram) (before : List Out) (a : Answer) (s : State) → Rests told0 programs before old s → IsEndOf programs s.world end a
    → GivesValue told1 programs before new v (is_uncaught end) (value_course player a s)

-- and the load of an object, of whose value nothing is said
pub record IsLoaded (told : Option Bytes) (programs : List RawProgram) (before : List Out) (live : Live) (c : Course Done) : Type 0 where
  pub done : Done
  pub state : State
  pub rests : Rests told programs before live state
  pub course : c ≡ gives done state

abbrev pub IsLoadEnd : List ℕ → CallEnd → Option Bytes → Live → Option Bytes → Live → Type 0
IsLoadEnd name end told0 old told1 new =
    (programs : List RawProgram) (before : List Out) (a : Answer) (s : State) → Rests told0 programs before old s → IsEndOf programs s.world end a
    → IsLoaded told1 programs before new (load_course name a s)
