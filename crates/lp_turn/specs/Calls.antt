-- Calls of the driver, and how they end.
use Rattle.std.specs.Prelude.{◌≡◌, ⊤, ℕ, List, Option, None, IsSome}
use Rattle.lp_tree.specs.declared.fault.Fault.{Fault}
use Rattle.lp_values.specs.declared.id.ObjId.{ObjId}
use Rattle.lp_cells.specs.Cells.{Store}
use Rattle.lp_code.specs.declared.program.RawProgram.{RawProgram}
use Rattle.lp_language.specs.World.{World}
use Rattle.lp_language.specs.Course as course
use Rattle.lp_language.specs.Course.{Answer, Ask, Course, IsFaulty, IsSound, Outcome, Over, Plain, Reply, Returned, State, WasRead, after, and_then, end_of_answer, end_of_reply, in_any_case}
use Rattle.lp_meaning.specs.Askers.{driver, question}
use Rattle.lp_meaning.specs.EventTurns.{Done, begun, call_end}
use Rattle.lp_meaning.specs.FileLoads.{loaded_value}
use Rattle.lp_world.specs.Rows.{row_at}
use Rattle.lp_world.specs.declared.objects.Object.{Object}
use Rattle.lp_asking.specs.Endings.{IsAnswer, IsEndingThere}
use Rattle.lp_turn.specs.declared.job.Asked.{Asked}
use Rattle.lp_turn.specs.declared.job.Asked.TheVariants as asks
use Rattle.lp_turn.specs.declared.job.Call.{Call}
use Rattle.lp_turn.specs.declared.job.CallEnd.{CallEnd}
use Rattle.lp_turn.specs.declared.job.CallEnd.TheVariants as ends

-- what is asked
abbrev pub asked_of : Asked → course.Asked
asked_of (asks.Apply o name) = course.Apply o name
asked_of (asks.Command o line) = course.Command o line
asked_of (asks.Load name) = course.Load name course.Wanted

-- A CALL OF THE DRIVER asks for its `this_player()` and its `this_interactive()`, with the full budget and no running command.
abbrev pub question_of : Call → State → Ask
question_of c s = question (asked_of c.asked) c.arguments.items (driver c.interactive) (begun c.player s)

-- the state behind an outcome of it
abbrev pub state_behind : Call → State → Outcome → State
state_behind c s o = after (begun c.player s) o

-- An object whose function is called is there.
abbrev pub IsAskedThere : List (Option Object) → Asked → Type 0
IsAskedThere objects (asks.Apply o name) = IsSome (row_at objects o.0)
IsAskedThere objects (asks.Command o line) = ⊤
IsAskedThere objects (asks.Load name) = ⊤

-- A call ended as its question was answered: with a value, with a stop, or with faults.
abbrev pub AreFaultsOf : List Fault → Reply → Type 0
AreFaultsOf fs (Plain v) = ⊥
AreFaultsOf fs (WasRead items pragmas) = ⊥
AreFaultsOf fs IsSound = ⊥
AreFaultsOf fs (IsFaulty gs) = fs ≡ gs

abbrev pub IsEndOf : List RawProgram → World → CallEnd → Answer → Type 0
IsEndOf programs w (ends.Ended e) a = IsAnswer programs w e a
IsEndOf programs w (ends.Faulty fs) (Returned r) = AreFaultsOf fs.items r
IsEndOf programs w (ends.Faulty fs) (course.Stopped x) = ⊥

-- a value with which it ended is there
abbrev pub IsCallEndThere : Store → CallEnd → Type 0
IsCallEndThere cells (ends.Ended e) = IsEndingThere cells e
IsCallEndThere cells (ends.Faulty fs) = ⊤

-- What a call gives the driver: its value, or 0 where its end was uncaught.
abbrev pub value_course : Option ObjId → Answer → State → Course Done
value_course player a s = Over (call_end player (end_of_answer a s))

-- What the load of an object gives the driver: its faults are an error.
abbrev pub load_course : List ℕ → Answer → State → Course Done
load_course name a s = in_any_case (and_then (Over (end_of_reply a s)) (λ r s. loaded_value name r s)) (λ e. Over (call_end None e))
