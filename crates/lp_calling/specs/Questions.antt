-- What jobs ask.
use Rattle.std.specs.Prelude.{◌≡◌, ⊤, ℕ, List, [], Option, Some, None, codes}
use Rattle.lp_values.specs.declared.id.ObjId.{ObjId}
use Rattle.lp_values.specs.declared.value.Value.{Value}
use Rattle.lp_language.specs.Course.{Apply, Asked, Course, Load, Other, State, Wanted}
use Rattle.lp_meaning.specs.Askers.{Asker, ask_value}
use Rattle.lp_meaning.specs.FileLoads.{load_value}
use Rattle.lp_calling.specs.declared.job.Applied.{Applied}
use Rattle.lp_calling.specs.declared.job.Applied.TheVariants as applies
use Rattle.lp_calling.specs.declared.job.Question.{Question}
use Rattle.lp_calling.specs.declared.job.Question.TheVariants as questions

-- the name of a function that is applied
abbrev pub applied_name : Applied → List ℕ
applied_name applies.CatchTell = codes "catch_tell"
applied_name applies.Init = codes "init"
applied_name applies.QueryAllowShadow = codes "query_allow_shadow"
applied_name applies.ValidRead = codes "valid_read"
applied_name applies.ValidWrite = codes "valid_write"

-- what is asked
abbrev pub asked_of : Question → Asked
asked_of (questions.Other o name) = Other o name
asked_of (questions.Apply o a) = Apply o (applied_name a)
asked_of (questions.Load name) = Load name Wanted

-- whom, where that is an object
abbrev pub object_of : Question → Option ObjId
object_of (questions.Other o name) = Some o
object_of (questions.Apply o a) = Some o
object_of (questions.Load name) = None

-- The course of a question: it is asked with these arguments, and the value is what was answered. Where an object is loaded, faults
-- of its file are an error.
abbrev pub question_course : Question → List Value → Asker → State → Course Value
question_course (questions.Other o name) args by s = ask_value (asked_of (questions.Other o name)) args by s
question_course (questions.Apply o a) args by s = ask_value (asked_of (questions.Apply o a)) args by s
question_course (questions.Load name) args by s = load_value by name s

-- an object is loaded without arguments
abbrev pub IsAskedWith : Question → List Value → Type 0
IsAskedWith (questions.Other o name) args = ⊤
IsAskedWith (questions.Apply o a) args = ⊤
IsAskedWith (questions.Load name) args = args ≡ []
