-- Commands as jobs: what a command still does, by where it stands.
use Rattle.std.specs.Prelude.{◌+◌, ◌<◌, ⊤, ℕ, List, [], ◌∷◌, Bool, true, false, codes, cond, drop, length, map, pos, reverse, if◌then◌else◌}
use Rattle.lp_values.specs.declared.id.ObjId.{ObjId}
use Rattle.lp_values.specs.declared.value.Value.{Value}
use Rattle.lp_values.specs.declared.value.Value.TheVariants.{Int}
use Rattle.lp_actions.specs.Actions.{Sentence}
use Rattle.lp_actions.specs.Stored.{sentence_of}
use Rattle.lp_language.specs.Course.{Apply, Asked, Course, End, Gives, Over, State, Stops, gives, in_any_case, zero_value}
use Rattle.lp_language.specs.Operations.{is_false}
use Rattle.lp_meaning.specs.Askers.{Asker, ask_value}
use Rattle.lp_meaning.specs.MovesAndCommands.{argument_value, trying, without_command}
use Rattle.lp_commanding.specs.declared.job.Commanding.{Commanding}
use Rattle.lp_commanding.specs.declared.job.Question.{Question}
use Rattle.lp_commanding.specs.declared.job.Question.TheVariants as questions

-- what is asked
abbrev pub asked_of : Question → Asked
asked_of (questions.Action giver name) = Apply giver name
asked_of (questions.CatchTell o) = Apply o (codes "catch_tell")

-- whom
abbrev pub object_of : Question → ObjId
object_of (questions.Action giver name) = giver
object_of (questions.CatchTell o) = o

-- it is asked with this argument
abbrev pub question_course : Question → Value → Asker → State → Course Value
question_course q argument by s = ask_value (asked_of q) (argument ∷ []) by s

-- the actions that are left, the next one first
abbrev pub actions_left : Commanding → List Sentence
actions_left job = map (sentence_of job.holder) (reverse job.left.items)

-- these actions are tried, one after another
abbrev pub trying_these : Commanding → List Sentence → Asker → State → Course Value
trying_these job actions by s = trying by job.holder (argument_value job.argument) actions s

-- Before the command is popped: its actions are tried. Once the object was told that none did it, the answer is 0.
abbrev pub before_end : Commanding → Asker → State → Course Value
before_end job by s = if job.is_told then gives zero_value s else trying_these job (actions_left job) by s

-- an answer that is not 0 ends the search with 1; else the further actions are tried
abbrev pub answered : Commanding → Asker → Value → State → Course Value
answered job by v s = if job.is_told then gives zero_value s else cond (is_false s v) (trying_these job (drop 1 (actions_left job)) by s) (gives (Int (pos 1)) s)

-- a course that ends with the command popped, whatever its end
abbrev pub popping : Course Value → Course Value
popping c = in_any_case c (λ e. Over (without_command e))

-- THE COURSE OF A COMMAND, and what follows the answer of a question.
abbrev pub course_of : Commanding → Asker → State → Course Value
course_of job by s = popping (before_end job by s)

abbrev pub rest_of : Commanding → Asker → Value → State → Course Value
rest_of job by v s = popping (answered job by v s)

-- what follows the end of a question: a stop of it stops the command
abbrev pub behind : Commanding → Asker → End Value → Course Value
behind job by (Gives v s) = rest_of job by v s
behind job by (Stops x s) = Over (without_command (Stops x s))

-- it may have asked: an action is left, or the object was told
abbrev pub IsAskingWith : Bool → ℕ → Type 0
IsAskingWith true n = ⊤
IsAskingWith false n = 0 < n

abbrev pub IsAsking : Commanding → Type 0
IsAsking job = IsAskingWith job.is_told (length job.left.items)

-- how many questions it asks at most, with one that it has asked
abbrev pub questions_left : Commanding → ℕ
questions_left job = length job.left.items + 1
