-- Jobs of `clone_object`: what is still to be done, by where the job stands.
use Rattle.std.specs.Prelude.{◌≡◌, ◌<◌, ⊤, ℕ, List}
use Rattle.std.specs.Str.{chars}
use Rattle.std.specs.String.{string_bytes}
use Rattle.lp_values.specs.declared.value.Value.{Value}
use Rattle.lp_instr.specs.declared.efun.Efun.TheVariants as efuns
use Rattle.lp_language.specs.Course as course
use Rattle.lp_language.specs.Course.{Asked, Course, Gives, IsFaulty, IsSound, Load, Over, Plain, Reply, State, WasRead, and_then, value_in}
use Rattle.lp_meaning.specs.Askers.{Asker}
use Rattle.lp_meaning.specs.FileLoads.{as_target, cloning, load_value, loaded_value, object_reply}
use Rattle.lp_meaning.specs.Questions.{value_end}
use Rattle.lp_beginning.specs.declared.job.LoadKind.TheVariants as kinds
use Rattle.lp_beginning.specs.Jobs as making
use Rattle.lp_cloning.specs.declared.job.Answered.{Answered}
use Rattle.lp_cloning.specs.declared.job.Answered.TheVariants as answers
use Rattle.lp_cloning.specs.declared.job.Cloning.{Cloning}
use Rattle.lp_cloning.specs.declared.job.Cloning.TheVariants as stages
use Rattle.lp_cloning.specs.declared.job.Question.{Question}
use Rattle.lp_cloning.specs.declared.job.Question.TheVariants as questions

-- what is asked, without arguments
abbrev pub asked_of : Question → Asked
asked_of (questions.Load name) = Load (chars (string_bytes name)) course.Wanted
asked_of (questions.Make q) = making.asked_of q

-- the efun has its value: the price of that is paid
abbrev pub ended : Value → State → Course Value
ended v s = Over (value_end efuns.CloneObject v s)

-- a clone of what a load gave, which is to be a live object
abbrev pub clone_loaded : Asker → List ℕ → Value → State → Course Value
clone_loaded by name v s = as_target v s (λ o s. cloning by name o s)

-- The course at a stage, before the price of the value.
abbrev pub stage_course : Cloning → Asker → State → Course Value
stage_course (stages.Load name) by s = and_then (load_value by (chars (string_bytes name)) s) (clone_loaded by (chars (string_bytes name)))
stage_course (stages.Make job) by s = and_then (making.course_of job by s) object_reply

-- What follows the reply of a question that was asked at a stage.
abbrev pub stage_rest : Cloning → Asker → Reply → State → Course Value
stage_rest (stages.Load name) by r s = and_then (loaded_value (chars (string_bytes name)) r s) (clone_loaded by (chars (string_bytes name)))
stage_rest (stages.Make job) by r s = and_then (making.rest_of job by (Gives (value_in r) s)) object_reply

-- the course of a job, and what follows a reply; a stop of the question stops the job
abbrev pub course_of : Cloning → Asker → State → Course Value
course_of job by s = and_then (stage_course job by s) ended

abbrev pub rest_of : Cloning → Asker → Reply → State → Course Value
rest_of job by r s = and_then (stage_rest job by r s) ended

-- A clone is made for LPC, so that no stop is caught.
abbrev pub IsWanted : Cloning → Type 0
IsWanted (stages.Load name) = ⊤
IsWanted (stages.Make job) = job.kind ≡ kinds.Wanted

-- what a question was answered: a value, or the faults of a load
abbrev pub IsReply : Answered → Reply → Type 0
IsReply (answers.Value v) (Plain u) = v ≡ u
IsReply (answers.Value v) (WasRead items pragmas) = ⊥
IsReply (answers.Value v) IsSound = ⊥
IsReply (answers.Value v) (IsFaulty faults) = ⊥
IsReply (answers.Faults fs) (Plain u) = ⊥
IsReply (answers.Faults fs) (WasRead items pragmas) = ⊥
IsReply (answers.Faults fs) IsSound = ⊥
IsReply (answers.Faults fs) (IsFaulty faults) = fs.items ≡ faults

-- A job later on makes its object, and has fewer questions left where it made it before.
abbrev pub IsLater : Cloning → Cloning → Type 0
IsLater (stages.Load name) (stages.Load other) = ⊥
IsLater (stages.Load name) (stages.Make job) = ⊤
IsLater (stages.Make job) (stages.Load name) = ⊥
IsLater (stages.Make old) (stages.Make new) = making.questions_left new < making.questions_left old
