-- Jobs: what is still to be done for a new object, by where the job stands.
use Rattle.std.specs.Prelude.{ℕ, ◌-◌, ◌+◌, List, [], ◌∷◌, codes, drop, length}
use Rattle.lp_values.specs.declared.id.ObjId.{ObjId}
use Rattle.lp_values.specs.declared.value.Value.{Value}
use Rattle.lp_values.specs.declared.value.Value.TheVariants.{Obj}
use Rattle.lp_language.specs.Course as course
use Rattle.lp_language.specs.Course.{Apply, Asked, Course, End, Gives, Initialise, Over, Plain, Reply, State, Stops, and_then, gives, in_any_case}
use Rattle.lp_meaning.specs.Askers.{Asker, ask_value}
use Rattle.lp_meaning.specs.FileLoads.{begun_end, initialising}
use Rattle.lp_beginning.specs.declared.job.LoadKind.{LoadKind}
use Rattle.lp_beginning.specs.declared.job.LoadKind.TheVariants as kinds
use Rattle.lp_beginning.specs.declared.job.Making.{Making}
use Rattle.lp_beginning.specs.declared.job.Question.{Question}
use Rattle.lp_beginning.specs.declared.job.Question.TheVariants as questions

-- for what an object is made, as the meaning has it
abbrev pub kind_of : LoadKind → course.LoadKind
kind_of kinds.Wanted = course.Wanted
kind_of kinds.Inherited = course.Inherited

-- what is asked, without arguments
abbrev pub asked_of : Question → Asked
asked_of (questions.Initialise o part) = Initialise o part
asked_of (questions.Create o) = Apply o (codes "create")

-- `create` is applied to an object, which is the value then
abbrev pub creating : ObjId → Asker → State → Course Reply
creating o by s = and_then (ask_value (Apply o (codes "create")) [] by s) (λ v s. gives (Plain (Obj o)) s)

-- the initialisers of these parts run first
abbrev pub beginning_from : ObjId → List ℕ → Asker → State → Course Reply
beginning_from o parts by s = and_then (initialising by o parts s) (λ v s. creating o by s)

-- however that ends, an object that is made for an `inherit` comes of it, but where the budget is spent
abbrev pub made_from : LoadKind → ObjId → List ℕ → Asker → State → Course Reply
made_from kind o parts by s = in_any_case (beginning_from o parts by s) (λ e. Over (begun_end (kind_of kind) by o e))

-- the next question
abbrev pub next_of : ObjId → List ℕ → Question
next_of o [] = questions.Create o
next_of o (part ∷ parts) = questions.Initialise o part

-- and what follows its end
abbrev pub rest_from : LoadKind → ObjId → List ℕ → Asker → End Value → Course Reply
rest_from kind o [] by (Gives v s) = gives (Plain (Obj o)) s
rest_from kind o (part ∷ parts) by (Gives v s) = made_from kind o parts by s
rest_from kind o parts by (Stops x s) = Over (begun_end (kind_of kind) by o (Stops x s))

-- the parts of a job whose initialisers were not asked for yet
abbrev pub parts_left : Making → List ℕ
parts_left job = drop job.done job.parts.items

-- the course of a job, and what follows the end of its next question
abbrev pub course_of : Making → Asker → State → Course Reply
course_of job by s = made_from job.kind job.object (parts_left job) by s

abbrev pub rest_of : Making → Asker → End Value → Course Reply
rest_of job by e = rest_from job.kind job.object (parts_left job) by e

-- how many questions it asks at most
abbrev pub questions_left : Making → ℕ
questions_left job = length job.parts.items - job.done + 1
