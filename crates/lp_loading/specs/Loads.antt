-- Loads: what is left of the load of a file, by where it stands.
use Rattle.std.specs.Prelude.{◌≡◌, ℕ, suc, List, [], ◌∷◌, map, reverse}
use Rattle.lp_values.specs.declared.id.ProgId.{ProgId}
use Rattle.lp_language.specs.Course as course
use Rattle.lp_language.specs.Course.{Asked, Course, End, Gives, Stops, LoadKind, Over, Reply, State}
use Rattle.lp_language.specs.World.{object_at}
use Rattle.lp_meaning.specs.Askers.{Asker}
use Rattle.lp_meaning.specs.FileLoads.{after_load, reading, under_way, unless_there, with_simul}
use Rattle.lp_asking.specs.Asking.{loading_of}
use Rattle.lp_asking.specs.declared.asker.Loading.{Loading}
use Rattle.lp_loading.specs.Present.{all_made}
use Rattle.lp_loading.specs.declared.job.Going.{Going}
use Rattle.lp_loading.specs.declared.job.Going.TheVariants as goings
use Rattle.lp_loading.specs.declared.job.LoadJob.{LoadJob}
use Rattle.lp_loading.specs.declared.job.Purpose.{Purpose}
use Rattle.lp_loading.specs.declared.job.Purpose.TheVariants as purposes
use Rattle.lp_loading.specs.declared.job.Waiting.{Waiting}
use Rattle.lp_loading.specs.declared.job.Waiting.TheVariants as waitings

-- for what an object is loaded
abbrev pub kind_of : Purpose → LoadKind
kind_of purposes.Wanted = course.Wanted
kind_of purposes.Inherited = course.Inherited

-- what a load asks for: the load of the object with this name, for an `inherit`
abbrev pub asked_for : List ℕ → Asked
asked_for name = course.Load name course.Inherited

-- the loads under way, as the meaning has them: the innermost first, where the machine has it last
abbrev pub loads_of : List Loading → List course.Loading
loads_of ls = map loading_of (reverse ls)

-- how many loads for an `inherit` led to one behind these, the innermost last, or as many where there are none
abbrev pub last_nested : ℕ → List Loading → ℕ
last_nested n [] = n
last_nested n (l ∷ ls) = last_nested (suc l.nested) ls

-- The load is under way while it asks: it is the innermost.
abbrev pub IsUnderWay : LoadJob → List Loading → Asker → Type 0
IsUnderWay job loads by = (asker : Asker) × (by ≡ under_way asker job.name job.nested) × (by.loads ≡ loads_of loads)

-- The file is read, with these versions made for its parents so far. So many turns are left to it at most.
abbrev pub reading_on : ℕ → LoadJob → Asker → State → Course Reply
reading_on turns job by s = reading turns (kind_of job.purpose) by job.nested job.name (all_made job.made.items) s

-- it begins to be read
abbrev pub reading_first : LoadJob → Asker → State → Course Reply
reading_first job by s = reading_on (suc s.budget) job by s

-- it is read again, with the version of an object made for a parent
abbrev pub reading_again : ℕ → LoadJob → List ℕ → Asker → ProgId → State → Course Reply
reading_again turns job name by v s = reading turns (kind_of job.purpose) by job.nested job.name (record { name = name; version = v } ∷ all_made job.made.items) s

-- WHAT IS LEFT of a load that goes on. Where its file is to be read, so many turns are left at most.
abbrev pub going_course : ℕ → LoadJob → Going → Asker → State → Course Reply
going_course turns job goings.Simul by s = with_simul (kind_of job.purpose) by job.name s (λ s. reading_first job by s)
going_course turns job goings.Read by s = reading_on turns job by s

-- What is left behind an answer that it waits for, where nothing stopped.
abbrev pub given_course : ℕ → LoadJob → Waiting → Asker → Reply → State → Course Reply
given_course turns job waitings.Simul by r s = after_load r s (λ o s. unless_there job.name s (λ s. reading_first job by s))
given_course turns job (waitings.Parent name) by r s = after_load r s (λ o s. unless_there job.name s (reading_again turns job name by (object_at s.world o).version))

-- WHAT IS LEFT of a load that waits, behind an end of its question. A stop ends it.
abbrev pub waiting_course : ℕ → LoadJob → Waiting → Asker → End Reply → Course Reply
waiting_course turns job waiting by (Gives r s) = given_course turns job waiting by r s
waiting_course turns job waiting by (Stops x s) = Over (Stops x s)

-- how often it may still ask before the budget alone bounds it: it asks for the simul-efun object once at most, and first
abbrev pub turns_left : Going → ℕ
turns_left goings.Simul = 1
turns_left goings.Read = 0
