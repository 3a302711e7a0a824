-- Tests as jobs.
use Rattle.std.specs.Prelude.{◌≡◌, ◌+◌, ◌-◌, ◌*◌, ⊤, ℕ, suc, List, [], ◌∷◌, ◌++◌, ◌||◌, map, Bool, true, false, Option, Some, None, IfSome, option_map, Result, Ok, Err, String, string_bytes, nat_eq, slice_get, codes, if◌then◌else◌}
use Rattle.std.specs.declared.alloc.Global.{Global}
use Rattle.lp_events.specs.declared.item.Item.{Item}
use Rattle.lp_events.specs.Script.{IsScript}
use Rattle.lp_suite.specs.declared.suite.Entry.{Entry}
use Rattle.lp_suite.specs.declared.suite.Entry.TheVariants as entries
use Rattle.lp_verdicts.specs.declared.verdict.Verdict.{Verdict}
use Rattle.lp_verdicts.specs.Lines.{line_text}
use Rattle.lp_verdicts.specs.Verdicts.{HasVerdict}
use Rattle.lp_jobs.specs.declared.spawner.Ended.{Ended}
use Rattle.lp_jobs.specs.declared.spawner.SpawnError.{SpawnError}
use Rattle.lp_jobs.specs.declared.spawner.SpawnError.TheVariants as errors

-- a job: its number, the words that the program gets, and its input
pub record Job : Type 0 where
  pub number : ℕ
  pub words : List (List ℕ)
  pub input : List ℕ

abbrev pub job_of : ℕ → List (String Global) → List ℕ → Job
job_of number words input = record { number = number; words = map string_bytes words; input = input }

-- THE JOB OF A TEST of a script
abbrev pub test_job : ℕ → List ℕ → List ℕ → List ℕ → Job
test_job number path fun input = record { number = number; words = codes "one" ∷ path ∷ fun ∷ []; input = input }

-- a faulty file has none
abbrev pub job_if : ℕ → Entry → List ℕ → List Job
job_if number (entries.Faulty path) input = []
job_if number (entries.Test path fun) input = test_job number path fun input ∷ []

-- ALL TESTS as jobs, in order, each with its place from this one on as its number
abbrev pub jobs_from : ℕ → List Entry → List ℕ → List Job
jobs_from n [] input = []
jobs_from n (e ∷ es) input = job_if n e input ++ jobs_from (suc n) es input

-- the latest job with a number
abbrev pub later : Option Job → Option Job → Option Job
later (Some j) o = Some j
later None o = o

abbrev pub job_at : List Job → ℕ → Option Job
job_at [] n = None
job_at (j ∷ js) n = later (job_at js n) (if nat_eq j.number n then Some j else None)

-- What a job wrote is true: where it is the one test of a script, and that is a line of the test with a verdict, it is the test's verdict.
abbrev pub IsTrueOf : Job → List ℕ → Type 0
IsTrueOf j out =
    (xs : List Item) (path fun : List ℕ) (v : Verdict) → IsScript j.input xs → j.words ≡ codes "one" ∷ path ∷ fun ∷ [] → out ≡ line_text path fun v → HasVerdict xs path fun v

-- a job that ended with this status has carried out its test
abbrev pub is_carried_out : ℕ → Bool
is_carried_out status = nat_eq status 0 || nat_eq status 7

-- the answer for the latest job of its number is true, where that has carried out its test
abbrev pub IsTrueAnswer : List Job → Ended → Type 0
IsTrueAnswer jobs e = is_carried_out e.status ≡ true → IfSome (job_at jobs e.job) (λ j. IsTrueOf j e.out)

-- where the jobs are told
abbrev pub AnswersTruly : Option (List Job) → Ended → Type 0
AnswersTruly None e = ⊤
AnswersTruly (Some jobs) e = IsTrueAnswer jobs e

-- what is told of the jobs once more were handed over
abbrev pub after_starting : Option (List Job) → List Job → Option (List Job)
after_starting told more = option_map (λ jobs. jobs ++ more) told

-- a spawner tells its jobs, and what it answered is true
abbrev pub TellsTruth : Option (List Job) → Type 0 → Type 0
TellsTruth None true_answers = ⊥
TellsTruth (Some jobs) true_answers = true_answers

abbrev pub is_spawn_fault : Result Ended SpawnError → Bool
is_spawn_fault (Ok e) = false
is_spawn_fault (Err errors.Failed) = true
is_spawn_fault (Err errors.NoMemory) = false

-- what was written is a line of the test at a place, with this verdict
abbrev pub IsAnswerOf : Option Entry → List ℕ → Verdict → Type 0
IsAnswerOf (Some (entries.Test path fun)) out v = out ≡ line_text path fun v
IsAnswerOf (Some (entries.Faulty path)) out v = ⊥
IsAnswerOf None out v = ⊥

-- so where the job has carried out its test
abbrev pub IsVerdictIn : List Entry → Ended → Verdict → Type 0
IsVerdictIn es e v = (is_carried_out e.status ≡ true) × IsAnswerOf (slice_get es e.job) e.out v

-- the verdict of the test at a place, of the script that the input is
abbrev pub IsVerdictAt : Option Entry → List ℕ → Verdict → Type 0
IsVerdictAt (Some (entries.Test path fun)) input v = (xs : List Item) → IsScript input xs → HasVerdict xs path fun v
IsVerdictAt (Some (entries.Faulty path)) input v = ⊤
IsVerdictAt None input v = ⊤

-- THE VERDICTS ARE TRUE, each of the test at its place.
abbrev pub AreTrue : List Entry → List ℕ → List (Option Verdict) → Type 0
AreTrue es input vs = (i : ℕ) (v : Verdict) → slice_get vs i ≡ Some (Some v) → IsVerdictAt (slice_get es i) input v

-- the latest job of a place's number is its test
abbrev pub IsJobAt : Option Entry → ℕ → List ℕ → Option Job → Type 0
IsJobAt (Some (entries.Test path fun)) n input o = o ≡ Some (test_job n path fun input)
IsJobAt (Some (entries.Faulty path)) n input o = ⊤
IsJobAt None n input o = ⊤

abbrev pub HandsOver : List Job → List Entry → ℕ → List ℕ → Type 0
HandsOver jobs es n input = IsJobAt (slice_get es n) n input (job_at jobs n)

-- how much is left to do: of so many places some were passed, and so many jobs run
abbrev pub left : ℕ → ℕ → ℕ → ℕ
left places handed running = 2 * (places - handed) + running
