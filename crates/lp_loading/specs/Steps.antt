-- What a load does next, beside its course; and how it hands an object over that is made for it.
use Rattle.std.specs.Prelude.{◌≡◌, ⊤, List, Option, IsSome}
use Rattle.lp_cells.specs.Cells.{Store}
use Rattle.lp_world.specs.declared.objects.Object.{Object}
use Rattle.lp_world.specs.Rows.{variables_at}
use Rattle.lp_asking.specs.declared.ending.Ending.{Ending}
use Rattle.lp_asking.specs.declared.ending.Ending.TheVariants as endings
use Rattle.lp_beginning.specs.declared.fault.MakingFault.{MakingFault}
use Rattle.lp_beginning.specs.declared.fault.MakingFault.TheVariants as makings
use Rattle.lp_beginning.specs.declared.job.Begun.{Begun}
use Rattle.lp_beginning.specs.declared.job.Begun.TheVariants as begun
use Rattle.lp_beginning.specs.declared.job.LoadKind.{LoadKind}
use Rattle.lp_beginning.specs.declared.job.LoadKind.TheVariants as kinds
use Rattle.lp_loading.specs.Going.{IsAnswerThere}
use Rattle.lp_loading.specs.Loads.{turns_left}
use Rattle.lp_loading.specs.declared.job.Answer.{Answer}
use Rattle.lp_loading.specs.declared.job.Answer.TheVariants as answers
use Rattle.lp_loading.specs.declared.job.Fed.{Fed}
use Rattle.lp_loading.specs.declared.job.Fed.TheVariants as fed
use Rattle.lp_loading.specs.declared.job.Going.{Going}
use Rattle.lp_loading.specs.declared.job.Going.TheVariants as goings
use Rattle.lp_loading.specs.declared.job.LoadFault.{LoadFault}
use Rattle.lp_loading.specs.declared.job.LoadFault.TheVariants as faults
use Rattle.lp_loading.specs.declared.job.LoadJob.{LoadJob}
use Rattle.lp_loading.specs.declared.job.Purpose.{Purpose}
use Rattle.lp_loading.specs.declared.job.Purpose.TheVariants as purposes
use Rattle.lp_loading.specs.declared.job.Step.{Step}
use Rattle.lp_loading.specs.declared.job.Step.TheVariants as steps
use Rattle.lp_loading.specs.declared.job.Waiting.TheVariants as waitings

-- Objects

-- for what the job of an object makes it
abbrev pub making_kind : Purpose → LoadKind
making_kind purposes.Wanted = kinds.Wanted
making_kind purposes.Inherited = kinds.Inherited

-- what a load is answered whose object ended so
abbrev pub answer_of : Ending → Answer
answer_of (endings.Value v) = answers.Value v
answer_of (endings.Stopped stop) = answers.Stopped stop

-- what it does next whose object began so
abbrev pub step_of : Begun → Step
step_of (begun.Ends ending) = steps.Ends (answer_of ending)
step_of (begun.Runs making) = steps.Makes making

-- why it is not carried out whose object was not made: for want of memory too where the name is taken
abbrev pub fault_of : MakingFault → LoadFault
fault_of makings.NameTaken = faults.NoMemory
fault_of (makings.Swap cause) = faults.Swap cause
fault_of makings.NoMemory = faults.NoMemory

-- Steps

-- the simul-efun object is asked for only where a turn is left for that
abbrev pub AsksInOrder : Going → Step → Type 0
AsksInOrder going (steps.Asks name waitings.Simul) = turns_left going ≡ 1
AsksInOrder going (steps.Asks name (waitings.Parent parent)) = ⊤
AsksInOrder going (steps.Makes making) = ⊤
AsksInOrder going (steps.Ends a) = ⊤

-- an object that was made is in memory
abbrev pub MakesHome : List (Option Object) → Step → Type 0
MakesHome objects (steps.Asks name waiting) = ⊤
MakesHome objects (steps.Makes making) = IsSome (variables_at objects making.object)
MakesHome objects (steps.Ends a) = ⊤

-- and was made for this
abbrev pub MakesFor : Purpose → Step → Type 0
MakesFor purpose (steps.Asks name waiting) = ⊤
MakesFor purpose (steps.Makes making) = making.kind ≡ making_kind purpose
MakesFor purpose (steps.Ends a) = ⊤

-- It asks for a parent, or ends with faults of its file.
abbrev pub AsksOrFails : Step → Type 0
AsksOrFails (steps.Asks name waitings.Simul) = ⊥
AsksOrFails (steps.Asks name (waitings.Parent parent)) = ⊤
AsksOrFails (steps.Makes making) = ⊥
AsksOrFails (steps.Ends (answers.Value v)) = ⊥
AsksOrFails (steps.Ends (answers.Faulty fs)) = ⊤
AsksOrFails (steps.Ends (answers.Stopped stop)) = ⊥

-- Answers

-- a load that goes on behind an answer reads its file
abbrev pub GoesReading : Fed → Type 0
GoesReading (fed.Goes going) = going ≡ goings.Read
GoesReading (fed.Ends a) = ⊤

-- the answer with which it ends is there
abbrev pub EndsThere : Store → Fed → Type 0
EndsThere cells (fed.Goes going) = ⊤
EndsThere cells (fed.Ends a) = IsAnswerThere cells a

-- it is the same load, which may have made more versions for parents
abbrev pub IsSameLoad : LoadJob → LoadJob → Type 0
IsSameLoad old new = new ≡ record old { made = new.made }
