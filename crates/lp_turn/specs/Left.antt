-- How much of a turn is left: each call of the driver leaves less.
use Rattle.std.specs.Prelude.{◌+◌, ◌*◌, ◌<◌, ◌≤◌, ◌≡◌, ◌⊎◌, ⊤, ℕ, length}
use Rattle.lp_turn.specs.declared.job.Going.{Going}
use Rattle.lp_turn.specs.declared.job.Going.TheVariants as goings
use Rattle.lp_turn.specs.declared.job.MasterFunction.{MasterFunction}
use Rattle.lp_turn.specs.declared.job.MasterFunction.TheVariants as functions
use Rattle.lp_turn.specs.declared.job.Step.{Step}
use Rattle.lp_turn.specs.declared.job.Step.TheVariants as steps
use Rattle.lp_turn.specs.declared.job.Waiting.{Waiting}
use Rattle.lp_turn.specs.declared.job.Waiting.TheVariants as waitings
use Rattle.lp_turn.specs.Ticks.{tick_calls_behind, tick_calls_left}
use Rattle.lp_turn.specs.declared.start_job.StartFunction.{StartFunction}
use Rattle.lp_turn.specs.declared.start_job.StartFunction.TheVariants as start_functions
use Rattle.lp_turn.specs.declared.start_job.StartGoing.{StartGoing}
use Rattle.lp_turn.specs.declared.start_job.StartGoing.TheVariants as start_goings
use Rattle.lp_turn.specs.declared.start_job.StartStep.{StartStep}
use Rattle.lp_turn.specs.declared.start_job.StartStep.TheVariants as start_steps
use Rattle.lp_turn.specs.declared.start_job.StartWaiting.{StartWaiting}
use Rattle.lp_turn.specs.declared.start_job.StartWaiting.TheVariants as start_waitings

-- Turns

-- how many calls may follow the value of a function of the master
abbrev pub calls_after : MasterFunction → ℕ
calls_after (functions.Connect k) = 1
calls_after (functions.Disconnect o) = 0

-- HOW MANY CALLS a turn may still ask for, where it goes on and where it waits
abbrev pub calls_left : Going → ℕ
calls_left (goings.Master f) = 2 + calls_after f
calls_left (goings.Loaded f) = 1 + calls_after f
calls_left (goings.Admit k v) = 1
calls_left (goings.Logged k v) = 0
calls_left (goings.Tick g) = tick_calls_left g
calls_left goings.Done = 0

abbrev pub calls_behind : Waiting → ℕ
calls_behind (waitings.Load f) = 1 + calls_after f
calls_behind (waitings.Master f) = calls_after f
calls_behind (waitings.Logon k o) = 0
calls_behind (waitings.Line o) = 0
calls_behind (waitings.Tick w) = tick_calls_behind w

-- what is asked leaves fewer
abbrev pub AsksFewer : Step → ℕ → Type 0
AsksFewer (steps.Asks call waiting) n = calls_behind waiting < n
AsksFewer steps.Ends n = ⊤

-- The start

-- The start comes stage by stage to where texts are preloaded, which is the last one; where a function of the master is called,
-- where it waits for its load, and where it waits for it.
abbrev pub stages_called : StartFunction → ℕ
stages_called start_functions.Inaugurate = 8
stages_called start_functions.SimulEfun = 6
stages_called start_functions.Epilog = 3
stages_called (start_functions.Preload t ts) = 0

abbrev pub stages_loaded : StartFunction → ℕ
stages_loaded start_functions.Inaugurate = 7
stages_loaded start_functions.SimulEfun = 5
stages_loaded start_functions.Epilog = 2
stages_loaded (start_functions.Preload t ts) = 0

abbrev pub stages_after : StartFunction → ℕ
stages_after start_functions.Inaugurate = 6
stages_after start_functions.SimulEfun = 4
stages_after start_functions.Epilog = 1
stages_after (start_functions.Preload t ts) = 0

-- how many stages are left
abbrev pub stages_left : StartGoing → ℕ
stages_left (start_goings.Master f) = stages_called f
stages_left (start_goings.Loaded f) = stages_loaded f
stages_left (start_goings.Answered v) = 4
stages_left (start_goings.Listed v) = 1
stages_left (start_goings.Preloading ts) = 0
stages_left (start_goings.NoMaster fs) = 0

abbrev pub stages_behind : StartWaiting → ℕ
stages_behind start_waitings.First = 8
stages_behind (start_waitings.Load f) = stages_loaded f
stages_behind (start_waitings.Master f) = stages_after f
stages_behind (start_waitings.Simul name) = 3

-- In the last stage, how many calls may be left: two for each text.
abbrev pub texts_loaded : StartFunction → ℕ
texts_loaded start_functions.Inaugurate = 0
texts_loaded start_functions.SimulEfun = 0
texts_loaded start_functions.Epilog = 0
texts_loaded (start_functions.Preload t ts) = 2 * length ts + 2

abbrev pub texts_after : StartFunction → ℕ
texts_after start_functions.Inaugurate = 0
texts_after start_functions.SimulEfun = 0
texts_after start_functions.Epilog = 0
texts_after (start_functions.Preload t ts) = 2 * length ts + 1

abbrev pub texts_left : StartGoing → ℕ
texts_left (start_goings.Master f) = texts_loaded f + 1
texts_left (start_goings.Loaded f) = texts_loaded f
texts_left (start_goings.Answered v) = 0
texts_left (start_goings.Listed v) = 0
texts_left (start_goings.Preloading ts) = 2 * length ts + 1
texts_left (start_goings.NoMaster fs) = 0

abbrev pub texts_behind : StartWaiting → ℕ
texts_behind start_waitings.First = 1
texts_behind (start_waitings.Load f) = texts_loaded f
texts_behind (start_waitings.Master f) = texts_after f
texts_behind (start_waitings.Simul name) = 1

-- what is asked leaves less: fewer stages, or fewer calls of the last one
abbrev pub AsksLess : StartStep → ℕ → ℕ → Type 0
AsksLess (start_steps.Asks call waiting) stages texts = (stages_behind waiting < stages) ⊎ ((stages_behind waiting ≡ 0) × (texts_behind waiting < texts))
AsksLess start_steps.Begins stages texts = ⊤
AsksLess (start_steps.NoMaster fs) stages texts = ⊤

-- where it goes on behind an end, no more is left than where it waited, or this stage is over
pub record LeavesNoMore (going : StartGoing) (waiting : StartWaiting) : Type 0 where
  pub stages : stages_left going ≤ stages_behind waiting
  pub texts : stages_behind waiting ≡ 0 → texts_left going ≤ texts_behind waiting
