-- How the start begins, goes on, and takes the ends of its calls.
use Rattle.std.specs.Prelude.{◌≡◌, ◌<◌, ⊤, ℕ, List, All, Option, length, map, true}
use Rattle.lp_code.specs.declared.program.RawProgram.{RawProgram}
use Rattle.lp_cells.specs.Cells.{IsThere, Store}
use Rattle.lp_events.specs.declared.out.Out.{Out}
use Rattle.lp_objects.specs.Objects.{Named}
use Rattle.lp_objects.specs.Stands as names
use Rattle.lp_objects.specs.declared.objects.Objects.{Objects}
use Rattle.lp_swapfile.specs.Device.{Bytes}
use Rattle.lp_language.specs.Course.{Answer, Asks, Course, State, gives}
use Rattle.lp_meaning.specs.EventTurns.{Begins, NoMaster, Start}
use Rattle.lp_world.specs.Stands.{named_of}
use Rattle.lp_world.specs.declared.live.Live.{Live}
use Rattle.lp_turn.specs.Calls.{IsAskedThere, IsEndOf, question_of, state_behind}
use Rattle.lp_turn.specs.Resting.{Rests}
use Rattle.lp_turn.specs.Starts.{start_going, start_waiting}
use Rattle.lp_turn.specs.declared.job.Call.{Call}
use Rattle.lp_turn.specs.declared.job.CallEnd.{CallEnd}
use Rattle.lp_turn.specs.declared.start_job.StartGoing.{StartGoing}
use Rattle.lp_turn.specs.declared.start_job.StartGoing.TheVariants as goings
use Rattle.lp_turn.specs.declared.start_job.StartStep.{StartStep}
use Rattle.lp_turn.specs.declared.start_job.StartStep.TheVariants as steps
use Rattle.lp_turn.specs.declared.start_job.StartWaiting.{StartWaiting}
use Rattle.lp_turn.specs.declared.start_job.StartWaiting.TheVariants as waitings

-- It asks for a call of the driver, in a state for which the live state stands; and what is left behind the answer is what it waits for.
pub record StartAsked (call : Call) (waiting : StartWaiting) (told : Option Bytes) (programs : List RawProgram) (before : List Out) (live : Live) (c : Course Start) : Type 0 where
  pub state : State
  pub rests : Rests told programs before live state
  pub there : IsAskedThere live.objects call.asked
  pub course : c ≡ Asks (question_of call state) (λ o. start_waiting waiting o.answer (state_behind call state o))

-- It ends so, in a state for which the live state stands.
pub record StartEnded (end : Start) (told : Option Bytes) (programs : List RawProgram) (before : List Out) (live : Live) (c : Course Start) : Type 0 where
  pub state : State
  pub rests : Rests told programs before live state
  pub course : c ≡ gives end state

abbrev pub StartLeads : StartStep → Option Bytes → List RawProgram → List Out → Live → Course Start → Type 0
StartLeads (steps.Asks call waiting) told programs before live c = StartAsked call waiting told programs before live c
StartLeads steps.Begins told programs before live c = StartEnded Begins told programs before live c
StartLeads (steps.NoMaster fs) told programs before live c = StartEnded (NoMaster fs.items) told programs before live c

-- A course of the start goes on so: from each state for which the live state stands.
abbrev pub StartsWith : (State → Course Start) → Live → Live → StartStep → Type 0
StartsWith turn live0 live1 r =
    (told : Option Bytes) (programs : List RawProgram) (before : List Out) (s : State) → Rests told programs before live0 s → StartLeads r told programs before live1 (turn s)

-- THE START GOES ON as it means.
abbrev pub StartGoes : StartStep → StartGoing → Live → Live → Type 0
StartGoes r going live0 live1 = StartsWith (start_going going) live0 live1 r

-- It goes on so, in a state for which the live state stands.
pub record StartGone (going : StartGoing) (told : Option Bytes) (programs : List RawProgram) (before : List Out) (live : Live) (c : Course Start) : Type 0 where
  pub state : State
  pub rests : Rests told programs before live state
  pub course : c ≡ start_going going state

-- Each object that was ever made is known by its name still.
abbrev pub AreAllKnown : Objects → List Named → Type 0
AreAllKnown table objects = (n : ℕ) → n < length objects → names.is_known table objects n ≡ true

-- where the first load has ended, whether the master was made is told by names alone, if all of them are known
abbrev pub KnowsNames : StartWaiting → Live → State → Type 0
KnowsNames waitings.First live s = AreAllKnown live.names (map named_of s.world.objects)
KnowsNames (waitings.Load f) live s = ⊤
KnowsNames (waitings.Master f) live s = ⊤
KnowsNames (waitings.Simul name) live s = ⊤

-- THE START TAKES THE END OF ITS CALL as it means: from each state behind an answer that this end is, for which the live state stands.
abbrev pub StartTakes : StartWaiting → CallEnd → Option Bytes → Live → Option Bytes → Live → StartGoing → Type 0
StartTakes waiting end told0 live0 told1 live1 going =
    (programs : List RawProgram) (before : List Out) (a : Answer) (s : State) → Rests told0 programs before live0 s → IsEndOf programs s.world end a → KnowsNames waiting live0 s
    → StartGone going told1 programs before live1 (start_waiting waiting a s)

-- the values that it hands on are there
abbrev pub AreStartValuesThere : Store → StartStep → Type 0
AreStartValuesThere cells (steps.Asks call waiting) = All (IsThere cells) call.arguments.items
AreStartValuesThere cells steps.Begins = ⊤
AreStartValuesThere cells (steps.NoMaster fs) = ⊤

abbrev pub IsStartThere : Store → StartGoing → Type 0
IsStartThere cells (goings.Master f) = ⊤
IsStartThere cells (goings.Loaded f) = ⊤
IsStartThere cells (goings.Answered v) = IsThere cells v
IsStartThere cells (goings.Listed v) = IsThere cells v
IsStartThere cells (goings.Preloading ts) = ⊤
IsStartThere cells (goings.NoMaster fs) = ⊤
