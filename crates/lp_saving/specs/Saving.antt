-- Jobs that save and restore the variables of objects.
use Rattle.std.specs.Prelude.{◌≡◌, ℕ, List, ◌++◌, IfErr, IsSome, length, Option, Some, Result}
use Rattle.lp_values.specs.declared.id.ObjId.{ObjId}
use Rattle.lp_values.specs.declared.value.Value.{Value}
use Rattle.lp_code.specs.declared.program.RawProgram.{RawProgram}
use Rattle.lp_swapfile.specs.Counts.{Counts}
use Rattle.lp_swapfile.specs.Device.{Bytes, Last}
use Rattle.lp_instr.specs.declared.efun.Efun.{Efun}
use Rattle.lp_language.specs.World.{World}
use Rattle.lp_language.specs.Resolve.{heritage_of}
use Rattle.lp_part_laws.specs.Versions.{FitsVersion}
use Rattle.lp_language.specs.Course.{State, and_then}
use Rattle.lp_meaning.specs.Askers.{Asker}
use Rattle.lp_world.specs.declared.live.Live.{Live}
use Rattle.lp_world.specs.declared.objects.Object.{Object}
use Rattle.lp_world.specs.Rows.{row_at, variables_at}
use Rattle.lp_world.specs.Stands.{Stands}
use Rattle.lp_residence.specs.Entering.{IsHonest, is_read_fault}
use Rattle.lp_residence.specs.declared.answers.EnterFault.{EnterFault}
use Rattle.lp_targets.specs.Brought.{IsFaultOf, program_at}
use Rattle.lp_targets.specs.Callees.{IsWorldOf}
use Rattle.lp_filing.specs.declared.outcome.Outcome.{Outcome}
use Rattle.lp_filing.specs.declared.outcome.Outcome.TheVariants as outcomes
use Rattle.lp_efuns.specs.declared.answer.Answer.{Answer}
use Rattle.lp_efuns.specs.declared.answer.Did.{Did}
use Rattle.lp_efuns.specs.declared.answer.Did.TheVariants as did
use Rattle.lp_efuns.specs.declared.caller.Turn.{Turn}
use Rattle.lp_efuns.specs.Turns.{At, Setting}
use Rattle.lp_calling.specs.declared.job.Job.{Job}
use Rattle.lp_calling.specs.declared.wish.FileDeed.{FileDeed}
use Rattle.lp_calling.specs.Beginning.{IsOver, Settled}
use Rattle.lp_calling.specs.Jobs.{course_of, ended}
use Rattle.lp_calling.specs.Leave.{file_deed}

-- What came into memory

-- a state stands, with what a swap file tells, for each world for which another one did
abbrev pub StandsOver : Option Bytes → Live → Option Bytes → Live → Type 0
StandsOver told0 live0 told1 live1 = (programs : List RawProgram) (w : World) → Stands told0 programs live0 w → Stands told1 programs live1 w

-- an object is in memory with its program, which is this one
pub record IsKeeper (live : Live) (o : ObjId) (raw : RawProgram) : Type 0 where
  pub here : IsSome (variables_at live.objects o)
  pub code : (x : Object) → row_at live.objects o.0 ≡ Some x → program_at live.versions x.program ≡ Some raw

-- Deeds

-- what a deed came to, before the price of its value is paid
abbrev pub did_of : Outcome → Did
did_of (outcomes.Value v) = did.Value v
did_of (outcomes.Error e) = did.Error e

-- only files, cells and variables changed
abbrev pub IsOnlyKept : Live → Live → Type 0
IsOnlyKept live0 live1 = live1 ≡ record live0 { store = live1.store; cells = live1.cells; objects = live1.objects }

-- A deed of an efun ends so, with its values taken from the stack, where a program fits the version of an object: from each state for which
-- the live state stands its course asks nothing and ends with this answer.
abbrev pub KeepsWith : Answer → Efun → FileDeed → Option (List ℕ) → ObjId → RawProgram → Live → List Value → ℕ → ℕ → Live → List Value → ℕ → Type 0
KeepsWith a e d p o code live0 stack0 below budget0 live1 stack1 budget1 =
    (turn : Turn) (low own : List Value) → stack0 ≡ low ++ own → length low ≡ below
    → (stack1 ≡ low) × ((g : Setting) (s : State) → At g live0 turn budget0 s → FitsVersion (heritage_of s.world o) code → IsOver a (Settled s.world g live1 turn budget1) (and_then (file_deed d p s) (ended e)))

-- the same, with what the swap file told, where the programs of the world fit
abbrev pub KeepsOver : Answer → Efun → FileDeed → Option (List ℕ) → Option Bytes → Live → List Value → ℕ → ℕ → Live → List Value → ℕ → Type 0
KeepsOver a e d p told live0 stack0 below budget0 live1 stack1 budget1 =
    (turn : Turn) (low own : List Value) → stack0 ≡ low ++ own → length low ≡ below
    → (stack1 ≡ low) × ((g : Setting) (s : State) → g.told ≡ told → At g live0 turn budget0 s → IsWorldOf told g.programs live0 s.world → IsOver a (Settled s.world g live1 turn budget1) (and_then (file_deed d p s) (ended e)))

-- How such a job ends

-- It ends with this answer, and nothing is left of it on the stack: from each state for which the live state stands, with what the swap file
-- told, and whose programs fit, its course asks nothing and ends so.
pub record HasKept (a : Answer) (job : Job) (own : List Value) (told : Option Bytes) (live0 : Live) (turn : Turn) (budget0 : ℕ) (low stack1 : List Value) (live1 : Live) (budget1 : ℕ) : Type 0 where
  pub stack : stack1 ≡ low
  pub course : (g : Setting) (by : Asker) (s : State) → g.told ≡ told → At g live0 turn budget0 s → IsWorldOf told g.programs live0 s.world → IsOver a (Settled s.world g live1 turn budget1) (course_of job own by s)

abbrev pub Keeps : Answer → Job → Option Bytes → Live → List Value → ℕ → Live → List Value → ℕ → Type 0
Keeps a job told live0 stack0 budget0 live1 stack1 budget1 =
    (turn : Turn) (low own : List Value) → stack0 ≡ low ++ own → length low ≡ job.low → HasKept a job own told live0 turn budget0 low stack1 live1 budget1

-- What the device did: a fault is that of a read of an object or a program that is out still; the count of read faults rose exactly where the
-- read failed; nothing was written; and a file that is honest and truthful never gives other bytes.
pub record Reads {A : Type 0} (told0 told1 : Option Bytes) (last : Last) (reads0 reads1 writes0 writes1 : ℕ) (true0 true1 honest0 honest1 : Type 0) (live0 live1 : Live) (result : Result A EnterFault) : Type 0 where
  pub cause : IfErr result (IsFaultOf live1 told1 last)
  pub faults : Counts (is_read_fault result) reads0 reads1
  pub write_faults : writes1 ≡ writes0
  pub kept : told1 ≡ told0
  pub truthful : true1 → true0
  pub honest : honest1 → honest0 × (true1 → (programs : List RawProgram) (w : World) → Stands told0 programs live0 w → IsHonest result)
