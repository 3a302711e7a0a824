-- How an object is made and begins.
use Rattle.std.specs.Prelude.{◌≡◌, ◌++◌, ◌∷◌, [], if◌then◌else◌, ℕ, ⊤, All, List, Bool, true, Option, Some, None, Result, Ok, Err, IsSome, take}
use Rattle.lp_values.specs.declared.id.ObjId.{ObjId}
use Rattle.lp_values.specs.declared.id.ProgId.{ProgId}
use Rattle.lp_code.specs.declared.program.RawProgram.{RawProgram}
use Rattle.lp_swapfile.specs.Device.{Bytes, Last}
use Rattle.lp_language.specs.World.{Keeps, Version, World, object_named}
use Rattle.lp_language.specs.Course.{Course, End, Over, Reply, State}
use Rattle.lp_language.specs.Resolve.{Part, heritage_of, part_at, parts}
use Rattle.lp_meaning.specs.Askers.{Asker}
use Rattle.lp_meaning.specs.FileLoads.{initialised_from, initialised_parts, making}
use Rattle.lp_world.specs.declared.live.Live.{Live}
use Rattle.lp_world.specs.declared.objects.Object.{Object}
use Rattle.lp_world.specs.Rows.{variables_at}
use Rattle.lp_world.specs.Stands.{Stands}
use Rattle.lp_part_laws.specs.Versions.{AreCompiled, heritage_in}
use Rattle.lp_residence.specs.declared.answers.EnterFault.{EnterFault}
use Rattle.lp_residence.specs.declared.answers.EnterFault.TheVariants as enters
use Rattle.lp_targets.specs.Brought.{Brings}
use Rattle.lp_targets.specs.Callees.{IsWorldOf}
use Rattle.lp_efuns.specs.declared.caller.Turn.{Turn}
use Rattle.lp_efuns.specs.Turns.{At, Setting}
use Rattle.lp_reaching.specs.Rows.{has_initialisers}
use Rattle.lp_asking.specs.declared.ending.Cause.TheVariants as causes
use Rattle.lp_asking.specs.declared.ending.Ending.{Ending}
use Rattle.lp_asking.specs.declared.ending.Ending.TheVariants as endings
use Rattle.lp_objects.specs.declared.fault.ObjectFault.{ObjectFault}
use Rattle.lp_objects.specs.declared.fault.ObjectFault.TheVariants as objects
use Rattle.lp_values.specs.declared.error.ErrorKind.TheVariants.{TooMany}
use Rattle.lp_values.specs.Errors.{plain}
use Rattle.lp_beginning.specs.declared.fault.MakingFault.{MakingFault}
use Rattle.lp_beginning.specs.declared.fault.MakingFault.TheVariants as faults
use Rattle.lp_beginning.specs.declared.job.Begun.{Begun}
use Rattle.lp_beginning.specs.declared.job.Begun.TheVariants as begun
use Rattle.lp_beginning.specs.declared.job.LoadKind.{LoadKind}
use Rattle.lp_beginning.specs.declared.job.Making.{Making}
use Rattle.lp_beginning.specs.Ends.{IsReplyEnd, state_at}
use Rattle.lp_beginning.specs.Jobs.{course_of, kind_of, parts_left}

-- Parts with initialisers

-- a version has this part, and whether that has initialisers
abbrev pub HasPart : List Version → ProgId → ℕ → Bool → Type 0
HasPart versions v part has = (p : Part) × (part_at (heritage_in versions v) part ≡ Some p) × (has ≡ has_initialisers p.tree)

-- so it is in every world for which the state stands and whose programs fit
abbrev pub TellsPart : Option Bytes → Live → ProgId → ℕ → Bool → Type 0
TellsPart told live v part has = (programs : List RawProgram) (w : World) → Stands told programs live w → AreCompiled programs w.versions → HasPart w.versions v part has

-- it is noted behind others, where it has some
abbrev pub NotesPart : Option Bytes → Live → ProgId → ℕ → List ℕ → List ℕ → Type 0
NotesPart told live v part old new = (has : Bool) × (new ≡ old ++ (if has then part ∷ [] else [])) × TellsPart told live v part has

-- whether a version has initialisers, likewise
abbrev pub TellsVersion : Option Bytes → Live → ProgId → Bool → Type 0
TellsVersion told live v has = (programs : List RawProgram) (w : World) → Stands told programs live w → AreCompiled programs w.versions → has ≡ has_initialisers (heritage_in w.versions v)

-- These are the parts below a number that have initialisers.
abbrev pub ArePartsBelow : Option Bytes → Live → ProgId → ℕ → List ℕ → Type 0
ArePartsBelow told live v end found =
    (programs : List RawProgram) (w : World) → Stands told programs live w → AreCompiled programs w.versions → found ≡ initialised_from 0 (take end (parts (heritage_in w.versions v)))

-- These are the parts of a version that have initialisers, in order, in each such world.
abbrev pub ArePartsOf : Option Bytes → Live → ProgId → List ℕ → Type 0
ArePartsOf told live v found = (programs : List RawProgram) (w : World) → Stands told programs live w → AreCompiled programs w.versions → found ≡ initialised_parts (heritage_in w.versions v)

-- a part of an object's program is there, and has initialisers
pub record IsInitialised (w : World) (o : ObjId) (part : ℕ) : Type 0 where
  pub place : Part
  pub at : part_at (heritage_of w o) part ≡ Some place
  pub has : has_initialisers place.tree ≡ true

-- The job of a new object has all parts of the object's program that have initialisers, in order, and none of them is done.
pub record HasItsParts (w : World) (job : Making) : Type 0 where
  pub parts : job.parts.items ≡ initialised_parts (heritage_of w job.object)
  pub done : job.done ≡ 0

-- Beginning

-- The live state stands for a state of the meaning, whose programs fit their versions, and whose shadows are live.
pub record Fits (g : Setting) (live : Live) (turn : Turn) (budget : ℕ) (s : State) : Type 0 where
  pub at : At g live turn budget s
  pub world : IsWorldOf g.told g.programs live s.world

-- The object is made, and what is to be done for it is a job: from each state for which the live state stands the course is
-- that of the job, in a state for which the live state stands, and in whose world the job has the parts of the object's program
-- that have initialisers.
abbrev pub HasBegun : Making → LoadKind → List ℕ → ProgId → Option Bytes → Live → Live → Type 0
HasBegun job kind name v told live0 live1 =
    (g : Setting) (by : Asker) (turn : Turn) (budget : ℕ) (s : State) → g.told ≡ told → Fits g live0 turn budget s
    → (t : State) × Fits g live1 turn budget t × (making (kind_of kind) by name v s ≡ course_of job by t) × HasItsParts t.world job

-- the same, where these parts have initialisers
abbrev pub HasMade : Making → LoadKind → List ℕ → ProgId → List ℕ → Live → Live → Type 0
HasMade job kind name v found live0 live1 =
    (g : Setting) (by : Asker) (turn : Turn) (budget : ℕ) (s : State) → Fits g live0 turn budget s → found ≡ initialised_parts (heritage_in s.world.versions v)
    → (t : State) × Fits g live1 turn budget t × (making (kind_of kind) by name v s ≡ course_of job by t) × HasItsParts t.world job

-- a course is over with this, in the same world, and the live state stands for the state then
pub record IsOverWith (g : Setting) (live : Live) (turn : Turn) (budget : ℕ) (s : State) (ending : Ending) (c : Course Reply) : Type 0 where
  pub end : End Reply
  pub over : c ≡ Over end
  pub is : IsReplyEnd g.programs ending end
  pub fits : Fits g live turn budget (state_at end)
  pub world : (state_at end).world ≡ s.world

-- No object is made: from each such state the course ends so.
abbrev pub HasEnded : Ending → LoadKind → List ℕ → ProgId → Option Bytes → Live → Live → Type 0
HasEnded ending kind name v told live0 live1 =
    (g : Setting) (by : Asker) (turn : Turn) (budget : ℕ) (s : State) → g.told ≡ told → Fits g live0 turn budget s → IsOverWith g live1 turn budget s ending (making (kind_of kind) by name v s)

abbrev pub Begins : Begun → LoadKind → List ℕ → ProgId → Option Bytes → Live → Live → Type 0
Begins (begun.Ends e) kind name v told live0 live1 = HasEnded e kind name v told live0 live1
Begins (begun.Runs job) kind name v told live0 live1 = HasBegun job kind name v told live0 live1

-- the new object is in memory
abbrev pub IsBegunHome : List (Option Object) → Begun → Type 0
IsBegunHome objects (begun.Ends e) = ⊤
IsBegunHome objects (begun.Runs job) = IsSome (variables_at objects job.object)

-- and was made for this
abbrev pub IsBegunFor : LoadKind → Begun → Type 0
IsBegunFor kind (begun.Ends e) = ⊤
IsBegunFor kind (begun.Runs job) = job.kind ≡ kind

-- So its parts have initialisers in each later world too: versions and objects stay, but for clocks.
abbrev pub PartsStay : Type 0
PartsStay =
    (told : Option Bytes) (programs : List RawProgram) (live : Live) (w u : World) (job : Making) → IsWorldOf told programs live w → IsSome (variables_at live.objects job.object) → HasItsParts w job → Keeps w u
    → All (IsInitialised u job.object) (parts_left job)

-- Refusals

-- why no object is made: the name is taken, in each world for which the state stands; of want of memory nothing is said
abbrev pub IsRefusedFor : Option Bytes → Live → List ℕ → MakingFault → Type 0
IsRefusedFor told live name faults.NameTaken = (programs : List RawProgram) (w : World) → Stands told programs live w → IsSome (object_named w name)
IsRefusedFor told live name (faults.Swap cause) = ⊤
IsRefusedFor told live name faults.NoMemory = ⊤

-- the fault of what was to be brought into memory
abbrev pub fault_of : EnterFault → MakingFault
fault_of (enters.Swap cause) = faults.Swap cause
fault_of enters.NoMemory = faults.NoMemory

-- why an object was not made for which there is room
abbrev pub refusal_of : ObjectFault → MakingFault
refusal_of objects.NameTaken = faults.NameTaken
refusal_of objects.TooMany = faults.NoMemory
refusal_of objects.NoMemory = faults.NoMemory

-- no device has a part in that
abbrev pub IsRefusal : MakingFault → Type 0
IsRefusal faults.NameTaken = ⊤
IsRefusal (faults.Swap cause) = ⊥
IsRefusal faults.NoMemory = ⊤

-- it ends with the error that there are too many objects
abbrev pub IsFull : Begun → Type 0
IsFull (begun.Ends e) = e ≡ endings.Stopped (record { cause = causes.Failed (plain TooMany); place = None })
IsFull (begun.Runs job) = ⊥

-- the state stands for the same worlds still
abbrev pub StandsStill : Option Bytes → Live → Option Bytes → Live → Type 0
StandsStill told0 live0 told1 live1 = (programs : List RawProgram) (w : World) → Stands told0 programs live0 w → Stands told1 programs live1 w

-- what was to be brought into memory before that was brought there, or not
abbrev pub brought_as : MakingFault → Result (Unit {0}) EnterFault
brought_as faults.NameTaken = Ok tt
brought_as (faults.Swap cause) = Err (enters.Swap cause)
brought_as faults.NoMemory = Err enters.NoMemory

abbrev pub brought_by : {A : Type 0} → Result A MakingFault → Result (Unit {0}) EnterFault
brought_by (Ok x) = Ok tt
brought_by (Err e) = brought_as e

-- the same of what may fail for nothing else
abbrev pub entered_by : {A : Type 0} → Result A EnterFault → Result (Unit {0}) EnterFault
entered_by (Ok x) = Ok tt
entered_by (Err e) = Err e

-- only where the swap file failed, or gave other bytes
abbrev pub OnSwap : Result (Unit {0}) EnterFault → Type 0 → Type 0
OnSwap (Ok x) P = ⊤
OnSwap (Err (enters.Swap cause)) P = P
OnSwap (Err enters.NoMemory) P = ⊤

-- Programs were brought into memory, or not, and then the state changed by no device; and not at all where the swap file failed, or gave other bytes.
pub record BringsFirst (told0 told1 : Option Bytes) (last : Last) (reads0 reads1 writes0 writes1 : ℕ) (true0 true1 honest0 honest1 : Type 0) (live0 live1 : Live) (brought : Result (Unit {0}) EnterFault) : Type 0 where
  pub between : Live
  pub brings : Brings told0 told1 last reads0 reads1 writes0 writes1 true0 true1 honest0 honest1 live0 between brought
  pub still : OnSwap brought (live1 ≡ between)
