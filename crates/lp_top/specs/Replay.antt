-- What a replay ends with, by the bytes of its input, and what it has written then.
use Rattle.std.specs.Prelude.{◌≡◌, ℕ, ◌≤◌, List, [], ◌∷◌, ◌++◌, length, Bool, true, false, Option, Some, codes, ◌⊎◌}
use Rattle.lp_io.specs.Told.{after_adding, IsCut}
use Rattle.lp_events.specs.declared.event.Event.{Event}
use Rattle.lp_events.specs.declared.item.Item.{Item}
use Rattle.lp_events.specs.declared.item.Item.TheVariants as items
use Rattle.lp_events.specs.declared.out.Out.{Out}
use Rattle.lp_events.specs.Script.{IsScript, IsBadScript, IsTooLarge, seed_of, events_of, spellings, longest_input}
use Rattle.lp_events.specs.Transcript.{block, blocks, transcript}
use Rattle.lp_swapfile.specs.Device.{Bytes}
use Rattle.lp_language.specs.World.{World}
use Rattle.lp_meaning.specs.FrontEnd.{FrontEnd}
use Rattle.lp_meaning.specs.Closing.{Run}
use Rattle.lp_front_end.specs.FrontEnds.{IsFrontEnd}
use Rattle.lp_first.specs.First.{HasFiles}
use Rattle.lp_world.specs.declared.live.Live.{Live}
use Rattle.lp_world.specs.Closed.{IsClosed}
use Rattle.lp_residence.specs.declared.answers.Idled.{Idled}
use Rattle.lp_driver.specs.Driving.{IsAtRest, TurnsAs}
use Rattle.lp_driver.specs.Tidying.{HasTidied}
use Rattle.lp_script.specs.declared.phase.Phase.TheVariants.{Giving}
use Rattle.lp_script.specs.declared.fault.ScriptFault.{ScriptFault}
use Rattle.lp_script.specs.declared.fault.ScriptFault.TheVariants as script
use Rattle.lp_script.specs.Reader.{Reading, HasGiven}
use Rattle.lp_top.specs.declared.opening.Opening.{Opening}
use Rattle.lp_top.specs.declared.status.Status.{Status}
use Rattle.lp_top.specs.declared.status.Status.TheVariants.{Done, BadWords, BadScript, NoMaster, TooLarge, InputFault, OutputFault, SwapFault, FilesFault, WireFault, TurnsSpent, NoMemory}
use Rattle.lp_top.specs.Reports.{IsBehind, IsBehindState}
use Rattle.lp_top.specs.Coming.{HasCome}
use Rattle.lp_top.specs.Items.{Holds, StopsAt, IsRunOf, HasNoMaster, Blocks, has_started, moment_of, world_files}

-- The input, with the items that were read, gives this end. At Done it is the script of these items, and they have a run.
abbrev pub Ends : List ℕ → List Item → Status → Type 0
Ends bytes xs Done = IsScript bytes xs × (length bytes ≤ longest_input) × ((outputs : List (List Out)) × IsRunOf xs outputs)
Ends bytes xs BadWords = ⊥
Ends bytes xs (BadScript at) = IsBadScript bytes xs at
Ends bytes xs (NoMaster fs) = Holds bytes (xs ++ items.Start ∷ []) × (has_started xs ≡ false) × HasNoMaster xs fs
Ends bytes xs TooLarge = IsTooLarge bytes xs
Ends bytes xs InputFault = Holds bytes xs
Ends bytes xs OutputFault = Holds bytes xs
Ends bytes xs (SwapFault cause) = Holds bytes xs × StopsAt bytes xs
Ends bytes xs (FilesFault path) = ⊥
Ends bytes xs WireFault = ⊥
Ends bytes xs TurnsSpent = ⊥
Ends bytes xs NoMemory = Holds bytes xs

-- a piece is a front of a whole
abbrev pub IsFrontOf : List ℕ → List ℕ → Type 0
IsFrontOf piece whole = (rest : List ℕ) × (whole ≡ piece ++ rest)

-- What was written at an end: at Done the transcript of the run, and behind it the line of the report where it was asked for; for a
-- master that is not made nothing, and else the blocks of the start and of each event that was read; where the sink failed a
-- front of them, behind which after all of a script's blocks a front of the lines at the end may follow.
abbrev pub Wrote : ℕ → Bool → List ℕ → List Item → List ℕ → Status → Type 0
Wrote swap_time report bytes xs piece Done = (outputs : List (List Out)) × IsRunOf xs outputs × ((more : List ℕ) × IsBehind swap_time report xs more × (piece ≡ transcript outputs ++ more))
Wrote swap_time report bytes xs piece BadWords = piece ≡ []
Wrote swap_time report bytes xs piece (BadScript at) = Blocks xs piece
Wrote swap_time report bytes xs piece (NoMaster fs) = piece ≡ []
Wrote swap_time report bytes xs piece TooLarge = Blocks xs piece
Wrote swap_time report bytes xs piece InputFault = Blocks xs piece
Wrote swap_time report bytes xs piece OutputFault = (whole : List ℕ) × Blocks xs whole × (IsFrontOf piece whole ⊎ (IsScript bytes xs × ((more : List ℕ) × IsBehind swap_time report xs more × IsFrontOf piece (whole ++ codes "end\n" ++ more))))
Wrote swap_time report bytes xs piece (SwapFault cause) = Blocks xs piece
Wrote swap_time report bytes xs piece (FilesFault path) = ⊥
Wrote swap_time report bytes xs piece WireFault = ⊥
Wrote swap_time report bytes xs piece TurnsSpent = ⊥
Wrote swap_time report bytes xs piece NoMemory = Blocks xs piece

-- What a replay of these bytes, with a swap time and asked for a report or not, ended with, and what it wrote behind what was told before: by the items
-- that it read.
pub record Replays (swap_time : ℕ) (report : Bool) (bytes : List ℕ) (status : Status) (before after : Option (List ℕ)) : Type 0 where
  pub read : List Item
  pub ends : Ends bytes read status
  pub wrote : (old : List ℕ) → before ≡ Some old → (piece : List ℕ) × (after ≡ Some (old ++ piece)) × Wrote swap_time report bytes read piece status

-- What was noted of these items: the files are in a store, the first one of each path, and the seed and the moment are the head's.
pub record AreNoted (xs : List Item) (opening : Opening) : Type 0 where
  pub files : HasFiles opening.store (world_files xs)
  pub seed : opening.seed ≡ seed_of xs
  pub moment : opening.moment ≡ moment_of xs

-- The reader has given the files and `start`, and what the driver starts with was noted.
pub record IsAtStart (r : Reading) (opening : Opening) : Type 0 where
  pub files : List Item
  pub given : HasGiven r (files ++ items.Start ∷ [])
  pub phase : r.phase ≡ Giving
  pub place : r.at ≡ length (spellings files)
  pub not_started : has_started files ≡ false
  pub noted : AreNoted files opening

-- By a front end the items have a run with these outputs, and the state stands for its last world.
pub record HasRun (front : FrontEnd) (xs : List Item) (outputs : List (List Out)) (told : Option Bytes) (live : Live) : Type 0 where
  pub last : World
  pub run : Run front (seed_of xs) (moment_of xs) (world_files xs) (events_of xs) outputs last
  pub rest : IsAtRest told live last

-- The reader has given these items, and they were carried out with these outputs, with this swap time.
pub record IsGoing (swap_time : ℕ) (r : Reading) (told : Option Bytes) (live : Live) (xs : List Item) (outputs : List (List Out)) : Type 0 where
  pub given : HasGiven r xs
  pub phase : r.phase ≡ Giving
  pub started : has_started xs ≡ true
  pub runs : (front : FrontEnd) → IsFrontEnd front → HasRun front xs outputs told live
  pub came : HasCome swap_time (seed_of xs) (moment_of xs) (world_files xs) (events_of xs) told live
  pub closed : IsClosed live
  pub rest : (w : World) × IsAtRest told live w

-- Items were carried out with these outputs: the state stands for the world after them, and their blocks are written.
pub record IsRunning (swap_time : ℕ) (r : Reading) (told : Option Bytes) (live : Live) (from now : Option (List ℕ)) : Type 0 where
  pub read : List Item
  pub outputs : List (List Out)
  pub going : IsGoing swap_time r told live read outputs
  pub written : now ≡ after_adding from (blocks outputs)

-- the ends that reading may give
abbrev pub IsReadingEnd : Status → Type 0
IsReadingEnd (BadScript at) = Unit {0}
IsReadingEnd TooLarge = Unit {0}
IsReadingEnd InputFault = Unit {0}
IsReadingEnd NoMemory = Unit {0}
IsReadingEnd Done = ⊥
IsReadingEnd BadWords = ⊥
IsReadingEnd (NoMaster fs) = ⊥
IsReadingEnd OutputFault = ⊥
IsReadingEnd (SwapFault cause) = ⊥
IsReadingEnd (FilesFault path) = ⊥
IsReadingEnd WireFault = ⊥
IsReadingEnd TurnsSpent = ⊥

-- Reading behind these items gave this end, by these items or these and an `end`.
pub record EndsReading (bytes : List ℕ) (xs : List Item) (status : Status) : Type 0 where
  pub read : List Item
  pub same : (read ≡ xs) ⊎ (read ≡ xs ++ items.End ∷ [])
  pub ends : Ends bytes read status

-- the end that a fault of the script gives
abbrev pub status_of_fault : ScriptFault → Status
status_of_fault (script.BadScript at) = BadScript at
status_of_fault script.TooLarge = TooLarge
status_of_fault script.InputFault = InputFault
status_of_fault script.NoMemory = NoMemory

abbrev pub is_start : Item → Bool
is_start items.Start = true
is_start x = false

abbrev pub is_end : Item → Bool
is_end items.End = true
is_end x = false

-- A turn was carried out with these outputs, with what goes out behind it by the swap time, and its block was written.
pub record IsDone (swap_time : ℕ) (event : Event) (told0 : Option Bytes) (live0 : Live) (told1 : Option Bytes) (live1 : Live) (before after : Option (List ℕ)) : Type 0 where
  pub outs : List Out
  pub turns : TurnsAs event told0 live0 told1 live1 outs
  pub writes0 : ℕ
  pub writes1 : ℕ
  pub idled : Idled
  pub tidied : HasTidied swap_time event told0 writes0 live0 told1 writes1 live1 idled
  pub closed : IsClosed live1
  pub rest : (w : World) × IsAtRest told1 live1 w
  pub written : after ≡ after_adding before (block outs)

-- these are the outputs of a turn
abbrev pub AreOf : Event → Option Bytes → Live → List Out → Type 0
AreOf event told live outs = (told1 : Option Bytes) × (live1 : Live) × TurnsAs event told live told1 live1 outs

-- A turn with such outputs was not carried out whole: its block was not written, or where the sink failed a front of it.
abbrev pub Interrupts : (List Out → Type 0) → Option (List ℕ) → Option (List ℕ) → Status → Type 0
Interrupts turned before after NoMemory = after ≡ before
Interrupts turned before after (SwapFault cause) = after ≡ before
Interrupts turned before after (BadScript at) = ⊥
Interrupts turned before after OutputFault = (outs : List Out) × turned outs × IsCut before after (block outs)
Interrupts turned before after Done = ⊥
Interrupts turned before after BadWords = ⊥
Interrupts turned before after (NoMaster fs) = ⊥
Interrupts turned before after TooLarge = ⊥
Interrupts turned before after InputFault = ⊥
Interrupts turned before after (FilesFault path) = ⊥
Interrupts turned before after WireFault = ⊥
Interrupts turned before after TurnsSpent = ⊥

-- The last piece was written, or a front of it.
abbrev pub Finishes : List ℕ → Option (List ℕ) → Option (List ℕ) → Status → Type 0
Finishes last before after Done = after ≡ after_adding before last
Finishes last before after OutputFault = (piece : List ℕ) × IsFrontOf piece last × (after ≡ after_adding before piece)
Finishes last before after BadWords = ⊥
Finishes last before after (BadScript at) = ⊥
Finishes last before after (NoMaster fs) = ⊥
Finishes last before after TooLarge = ⊥
Finishes last before after InputFault = ⊥
Finishes last before after (SwapFault cause) = ⊥
Finishes last before after (FilesFault path) = ⊥
Finishes last before after WireFault = ⊥
Finishes last before after TurnsSpent = ⊥
Finishes last before after NoMemory = ⊥

-- The last lines were written, `end` and what stands behind it, or a front of them; or there was no memory for them.
abbrev pub Concludes : Bool → Live → Option (List ℕ) → Option (List ℕ) → Status → Type 0
Concludes report state before after status =
    ((more : List ℕ) × IsBehindState report state more × Finishes (codes "end\n" ++ more) before after status) ⊎ ((status ≡ NoMemory) × (after ≡ before))

-- the ends that a replay may have once the words are right
abbrev pub IsReplayEnd : Status → Type 0
IsReplayEnd BadWords = ⊥
IsReplayEnd (FilesFault path) = ⊥
IsReplayEnd WireFault = ⊥
IsReplayEnd TurnsSpent = ⊥
IsReplayEnd s = Unit {0}
