-- What a check ends with, by the bytes of its input, and what it has written then.
use Rattle.std.specs.Prelude.{◌≡◌, ℕ, ◌≤◌, List, [], ◌++◌, length, Option, Some}
use Rattle.lp_events.specs.declared.item.Item.{Item}
use Rattle.lp_events.specs.Script.{IsScript, IsBadScript, IsTooLarge, files_of, longest_input}
use Rattle.lp_script.specs.Reader.{Reading, GoesOn, HasGiven}
use Rattle.lp_check.specs.declared.sources.Sources.{Sources}
use Rattle.lp_check.specs.Report.{IsReport}
use Rattle.lp_check.specs.Sources.{AreFiles}
use Rattle.lp_top.specs.declared.status.Status.{Status}
use Rattle.lp_top.specs.declared.status.Status.TheVariants.{Done, BadWords, BadScript, NoMaster, TooLarge, InputFault, OutputFault, SwapFault, FilesFault, WireFault, TurnsSpent, NoMemory}
use Rattle.lp_top.specs.Items.{Holds}
use Rattle.lp_top.specs.Replay.{IsFrontOf}

-- The input, with the items that were read, gives this end. The whole of a script is read before anything is written.
abbrev pub EndsCheck : List ℕ → List Item → Status → Type 0
EndsCheck bytes xs Done = IsScript bytes xs × (length bytes ≤ longest_input)
EndsCheck bytes xs OutputFault = IsScript bytes xs × (length bytes ≤ longest_input)
EndsCheck bytes xs (BadScript at) = IsBadScript bytes xs at
EndsCheck bytes xs TooLarge = IsTooLarge bytes xs
EndsCheck bytes xs InputFault = Holds bytes xs
EndsCheck bytes xs NoMemory = Holds bytes xs
EndsCheck bytes xs BadWords = ⊥
EndsCheck bytes xs (NoMaster faults) = ⊥
EndsCheck bytes xs (SwapFault cause) = ⊥
EndsCheck bytes xs (FilesFault path) = ⊥
EndsCheck bytes xs WireFault = ⊥
EndsCheck bytes xs TurnsSpent = ⊥

-- the ends that a check may have once the words are right
abbrev pub IsCheckEnd : Status → Type 0
IsCheckEnd BadWords = ⊥
IsCheckEnd (NoMaster faults) = ⊥
IsCheckEnd (SwapFault cause) = ⊥
IsCheckEnd (FilesFault path) = ⊥
IsCheckEnd WireFault = ⊥
IsCheckEnd TurnsSpent = ⊥
IsCheckEnd s = Unit {0}

-- What was written at an end: the report of the script's files, where this path was given for the simul efuns, or where
-- the sink failed a front of it, and else nothing.
abbrev pub WroteCheck : Option (List ℕ) → List Item → List ℕ → Status → Type 0
WroteCheck simul xs piece Done = IsReport simul (files_of xs) piece
WroteCheck simul xs piece OutputFault = (whole : List ℕ) × IsReport simul (files_of xs) whole × IsFrontOf piece whole
WroteCheck simul xs piece status = piece ≡ []

-- What a check of these bytes, given this path for the simul efuns, ended with, and what it wrote behind what was told
-- before: by the items that it read.
pub record Checks (simul : Option (List ℕ)) (bytes : List ℕ) (status : Status) (before after : Option (List ℕ)) : Type 0 where
  pub read : List Item
  pub ends : EndsCheck bytes read status
  pub wrote : (old : List ℕ) → before ≡ Some old → (piece : List ℕ) × (after ≡ Some (old ++ piece)) × WroteCheck simul read piece status

-- The reader has given these items, and their files were gathered.
pub record IsGathering (r : Reading) (sources : Sources) : Type 0 where
  pub read : List Item
  pub given : HasGiven r read
  pub goes : GoesOn r.phase
  pub files : AreFiles (files_of read) sources

-- the whole of a script was read, and its files were gathered
pub record IsGathered (bytes : List ℕ) (sources : Sources) : Type 0 where
  pub read : List Item
  pub script : IsScript bytes read
  pub short : length bytes ≤ longest_input
  pub files : AreFiles (files_of read) sources

-- an end before a script was read
pub record EndsGathering (bytes : List ℕ) (status : Status) : Type 0 where
  pub read : List Item
  pub ends : EndsCheck bytes read status
