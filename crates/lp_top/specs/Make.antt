-- What `make` ends with, and what it has written then.
use Rattle.std.specs.Prelude.{◌≡◌, ℕ, List, ◌++◌, Option, Some}
use Rattle.lp_events.specs.Script.{spellings}
use Rattle.lp_workload.specs.Workload.{workload}
use Rattle.lp_top.specs.declared.status.Status.{Status}
use Rattle.lp_top.specs.declared.status.Status.TheVariants.{Done, BadWords, BadScript, NoMaster, TooLarge, InputFault, OutputFault, SwapFault, FilesFault, WireFault, TurnsSpent, NoMemory}
use Rattle.lp_top.specs.Replay.{IsFrontOf}

-- the ends that it may have once the words are right
abbrev pub IsMakeEnd : Status → Type 0
IsMakeEnd Done = Unit {0}
IsMakeEnd OutputFault = Unit {0}
IsMakeEnd NoMemory = Unit {0}
IsMakeEnd BadWords = ⊥
IsMakeEnd (BadScript at) = ⊥
IsMakeEnd (NoMaster faults) = ⊥
IsMakeEnd TooLarge = ⊥
IsMakeEnd InputFault = ⊥
IsMakeEnd (SwapFault cause) = ⊥
IsMakeEnd (FilesFault path) = ⊥
IsMakeEnd WireFault = ⊥
IsMakeEnd TurnsSpent = ⊥

-- What was written at an end: the script of the workload, or where the sink failed or memory ran out a front of it.
abbrev pub WroteMake : List ℕ → List ℕ → Status → Type 0
WroteMake script piece Done = piece ≡ script
WroteMake script piece OutputFault = IsFrontOf piece script
WroteMake script piece NoMemory = IsFrontOf piece script
WroteMake script piece BadWords = ⊥
WroteMake script piece (BadScript at) = ⊥
WroteMake script piece (NoMaster faults) = ⊥
WroteMake script piece TooLarge = ⊥
WroteMake script piece InputFault = ⊥
WroteMake script piece (SwapFault cause) = ⊥
WroteMake script piece (FilesFault path) = ⊥
WroteMake script piece WireFault = ⊥
WroteMake script piece TurnsSpent = ⊥

-- What making the workload of so many events with this seed ended with, and what it wrote behind what was told before.
pub record Makes (count seed : ℕ) (status : Status) (before after : Option (List ℕ)) : Type 0 where
  pub ends : IsMakeEnd status
  pub wrote : (old : List ℕ) → before ≡ Some old → (piece : List ℕ) × (after ≡ Some (old ++ piece)) × WroteMake (spellings (workload count seed)) piece status
