-- How a run ends.
use Rattle.std.specs.Prelude.{ℕ}
use Rattle.lp_top.specs.declared.status.Status.{Status}
use Rattle.lp_top.specs.declared.status.Status.TheVariants.{Done, BadWords, BadScript, NoMaster, TooLarge, InputFault, OutputFault, SwapFault, FilesFault, WireFault, TurnsSpent, NoMemory}

-- the number with which the program ends
abbrev pub number_of : Status → ℕ
number_of Done = 0
number_of BadWords = 1
number_of (BadScript at) = 2
number_of (NoMaster faults) = 3
number_of TooLarge = 4
number_of InputFault = 5
number_of OutputFault = 6
number_of (SwapFault cause) = 7
number_of (FilesFault path) = 8
number_of WireFault = 9
number_of TurnsSpent = 10
number_of NoMemory = 11
