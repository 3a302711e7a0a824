-- What the devices did in a served run, by how it ended: only a device whose count rose is blamed.
use Rattle.std.specs.Prelude.{⊤, ℕ, ◌≤◌, List, Bool, true, false, Option, Some, None, Result, Ok, Err, String}
use Rattle.std.specs.Global.{Global}
use Rattle.lp_io.specs.Counts.{Rose}
use Rattle.lp_core.specs.declared.driver.Stop.{Stop}
use Rattle.lp_folder.specs.Held.{Held}
use Rattle.lp_flush.specs.Flushing.{StopsAt}
use Rattle.lp_serving.specs.declared.server.End.TheVariants as ends
use Rattle.lp_serve.specs.declared.run.Early.{Early}
use Rattle.lp_serve.specs.declared.run.Early.TheVariants as early
use Rattle.lp_serve.specs.declared.run.Served.{Served}
use Rattle.lp_serve.specs.declared.run.Served.TheVariants.{Done, OutputFault, FilesFault, WireFault, TurnsSpent, Stopped, NoMemory}

-- a poll failed
abbrev pub is_wire_fault : Served → Bool
is_wire_fault WireFault = true
is_wire_fault s = false

-- the output failed
abbrev pub is_output_fault : Served → Bool
is_output_fault OutputFault = true
is_output_fault s = false

-- a count did not rise between two moments
abbrev pub HasNotRisen : ℕ → ℕ → Type 0
HasNotRisen before now = Rose before now → ⊥

-- THE LAST TRIES to write changed files, once the operator had stopped the run: none failed; or this path's did, which is the first still on the list, and those before it were kept.
pub record TriedLast (failed : Option (String Global)) (file : List ℕ → Option (List ℕ)) (faults0 : ℕ) (changed : List (List ℕ)) (now : Option Held) (faults1 : ℕ) : Type 0 where
  pub held : Option Held
  pub faults : ℕ
  pub since : faults0 ≤ faults
  pub listed : List (List ℕ)
  pub tries : StopsAt failed file held faults listed changed now faults1

-- THE FILES are blamed where the last try of a changed one failed, and then their count of faults rose; at `Done` no last try failed.
abbrev pub FilesTell : Served → (Option (String Global) → Type 0) → Type 0 → Type 0
FilesTell Done tried rose = tried None
FilesTell (FilesFault path) tried rose = tried (Some path) × rose
FilesTell TurnsSpent tried rose = ⊤
FilesTell WireFault tried rose = ⊤
FilesTell OutputFault tried rose = ⊤
FilesTell (Stopped why) tried rose = ⊤
FilesTell NoMemory tried rose = ⊤

-- THE SWAP FILE: no turn was stopped; or one was, and this is what the swap file did then
abbrev pub SwapTells : Served → Type 0 → (Stop → Type 0) → Type 0
SwapTells (Stopped why) quiet blames = blames why
SwapTells s quiet blames = quiet

-- an end that blames neither output nor files nor wire
abbrev pub IsBlameless : Served → Type 0
IsBlameless Done = ⊤
IsBlameless TurnsSpent = ⊤
IsBlameless (Stopped why) = ⊤
IsBlameless NoMemory = ⊤
IsBlameless OutputFault = ⊥
IsBlameless (FilesFault path) = ⊥
IsBlameless WireFault = ⊥

-- a round ended for the output
abbrev pub is_early_output : Result Bool Early → Bool
is_early_output (Ok stops) = false
is_early_output (Err early.Wire) = false
is_early_output (Err (early.At ends.Output)) = true
is_early_output (Err (early.At (ends.Stopped why))) = false
is_early_output (Err (early.At ends.NoMemory)) = false

-- the swap file in a round
abbrev pub EarlyTells : Result Bool Early → Type 0 → (Stop → Type 0) → Type 0
EarlyTells (Ok stops) quiet blames = quiet
EarlyTells (Err early.Wire) quiet blames = quiet
EarlyTells (Err (early.At ends.Output)) quiet blames = quiet
EarlyTells (Err (early.At (ends.Stopped why))) quiet blames = blames why
EarlyTells (Err (early.At ends.NoMemory)) quiet blames = quiet
