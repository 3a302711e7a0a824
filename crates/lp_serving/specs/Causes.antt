-- What the devices did in a call of a served run, by how it ended.
use Rattle.std.specs.Prelude.{◌≡◌, ℕ, ◌⊎◌, Bool, true, false, Result, Ok, Err}
use Rattle.lp_io.specs.Counts.{Rose}
use Rattle.lp_core.specs.declared.driver.Stop.{Stop}
use Rattle.lp_serving.specs.declared.server.End.{End}
use Rattle.lp_serving.specs.declared.server.End.TheVariants.{Output, Stopped, NoMemory}

-- the answer is that the output failed
abbrev pub is_output : {A : Type 0} → Result A End → Bool
is_output (Ok x) = false
is_output (Err Output) = true
is_output (Err (Stopped why)) = false
is_output (Err NoMemory) = false

-- THE OUTPUT over a call: where that ends for it, the count of faults rose, or that of writes that took nothing; else both stay as they were
abbrev pub OutputTells : Bool → ℕ → ℕ → ℕ → ℕ → Type 0
OutputTells true faults0 faults1 zeros0 zeros1 = Rose faults0 faults1 ⊎ Rose zeros0 zeros1
OutputTells false faults0 faults1 zeros0 zeros1 = (faults1 ≡ faults0) × (zeros1 ≡ zeros0)

-- THE SWAP FILE over a call: no turn was stopped; or one was, and this is what the swap file did then
abbrev pub SwapTells : {A : Type 0} → Result A End → Type 0 → (Stop → Type 0) → Type 0
SwapTells (Ok x) quiet blames = quiet
SwapTells (Err Output) quiet blames = quiet
SwapTells (Err (Stopped why)) quiet blames = blames why
SwapTells (Err NoMemory) quiet blames = quiet
