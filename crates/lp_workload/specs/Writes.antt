-- What is left of a sink by a call that writes some bytes, or finds no memory for them.
use Rattle.std.specs.Prelude.{◌≡◌, ◌≤◌, List, ℕ, Bool, true, false, Result, Ok, Err, OnOk, OnErr}
use Rattle.lp_io.specs.Counts.{Counts}
use Rattle.lp_io.specs.Told.{after_adding, IsCut}
use Rattle.lp_script.specs.Put.{Told}
use Rattle.lp_workload.specs.declared.fault.WorkloadFault.{WorkloadFault}
use Rattle.lp_workload.specs.declared.fault.WorkloadFault.TheVariants.{Failed, ZeroTaken, NoMemory}

-- the fault is that a write failed
abbrev pub is_failure : WorkloadFault → Bool
is_failure Failed = true
is_failure ZeroTaken = false
is_failure NoMemory = false

-- the fault is that a write took nothing
abbrev pub is_zero : WorkloadFault → Bool
is_zero Failed = false
is_zero ZeroTaken = true
is_zero NoMemory = false

-- the answer is a fault of a kind
abbrev pub is_fault : {T : Type 0} → (WorkloadFault → Bool) → Result T WorkloadFault → Bool
is_fault kind (Ok x) = false
is_fault kind (Err e) = kind e

-- The bytes were written, or a front of them where a write failed, a write took nothing or memory ran out; of the counts that of the answer rose.
pub record Writes {T : Type 0} (before now : Told) (result : Result T WorkloadFault) (bytes : List ℕ) : Type 0 where
  pub whole : OnOk result (now.written ≡ after_adding before.written bytes)
  pub cut : OnErr result (IsCut before.written now.written bytes)
  pub faults : Counts (is_fault is_failure result) before.faults now.faults
  pub no_fall : before.faults ≤ now.faults
  pub zeros : Counts (is_fault is_zero result) before.zeros now.zeros
  pub zeros_no_fall : before.zeros ≤ now.zeros
