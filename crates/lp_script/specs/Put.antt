-- What is left of a sink by a call that writes some bytes.
use Rattle.std.specs.Prelude.{◌≡◌, ℕ, ◌≤◌, List, Option, Result, OnOk, OnErr}
use Rattle.lp_io.specs.Counts.{Counts}
use Rattle.lp_io.specs.Told.{after_adding, IsCut, is_failed, is_zero_taken}
use Rattle.lp_io.specs.declared.put.PutFault.{PutFault}

-- what a sink tells, and its two counts
pub record Told : Type 0 where
  pub written : Option (List ℕ)
  pub faults : ℕ
  pub zeros : ℕ

-- the bytes were written, or cut where a write failed or took nothing, and the count that the answer names rose
pub record Puts (before now : Told) (result : Result (Unit {0}) PutFault) (bytes : List ℕ) : Type 0 where
  pub whole : OnOk result (now.written ≡ after_adding before.written bytes)
  pub cut : OnErr result (IsCut before.written now.written bytes)
  pub faults : Counts (is_failed result) before.faults now.faults
  pub no_fall : before.faults ≤ now.faults
  pub zeros : Counts (is_zero_taken result) before.zeros now.zeros
  pub zeros_no_fall : before.zeros ≤ now.zeros
