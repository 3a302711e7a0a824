-- What the verifier answers.
use Rattle.std.specs.Prelude.{◌≡◌, ◌<◌, ℕ, ⊤, ◌⊎◌, All, length}
use Rattle.lp_code.specs.declared.program.RawProgram.{RawProgram}
use Rattle.lp_code.specs.Owners.{AreRows}
use Rattle.lp_code.specs.Inside.{IsSwitch, AreTables}
use Rattle.lp_code.specs.Programs.{IsProgram}
use Rattle.lp_verify.specs.declared.fault.VerifyFault.{VerifyFault}
use Rattle.lp_verify.specs.declared.fault.VerifyFault.TheVariants.{NoMemory, Unsound}
use Rattle.lp_verify.specs.Fails.{Fails, NoneFails}

-- functions, switches and tables are as they have to be
pub record AreOthers (p : RawProgram) : Type 0 where
  pub rows : AreRows (length p.instrs) p.funs
  pub switches : All (IsSwitch p) p.switches
  pub tables : AreTables p.tables

-- The least instruction that fails, or the number of instructions where none does and only a function, a switch or a table
-- is not as it has to be.
pub record IsFirstFault (p : RawProgram) (at : ℕ) : Type 0 where
  pub least : NoneFails p at
  pub here : ((at < length p.instrs) × Fails p at) ⊎ ((at ≡ length p.instrs) × (AreOthers p → ⊥))

-- an unsound program is refused at its first fault; only want of memory is free
abbrev pub IsRefused : RawProgram → VerifyFault → Type 0
IsRefused p NoMemory = ⊤
IsRefused p (Unsound at) = IsFirstFault p at × (IsProgram p → ⊥)
