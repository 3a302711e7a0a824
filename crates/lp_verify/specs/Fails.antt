-- Which instructions fail.
use Rattle.std.specs.Prelude.{◌≡◌, ◌<◌, ℕ, Bool, true, false, not, ◌⊎◌, Option, Some, None, slice_get, length}
use Rattle.lp_instr.specs.declared.instr.Instr.{Instr}
use Rattle.lp_code.specs.declared.program.RawProgram.{RawProgram}
use Rattle.lp_code.specs.Inside.{stands}
use Rattle.lp_verify.specs.Paths.{Known, Never, Once, Mixed, Learned}
use Rattle.lp_verify.specs.Flow.{holds, starts, ways}

abbrev pub is_bad : RawProgram → ℕ → Known → Option Instr → Bool
is_bad p at k None = false
is_bad p at Never (Some i) = not (stands p at i)
is_bad p at (Once f) (Some i) = not (holds p at f i)
is_bad p at Mixed (Some i) = true

-- by what is known of a place, whether its instruction fails
unfoldable pub bad : RawProgram → ℕ → Known → Bool
bad p at k = is_bad p at k (slice_get p.instrs at)

-- An instruction fails where something that it names is not there, or where something that paths teach of it is bad.
abbrev pub Fails : RawProgram → ℕ → Type 0
Fails p at = (bad p at Never ≡ true) ⊎ ((k : Known) × Learned (ways p) (starts p) at k × (bad p at k ≡ true))

-- none of the first n instructions fails
abbrev pub NoneFails : RawProgram → ℕ → Type 0
NoneFails p n = (at : ℕ) → at < n → Fails p at → ⊥

-- the answer is the least that fails, or nothing where none does
abbrev pub IsLeast : RawProgram → Option ℕ → Type 0
IsLeast p None = NoneFails p (length p.instrs)
IsLeast p (Some at) = Fails p at × NoneFails p at
