-- The initialisers of a part of an object's program, as a callee.
use Rattle.std.specs.Prelude.{◌≡◌, ◌+◌, ◌-◌, ◌<◌, ◌≤◌, ◌^◌, ℕ, true, false, Option, Some, None}
use Rattle.lp_values.specs.declared.id.ObjId.{ObjId}
use Rattle.lp_values.specs.declared.id.ProgId.{ProgId}
use Rattle.lp_code.specs.declared.program.RawProgram.{RawProgram}
use Rattle.lp_language.specs.Resolve.{Part}
use Rattle.lp_asking.specs.Callee.{Callee}
use Rattle.lp_part_laws.specs.Parts.{IsSplit}
use Rattle.lp_initialisers.specs.Rows.{IsInitialiserRow, has_initialisers}

-- the place where the variables of a part begin, where it has so many parts itself
abbrev pub IsBase : RawProgram → ℕ → ℕ → Option ℕ → Type 0
IsBase whole part count r = (base : ℕ) → count ≤ part + 1 → base < 2 ^ 32 → IsSplit whole.tables.vars (part + 1 - count) base → r ≡ Some base

-- A callee is the initialisers of a part of an object's program: it has the part's version, the place of its variables, and the
-- row of the initialisers in the program of that version.
pub record AreInitialisers (callee : Callee) (o : ObjId) (n : ℕ) (v : ProgId) (p : Part) (own : RawProgram) : Type 0 where
  pub this : callee.this ≡ o
  pub part : callee.part ≡ n
  pub program : callee.program ≡ v
  pub base : callee.base ≡ p.base
  pub row : IsInitialiserRow p.tree own callee.fun

-- there is one exactly where the part has initialisers
abbrev pub AreInitialisersIf : Option Callee → ObjId → ℕ → ProgId → Part → RawProgram → Type 0
AreInitialisersIf None o n v p own = has_initialisers p.tree ≡ false
AreInitialisersIf (Some callee) o n v p own = (has_initialisers p.tree ≡ true) × AreInitialisers callee o n v p own
