-- When the rows of functions stand for code that lies one behind another, and what the program is then.
use Rattle.std.specs.Prelude.{◌≡◌, ◌≤◌, ◌<◌, ℕ, List, [], ◌∷◌, Some, length, slice_get}
use Rattle.lp_instr.specs.declared.instr.Instr.{Instr}
use Rattle.lp_instr.specs.declared.instr.Instr.TheVariants.{Switch}
use Rattle.lp_instr.specs.Sound.{Bounds, IsNamed, IsSound, Shapes}
use Rattle.lp_code.specs.declared.program.FunRow.{FunRow}
use Rattle.lp_code.specs.declared.program.RawProgram.{RawProgram}
use Rattle.lp_code.specs.Inside.{AreTables}
use Rattle.lp_code.specs.Programs.{IsProgram, bounds_of, code_of}
use Rattle.lp_sound_laws.specs.Heights.{gains}
use Rattle.lp_sound_laws.specs.Placed.{ArePlaced}

-- A row is that of the code from one place up to another: each of its instructions names what is there and leads to one that is
-- there; and where all of the program do so within some bounds, it is sound in these, with some greatest height.
pub record IsPart (p : RawProgram) (parents : List (List (List ℕ))) (r : FunRow) (from to : ℕ) : Type 0 where
  pub begins : r.from ≡ from
  pub some : from < to
  pub params : r.params ≤ r.locals
  pub placed : ArePlaced (code_of p parents) (bounds_of p r) from to
  pub sound : (b : Bounds) → ((at : ℕ) (i : Instr) → slice_get p.instrs at ≡ Some i → IsNamed (code_of p parents) b i)
      → (top : ℕ) × (shapes : Shapes) × IsSound (code_of p parents) (record b { max_height = top }) from to shapes

-- rows are those of code that lies one behind another
abbrev pub AreParts : RawProgram → List (List (List ℕ)) → List FunRow → ℕ → ℕ → Type 0
AreParts p parents [] from to = to ≡ from
AreParts p parents (r ∷ rs) from to = (m : ℕ) × IsPart p parents r from m × AreParts p parents rs m to

-- an instruction names each row of the list of switches
abbrev pub AreSwitchesNamed : RawProgram → Type 0
AreSwitchesNamed p = (k : ℕ) → k < length p.switches → (at : ℕ) × (slice_get p.instrs at ≡ Some (Switch k))

-- A program is sound where its rows are those of all its code, in order; where its stack may become as high as all its
-- instructions together make it; where each switch is named; where it has as many parents as tables of parents are given; and
-- where its own tables are fine.
abbrev pub PartsAreProgram : Type 0
PartsAreProgram =
    (p : RawProgram) (parents : List (List (List ℕ))) → AreParts p parents p.funs 0 (length p.instrs) → length parents ≤ length p.tables.parents
    → p.max_height ≡ gains p.instrs → AreSwitchesNamed p → AreTables p.tables → IsProgram p
