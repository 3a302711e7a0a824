-- What becomes of code in which no jump is open.
use Rattle.std.specs.Prelude.{◌≡◌, List, map, Option, Some, None}
use Rattle.lp_instr.specs.declared.instr.Instr.{Instr}
use Rattle.lp_code.specs.declared.program.FunRow.{FunRow}
use Rattle.lp_codegen_expr.specs.declared.code.Code.{Code as Built}
use Rattle.lp_codegen_expr.specs.declared.code.Draft.{Draft}
use Rattle.lp_codegen_expr.specs.declared.code.Draft.TheVariants.{Done}
use Rattle.lp_codegen_expr.specs.declared.code.GenFault.{GenFault}
use Rattle.lp_codegen_expr.specs.declared.code.GenFault.TheVariants.{Unclear}
use Rattle.lp_codegen_flow.specs.Functions.{AreDone, IsDone}
use Rattle.lp_codegen_unit.specs.declared.finish.UnitCode.{UnitCode}

-- an open jump has no instruction, and each other draft is one
abbrev pub IsInstr : Draft → Option Instr → Type 0
IsInstr d None = IsDone (Some d) → ⊥
IsInstr d (Some i) = d ≡ Done i

-- it is refused where a jump is open, or for want of memory
abbrev pub RefusesOpen : List Draft → GenFault → Type 0
RefusesOpen ds f = f ≡ Unclear → AreDone ds 0 → ⊥

-- the same instructions, texts and switches, with these rows
pub record Finishes (b : Built) (rs : List FunRow) (u : UnitCode) : Type 0 where
  pub instrs : map Done u.instrs.items ≡ b.instrs.items
  pub texts : u.texts.items ≡ b.texts
  pub switches : u.switches.items ≡ b.switches.items
  pub funs : u.funs.items ≡ rs
