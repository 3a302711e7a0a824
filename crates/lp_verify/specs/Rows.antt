-- Functions and switches as tests.
use Rattle.std.specs.Prelude.{ℕ, suc, Bool, true, ◌&&◌, nat_eq, nat_lt, nat_le, List, [], ◌∷◌, length}
use Rattle.lp_instr.specs.declared.instr.Case.{Case}
use Rattle.lp_instr.specs.Code.{case_place}
use Rattle.lp_code.specs.declared.program.FunRow.{FunRow}
use Rattle.lp_code.specs.declared.program.RawProgram.{RawProgram}
use Rattle.lp_code.specs.declared.program.SwitchRow.{SwitchRow}
use Rattle.lp_code.specs.Inside.{have_texts}

abbrev pub row_fits : ℕ → ℕ → FunRow → Bool
row_fits n low r = nat_le low r.from && nat_lt r.from n && nat_le r.params r.locals

abbrev pub rows_rise : ℕ → ℕ → List FunRow → Bool
rows_rise n low [] = true
rows_rise n low (r ∷ rs) = row_fits n low r && rows_rise n (suc r.from) rs

abbrev pub are_rows : ℕ → List FunRow → Bool
are_rows n [] = nat_eq n 0
are_rows n (r ∷ rs) = nat_eq r.from 0 && rows_rise n 0 (r ∷ rs)

abbrev pub are_inside : ℕ → List Case → Bool
are_inside n [] = true
are_inside n (c ∷ cs) = nat_lt (case_place c) n && are_inside n cs

abbrev pub is_switch : RawProgram → SwitchRow → Bool
is_switch p r = nat_lt r.other (length p.instrs) && are_inside (length p.instrs) r.cases && have_texts (length p.consts) r.cases

abbrev pub are_switches : RawProgram → List SwitchRow → Bool
are_switches p [] = true
are_switches p (r ∷ rs) = is_switch p r && are_switches p rs
