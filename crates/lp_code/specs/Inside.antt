-- What instructions, switches and tables name is there.
use Rattle.std.specs.Prelude.{◌≡◌, ◌≤◌, ◌<◌, ℕ, Bool, true, false, ◌&&◌, ◌||◌, nat_lt, nat_le, List, [], ◌∷◌, Option, Some, None, slice_get, length, map, All}
use Rattle.lp_instr.specs.declared.efun.Efun.{Efun}
use Rattle.lp_instr.specs.declared.instr.Instr.{Instr}
use Rattle.lp_instr.specs.declared.instr.Instr.TheVariants.{PushText, PushLocal, SetLocal, PushGlobal, SetGlobal, Rotate, Jump, JumpIfZero, JumpIfNotZero, KeepIfZero, KeepIfNotZero, LoopTurn, CallSlot, CallFixed, CallEfun, CallSimul, CatchBegin, Switch, EachBegin, EachNext}
use Rattle.lp_instr.specs.declared.instr.Case.{Case}
use Rattle.lp_instr.specs.declared.instr.Case.TheVariants as cases
use Rattle.lp_instr.specs.EfunList.{arity}
use Rattle.lp_instr.specs.Code.{case_place}
use Rattle.lp_code.specs.declared.program.RawProgram.{RawProgram}
use Rattle.lp_code.specs.declared.program.SwitchRow.{SwitchRow}
use Rattle.lp_code.specs.declared.tables.Slot.{Slot}
use Rattle.lp_code.specs.declared.tables.Tables.{Tables}
use Rattle.lp_code.specs.Owners.{locals_at}

abbrev pub is_at_most : ℕ → Option ℕ → Bool
is_at_most n None = true
is_at_most n (Some m) = nat_le n m

-- an efun may be called with so many arguments
abbrev pub is_allowed : Efun → ℕ → Bool
is_allowed e n = nat_le (arity e).least n && is_at_most n (arity e).most

-- the text of a label is there
abbrev pub has_text : ℕ → Case → Bool
has_text n (cases.Ints a b to) = true
has_text n (cases.Text k to) = nat_lt k n

abbrev pub have_texts : ℕ → List Case → Bool
have_texts n [] = true
have_texts n (c ∷ cs) = has_text n c && have_texts n cs

abbrev pub row_has_texts : ℕ → Option SwitchRow → Bool
row_has_texts n None = false
row_has_texts n (Some r) = have_texts n r.cases

-- one or two variables of a loop over an array or a mapping
abbrev pub are_variables : ℕ → Bool
are_variables n = nat_le 1 n && nat_le n 2

-- What an instruction at a place names is there: texts, switches with their texts, slots, parents, locals and variables.
-- An efun's number of arguments is one that it allows.
abbrev pub is_named : RawProgram → ℕ → Instr → Bool
is_named p at (PushText k) = nat_lt k (length p.consts)
is_named p at (PushLocal k) = nat_lt k (locals_at p at)
is_named p at (SetLocal k) = nat_lt k (locals_at p at)
is_named p at (PushGlobal k) = nat_lt k (length p.tables.vars)
is_named p at (SetGlobal k) = nat_lt k (length p.tables.vars)
is_named p at (Rotate n) = nat_le 1 n
is_named p at (CallSlot k n) = nat_lt k (length p.tables.slots)
is_named p at (CallFixed parent j n) = nat_lt parent (length p.tables.parents)
is_named p at (CallEfun e n) = is_allowed e n
is_named p at (CallSimul k n) = nat_lt k (length p.consts)
is_named p at (Switch k) = row_has_texts (length p.consts) (slice_get p.switches k)
is_named p at (EachBegin n) = are_variables n
is_named p at (EachNext to n) = are_variables n
is_named p at i = true

abbrev pub row_places : Option SwitchRow → List ℕ
row_places None = []
row_places (Some r) = r.other ∷ map case_place r.cases

-- the places that an instruction may go on at in place of the next one
abbrev pub jumps : RawProgram → Instr → List ℕ
jumps p (Jump to) = to ∷ []
jumps p (JumpIfZero to) = to ∷ []
jumps p (JumpIfNotZero to) = to ∷ []
jumps p (KeepIfZero to) = to ∷ []
jumps p (KeepIfNotZero to) = to ∷ []
jumps p (CatchBegin to) = to ∷ []
jumps p (EachNext to n) = to ∷ []
jumps p (Switch k) = row_places (slice_get p.switches k)
jumps p i = []

abbrev pub is_turn : Option Instr → Bool
is_turn (Some LoopTurn) = true
is_turn i = false

-- a jump leads to an instruction, which is a turn of a loop where it stands at the same place or before
abbrev pub jump_stands : RawProgram → ℕ → ℕ → Bool
jump_stands p at to = nat_lt to (length p.instrs) && (nat_lt at to || is_turn (slice_get p.instrs to))

abbrev pub jumps_stand : RawProgram → ℕ → List ℕ → Bool
jumps_stand p at [] = true
jumps_stand p at (to ∷ tos) = jump_stands p at to && jumps_stand p at tos

-- all that is asked of an instruction whether a path reaches it or not
abbrev pub stands : RawProgram → ℕ → Instr → Bool
stands p at i = is_named p at i && jumps_stand p at (jumps p i)

-- the labels of a switch lead to instructions, and name texts that are there
abbrev pub IsSwitch : RawProgram → SwitchRow → Type 0
IsSwitch p r = All (λ to. to < length p.instrs) (row_places (Some r)) × (have_texts (length p.consts) r.cases ≡ true)

-- at most 65535 slots, of distinct names
pub record AreTables (t : Tables) : Type 0 where
  pub few : length t.slots ≤ 65535
  pub distinct : (i j : ℕ) (x y : Slot) → slice_get t.slots i ≡ Some x → slice_get t.slots j ≡ Some y → x.name ≡ y.name → i ≡ j
