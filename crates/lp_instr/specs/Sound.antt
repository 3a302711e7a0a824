-- The invariant of code: on every path each instruction is reached with one height of the stack and one list of open
-- catches, finds what it takes, and names only what is there; a jump back leads to a turn of a loop.
use Rattle.std.specs.Prelude.{◌≡◌, ◌≤◌, ◌<◌, ℕ, ◌+◌, ◌-◌, ◌*◌, ⊤, List, [], ◌∷◌, Option, Some, None, IsSome, slice_get}
use Rattle.lp_instr.specs.declared.instr.Instr.{Instr}
use Rattle.lp_instr.specs.declared.instr.Instr.TheVariants.{PushInt, PushText, PushLocal, SetLocal, PushGlobal, SetGlobal, Pop, Dup, Dup2, Unary, Binary, Step, Rotate, Index, SetIndex, Range, MakeArray, MakeMap, Jump, JumpIfZero, JumpIfNotZero, KeepIfZero, KeepIfNotZero, LoopTurn, CallSlot, CallFixed, CallOther, CallEfun, CallSimul, Scan, CatchBegin, CatchEnd, Switch, EachBegin, EachNext, Return, ReturnZero}
use Rattle.lp_instr.specs.declared.instr.EndKind.{EndKind}
use Rattle.lp_instr.specs.declared.instr.EndKind.TheVariants as kinds
use Rattle.lp_instr.specs.declared.instr.Case.{Case}
use Rattle.lp_instr.specs.EfunList.{Allows}
use Rattle.lp_instr.specs.Code.{Code, Catching, Table, parent_row, case_place}

-- how an instruction is reached: the height of the stack and the open catches, the innermost first
pub record Shape : Type 0 where
  pub height : ℕ
  pub catches : List Catching

-- how each instruction is reached, if it is
abbrev pub Shapes : Type 0
Shapes = ℕ → Option Shape

abbrev pub shape : ℕ → List Catching → Shape
shape n cs = record { height = n; catches = cs }

-- how many locals and variables there are, and how high the stack may be
pub record Bounds : Type 0 where
  pub locals : ℕ
  pub variables : ℕ
  pub max_height : ℕ

-- no operand is taken from below an open catch
abbrev pub IsAbove : List Catching → ℕ → Type 0
IsAbove [] n = ⊤
IsAbove (c ∷ cs) n = c.height ≤ n

-- where a path may lead, and how it comes there
abbrev pub Goal : Type 1
Goal = ℕ → Shape → Type 0

-- to what the shapes say
abbrev pub By : Shapes → Goal
By shapes p sh = shapes p ≡ Some sh

-- what is caught goes on where the catch says, with the height of its begin and the caught value
abbrev pub CatchLeads : Goal → List Catching → Type 0
CatchLeads T [] = ⊤
CatchLeads T (c ∷ cs) = T c.place (shape (c.height + 1) cs)

-- an instruction leads to another, which is a turn of a loop where it lies at the same place or before
pub record LeadsTo (code : Code) (T : ℕ → Shape → Type 0) (from to : ℕ) (sh : Shape) : Type 0 where
  pub reached : T to sh
  pub turns : to ≤ from → slice_get code.instrs to ≡ Some LoopTurn

-- n values are on the stack, above the innermost catch
pub record Takes (n : ℕ) (sh : Shape) : Type 0 where
  pub enough : n ≤ sh.height
  pub above : IsAbove sh.catches (sh.height - n)

-- an instruction that takes n values and leaves k, and goes on with the next one
pub record Flows (code : Code) (T : ℕ → Shape → Type 0) (n k p : ℕ) (sh : Shape) : Type 0 where
  pub takes : Takes n sh
  pub leads : LeadsTo code T p (p + 1) (shape (sh.height - n + k) sh.catches)

-- how many values an end of a range takes
abbrev pub end_count : EndKind → ℕ
end_count kinds.Start = 1
end_count kinds.Back = 1
end_count kinds.Open = 0

-- each label of a switch leads on, and so does the place where none fits
abbrev pub CasesLead : Code → Goal → ℕ → Shape → List Case → Type 0
CasesLead code T p sh [] = ⊤
CasesLead code T p sh (k ∷ ks) = LeadsTo code T p (case_place k) sh × CasesLead code T p sh ks

abbrev pub TableLeads : Code → Goal → ℕ → Shape → Option Table → Type 0
TableLeads code T p sh None = ⊥
TableLeads code T p sh (Some t) = CasesLead code T p sh t.cases × LeadsTo code T p t.other sh

-- a `catch` closes the innermost one
abbrev pub Closes : Code → Goal → ℕ → Shape → List Catching → Type 0
Closes code T p sh [] = ⊥
Closes code T p sh (c ∷ cs) = LeadsTo code T p (p + 1) (shape sh.height cs)

-- what an instruction names is there
abbrev pub IsNamed : Code → Bounds → Instr → Type 0
IsNamed code b (PushText k) = IsSome (slice_get code.texts k)
IsNamed code b (PushLocal k) = k < b.locals
IsNamed code b (SetLocal k) = k < b.locals
IsNamed code b (PushGlobal k) = k < b.variables
IsNamed code b (SetGlobal k) = k < b.variables
IsNamed code b (Rotate n) = 1 ≤ n
IsNamed code b (CallSlot k n) = IsSome (slice_get code.rows k)
IsNamed code b (CallFixed parent j n) = IsSome (parent_row code parent j)
IsNamed code b (CallEfun e n) = Allows e n
IsNamed code b (CallSimul k n) = IsSome (slice_get code.texts k)
IsNamed code b (Switch k) = IsSome (slice_get code.switches k)
IsNamed code b (EachBegin n) = (1 ≤ n) × (n ≤ 2)
IsNamed code b (EachNext to n) = (1 ≤ n) × (n ≤ 2)
IsNamed code b _ = ⊤

-- an instruction at a place that is reached so finds what it takes, and leads where it may
abbrev pub IsFine : Code → Goal → Instr → ℕ → Shape → Type 0
IsFine code T (PushInt z) p sh = Flows code T 0 1 p sh
IsFine code T (PushText k) p sh = Flows code T 0 1 p sh
IsFine code T (PushLocal k) p sh = Flows code T 0 1 p sh
IsFine code T (SetLocal k) p sh = Flows code T 1 1 p sh
IsFine code T (PushGlobal k) p sh = Flows code T 0 1 p sh
IsFine code T (SetGlobal k) p sh = Flows code T 1 1 p sh
IsFine code T Pop p sh = Flows code T 1 0 p sh
IsFine code T Dup p sh = Flows code T 1 2 p sh
IsFine code T Dup2 p sh = Flows code T 2 4 p sh
IsFine code T (Unary op) p sh = Flows code T 1 1 p sh
IsFine code T (Binary op) p sh = Flows code T 2 1 p sh
IsFine code T (Step op) p sh = Flows code T 1 1 p sh
IsFine code T (Rotate n) p sh = Flows code T n n p sh
IsFine code T (Index e) p sh = Flows code T 2 1 p sh
IsFine code T (SetIndex e) p sh = Flows code T 3 1 p sh
IsFine code T (Range x y) p sh = Flows code T (1 + end_count x + end_count y) 1 p sh
IsFine code T (MakeArray n) p sh = Flows code T n 1 p sh
IsFine code T (MakeMap n) p sh = Flows code T (2 * n) 1 p sh
IsFine code T (Jump to) p sh = LeadsTo code T p to sh
IsFine code T (JumpIfZero to) p sh = Flows code T 1 0 p sh × LeadsTo code T p to (shape (sh.height - 1) sh.catches)
IsFine code T (JumpIfNotZero to) p sh = Flows code T 1 0 p sh × LeadsTo code T p to (shape (sh.height - 1) sh.catches)
IsFine code T (KeepIfZero to) p sh = Flows code T 1 0 p sh × LeadsTo code T p to sh
IsFine code T (KeepIfNotZero to) p sh = Flows code T 1 0 p sh × LeadsTo code T p to sh
IsFine code T LoopTurn p sh = Flows code T 0 0 p sh
IsFine code T (CallSlot k n) p sh = Flows code T n 1 p sh
IsFine code T (CallFixed parent j n) p sh = Flows code T n 1 p sh
IsFine code T (CallOther n) p sh = Flows code T (n + 2) 1 p sh
IsFine code T (CallEfun e n) p sh = Flows code T n 1 p sh
IsFine code T (CallSimul k n) p sh = Flows code T n 1 p sh
IsFine code T (Scan n) p sh = Flows code T 2 (2 * n + 1) p sh
IsFine code T (CatchBegin to) p sh =
    LeadsTo code T p (p + 1) (shape sh.height (record { place = to; height = sh.height } ∷ sh.catches)) × LeadsTo code T p to (shape (sh.height + 1) sh.catches)
IsFine code T CatchEnd p sh = Closes code T p sh sh.catches
IsFine code T (Switch k) p sh = Takes 1 sh × TableLeads code T p (shape (sh.height - 1) sh.catches) (slice_get code.switches k)
IsFine code T (EachBegin n) p sh = Flows code T 1 2 p sh
IsFine code T (EachNext to n) p sh = Flows code T 2 0 p sh × LeadsTo code T p to (shape (sh.height + n) sh.catches)
IsFine code T Return p sh = Takes 1 sh × (sh.catches ≡ [])
IsFine code T ReturnZero p sh = sh.catches ≡ []

-- a place that is reached has an instruction, and all holds of it
pub record IsReachedWell (code : Code) (b : Bounds) (T : ℕ → Shape → Type 0) (p : ℕ) (sh : Shape) : Type 0 where
  pub instr : Instr
  pub is : slice_get code.instrs p ≡ Some instr
  pub named : IsNamed code b instr
  pub fine : IsFine code T instr p sh
  pub catch : CatchLeads T sh.catches

-- The code of a function, from its first instruction up to a place, is sound: nothing but its own is reached.
pub record IsSound (code : Code) (b : Bounds) (from to : ℕ) (shapes : Shapes) : Type 0 where
  pub begins : shapes from ≡ Some (shape 0 [])
  pub inside : (p : ℕ) (sh : Shape) → shapes p ≡ Some sh → (from ≤ p) × (p < to)
  pub low : (p : ℕ) (sh : Shape) → shapes p ≡ Some sh → sh.height ≤ b.max_height
  pub well : (p : ℕ) (sh : Shape) → shapes p ≡ Some sh → IsReachedWell code b (By shapes) p sh
