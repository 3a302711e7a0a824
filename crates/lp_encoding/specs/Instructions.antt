-- The bytes of instructions.
use Rattle.std.specs.Prelude.{ℕ, ◌+◌, ◌*◌, List, [], ◌∷◌, ⊤}
use Rattle.std.specs.Int.{w8, w32}
use Rattle.lp_tree.specs.declared.expr.Edge.{Edge}
use Rattle.lp_tree.specs.declared.expr.Edge.TheVariants.{Front, Back}
use Rattle.lp_tree.specs.declared.operator.BinOp.{BinOp}
use Rattle.lp_tree.specs.declared.operator.BinOp.TheVariants.{Add, Sub, Mul, Div, Rem, And, Or, Xor, Shl, Shr, Lt, Le, Gt, Ge, Eq, Ne}
use Rattle.lp_tree.specs.declared.operator.Step.{Step as StepOp}
use Rattle.lp_tree.specs.declared.operator.Step.TheVariants.{Up, Down}
use Rattle.lp_tree.specs.declared.operator.UnOp.{UnOp}
use Rattle.lp_tree.specs.declared.operator.UnOp.TheVariants.{Not, Flip, Neg}
use Rattle.lp_instr.specs.EfunList.{efuns, efun_number}
use Rattle.lp_instr.specs.declared.efun.Efun.{Efun}
use Rattle.lp_instr.specs.declared.instr.EndKind.{EndKind}
use Rattle.lp_instr.specs.declared.instr.EndKind.TheVariants as ends
use Rattle.lp_instr.specs.declared.instr.Case.{Case}
use Rattle.lp_instr.specs.declared.instr.Case.TheVariants as cases
use Rattle.lp_instr.specs.declared.instr.Instr.{Instr}
use Rattle.lp_instr.specs.declared.instr.Instr.TheVariants.{PushInt, PushText, PushLocal, SetLocal, PushGlobal, SetGlobal, Pop, Dup, Dup2, Unary, Binary, Step, Rotate, Index, SetIndex, Range, MakeArray, MakeMap, Jump, JumpIfZero, JumpIfNotZero, KeepIfZero, KeepIfNotZero, LoopTurn, CallSlot, CallFixed, CallOther, CallEfun, CallSimul, Scan, CatchBegin, CatchEnd, Switch, EachBegin, EachNext, Return, ReturnZero}
use Rattle.lp_encoding.specs.Forms.{Form, number, integer, nothing, pair, listed}
use Rattle.lp_encoding.specs.Variants.{Reads, reads, no_variant, variants}

-- an operand that is a number: a place, a row or a count
abbrev pub place : Form ℕ
place = number w32

abbrev pub unary_number : UnOp → ℕ
unary_number Not = 0
unary_number Flip = 1
unary_number Neg = 2

-- a prefix operator, by its number
abbrev pub unary : Form UnOp
unary = listed w32 unary_number (Not ∷ Flip ∷ Neg ∷ [])

abbrev pub binary_number : BinOp → ℕ
binary_number Add = 0
binary_number Sub = 1
binary_number Mul = 2
binary_number Div = 3
binary_number Rem = 4
binary_number And = 5
binary_number Or = 6
binary_number Xor = 7
binary_number Shl = 8
binary_number Shr = 9
binary_number Lt = 10
binary_number Le = 11
binary_number Gt = 12
binary_number Ge = 13
binary_number Eq = 14
binary_number Ne = 15

-- a binary operator, by its number
abbrev pub binary : Form BinOp
binary = listed w32 binary_number (Add ∷ Sub ∷ Mul ∷ Div ∷ Rem ∷ And ∷ Or ∷ Xor ∷ Shl ∷ Shr ∷ Lt ∷ Le ∷ Gt ∷ Ge ∷ Eq ∷ Ne ∷ [])

abbrev pub step_number : StepOp → ℕ
step_number Down = 0
step_number Up = 1

-- a step: whether it goes up
abbrev pub step : Form StepOp
step = listed w32 step_number (Down ∷ Up ∷ [])

abbrev pub edge_number : Edge → ℕ
edge_number Front = 0
edge_number Back = 1

-- where an index counts from: whether from the end
abbrev pub edge : Form Edge
edge = listed w32 edge_number (Front ∷ Back ∷ [])

abbrev pub end_number : EndKind → ℕ
end_number ends.Start = 0
end_number ends.Back = 1
end_number ends.Open = 2

-- three times the number of the start, and the number of the end
abbrev pub range_number : EndKind × EndKind → ℕ
range_number r = 3 * end_number r.0 + end_number r.1

-- a kind of range, by its number
abbrev pub range : Form (EndKind × EndKind)
range = listed w32 range_number ((ends.Start, ends.Start) ∷ (ends.Start, ends.Back) ∷ (ends.Start, ends.Open) ∷ (ends.Back, ends.Start) ∷ (ends.Back, ends.Back) ∷ (ends.Back, ends.Open) ∷ (ends.Open, ends.Start) ∷ (ends.Open, ends.Back) ∷ (ends.Open, ends.Open) ∷ [])

-- an efun, by its number
abbrev pub efun : Form Efun
efun = listed w32 efun_number efuns

-- the number of an instruction, which counts from 1
abbrev pub instr_number : Instr → ℕ
instr_number (PushInt n) = 1
instr_number (PushText k) = 2
instr_number (PushLocal k) = 3
instr_number (SetLocal k) = 4
instr_number (PushGlobal k) = 5
instr_number (SetGlobal k) = 6
instr_number Pop = 7
instr_number Dup = 8
instr_number Dup2 = 9
instr_number (Unary op) = 10
instr_number (Binary op) = 11
instr_number (Step s) = 12
instr_number (Rotate n) = 13
instr_number (Index e) = 14
instr_number (SetIndex e) = 15
instr_number (Range a b) = 16
instr_number (MakeArray n) = 17
instr_number (MakeMap n) = 18
instr_number (Jump to) = 19
instr_number (JumpIfZero to) = 20
instr_number (JumpIfNotZero to) = 21
instr_number (KeepIfZero to) = 22
instr_number (KeepIfNotZero to) = 23
instr_number LoopTurn = 24
instr_number (CallSlot k n) = 25
instr_number (CallFixed p j n) = 26
instr_number (CallOther n) = 27
instr_number (CallEfun e n) = 28
instr_number (CallSimul k n) = 29
instr_number (Scan n) = 30
instr_number (CatchBegin to) = 31
instr_number CatchEnd = 32
instr_number (Switch k) = 33
instr_number (EachBegin n) = 34
instr_number (EachNext to n) = 35
instr_number Return = 36
instr_number ReturnZero = 37

-- the bytes of the operands of an instruction
abbrev pub operands : Instr → List ℕ
operands (PushInt n) = integer.spelled n
operands (PushText k) = place.spelled k
operands (PushLocal k) = place.spelled k
operands (SetLocal k) = place.spelled k
operands (PushGlobal k) = place.spelled k
operands (SetGlobal k) = place.spelled k
operands Pop = []
operands Dup = []
operands Dup2 = []
operands (Unary op) = unary.spelled op
operands (Binary op) = binary.spelled op
operands (Step s) = step.spelled s
operands (Rotate n) = place.spelled n
operands (Index e) = edge.spelled e
operands (SetIndex e) = edge.spelled e
operands (Range a b) = range.spelled (a, b)
operands (MakeArray n) = place.spelled n
operands (MakeMap n) = place.spelled n
operands (Jump to) = place.spelled to
operands (JumpIfZero to) = place.spelled to
operands (JumpIfNotZero to) = place.spelled to
operands (KeepIfZero to) = place.spelled to
operands (KeepIfNotZero to) = place.spelled to
operands LoopTurn = []
operands (CallSlot k n) = (pair place place).spelled (k, n)
operands (CallFixed p j n) = (pair place (pair place place)).spelled (p, (j, n))
operands (CallOther n) = place.spelled n
operands (CallEfun e n) = (pair efun place).spelled (e, n)
operands (CallSimul k n) = (pair place place).spelled (k, n)
operands (Scan n) = place.spelled n
operands (CatchBegin to) = place.spelled to
operands CatchEnd = []
operands (Switch k) = place.spelled k
operands (EachBegin n) = place.spelled n
operands (EachNext to n) = (pair place place).spelled (to, n)
operands Return = []
operands ReturnZero = []

-- the operands of an instruction have a spelling
abbrev pub OperandsFit : Instr → Type 0
OperandsFit (PushInt n) = integer.Fits n
OperandsFit (PushText k) = place.Fits k
OperandsFit (PushLocal k) = place.Fits k
OperandsFit (SetLocal k) = place.Fits k
OperandsFit (PushGlobal k) = place.Fits k
OperandsFit (SetGlobal k) = place.Fits k
OperandsFit Pop = ⊤
OperandsFit Dup = ⊤
OperandsFit Dup2 = ⊤
OperandsFit (Unary op) = unary.Fits op
OperandsFit (Binary op) = binary.Fits op
OperandsFit (Step s) = step.Fits s
OperandsFit (Rotate n) = place.Fits n
OperandsFit (Index e) = edge.Fits e
OperandsFit (SetIndex e) = edge.Fits e
OperandsFit (Range a b) = range.Fits (a, b)
OperandsFit (MakeArray n) = place.Fits n
OperandsFit (MakeMap n) = place.Fits n
OperandsFit (Jump to) = place.Fits to
OperandsFit (JumpIfZero to) = place.Fits to
OperandsFit (JumpIfNotZero to) = place.Fits to
OperandsFit (KeepIfZero to) = place.Fits to
OperandsFit (KeepIfNotZero to) = place.Fits to
OperandsFit LoopTurn = ⊤
OperandsFit (CallSlot k n) = (pair place place).Fits (k, n)
OperandsFit (CallFixed p j n) = (pair place (pair place place)).Fits (p, (j, n))
OperandsFit (CallOther n) = place.Fits n
OperandsFit (CallEfun e n) = (pair efun place).Fits (e, n)
OperandsFit (CallSimul k n) = (pair place place).Fits (k, n)
OperandsFit (Scan n) = place.Fits n
OperandsFit (CatchBegin to) = place.Fits to
OperandsFit CatchEnd = ⊤
OperandsFit (Switch k) = place.Fits k
OperandsFit (EachBegin n) = place.Fits n
OperandsFit (EachNext to n) = (pair place place).Fits (to, n)
OperandsFit Return = ⊤
OperandsFit ReturnZero = ⊤

-- what reads the operands of each instruction, by its number, which counts from 1
abbrev pub instr_readers : List (Reads Instr)
instr_readers =
    no_variant
    ∷ reads integer PushInt
    ∷ reads place PushText
    ∷ reads place PushLocal
    ∷ reads place SetLocal
    ∷ reads place PushGlobal
    ∷ reads place SetGlobal
    ∷ reads nothing (λ _. Pop)
    ∷ reads nothing (λ _. Dup)
    ∷ reads nothing (λ _. Dup2)
    ∷ reads unary Unary
    ∷ reads binary Binary
    ∷ reads step Step
    ∷ reads place Rotate
    ∷ reads edge Index
    ∷ reads edge SetIndex
    ∷ reads range (λ x. Range x.0 x.1)
    ∷ reads place MakeArray
    ∷ reads place MakeMap
    ∷ reads place Jump
    ∷ reads place JumpIfZero
    ∷ reads place JumpIfNotZero
    ∷ reads place KeepIfZero
    ∷ reads place KeepIfNotZero
    ∷ reads nothing (λ _. LoopTurn)
    ∷ reads (pair place place) (λ x. CallSlot x.0 x.1)
    ∷ reads (pair place (pair place place)) (λ x. CallFixed x.0 x.1.0 x.1.1)
    ∷ reads place CallOther
    ∷ reads (pair efun place) (λ x. CallEfun x.0 x.1)
    ∷ reads (pair place place) (λ x. CallSimul x.0 x.1)
    ∷ reads place Scan
    ∷ reads place CatchBegin
    ∷ reads nothing (λ _. CatchEnd)
    ∷ reads place Switch
    ∷ reads place EachBegin
    ∷ reads (pair place place) (λ x. EachNext x.0 x.1)
    ∷ reads nothing (λ _. Return)
    ∷ reads nothing (λ _. ReturnZero)
    ∷ []

-- an instruction: its number, then its operands
abbrev pub instr : Form Instr
instr = variants w32 instr_number operands OperandsFit instr_readers

abbrev pub label_number : Case → ℕ
label_number (cases.Ints a b to) = 0
label_number (cases.Text k to) = 1

abbrev pub label_fields : Case → List ℕ
label_fields (cases.Ints a b to) = (pair integer (pair integer place)).spelled (a, (b, to))
label_fields (cases.Text k to) = (pair place place).spelled (k, to)

abbrev pub FieldsFit : Case → Type 0
FieldsFit (cases.Ints a b to) = (pair integer (pair integer place)).Fits (a, (b, to))
FieldsFit (cases.Text k to) = (pair place place).Fits (k, to)

abbrev pub label_readers : List (Reads Case)
label_readers = reads (pair integer (pair integer place)) (λ x. cases.Ints x.0 x.1.0 x.1.1) ∷ reads (pair place place) (λ x. cases.Text x.0 x.1) ∷ []

-- a label of a switch: its kind in one byte, then its fields
abbrev pub label : Form Case
label = variants w8 label_number label_fields FieldsFit label_readers
