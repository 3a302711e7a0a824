-- The instruction table: what each instruction does.
use Rattle.std.specs.Prelude.{ℕ, zero, suc, ◌+◌, ◌-◌, ◌*◌, pos, negsuc, Bool, false, cond, List, [], ◌∷◌, Option, Some, None, length, drop, slice_get, nat_eq}
use Rattle.lp_values.specs.declared.value.Value.{Value}
use Rattle.lp_values.specs.declared.value.Value.TheVariants as values
use Rattle.lp_instr.specs.declared.efun.Efun.TheVariants as efun
use Rattle.lp_instr.specs.declared.instr.Instr.{Instr}
use Rattle.lp_instr.specs.declared.instr.Instr.TheVariants.{PushInt, PushText, PushLocal, SetLocal, PushGlobal, SetGlobal, Pop, Dup, Dup2, Unary, Binary, Step, Rotate, Index, SetIndex, Range, MakeArray, MakeMap, Jump, JumpIfZero, JumpIfNotZero, KeepIfZero, KeepIfNotZero, LoopTurn, CallSlot, CallFixed, CallOther, CallEfun, CallSimul, Scan, CatchBegin, CatchEnd, Switch, EachBegin, EachNext, Return, ReturnZero}
use Rattle.lp_instr.specs.declared.instr.EndKind.{EndKind}
use Rattle.lp_instr.specs.declared.instr.EndKind.TheVariants as kinds
use Rattle.lp_instr.specs.declared.instr.Case.{Case}
use Rattle.lp_instr.specs.declared.instr.Case.TheVariants as cases
use Rattle.lp_instr.specs.Code.{Code, Catching, parent_row, case_place}
use Rattle.lp_language.specs.Course.{Scene, State, Stop, End, Gives, Stops, Ask, Asked, Internal, Parent, OfEfun, Outcome, asking, end_of_outcome, pay, caught, zero_value}
use Rattle.lp_language.specs.Eval.{simul_object}
use Rattle.lp_language.specs.Operations.{is_false, unary, binary, item, range, stepped, new_array, new_mapping, put_item, scan, local_of, with_local, global_of, with_global, copied, row_at, labelled, is_between, is_text}

-- the place of the next instruction, the stack from its top, the open catches from the innermost, and the state
pub record Moment : Type 0 where
  pub place : ℕ
  pub stack : List Value
  pub catches : List Catching
  pub state : State

-- What comes next: another moment; the function's end; a question whose outcome is awaited; or nothing that fits, which
-- the code of a program never comes to.
pub data Next : Type 0 where
  Goes : Moment → Next
  Ended : End Value → Next
  Awaits : Ask → (Outcome → Next) → Next
  Wrong : Next

-- the lowest n values
abbrev pub lowest : ℕ → List Value → List Value
lowest n stack = drop (length stack - n) stack

-- A stop goes on at the innermost catch, with the height of its begin and the caught value on top; a spent budget, or
-- a stop where no catch is open, ends the function.
abbrev pub stop_at : Option Value → Stop → List Catching → List Value → State → Next
stop_at None x catches stack s = Ended (Stops x s)
stop_at (Some v) x [] stack s = Ended (Stops x s)
stop_at (Some v) x (c ∷ catches) stack s = Goes (record { place = c.place; stack = v ∷ lowest c.height stack; catches = catches; state = s })

abbrev pub stopped : Stop → List Catching → List Value → State → Next
stopped x catches stack s = stop_at (caught x.cause) x catches stack s

abbrev pub goes : ℕ → List Value → List Catching → State → Next
goes place stack catches s = Goes (record { place = place; stack = stack; catches = catches; state = s })

-- a value goes on top of the stack
abbrev pub push_end : End Value → ℕ → List Catching → List Value → Next
push_end (Gives v s) place catches stack = goes place (v ∷ stack) catches s
push_end (Stops x s) place catches stack = stopped x catches stack s

-- goes on from an end that gives something
abbrev pub end_then : {A : Type 0} → End A → List Catching → List Value → (A → State → Next) → Next
end_then (Gives x s) catches stack go = go x s
end_then (Stops x s) catches stack go = stopped x catches stack s

-- the n topmost values, the lowest of them first, and those below
abbrev pub take_arguments : ℕ → List Value → List Value → (List Value → List Value → Next) → Next
take_arguments zero taken stack go = go taken stack
take_arguments (suc n) taken [] go = Wrong
take_arguments (suc n) taken (x ∷ stack) go = take_arguments n (x ∷ taken) stack go

abbrev pub on_one : List Value → (Value → List Value → Next) → Next
on_one [] go = Wrong
on_one (x ∷ stack) go = go x stack

abbrev pub on_two : List Value → (Value → Value → List Value → Next) → Next
on_two stack go = on_one stack (λ y stack. on_one stack (λ x stack. go x y stack))

abbrev pub on_three : List Value → (Value → Value → Value → List Value → Next) → Next
on_three stack go = on_one stack (λ z stack. on_two stack (λ x y stack. go x y z stack))

-- an end of a range, where it is given
abbrev pub on_end : EndKind → List Value → (Value → List Value → Next) → Next
on_end kinds.Start stack go = on_one stack go
on_end kinds.Back stack go = on_one stack go
on_end kinds.Open stack go = go zero_value stack

-- the n-th value from the top, counted from 0, and the others
abbrev pub bring : ℕ → List Value → (Value → List Value → Next) → Next
bring n [] go = Wrong
bring zero (x ∷ rest) go = go x rest
bring (suc n) (y ∷ rest) go = bring n rest (λ x others. go x (y ∷ others))

abbrev pub rotate : ℕ → List Value → (Value → List Value → Next) → Next
rotate zero stack go = Wrong
rotate (suc n) stack go = bring n stack go

-- what a list has at a place, if it has
abbrev pub on_some : {A : Type 0} → Option A → (A → Next) → Next
on_some None go = Wrong
on_some (Some x) go = go x

abbrev pub end_catch : List Catching → (List Catching → Next) → Next
end_catch [] go = Wrong
end_catch (c ∷ catches) go = go catches

-- a question, whose value goes on top
abbrev pub awaits : Asked → List Value → Scene → State → ℕ → List Catching → List Value → Next
awaits what xs c s place catches stack = Awaits (asking what xs c s) (λ o. push_end (end_of_outcome s o) place catches stack)

-- what a scan leaves: for each place, the first one on top, 1 and its value, or 0 and 0 where it is not assigned
abbrev pub marked : ℕ → List Value → List Value → List Value
marked zero vs stack = stack
marked (suc n) [] stack = zero_value ∷ zero_value ∷ marked n [] stack
marked (suc n) (v ∷ vs) stack = values.Int (pos 1) ∷ v ∷ marked n vs stack

-- a place in a copy, as a value on the stack
abbrev pub place_in : Value → ℕ
place_in (values.Int (pos k)) = k
place_in (values.Int (negsuc k)) = 0
place_in (values.Str t) = 0
place_in (values.Arr c) = 0
place_in (values.Map c) = 0
place_in (values.Obj o) = 0

abbrev pub row_next : Option (List Value) → Next → (List Value → Next) → Next
row_next None none some = none
row_next (Some row) none some = some row

abbrev pub on_top : List Value → List Value → List Value
on_top [] stack = stack
on_top (v ∷ vs) stack = v ∷ on_top vs stack

-- where a switch goes on: at the first label that fits
abbrev pub is_text_at : Option (List ℕ) → Value → Bool
is_text_at None v = false
is_text_at (Some t) v = is_text t v

abbrev pub case_fits : Code → Case → Value → Bool
case_fits code (cases.Ints a b to) v = is_between a b v
case_fits code (cases.Text k to) v = is_text_at (slice_get code.texts k) v

abbrev pub table_place : Code → Value → List Case → ℕ → ℕ
table_place code v [] other = other
table_place code v (k ∷ ks) other = cond (case_fits code k v) (case_place k) (table_place code v ks other)

-- an instruction at a place, with this stack, these catches and this state
abbrev pub act : Code → Scene → Instr → ℕ → List Value → List Catching → State → Next
act code c (PushInt z) p stack catches s = goes (p + 1) (values.Int z ∷ stack) catches s
act code c (PushText k) p stack catches s = on_some (slice_get code.texts k) (λ t. goes (p + 1) (values.Str t ∷ stack) catches s)
act code c (PushLocal k) p stack catches s = goes (p + 1) (local_of s k ∷ stack) catches s
act code c (SetLocal k) p stack catches s = on_one stack (λ v rest. goes (p + 1) (v ∷ rest) catches (with_local s k v))
act code c (PushGlobal k) p stack catches s = goes (p + 1) (global_of c s k ∷ stack) catches s
act code c (SetGlobal k) p stack catches s = on_one stack (λ v rest. goes (p + 1) (v ∷ rest) catches (with_global c s k v))
act code c Pop p stack catches s = on_one stack (λ v rest. goes (p + 1) rest catches s)
act code c Dup p stack catches s = on_one stack (λ v rest. goes (p + 1) (v ∷ v ∷ rest) catches s)
act code c Dup2 p stack catches s = on_two stack (λ x y rest. goes (p + 1) (y ∷ x ∷ y ∷ x ∷ rest) catches s)
act code c (Unary op) p stack catches s = on_one stack (λ x rest. push_end (unary op x s) (p + 1) catches rest)
act code c (Binary op) p stack catches s = on_two stack (λ x y rest. push_end (binary op x y s) (p + 1) catches rest)
act code c (Step step) p stack catches s = on_one stack (λ x rest. push_end (stepped step x s) (p + 1) catches rest)
act code c (Rotate n) p stack catches s = rotate n stack (λ x rest. goes (p + 1) (x ∷ rest) catches s)
act code c (Index edge) p stack catches s = on_two stack (λ x i rest. push_end (item edge x i s) (p + 1) catches rest)
act code c (SetIndex edge) p stack catches s = on_three stack (λ x i v rest. push_end (put_item edge x i v s) (p + 1) catches rest)
act code c (Range from to) p stack catches s =
    on_end to stack (λ b rest. on_end from rest (λ a rest. on_one rest (λ x rest. push_end (range from to x a b s) (p + 1) catches rest)))
act code c (MakeArray n) p stack catches s = take_arguments n [] stack (λ xs rest. push_end (new_array xs s) (p + 1) catches rest)
act code c (MakeMap n) p stack catches s = take_arguments (2 * n) [] stack (λ xs rest. push_end (new_mapping xs s) (p + 1) catches rest)
act code c (Jump to) p stack catches s = goes to stack catches s
act code c (JumpIfZero to) p stack catches s = on_one stack (λ v rest. cond (is_false s v) (goes to rest catches s) (goes (p + 1) rest catches s))
act code c (JumpIfNotZero to) p stack catches s = on_one stack (λ v rest. cond (is_false s v) (goes (p + 1) rest catches s) (goes to rest catches s))
act code c (KeepIfZero to) p stack catches s = on_one stack (λ v rest. cond (is_false s v) (goes to (v ∷ rest) catches s) (goes (p + 1) rest catches s))
act code c (KeepIfNotZero to) p stack catches s = on_one stack (λ v rest. cond (is_false s v) (goes (p + 1) rest catches s) (goes to (v ∷ rest) catches s))
-- a turn of a loop takes 1 from the budget
act code c LoopTurn p stack catches s = end_then (pay 1 s (Gives zero_value)) catches stack (λ x s. goes (p + 1) stack catches s)
act code c (CallSlot k n) p stack catches s =
    take_arguments n [] stack (λ xs rest. on_some (slice_get code.rows k) (λ name. awaits (Internal name) xs c s (p + 1) catches rest))
act code c (CallFixed parent j n) p stack catches s =
    take_arguments n [] stack (λ xs rest. on_some (parent_row code parent j) (λ name. awaits (Parent parent name) xs c s (p + 1) catches rest))
act code c (CallOther n) p stack catches s =
    take_arguments n [] stack (λ xs rest. on_two rest (λ o name rest. awaits (OfEfun efun.CallOther) (o ∷ name ∷ xs) c s (p + 1) catches rest))
act code c (CallEfun e n) p stack catches s = take_arguments n [] stack (λ xs rest. awaits (OfEfun e) xs c s (p + 1) catches rest)
act code c (CallSimul k n) p stack catches s =
    take_arguments n [] stack (λ xs rest. on_some (slice_get code.texts k) (λ name. awaits (OfEfun efun.CallOther) (simul_object s.world ∷ values.Str name ∷ xs) c s (p + 1) catches rest))
-- a scan leaves its number below
act code c (Scan n) p stack catches s =
    on_two stack (λ x form rest. end_then (scan n x form s) catches rest (λ vs s. goes (p + 1) (marked n vs (values.Int (pos (length vs)) ∷ rest)) catches s))
act code c (CatchBegin to) p stack catches s = goes (p + 1) stack (record { place = to; height = length stack } ∷ catches) s
act code c CatchEnd p stack catches s = end_catch catches (λ rest. goes (p + 1) stack rest s)
act code c (Switch k) p stack catches s =
    on_one stack (λ v rest. on_some (slice_get code.switches k) (λ table. goes (table_place code (labelled s v) table.cases table.other) rest catches s))
-- the copy and the place in it
act code c (EachBegin n) p stack catches s =
    on_one stack (λ v rest. end_then (copied v s) catches rest (λ copy s. goes (p + 1) (values.Int (pos 0) ∷ copy ∷ rest) catches s))
act code c (EachNext to n) p stack catches s =
    on_two stack (λ copy k rest.
    row_next (row_at (nat_eq n 2) copy (place_in k) s) (goes (p + 1) rest catches s)
    (λ row. goes to (on_top row (values.Int (pos (place_in k + 1)) ∷ copy ∷ rest)) catches s))
act code c Return p stack catches s = on_one stack (λ v rest. Ended (Gives v s))
act code c ReturnZero p stack catches s = Ended (Gives zero_value s)

abbrev pub act_at : Code → Scene → Option Instr → Moment → Next
act_at code c None m = Wrong
act_at code c (Some i) m = act code c i m.place m.stack m.catches m.state

-- one instruction
abbrev pub step : Code → Scene → Moment → Next
step code c m = act_at code c (slice_get code.instrs m.place) m
