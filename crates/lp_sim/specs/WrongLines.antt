-- Wrong lines of the instruction table, of the meaning of loops, and of translation, and a function that tells each of them from
-- what holds: by the meaning and by its code it ends in one way, and by the wrong line in another.
use Rattle.std.specs.Prelude.{◌≡◌, ℕ, zero, suc, ◌+◌, ◌-◌, pos, List, [], ◌∷◌, Bool, true, false, ◌&&◌, cond, Option, Some, None, length, slice_get, nat_eq, codes}
use Rattle.lp_tree.specs.declared.operator.BinOp.TheVariants as ops
use Rattle.lp_tree.specs.declared.operator.AssignOp.TheVariants as sets
use Rattle.lp_tree.specs.declared.operator.Step.TheVariants.{Up}
use Rattle.lp_tree.specs.declared.expr.Edge.TheVariants.{Front}
use Rattle.lp_tree.specs.declared.stmt.Label.TheVariants as labels
use Rattle.lp_tree.specs.declared.stmt.Constant.TheVariants as constants
use Rattle.lp_tree.specs.Trees.{Tree, Text, Catch, Sscanf, Index, PostStep, Binary, AndThen, Assign, NoTree, OneMore}
use Rattle.lp_tree.specs.Statements.{StmtTrees, Run, While, Foreach, Switch, Return, MoreStmts, NoStmt, NoPart, LabelPart, StmtPart}
use Rattle.lp_values.specs.declared.value.Value.{Value}
use Rattle.lp_values.specs.declared.value.Value.TheVariants as values
use Rattle.lp_values.specs.Read.{value_eq}
use Rattle.lp_cells.specs.declared.content.Content.TheVariants as content
use Rattle.lp_instr.specs.declared.instr.Instr.{Instr}
use Rattle.lp_instr.specs.declared.instr.Instr.TheVariants as instr
use Rattle.lp_instr.specs.declared.instr.Case.TheVariants as cases
use Rattle.lp_instr.specs.Code.{Code, Table, Catching}
use Rattle.lp_language.specs.World.{with_cells}
use Rattle.lp_language.specs.Course.{State, Stop, Spent, here, caught, End, Gives, Stops, Course, Over, Asks, and_then, gives, stops, zero_value}
use Rattle.lp_language.specs.Resolve.{Function}
use Rattle.lp_language.specs.Operations.{is_false, binary, scan}
use Rattle.lp_language.specs.Eval.{eval}
use Rattle.lp_language.specs.Exec.{Flow, On, exec, turn, after_body, returned, body_of}
use Rattle.lp_isa.specs.Machine.{Moment, Next, Goes, Ended, Awaits, Wrong, lowest, goes, on_one, on_two, end_then, step}
use Rattle.lp_sim.specs.Examples.{site, state, int, a, b, names, name, number, adds, sets_to, each}

-- what is seen of an end: the value, if there is one, the locals and the budget that is left
pub record Seen : Type 0 where
  pub value : Option Value
  pub locals : List Value
  pub left : ℕ

abbrev pub seen_end : End Value → Seen
seen_end (Gives v s) = record { value = Some v; locals = s.locals; left = s.budget }
seen_end (Stops x s) = record { value = None; locals = s.locals; left = s.budget }

-- of a course that asks nothing
abbrev pub seen_of : Course Value → Option Seen
seen_of (Over e) = Some (seen_end e)
seen_of (Asks q k) = None

-- of a run of at most so many instructions, by a table
abbrev pub run_by : (Moment → Next) → ℕ → Next → Option Seen
run_by table zero x = None
run_by table (suc n) (Goes m) = run_by table n (table m)
run_by table (suc n) (Ended e) = Some (seen_end e)
run_by table (suc n) (Awaits q k) = None
run_by table (suc n) Wrong = None

abbrev pub run_of : (Code → Moment → Next) → Code → State → Option Seen
run_of table code s = run_by (table code) 100 (goes 0 [] [] s)

-- the table that holds
abbrev pub right : Code → Moment → Next
right code m = step code site.scene m

abbrev pub same_values : List Value → List Value → Bool
same_values [] [] = true
same_values [] (w ∷ ws) = false
same_values (v ∷ vs) [] = false
same_values (v ∷ vs) (w ∷ ws) = value_eq v w && same_values vs ws

abbrev pub same_value : Option Value → Option Value → Bool
same_value None None = true
same_value None (Some w) = false
same_value (Some v) None = false
same_value (Some v) (Some w) = value_eq v w

abbrev pub same_seen : Seen → Seen → Bool
same_seen x y = same_value x.value y.value && same_values x.locals y.locals && nat_eq x.left y.left

-- A function tells a wrong line apart: by the meaning and by its code it ends so, and by the wrong line otherwise.
pub record TellsApart (f : Function) (code : Code) (s : State) (wrong : Option Seen) (so otherwise : Seen) : Type 0 where
  pub by_the_meaning : seen_of (body_of site f s) ≡ Some so
  pub by_its_code : run_of right code s ≡ Some so
  pub by_the_wrong_line : wrong ≡ Some otherwise
  pub differ : same_seen so otherwise ≡ false

abbrev pub seen : Option Value → List Value → ℕ → Seen
seen v vs n = record { value = v; locals = vs; left = n }

abbrev pub function : StmtTrees → Function
function body = record { name = codes "f"; modifiers = []; parameters = names; body = body }

abbrev pub returns : Tree → Function
returns e = function (MoreStmts (Return 1 (Some e)) NoStmt)

abbrev pub code_of : List Instr → List (List ℕ) → List Table → Code
code_of instrs texts switches = record { instrs = instrs; texts = texts; switches = switches; rows = []; parents = [] }

abbrev pub plain_code : List Instr → Code
plain_code instrs = code_of instrs [] []

-- A budget that is counted by instructions: each pays 1 besides what it costs. `return a + 1;`
abbrev pub paid_each : Code → Moment → Next
paid_each code m = cond (nat_eq m.state.budget 0) (Ended (Stops (here Spent) m.state)) (right code (record m { state = record (m.state) { budget = m.state.budget - 1 } }))

abbrev pub sum : Function
sum = returns (adds (name a) (number 1))

abbrev pub sum_code : Code
sum_code = plain_code (instr.PushLocal 0 ∷ instr.PushInt (pos 1) ∷ instr.Binary ops.Add ∷ instr.Return ∷ instr.ReturnZero ∷ [])

-- A turn of a loop that is paid after its body. `while (1) b++;`
abbrev pub turns_after : ℕ → (State → Course Value) → (State → Course Flow) → State → Course Flow
turns_after zero test body s = stops Spent s
turns_after (suc n) test body s =
    and_then (test s) (λ v s. cond (is_false s v) (gives On s)
    (and_then (body s) (λ flow s. after_body flow s (λ s. and_then (turn s) (λ x s. turns_after n test body s)))))

abbrev pub steps : Tree
steps = PostStep 1 Up (name b)

abbrev pub forever : Function
forever = function (MoreStmts (While 1 (number 1) (Run 1 steps)) NoStmt)

abbrev pub paid_after : State → Course Value
paid_after s = and_then (turns_after (suc s.budget) (eval site names (number 1)) (exec site names (Run 1 steps)) s) (λ flow s. gives (returned flow) s)

abbrev pub forever_code : Code
forever_code = plain_code (instr.Jump 7 ∷ instr.LoopTurn ∷ instr.PushLocal 1 ∷ instr.Dup ∷ instr.Step Up ∷ instr.SetLocal 1 ∷ instr.Pop ∷ instr.PushInt (pos 1) ∷ instr.JumpIfNotZero 1 ∷ instr.ReturnZero ∷ [])

-- Stops at an operator by other rules than those of the table.
abbrev pub by_operator : (Stop → List Catching → List Value → State → Next) → Code → Moment → Next
by_operator stops code m = operator_of (slice_get code.instrs m.place)
  where
    end_of : End Value → List Value → Next
    end_of (Gives v s) rest = goes (m.place + 1) (v ∷ rest) m.catches s
    end_of (Stops x s) rest = stops x m.catches rest s

    operator_of : Option Instr → Next
    operator_of (Some (instr.Binary op)) = on_two m.stack (λ x y rest. end_of (binary op x y m.state) rest)
    operator_of _ = right code m

-- A catch that catches a spent budget. `return catch(a + 1);`
abbrev pub catches_all : Stop → List Catching → List Value → State → Next
catches_all x [] stack s = Ended (Stops x s)
catches_all x (c ∷ cs) stack s = goes c.place (zero_value ∷ lowest c.height stack) cs s

abbrev pub catching : Function
catching = returns (Catch 1 (adds (name a) (number 1)))

abbrev pub catching_code : Code
catching_code = plain_code (instr.CatchBegin 7 ∷ instr.PushLocal 0 ∷ instr.PushInt (pos 1) ∷ instr.Binary ops.Add ∷ instr.Pop ∷ instr.CatchEnd ∷ instr.PushInt (pos 0) ∷ instr.Return ∷ instr.ReturnZero ∷ [])

-- A height that is restored one off. `return 5 + catch(7 + 1 / 0);`
abbrev pub one_off_at : Option Value → Stop → List Catching → List Value → State → Next
one_off_at None x cs stack s = Ended (Stops x s)
one_off_at (Some v) x [] stack s = Ended (Stops x s)
one_off_at (Some v) x (c ∷ cs) stack s = goes c.place (v ∷ lowest (c.height + 1) stack) cs s

abbrev pub one_off : Stop → List Catching → List Value → State → Next
one_off x cs stack s = one_off_at (caught x.cause) x cs stack s

abbrev pub deep : Function
deep = returns (adds (number 5) (Catch 1 (adds (number 7) (Binary 1 ops.Div (number 1) (number 0)))))

abbrev pub deep_code : Code
deep_code = plain_code (instr.PushInt (pos 5) ∷ instr.CatchBegin 10 ∷ instr.PushInt (pos 7) ∷ instr.PushInt (pos 1) ∷ instr.PushInt (pos 0) ∷ instr.Binary ops.Div ∷ instr.Binary ops.Add ∷ instr.Pop ∷ instr.CatchEnd ∷ instr.PushInt (pos 0) ∷ instr.Binary ops.Add ∷ instr.Return ∷ instr.ReturnZero ∷ [])

-- A `foreach` over the array itself and not its copy. `foreach (b : a) a[1] = 9; return b;`
abbrev pub no_copy : Code → Moment → Next
no_copy code m = begins (slice_get code.instrs m.place)
  where
    begins : Option Instr → Next
    begins (Some (instr.EachBegin n)) = on_one m.stack (λ v rest. goes (m.place + 1) (values.Int (pos 0) ∷ v ∷ rest) m.catches m.state)
    begins _ = right code m

abbrev pub over : Function
over = function (MoreStmts (Foreach 1 (each b) None (name a) (Run 1 (Assign 1 sets.Set (Index 1 (name a) Front (number 1)) (number 9)))) (MoreStmts (Return 1 (Some (name b))) NoStmt))

abbrev pub over_code : Code
over_code = plain_code (instr.PushLocal 0 ∷ instr.EachBegin 1 ∷ instr.Jump 12 ∷ instr.LoopTurn ∷ instr.SetLocal 1 ∷ instr.Pop ∷ instr.PushInt (pos 9) ∷ instr.PushLocal 0 ∷ instr.PushInt (pos 1) ∷ instr.Rotate 3 ∷ instr.SetIndex Front ∷ instr.Pop ∷ instr.EachNext 3 1 ∷ instr.Jump 16 ∷ instr.Pop ∷ instr.Pop ∷ instr.PushLocal 1 ∷ instr.Return ∷ instr.ReturnZero ∷ [])

abbrev pub cell : Value
cell = values.Arr (record { 0 = 0 })

-- the first local is an array of two items
abbrev pub with_array : State
with_array = let s : State = state (cell ∷ int 0 ∷ []) 20 in record s { world = with_cells s.world (Some (content.Array (int 1 ∷ int 2 ∷ [])) ∷ []) }

-- A fall-through that is lost: each part of a switch ends with a jump. `switch (a) { case 1: b = 1; case 2: b = b + 5; } return b;`
abbrev pub falls : Function
falls = function (MoreStmts (Switch 1 (name a) (LabelPart (labels.Case 1 (constants.Int (pos 1))) (StmtPart (sets_to b (number 1)) (LabelPart (labels.Case 1 (constants.Int (pos 2))) (StmtPart (sets_to b (adds (name b) (number 5))) NoPart))))) (MoreStmts (Return 1 (Some (name b))) NoStmt))

abbrev pub falls_code : Code
falls_code = code_of
    (instr.PushLocal 0 ∷ instr.Switch 0 ∷ instr.PushInt (pos 1) ∷ instr.SetLocal 1 ∷ instr.Pop ∷ instr.PushLocal 1 ∷ instr.PushInt (pos 5) ∷ instr.Binary ops.Add ∷ instr.SetLocal 1 ∷ instr.Pop ∷ instr.PushLocal 1 ∷ instr.Return ∷ instr.ReturnZero ∷ []) []
    (record { cases = cases.Ints (pos 1) (pos 1) 2 ∷ cases.Ints (pos 2) (pos 2) 5 ∷ []; other = 10 } ∷ [])

abbrev pub jumps_code : Code
jumps_code = code_of
    (instr.PushLocal 0 ∷ instr.Switch 0 ∷ instr.PushInt (pos 1) ∷ instr.SetLocal 1 ∷ instr.Pop ∷ instr.Jump 11 ∷ instr.PushLocal 1 ∷ instr.PushInt (pos 5) ∷ instr.Binary ops.Add ∷ instr.SetLocal 1 ∷ instr.Pop ∷ instr.PushLocal 1 ∷ instr.Return ∷ instr.ReturnZero ∷ []) []
    (record { cases = cases.Ints (pos 1) (pos 1) 2 ∷ cases.Ints (pos 2) (pos 2) 6 ∷ []; other = 11 } ∷ [])

-- `&&` as `||`: `return a && b;`
abbrev pub both : Function
both = returns (AndThen 1 (name a) (name b))

abbrev pub both_code : Code
both_code = plain_code (instr.PushLocal 0 ∷ instr.KeepIfZero 3 ∷ instr.PushLocal 1 ∷ instr.Return ∷ instr.ReturnZero ∷ [])

abbrev pub either_code : Code
either_code = plain_code (instr.PushLocal 0 ∷ instr.KeepIfNotZero 3 ∷ instr.PushLocal 1 ∷ instr.Return ∷ instr.ReturnZero ∷ [])

-- The flag of a scan below its value. `return sscanf("12 x", "%d %s", a, b);`
abbrev pub flags_below : ℕ → List Value → List Value → List Value
flags_below zero vs stack = stack
flags_below (suc n) [] stack = zero_value ∷ zero_value ∷ flags_below n [] stack
flags_below (suc n) (v ∷ vs) stack = v ∷ values.Int (pos 1) ∷ flags_below n vs stack

abbrev pub below : Code → Moment → Next
below code m = scans (slice_get code.instrs m.place)
  where
    scans : Option Instr → Next
    scans (Some (instr.Scan n)) =
        on_two m.stack (λ x form rest. end_then (scan n x form m.state) m.catches rest (λ vs s. goes (m.place + 1) (flags_below n vs (values.Int (pos (length vs)) ∷ rest)) m.catches s))
    scans _ = right code m

abbrev pub scanning : Function
scanning = returns (Sscanf 1 (Text 1 (codes "12 x")) (Text 1 (codes "%d %s")) (OneMore (name a) (OneMore (name b) NoTree)))

abbrev pub scanning_code : Code
scanning_code = code_of
    (instr.PushText 0 ∷ instr.PushText 1 ∷ instr.Scan 2 ∷ instr.JumpIfZero 5 ∷ instr.SetLocal 0 ∷ instr.Pop ∷ instr.JumpIfZero 8 ∷ instr.SetLocal 1 ∷ instr.Pop ∷ instr.Return ∷ instr.ReturnZero ∷ [])
    (codes "12 x" ∷ codes "%d %s" ∷ []) []

abbrev pub caught_text : ℕ → Value
caught_text digit = values.Str (digit ∷ codes "*Division by zero\n")

abbrev pub zeros : List Value
zeros = int 0 ∷ int 0 ∷ []

-- Each wrong line is told apart by a function.
pub record WrongLines : Type 0 where
  pub budget_by_instructions : TellsApart sum sum_code (state zeros 10) (run_of paid_each sum_code (state zeros 10)) (seen (Some (int 1)) zeros 9) (seen (Some (int 1)) zeros 5)
  pub turn_after_body : TellsApart forever forever_code (state zeros 3) (seen_of (paid_after (state zeros 3))) (seen None (int 0 ∷ int 1 ∷ []) 0) (seen None (int 0 ∷ int 2 ∷ []) 0)
  pub spent_is_caught : TellsApart catching catching_code (state zeros 0) (run_of (by_operator catches_all) catching_code (state zeros 0)) (seen None zeros 0) (seen (Some (int 0)) zeros 0)
  pub height_one_off : TellsApart deep deep_code (state zeros 10) (run_of (by_operator one_off) deep_code (state zeros 10)) (seen (Some (caught_text 53)) zeros 6) (seen (Some (caught_text 55)) zeros 6)
  pub array_itself : TellsApart over over_code with_array (run_of no_copy over_code with_array) (seen (Some (int 2)) (cell ∷ int 2 ∷ []) 16) (seen (Some (int 9)) (cell ∷ int 9 ∷ []) 16)
  pub fall_through_lost : TellsApart falls falls_code (state (int 1 ∷ int 0 ∷ []) 5) (run_of right jumps_code (state (int 1 ∷ int 0 ∷ []) 5)) (seen (Some (int 6)) (int 1 ∷ int 6 ∷ []) 4) (seen (Some (int 1)) (int 1 ∷ int 1 ∷ []) 5)
  pub and_as_or : TellsApart both both_code (state (int 0 ∷ int 1 ∷ []) 5) (run_of right either_code (state (int 0 ∷ int 1 ∷ []) 5)) (seen (Some (int 0)) (int 0 ∷ int 1 ∷ []) 5) (seen (Some (int 1)) (int 0 ∷ int 1 ∷ []) 5)
  pub flag_below_value : TellsApart scanning scanning_code (state zeros 5) (run_of below scanning_code (state zeros 5)) (seen (Some (int 2)) (int 12 ∷ values.Str (codes "x") ∷ []) 4) (seen (Some (int 2)) (int 1 ∷ int 1 ∷ []) 4)
