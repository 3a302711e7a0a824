-- What a statement does, by cases on its tree, and what a function's body and a program's initialisers do.
use Rattle.std.specs.Prelude.{ℕ, zero, suc, ◌+◌, ◌-◌, pos, List, [], ◌∷◌, ◌++◌, take, replicate, length, Bool, true, false, cond, Option, Some, None}
use Rattle.lp_tree.specs.declared.stmt.Label.{Label}
use Rattle.lp_tree.specs.declared.stmt.Label.TheVariants as labels
use Rattle.lp_tree.specs.declared.stmt.Constant.{Constant}
use Rattle.lp_tree.specs.declared.stmt.Constant.TheVariants as constants
use Rattle.lp_tree.specs.Trees.{Tree}
use Rattle.lp_tree.specs.Statements.{DeclaratorTree, InitTree, Nothing, DeclaresFirst, RunsFirst, StmtTree, Block, Empty, Run, Declares, If, While, DoWhile, For, Foreach, Switch, Break, Continue, Return, StmtTrees, NoStmt, MoreStmts, ElseTree, NoElse, Else, PartTrees, NoPart, LabelPart, StmtPart}
use Rattle.lp_values.specs.declared.value.Value.{Value}
use Rattle.lp_values.specs.declared.value.Value.TheVariants as values
use Rattle.lp_language.specs.Course.{Scene, State, Course, Over, Gives, Spent, and_then, gives, stops, pay, zero_value}
use Rattle.lp_language.specs.Resolve.{counted, Function, Variable, own_variables, parents_of, variables_before, version_of}
use Rattle.lp_language.specs.Scope.{Names, Slot, behind, declared_each, declared_first, declared_parts, declared_second, loose, slots_from, slots_of_each, slots_in_all}
use Rattle.lp_language.specs.Operations.{is_false, is_between, is_text, labelled, copied, row_at, with_local, with_global}
use Rattle.lp_language.specs.Eval.{Site, eval, write_slot}

-- Where a statement leads: on, out of the loop or `switch` round it, to the loop's next turn, or back with a value.
pub data Flow : Type 0 where
  On : Flow
  Out : Flow
  Again : Flow
  Back : Value → Flow

abbrev pub then_next : Flow → State → (State → Course Flow) → Course Flow
then_next On s next = next s
then_next Out s next = gives Out s
then_next Again s next = gives Again s
then_next (Back v) s next = gives (Back v) s

-- after a loop's body
abbrev pub after_body : Flow → State → (State → Course Flow) → Course Flow
after_body On s next = next s
after_body Again s next = next s
after_body Out s next = gives On s
after_body (Back v) s next = gives (Back v) s

-- after a `switch`, which a `break` leaves
abbrev pub after_switch : Flow → Flow
after_switch On = On
after_switch Out = On
after_switch Again = Again
after_switch (Back v) = Back v

abbrev pub goes_on : State → Course Flow
goes_on s = gives On s

abbrev pub run : Site → Names → Tree → State → Course Flow
run c ns e s = and_then (eval c ns e s) (λ v s. gives On s)

abbrev pub run_if : Site → Names → Option Tree → State → Course Flow
run_if c ns None s = gives On s
run_if c ns (Some e) s = run c ns e s

-- a test that is not given is true
abbrev pub test_if : Site → Names → Option Tree → State → Course Value
test_if c ns None s = gives (values.Int (pos 1)) s
test_if c ns (Some e) s = eval c ns e s

abbrev pub value_if : Site → Names → Option Tree → State → Course Value
value_if c ns None s = gives zero_value s
value_if c ns (Some e) s = eval c ns e s

-- A loop's turn takes 1 from the budget before its body.
abbrev pub turn : State → Course Flow
turn s = Over (pay 1 s (Gives On))

-- `while` and `for`, of at most n tests
abbrev pub turns : ℕ → (State → Course Value) → (State → Course Flow) → (State → Course Flow) → State → Course Flow
turns zero test body step s = stops Spent s
turns (suc n) test body step s =
    and_then (test s) (λ v s. cond (is_false s v) (gives On s)
    (and_then (turn s) (λ x s.
    and_then (body s) (λ flow s. after_body flow s (λ s.
    and_then (step s) (λ y s. turns n test body step s))))))

-- `do`, of at most n turns
abbrev pub do_turns : ℕ → (State → Course Value) → (State → Course Flow) → State → Course Flow
do_turns zero test body s = stops Spent s
do_turns (suc n) test body s =
    and_then (turn s) (λ x s.
    and_then (body s) (λ flow s. after_body flow s (λ s.
    and_then (test s) (λ v s. cond (is_false s v) (gives On s) (do_turns n test body s)))))

-- variables get values, each in its turn
abbrev pub write_slots : Scene → List Slot → List Value → State → State
write_slots c [] vs s = s
write_slots c (x ∷ xs) [] s = s
write_slots c (x ∷ xs) (v ∷ vs) s = write_slots c xs vs (write_slot c x v s)

abbrev pub with_row : Option (List Value) → Course Flow → (List Value → Course Flow) → Course Flow
with_row None none some = none
with_row (Some row) none some = some row

-- whether there are two variables
abbrev pub is_pair : List Slot → Bool
is_pair [] = false
is_pair (x ∷ []) = false
is_pair (x ∷ y ∷ ys) = true

-- `foreach` over a copy from a place on, of at most n looks
abbrev pub each_turns : ℕ → Scene → List Slot → Value → ℕ → (State → Course Flow) → State → Course Flow
each_turns zero c xs copy k body s = stops Spent s
each_turns (suc n) c xs copy k body s =
    with_row (row_at (is_pair xs) copy k s) (gives On s) (λ row.
    and_then (turn s) (λ x s.
    and_then (body (write_slots c xs row s)) (λ flow s. after_body flow s (each_turns n c xs copy (k + 1) body))))

-- locals become 0
abbrev pub cleared : List ℕ → State → State
cleared [] s = s
cleared (k ∷ ks) s = cleared ks (with_local s k zero_value)

-- A local whose declaration may be passed over, in an `if` or a loop, is 0 before that statement.
abbrev pub before : Names → StmtTree → State → State
before ns st s = cleared (loose st (length ns)) s

-- A declaration sets its locals in order, to 0 or to their values. A name is seen behind its own value.
abbrev pub declares : Site → Names → List DeclaratorTree → State → Course Flow
declares c ns [] s = gives On s
declares c ns (d ∷ ds) s = and_then (value_if c ns d.value s) (λ v s. declares c (ns ++ d.name ∷ []) ds (with_local s (length ns) v))

abbrev pub first_of : Site → Names → InitTree → State → Course Flow
first_of c ns Nothing s = gives On s
first_of c ns (DeclaresFirst d) s = declares c ns d.ones s
first_of c ns (RunsFirst e) s = run c ns e s

-- Labels: whether a label fits a value as read.
abbrev pub constant_fits : Constant → Value → Bool
constant_fits (constants.Int n) v = is_between n n v
constant_fits (constants.Text t) v = is_text t v

abbrev pub fits : Label → Value → Bool
fits (labels.Case line k) v = constant_fits k v
fits (labels.Range line a b) v = is_between a b v
fits (labels.Default line) v = false

abbrev pub is_default : Label → Bool
is_default (labels.Case line k) = false
is_default (labels.Range line a b) = false
is_default (labels.Default line) = true

abbrev pub first_label : (Label → Bool) → PartTrees → Option ℕ
first_label f NoPart = None
first_label f (LabelPart k ps) = cond (f k) (Some 0) (counted (first_label f ps))
first_label f (StmtPart st ps) = counted (first_label f ps)

abbrev pub or_default : Option ℕ → Option ℕ → Option ℕ
or_default (Some n) other = Some n
or_default None other = other

-- where a `switch` goes on: at the part with this number, whose label fits, else at `default`, else nowhere
abbrev pub chosen : PartTrees → Value → Option ℕ
chosen ps v = or_default (first_label (λ k. fits k v) ps) (first_label is_default ps)

-- goes on from a state
abbrev pub enters : State → (State → Course Flow) → Course Flow
enters s next = next s

abbrev mutual
  pub exec : Site → Names → StmtTree → State → Course Flow
  exec c ns (Block line ss) s = exec_all c ns ss s
  exec c ns (Empty line) s = gives On s
  exec c ns (Run line e) s = run c ns e s
  exec c ns (Declares line d) s = declares c ns d.ones s
  exec c ns (If line e y x) s = and_then (eval c ns e s) (λ v s. cond (is_false s v) (exec_else c (behind ns y) x s) (exec c ns y s))
  -- the budget bounds the turns
  exec c ns (While line e b) s = turns (suc s.budget) (eval c ns e) (exec c ns b) goes_on s
  exec c ns (DoWhile line b e) s = do_turns (suc s.budget) (eval c (behind ns b) e) (exec c ns b) s
  exec c ns (For line i t st b) s =
      and_then (first_of c ns i s) (λ x s.
      turns (suc s.budget) (test_if c (ns ++ declared_first i) t) (exec c (ns ++ declared_first i) b) (run_if c (ns ++ declared_first i) st) s)
  exec c ns (Foreach line f g e b) s =
      and_then (eval c ns e s) (λ v s.
      and_then (Over (copied v s)) (λ copy s.
      each_turns (suc s.budget) c.scene (slots_of_each c.tree ns f g) copy 0 (exec c (ns ++ declared_each f ++ declared_second g) b) s))
  exec c ns (Switch line e ps) s =
      and_then (eval c ns e s) (λ v s.
      enters (cleared (slots_from (length ns) (declared_parts ps)) s) (λ s.
      and_then (exec_chosen c ns ps (chosen ps (labelled s v)) s) (λ flow s. gives (after_switch flow) s)))
  exec c ns (Break line) s = gives Out s
  exec c ns (Continue line) s = gives Again s
  exec c ns (Return line e) s = and_then (value_if c ns e s) (λ v s. gives (Back v) s)

  pub exec_all : Site → Names → StmtTrees → State → Course Flow
  exec_all c ns NoStmt s = gives On s
  exec_all c ns (MoreStmts st ss) s = and_then (exec c ns st (before ns st s)) (λ flow s. then_next flow s (exec_all c (behind ns st) ss))

  pub exec_else : Site → Names → ElseTree → State → Course Flow
  exec_else c ns NoElse s = gives On s
  exec_else c ns (Else st) s = exec c ns st s

  -- the parts of a `switch` from one on, each falling through to the next
  pub exec_chosen : Site → Names → PartTrees → Option ℕ → State → Course Flow
  exec_chosen c ns NoPart at s = gives On s
  exec_chosen c ns (LabelPart k ps) None s = gives On s
  exec_chosen c ns (LabelPart k ps) (Some zero) s = exec_chosen c ns ps (Some zero) s
  exec_chosen c ns (LabelPart k ps) (Some (suc n)) s = exec_chosen c ns ps (Some n) s
  exec_chosen c ns (StmtPart st ps) None s = gives On s
  exec_chosen c ns (StmtPart st ps) (Some zero) s = and_then (exec c ns st (before ns st s)) (λ flow s. then_next flow s (exec_chosen c (behind ns st) ps (Some zero)))
  exec_chosen c ns (StmtPart st ps) (Some (suc n)) s = exec_chosen c (behind ns st) ps (Some n) s

-- The first locals of a function: its parameters, of which missing ones are 0 while surplus arguments are dropped, and
-- 0 for each other one.
abbrev pub local_count : Function → ℕ
local_count f = slots_in_all f.body (length f.parameters)

abbrev pub first_locals : Function → List Value → List Value
first_locals f xs = take (length f.parameters) xs ++ replicate (local_count f - length (take (length f.parameters) xs)) zero_value

-- the value of a function's body: what it returns, or 0
abbrev pub returned : Flow → Value
returned (Back v) = v
returned _ = zero_value

abbrev pub body_of : Site → Function → State → Course Value
body_of c f s = and_then (exec_all c f.parameters f.body s) (λ flow s. gives (returned flow) s)

abbrev pub initialise : Site → ℕ → Option Tree → State → (State → Course Value) → Course Value
initialise c k None s next = next s
initialise c k (Some e) s next = and_then (eval c [] e s) (λ v s. next (with_global c.scene s k v))

-- The initialisers of a program run as one function: each in the order of the declarations, its value written to its
-- variable. No local is seen.
abbrev pub initialises : Site → ℕ → List Variable → State → Course Value
initialises c k [] s = gives zero_value s
initialises c k (v ∷ vs) s = initialise c k v.declared.value s (initialises c (suc k) vs)

abbrev pub initialisers_of : Site → State → Course Value
initialisers_of c s = initialises c (variables_before (parents_of c.tree)) (own_variables (version_of c.tree).items) s
