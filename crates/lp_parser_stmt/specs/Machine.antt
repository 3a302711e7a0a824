-- The machine of statements: a stack of open statements, moved by one token at a time.
use Rattle.std.specs.Prelude.{ℕ, ℤ, neg_ℤ, suc, List, [], ◌∷◌, ◌++◌, Bool, true, false, Option, Some, None, option_and_then, option_map, if◌then◌else◌, codes, bytes_eq}
use Rattle.lp_tree.specs.declared.keyword.Keyword.{Keyword}
use Rattle.lp_tree.specs.declared.keyword.Keyword.TheVariants as words
use Rattle.lp_tree.specs.declared.keyword.Base.{Base as BaseWord}
use Rattle.lp_tree.specs.declared.operator.BinOp.TheVariants.{Sub, Mul}
use Rattle.lp_tree.specs.declared.operator.AssignOp.TheVariants.{Set}
use Rattle.lp_tree.specs.declared.token.Mark.{Mark}
use Rattle.lp_tree.specs.declared.token.Mark.TheVariants as marks
use Rattle.lp_tree.specs.declared.token.Mark.TheVariants.{OpenParen, CloseParen, OpenBrace, CloseBrace, Comma, Semicolon, Colon, DotDot}
use Rattle.lp_tree.specs.declared.seen.Sort.{Sort}
use Rattle.lp_tree.specs.declared.seen.Sort.TheVariants as sorts
use Rattle.lp_tree.specs.declared.seen.Seen.{Seen}
use Rattle.lp_tree.specs.declared.stmt.Each.{Each}
use Rattle.lp_tree.specs.declared.stmt.Constant.TheVariants.{Int, Text}
use Rattle.lp_tree.specs.declared.stmt.Label.{Label}
use Rattle.lp_tree.specs.declared.stmt.Label.TheVariants as labels
use Rattle.lp_tree.specs.declared.stmt.Part.{Part}
use Rattle.lp_tree.specs.declared.stmt.Part.TheVariants as parts
use Rattle.lp_tree.specs.Trees.{Tree, line_of}
use Rattle.lp_tree.specs.Statements.{DeclaratorTree, LocalTree, InitTree, Nothing, DeclaresFirst, RunsFirst, StmtTree, Block, Empty, Run, Declares, If, While, DoWhile, For, Foreach, Switch, Break, Continue, Return, StmtTrees, NoElse, Else, Around, in_function, in_loop, in_switch}
use Rattle.lp_tree.specs.StatementView.{stmt_trees, part_trees}
use Rattle.lp_parser_expr.specs.Machine as expr
use Rattle.lp_parser_stmt.specs.declared.class.Class.{Class}
use Rattle.lp_parser_stmt.specs.declared.class.Class.TheVariants.{BraceOpens, BraceCloses, SemicolonEnds, ParenCloses, ExpressionBegins, TypeBegins, WordBegins}

-- the mark that a token is
abbrev pub mark_in : Sort → Option Mark
mark_in (sorts.Mark m) = Some m
mark_in _ = None

-- The names of a declaration: what was read of them.
pub data Names : Type 0 where
  -- a star or a name comes
  AtOne : (done : List DeclaratorTree) → Names
  -- stars were read, the first on this line
  AtStars : (done : List DeclaratorTree) (line stars : ℕ) → Names
  -- a name was read
  Named : (done : List DeclaratorTree) (line stars : ℕ) (name : List ℕ) → Names
  -- and what it is set to is read
  Valued : (done : List DeclaratorTree) (line stars : ℕ) (name : List ℕ) (value : expr.State) → Names

-- one more name
abbrev pub with_name : List DeclaratorTree → ℕ → ℕ → List ℕ → Option Tree → List DeclaratorTree
with_name done line n w v = done ++ record { line = line; stars = n; name = w; value = v } ∷ []

abbrev pub at_one : Sort → ℕ → List DeclaratorTree → Option Names
at_one (sorts.Mark (marks.Binary Mul)) l done = Some (AtStars done l 1)
at_one (sorts.Name w) l done = Some (Named done l 0 w)
at_one _ l done = None

abbrev pub at_stars : Sort → List DeclaratorTree → ℕ → ℕ → Option Names
at_stars (sorts.Mark (marks.Binary Mul)) done line n = Some (AtStars done line (suc n))
at_stars (sorts.Name w) done line n = Some (Named done line n w)
at_stars _ done line n = None

abbrev pub named : Sort → List DeclaratorTree → ℕ → ℕ → List ℕ → Option Names
named (sorts.Mark (marks.Assign Set)) done line n w = Some (Valued done line n w (expr.Need (expr.Alone ∷ [])))
named (sorts.Mark Comma) done line n w = Some (AtOne (with_name done line n w None))
named _ done line n w = None

-- behind a whole value
abbrev pub mark_valued : Option Mark → Option Tree → List DeclaratorTree → ℕ → ℕ → List ℕ → Option Names
mark_valued (Some Comma) (Some t) done line n w = Some (AtOne (with_name done line n w (Some t)))
mark_valued _ t done line n w = None

abbrev pub valued : Sort → Option Tree → List DeclaratorTree → ℕ → ℕ → List ℕ → Option Names
valued k t done line n w = mark_valued (mark_in k) t done line n w

abbrev pub value_goes : Option expr.State → Option Tree → Sort → List DeclaratorTree → ℕ → ℕ → List ℕ → Option Names
value_goes (Some e) t k done line n w = Some (Valued done line n w e)
value_goes None t k done line n w = valued k t done line n w

-- one token of the names
abbrev pub names_step : Names → Seen → Option Names
names_step (AtOne done) x = at_one x.sort x.line done
names_step (AtStars done line n) x = at_stars x.sort done line n
names_step (Named done line n w) x = named x.sort done line n w
names_step (Valued done line n w e) x = value_goes (expr.step e x) (expr.finished e) x.sort done line n w

-- the names, where what was read is whole
abbrev pub names_finished : Names → Option (List DeclaratorTree)
names_finished (Named done line n w) = Some (with_name done line n w None)
names_finished (Valued done line n w e) = option_map (λ t. with_name done line n w (Some t)) (expr.finished e)
names_finished _ = None

-- a part of a statement that may be missing: `return`'s value and the three parts of a `for`
pub data Optional : Type 0 where
  Value : (line : ℕ) → Optional
  First : (line : ℕ) → Optional
  Test : (line : ℕ) (init : InitTree) → Optional
  Step : (line : ℕ) (init : InitTree) (test : Option Tree) → Optional

-- what an expression is read for
pub data Role : Type 0 where
  ToRun : Role
  TestIf : (line : ℕ) → Role
  TestWhile : (line : ℕ) → Role
  TestDo : (line : ℕ) (body : StmtTree) → Role
  OverEach : (line : ℕ) (first : Each) (second : Option Each) → Role
  OnSwitch : (line : ℕ) → Role
  OneOf : (part : Optional) → Role

-- a `switch` up to its next part
pub record Switching : Type 0 where
  pub line : ℕ
  pub on : Tree
  pub done : List (Part StmtTree)

abbrev pub with_part : Switching → Part StmtTree → Switching
with_part w p = record w { done = w.done ++ p ∷ [] }

-- a statement that was begun, a statement in it being open
pub data Frame : Type 0 where
  InBlock : (line : ℕ) (done : List StmtTree) → Frame
  InSwitch : (switching : Switching) → Frame
  IfYes : (line : ℕ) (test : Tree) → Frame
  IfNo : (line : ℕ) (test : Tree) (yes : StmtTree) → Frame
  WhileBody : (line : ℕ) (test : Tree) → Frame
  DoBody : (line : ℕ) → Frame
  ForBody : (line : ℕ) (init : InitTree) (test step : Option Tree) → Frame
  EachBody : (line : ℕ) (first : Each) (second : Option Each) (over : Tree) → Frame

-- the open statements: a function's block with the statements that are whole, and what stands inside it
pub data Stack : Type 0 where
  InFunction : (done : List StmtTree) → Stack
  Inside : (frame : Frame) (stack : Stack) → Stack

-- what stands round a statement on a stack
abbrev pub around : Stack → Around
around (InFunction done) = in_function
around (Inside (InBlock line done) s) = around s
around (Inside (InSwitch w) s) = in_switch (around s)
around (Inside (IfYes line e) s) = around s
around (Inside (IfNo line e y) s) = around s
around (Inside (WhileBody line e) s) = in_loop
around (Inside (DoBody line) s) = in_loop
around (Inside (ForBody line i t p) s) = in_loop
around (Inside (EachBody line f g e) s) = in_loop

-- whose a declaration is: a statement's, or a `for`'s
pub data Whose : Type 0 where
  OfStmt : Whose
  OfFor : (line : ℕ) → Whose

-- what the machine waits for
pub data State : Type 0 where
  -- a statement, or what ends the statements here
  Need : (stack : Stack) → State
  -- a token behind a statement
  Have : (stmt : StmtTree) (stack : Stack) → State
  -- this mark
  Expect : (mark : Mark) (next : State) → State
  -- a token of an expression, or behind it
  Reading : (of : expr.State) (role : Role) (stack : Stack) → State
  -- an expression that may be missing
  Maybe : (part : Optional) (stack : Stack) → State
  -- a token of the names of a declaration, or behind them
  Declaring : (line : ℕ) (base : BaseWord) (names : Names) (whose : Whose) (stack : Stack) → State
  -- a variable of a `foreach`
  NeedEach : (line : ℕ) (first : Option Each) (stack : Stack) → State
  -- a star of its type, or its name
  EachStars : (line : ℕ) (first : Option Each) (at : ℕ) (base : BaseWord) (stars : ℕ) (stack : Stack) → State
  -- what stands behind it
  EachNamed : (line : ℕ) (first : Option Each) (each : Each) (stack : Stack) → State
  -- what a label compares with
  NeedConst : (line : ℕ) (switching : Switching) (stack : Stack) → State
  -- its integer behind a minus
  NeedDigits : (line : ℕ) (switching : Switching) (stack : Stack) → State
  -- what stands behind its integer
  HaveInt : (line : ℕ) (from : ℤ) (switching : Switching) (stack : Stack) → State
  -- the other end of a range
  NeedTo : (line : ℕ) (from : ℤ) (switching : Switching) (stack : Stack) → State
  -- its integer behind a minus
  NeedToDigits : (line : ℕ) (from : ℤ) (switching : Switching) (stack : Stack) → State
  -- nothing: the function's statements are read
  Over : (stmts : StmtTrees) → State

-- what a token begins
abbrev pub word_class : Keyword → Class
word_class (words.Base b) = TypeBegins b
word_class words.Catch = ExpressionBegins
word_class words.Sscanf = ExpressionBegins
word_class k = WordBegins k

abbrev pub mark_class : Mark → Class
mark_class OpenBrace = BraceOpens
mark_class CloseBrace = BraceCloses
mark_class Semicolon = SemicolonEnds
mark_class CloseParen = ParenCloses
mark_class _ = ExpressionBegins

abbrev pub class : Sort → Class
class (sorts.Mark m) = mark_class m
class (sorts.Reserved k) = word_class k
class _ = ExpressionBegins

-- where an expression has begun
abbrev pub reads : Option expr.State → Role → Stack → Option State
reads (Some e) role s = Some (Reading e role s)
reads None role s = None

-- `}` where a statement may begin
abbrev pub closes : Stack → Option State
closes (InFunction done) = Some (Over (stmt_trees done))
closes (Inside (InBlock line done) s) = Some (Have (Block line (stmt_trees done)) s)
closes (Inside (InSwitch w) s) = Some (Have (Switch w.line w.on (part_trees w.done)) s)
closes _ = None

-- a label stands in a `switch` alone
abbrev pub case_begins : ℕ → Stack → Option State
case_begins line (Inside (InSwitch w) s) = Some (NeedConst line w s)
case_begins line _ = None

-- behind a label's colon
abbrev pub labelled : Label → Switching → Stack → State
labelled k w s = Need (Inside (InSwitch (with_part w (parts.Label k))) s)

abbrev pub default_begins : ℕ → Stack → Option State
default_begins line (Inside (InSwitch w) s) = Some (Expect Colon (labelled (labels.Default line) w s))
default_begins line _ = None

-- a `break` or a `continue`, where there is what it leaves
abbrev pub leaves : Bool → StmtTree → Stack → Option State
leaves b t s = if b then Some (Expect Semicolon (Have t s)) else None

abbrev pub read_in_parens : Role → Stack → State
read_in_parens role s = Expect OpenParen (Reading (expr.Need []) role s)

abbrev pub word_begins : Keyword → ℕ → Stack → Option State
word_begins words.If line s = Some (read_in_parens (TestIf line) s)
word_begins words.While line s = Some (read_in_parens (TestWhile line) s)
word_begins words.Switch line s = Some (read_in_parens (OnSwitch line) s)
word_begins words.For line s = Some (Expect OpenParen (Maybe (First line) s))
word_begins words.Foreach line s = Some (Expect OpenParen (NeedEach line None s))
word_begins words.Do line s = Some (Need (Inside (DoBody line) s))
word_begins words.Break line s = leaves (around s).may_break (Break line) s
word_begins words.Continue line s = leaves (around s).may_continue (Continue line) s
word_begins words.Return line s = Some (Maybe (Value line) s)
word_begins words.Case line s = case_begins line s
word_begins words.Default line s = default_begins line s
word_begins _ line s = None

abbrev pub class_begins : Class → Seen → Stack → Option State
class_begins BraceOpens x s = Some (Need (Inside (InBlock x.line []) s))
class_begins BraceCloses x s = closes s
class_begins SemicolonEnds x s = Some (Have (Empty x.line) s)
class_begins ParenCloses x s = None
class_begins ExpressionBegins x s = reads (expr.step (expr.Need []) x) ToRun s
class_begins (TypeBegins b) x s = Some (Declaring x.line b (AtOne []) OfStmt s)
class_begins (WordBegins k) x s = word_begins k x.line s

-- what a token makes where a statement is waited for
abbrev pub begin : Seen → Stack → Option State
begin x s = class_begins (class x.sort) x s

-- a statement on a stack
pub record Held : Type 0 where
  pub stmt : StmtTree
  pub stack : Stack

-- Ends the statements that a token ends. An `else` goes with the nearest `if`, and any other token ends that `if`.
abbrev pub settle : Bool → StmtTree → Stack → Held
settle b t (Inside (IfYes line e) s) = if b then record { stmt = t; stack = Inside (IfYes line e) s } else settle b (If line e t NoElse) s
settle b t (Inside (IfNo line e y) s) = settle b (If line e y (Else t)) s
settle b t (Inside (WhileBody line e) s) = settle b (While line e t) s
settle b t (Inside (ForBody line i c p) s) = settle b (For line i c p t) s
settle b t (Inside (EachBody line f g e) s) = settle b (Foreach line f g e t) s
settle b t s = record { stmt = t; stack = s }

abbrev pub is_else : Sort → Bool
is_else (sorts.Reserved words.Else) = true
is_else _ = false

abbrev pub after_yes : Sort → ℕ → Tree → StmtTree → Stack → Option State
after_yes (sorts.Reserved words.Else) line e t s = Some (Need (Inside (IfNo line e t) s))
after_yes _ line e t s = None

abbrev pub after_body : Sort → ℕ → StmtTree → Stack → Option State
after_body (sorts.Reserved words.While) line t s = Some (read_in_parens (TestDo line t) s)
after_body _ line t s = None

-- a token behind a statement that it does not end
abbrev pub act : Seen → StmtTree → Stack → Option State
act x t (InFunction done) = begin x (InFunction (done ++ t ∷ []))
act x t (Inside (InBlock line done) s) = begin x (Inside (InBlock line (done ++ t ∷ [])) s)
act x t (Inside (InSwitch w) s) = begin x (Inside (InSwitch (with_part w (parts.Stmt t))) s)
act x t (Inside (IfYes line e) s) = after_yes x.sort line e t s
act x t (Inside (DoBody line) s) = after_body x.sort line t s
act x t _ = None

abbrev pub act_held : Seen → Held → Option State
act_held x h = act x h.stmt h.stack

abbrev pub is_mark : Mark → Sort → Bool
is_mark OpenParen (sorts.Mark OpenParen) = true
is_mark OpenBrace (sorts.Mark OpenBrace) = true
is_mark Semicolon (sorts.Mark Semicolon) = true
is_mark Colon (sorts.Mark Colon) = true
is_mark _ _ = false

-- whether `)` ends an expression, and not `;`
abbrev pub by_paren : Role → Bool
by_paren ToRun = false
by_paren (OneOf (Step line i t)) = true
by_paren (OneOf part) = false
by_paren _ = true

abbrev pub init_of : Option Tree → InitTree
init_of None = Nothing
init_of (Some e) = RunsFirst e

-- an optional part was read
abbrev pub filled : Optional → Option Tree → Stack → State
filled (Value line) e s = Have (Return line e) s
filled (First line) e s = Maybe (Test line (init_of e)) s
filled (Test line i) e s = Maybe (Step line i e) s
filled (Step line i t) e s = Need (Inside (ForBody line i t e) s)

-- an expression and the mark that ends it were read
abbrev pub used : Role → Tree → Stack → State
used ToRun t s = Have (Run (line_of t) t) s
used (TestIf line) t s = Need (Inside (IfYes line t) s)
used (TestWhile line) t s = Need (Inside (WhileBody line t) s)
used (TestDo line b) t s = Expect Semicolon (Have (DoWhile line b t) s)
used (OverEach line f g) t s = Need (Inside (EachBody line f g t) s)
used (OnSwitch line) t s = Expect OpenBrace (Need (Inside (InSwitch (record { line = line; on = t; done = [] })) s))
used (OneOf part) t s = filled part (Some t) s

-- behind an expression
abbrev pub after_mark : Mark → Role → Tree → Stack → Option State
after_mark Semicolon role t s = if by_paren role then None else Some (used role t s)
after_mark CloseParen role t s = if by_paren role then Some (used role t s) else None
after_mark _ role t s = None

abbrev pub after_some : Option Mark → Role → Option Tree → Stack → Option State
after_some (Some m) role (Some t) s = after_mark m role t s
after_some _ role t s = None

abbrev pub after : Sort → Role → Option Tree → Stack → Option State
after k role t s = after_some (mark_in k) role t s

abbrev pub reading_goes : Option expr.State → Option Tree → Sort → Role → Stack → Option State
reading_goes (Some e) t k role s = Some (Reading e role s)
reading_goes None t k role s = after k role t s

-- `;` where an optional part is missing
abbrev pub semicolon_skips : Optional → Stack → Option State
semicolon_skips (Step line i t) s = None
semicolon_skips part s = Some (filled part None s)

abbrev pub paren_skips : Optional → Stack → Option State
paren_skips (Step line i t) s = Some (filled (Step line i t) None s)
paren_skips part s = None

-- a declaration is the first part of a `for` alone
abbrev pub first_declares : BaseWord → ℕ → Optional → Stack → Option State
first_declares b at (First line) s = Some (Declaring at b (AtOne []) (OfFor line) s)
first_declares b at part s = None

abbrev pub maybe : Class → Seen → Optional → Stack → Option State
maybe SemicolonEnds x part s = semicolon_skips part s
maybe ParenCloses x part s = paren_skips part s
maybe (TypeBegins b) x part s = first_declares b x.line part s
maybe ExpressionBegins x part s = reads (expr.step (expr.Need []) x) (OneOf part) s
maybe _ x part s = None

-- a declaration and its `;` were read
abbrev pub declared : Whose → LocalTree → Stack → State
declared OfStmt d s = Have (Declares d.line d) s
declared (OfFor line) d s = Maybe (Test line (DeclaresFirst d)) s

abbrev pub mark_after_names : Option Mark → ℕ → BaseWord → Option (List DeclaratorTree) → Whose → Stack → Option State
mark_after_names (Some Semicolon) line b (Some ds) whose s = Some (declared whose (record { line = line; base = b; ones = ds }) s)
mark_after_names _ line b ds whose s = None

abbrev pub after_names : Sort → ℕ → BaseWord → Option (List DeclaratorTree) → Whose → Stack → Option State
after_names k line b ds whose s = mark_after_names (mark_in k) line b ds whose s

abbrev pub names_go : Option Names → Option (List DeclaratorTree) → Sort → ℕ → BaseWord → Whose → Stack → Option State
names_go (Some d) ds k line b whose s = Some (Declaring line b d whose s)
names_go None ds k line b whose s = after_names k line b ds whose s

abbrev pub need_each : Sort → ℕ → ℕ → Option Each → Stack → Option State
need_each (sorts.Name w) at line first s = Some (EachNamed line first (record { line = at; type_name = None; name = w }) s)
need_each (sorts.Reserved (words.Base b)) at line first s = Some (EachStars line first at b 0 s)
need_each _ at line first s = None

abbrev pub each_stars : Sort → ℕ → Option Each → ℕ → BaseWord → ℕ → Stack → Option State
each_stars (sorts.Mark (marks.Binary Mul)) line first at b n s = Some (EachStars line first at b (suc n) s)
each_stars (sorts.Name w) line first at b n s = Some (EachNamed line first (record { line = at; type_name = Some (record { base = b; stars = n }); name = w }) s)
each_stars _ line first at b n s = None

-- the variables of a `foreach` were read
abbrev pub over : ℕ → Option Each → Each → Role
over line None e = OverEach line e None
over line (Some f) e = OverEach line f (Some e)

abbrev pub one_more_each : ℕ → Option Each → Each → Stack → Option State
one_more_each line None e s = Some (NeedEach line (Some e) s)
one_more_each line (Some f) e s = None

abbrev pub each_named : Sort → ℕ → Option Each → Each → Stack → Option State
each_named (sorts.Mark Comma) line first e s = one_more_each line first e s
each_named (sorts.Mark Colon) line first e s = Some (Reading (expr.Need []) (over line first e) s)
each_named (sorts.Name w) line first e s = if bytes_eq w (codes "in") then Some (Reading (expr.Need []) (over line first e) s) else None
each_named _ line first e s = None

abbrev pub need_const : Sort → ℕ → Switching → Stack → Option State
need_const (sorts.Int n) line w s = Some (HaveInt line n w s)
need_const (sorts.Text t) line w s = Some (Expect Colon (labelled (labels.Case line (Text t)) w s))
need_const (sorts.Mark (marks.Binary Sub)) line w s = Some (NeedDigits line w s)
need_const _ line w s = None

abbrev pub need_digits : Sort → ℕ → Switching → Stack → Option State
need_digits (sorts.Int n) line w s = Some (HaveInt line (neg_ℤ n) w s)
need_digits _ line w s = None

abbrev pub have_int : Sort → ℕ → ℤ → Switching → Stack → Option State
have_int (sorts.Mark Colon) line n w s = Some (labelled (labels.Case line (Int n)) w s)
have_int (sorts.Mark DotDot) line n w s = Some (NeedTo line n w s)
have_int _ line n w s = None

abbrev pub need_to : Sort → ℕ → ℤ → Switching → Stack → Option State
need_to (sorts.Int k) line n w s = Some (Expect Colon (labelled (labels.Range line n k) w s))
need_to (sorts.Mark (marks.Binary Sub)) line n w s = Some (NeedToDigits line n w s)
need_to _ line n w s = None

abbrev pub need_to_digits : Sort → ℕ → ℤ → Switching → Stack → Option State
need_to_digits (sorts.Int k) line n w s = Some (Expect Colon (labelled (labels.Range line n (neg_ℤ k)) w s))
need_to_digits _ line n w s = None

-- one token
abbrev pub step : State → Seen → Option State
step (Need s) x = begin x s
step (Have t s) x = act_held x (settle (is_else x.sort) t s)
step (Expect m next) x = if is_mark m x.sort then Some next else None
step (Reading e role s) x = reading_goes (expr.step e x) (expr.finished e) x.sort role s
step (Maybe part s) x = maybe (class x.sort) x part s
step (Declaring line b d whose s) x = names_go (names_step d x) (names_finished d) x.sort line b whose s
step (NeedEach line first s) x = need_each x.sort x.line line first s
step (EachStars line first at b n s) x = each_stars x.sort line first at b n s
step (EachNamed line first e s) x = each_named x.sort line first e s
step (NeedConst line w s) x = need_const x.sort line w s
step (NeedDigits line w s) x = need_digits x.sort line w s
step (HaveInt line n w s) x = have_int x.sort line n w s
step (NeedTo line n w s) x = need_to x.sort line n w s
step (NeedToDigits line n w s) x = need_to_digits x.sort line n w s
step (Over ss) x = None

-- where a function's statements begin, behind the brace
abbrev pub start : State
start = Need (InFunction [])

-- the statements of a function and the tokens behind its last brace
pub record Read : Type 0 where
  pub stmts : StmtTrees
  pub rest : List Seen

-- what the tokens make from here, where they make it
abbrev pub run : State → List Seen → Option Read
run (Over ss) xs = Some (record { stmts = ss; rest = xs })
run st [] = None
run st (x ∷ xs) = option_and_then (λ next. run next xs) (step st x)

-- where the tokens lead
abbrev pub walk : State → List Seen → Option State
walk st [] = Some st
walk st (x ∷ xs) = option_and_then (λ next. walk next xs) (step st x)

-- the names of a declaration and the tokens behind them
pub record ReadNames : Type 0 where
  pub ones : List DeclaratorTree
  pub rest : List Seen

-- names end before the first token that does not go on with them
abbrev pub names_end : Option (List DeclaratorTree) → List Seen → Option ReadNames
names_end ds xs = option_map (λ ones. record { ones = ones; rest = xs }) ds

abbrev pub names_then : Option Names → (Names → Option ReadNames) → Option ReadNames → Option ReadNames
names_then (Some d) go stop = go d
names_then None go stop = stop

abbrev pub names_run : Names → List Seen → Option ReadNames
names_run d [] = None
names_run d (x ∷ xs) = names_then (names_step d x) (λ next. names_run next xs) (names_end (names_finished d) (x ∷ xs))

abbrev pub names_walk : Names → List Seen → Option Names
names_walk d [] = Some d
names_walk d (x ∷ xs) = option_and_then (λ next. names_walk next xs) (names_step d x)
