-- How deep what was read lies, and what has to come.
use Rattle.std.specs.Prelude.{ℕ, suc, ◌+◌, max}
use Rattle.lp_tree.specs.Trees.{height}
use Rattle.lp_tree.specs.Statements.{stmt_height, stmt_heights, part_heights, init_height, height_if, declarator_heights}
use Rattle.lp_tree.specs.StatementView.{stmt_trees, part_trees}
use Rattle.lp_parser_expr.specs.Depth as expr
use Rattle.lp_parser_stmt.specs.Machine.{Names, AtOne, AtStars, Named, Valued, Optional, Value, First, Test, Step, Role, TestDo, OneOf, Frame, InBlock, InSwitch, IfYes, IfNo, WhileBody, DoBody, ForBody, EachBody, Stack, InFunction, Inside, Whose, OfStmt, OfFor, State, Need, Have, Expect, Reading, Maybe, Declaring, NeedEach, EachStars, EachNamed, NeedConst, NeedDigits, HaveInt, NeedTo, NeedToDigits, Over}

-- the levels of a statement that was begun, as far as it was read
abbrev pub frame_height : Frame → ℕ
frame_height (InBlock line done) = suc (stmt_heights (stmt_trees done))
frame_height (InSwitch w) = suc (max (height w.on) (part_heights (part_trees w.done)))
frame_height (IfYes line e) = suc (height e)
frame_height (IfNo line e y) = suc (max (height e) (stmt_height y))
frame_height (WhileBody line e) = suc (height e)
frame_height (DoBody line) = 1
frame_height (ForBody line i t p) = suc (max (init_height i) (max (height_if t) (height_if p)))
frame_height (EachBody line f g e) = suc (height e)

-- how many statements are open, and the function's block
abbrev pub depth : Stack → ℕ
depth (InFunction done) = 1
depth (Inside f s) = suc (depth s)

-- the deepest of what was read of the open statements
abbrev pub past : Stack → ℕ
past (InFunction done) = suc (stmt_heights (stmt_trees done))
past (Inside f s) = max (depth s + frame_height f) (past s)

-- the levels of what was read of a statement before an optional part of it
abbrev pub optional_height : Optional → ℕ
optional_height (Value line) = 0
optional_height (First line) = 0
optional_height (Test line i) = suc (init_height i)
optional_height (Step line i t) = suc (max (init_height i) (height_if t))

-- and before an expression in it
abbrev pub role_height : Role → ℕ
role_height (TestDo line b) = suc (stmt_height b)
role_height (OneOf part) = optional_height part
role_height _ = 0

-- a `for` has a body, which is one below it
abbrev pub optional_least : Optional → ℕ
optional_least (Value line) = 1
optional_least _ = 2

abbrev pub whose_least : Whose → ℕ
whose_least OfStmt = 1
whose_least (OfFor line) = 2

abbrev pub names_height : Names → ℕ
names_height (AtOne done) = declarator_heights done
names_height (AtStars done line n) = declarator_heights done
names_height (Named done line n w) = declarator_heights done
names_height (Valued done line n w e) = max (declarator_heights done) (expr.least e)

abbrev pub names_here : Names → ℕ
names_here (Valued done line n w e) = expr.least e
names_here _ = 0

-- a statement has one level, but in a block and its like none has to come
abbrev pub frame_extra : Frame → ℕ
frame_extra (InBlock line done) = 0
frame_extra (InSwitch w) = 0
frame_extra _ = 1

abbrev pub extra : Stack → ℕ
extra (InFunction done) = 0
extra (Inside f s) = frame_extra f

-- the depth of what has to come at least
abbrev pub here : State → ℕ
here (Need s) = depth s + extra s
here (Have t s) = depth s + 1
here (Expect m next) = here next
here (Reading e role s) = depth s + 1 + expr.least e
here (Maybe part s) = depth s + optional_least part
here (Declaring line b d whose s) = max (depth s + whose_least whose) (depth s + 1 + names_here d)
here (NeedEach line first s) = depth s + 2
here (EachStars line first at b n s) = depth s + 2
here (EachNamed line first e s) = depth s + 2
here (NeedConst line w s) = depth s + 1
here (NeedDigits line w s) = depth s + 1
here (HaveInt line n w s) = depth s + 1
here (NeedTo line n w s) = depth s + 1
here (NeedToDigits line n w s) = depth s + 1
here (Over ss) = 1

-- the deepest of what was read and of what has to come: the levels of the shallowest function that begins so
abbrev pub least : State → ℕ
least (Need s) = max (past s) (depth s + extra s)
least (Have t s) = max (past s) (depth s + stmt_height t)
least (Expect m next) = least next
least (Reading e role s) = max (past s) (max (depth s + role_height role) (depth s + 1 + expr.least e))
least (Maybe part s) = max (past s) (max (depth s + optional_height part) (depth s + optional_least part))
least (Declaring line b d whose s) = max (past s) (max (depth s + whose_least whose) (depth s + 1 + names_height d))
least (NeedEach line first s) = max (past s) (depth s + 2)
least (EachStars line first at b n s) = max (past s) (depth s + 2)
least (EachNamed line first e s) = max (past s) (depth s + 2)
least (NeedConst line w s) = past (Inside (InSwitch w) s)
least (NeedDigits line w s) = past (Inside (InSwitch w) s)
least (HaveInt line n w s) = past (Inside (InSwitch w) s)
least (NeedTo line n w s) = past (Inside (InSwitch w) s)
least (NeedToDigits line n w s) = past (Inside (InSwitch w) s)
least (Over ss) = suc (stmt_heights ss)
