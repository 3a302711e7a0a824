-- What the program's frames and names stand for.
use Rattle.std.specs.Prelude.{List, map, option_map, Vec}
use Rattle.std.specs.declared.alloc.Global.{Global}
use Rattle.lp_tree.specs.declared.stmt.Declarator.{Declarator}
use Rattle.lp_tree.specs.declared.stmt.Stmt.{Stmt}
use Rattle.lp_tree.specs.declared.stmt.Part.{Part}
use Rattle.lp_tree.specs.declared.stmt.Part.TheVariants as parts
use Rattle.lp_tree.specs.Statements.{DeclaratorTree, StmtTree}
use Rattle.lp_tree.specs.StatementView.{stmt_of, declarator_of, init_of}
use Rattle.lp_tree.specs.TreeView.{tree_of}
use Rattle.lp_parser_expr.specs.Moves.{state_of as expr_state}
use Rattle.lp_parser_expr.specs.StackView.{stack_of as expr_stack}
use Rattle.lp_parser_stmt.specs.declared.names.Names.{Names as CodeNames}
use Rattle.lp_parser_stmt.specs.declared.names.Names.TheVariants as names
use Rattle.lp_parser_stmt.specs.declared.role.Optional.{Optional as CodeOptional}
use Rattle.lp_parser_stmt.specs.declared.role.Optional.TheVariants as optionals
use Rattle.lp_parser_stmt.specs.declared.role.Role.{Role as CodeRole}
use Rattle.lp_parser_stmt.specs.declared.role.Role.TheVariants as roles
use Rattle.lp_parser_stmt.specs.declared.role.Whose.{Whose as CodeWhose}
use Rattle.lp_parser_stmt.specs.declared.role.Whose.TheVariants as owners
use Rattle.lp_parser_stmt.specs.declared.frame.Switching.{Switching as CodeSwitching}
use Rattle.lp_parser_stmt.specs.declared.frame.Frame.{Frame as CodeFrame}
use Rattle.lp_parser_stmt.specs.declared.frame.Frame.TheVariants as frames
use Rattle.lp_parser_stmt.specs.Machine.{Names, AtOne, AtStars, Named, Valued, Optional, Value, First, Test, Step, Role, ToRun, TestIf, TestWhile, TestDo, OverEach, OnSwitch, OneOf, Switching, Frame, InBlock, InSwitch, IfYes, IfNo, WhileBody, DoBody, ForBody, EachBody, Whose, OfStmt, OfFor}

-- the names that are whole
abbrev pub declarators_of : Vec Declarator Global → List DeclaratorTree
declarators_of v = map declarator_of v.items

abbrev pub names_of : CodeNames → Names
names_of (names.AtOne done) = AtOne (declarators_of done)
names_of (names.AtStars done line n) = AtStars (declarators_of done) line n
names_of (names.Named done line n w) = Named (declarators_of done) line n w
names_of (names.Valued done line n w s f) = Valued (declarators_of done) line n w (expr_state f (expr_stack s))

-- the statements that are whole
abbrev pub stmts_of : Vec Stmt Global → List StmtTree
stmts_of v = map stmt_of v.items

abbrev pub optional_of : CodeOptional → Optional
optional_of (optionals.Value line) = Value line
optional_of (optionals.First line) = First line
optional_of (optionals.Test line i) = Test line (init_of i.value)
optional_of (optionals.Step line i t) = Step line (init_of i.value) (option_map (λ b. tree_of b.value) t)

abbrev pub role_of : CodeRole → Role
role_of roles.ToRun = ToRun
role_of (roles.TestIf line) = TestIf line
role_of (roles.TestWhile line) = TestWhile line
role_of (roles.TestDo line b) = TestDo line (stmt_of b.value)
role_of (roles.OverEach line f g) = OverEach line f g
role_of (roles.OnSwitch line) = OnSwitch line
role_of (roles.OneOf part) = OneOf (optional_of part)

abbrev pub whose_of : CodeWhose → Whose
whose_of owners.OfStmt = OfStmt
whose_of (owners.OfFor line) = OfFor line

-- a part of a `switch`, its statement as a tree
abbrev pub part_view : Part Stmt → Part StmtTree
part_view (parts.Label k) = parts.Label k
part_view (parts.Stmt s) = parts.Stmt (stmt_of s)

abbrev pub switching_of : CodeSwitching → Switching
switching_of w = record { line = w.line; on = tree_of w.on.value; done = map part_view w.done.items }

abbrev pub frame_of : CodeFrame → Frame
frame_of (frames.InBlock line done) = InBlock line (stmts_of done)
frame_of (frames.InSwitch w) = InSwitch (switching_of w)
frame_of (frames.IfYes line e) = IfYes line (tree_of e.value)
frame_of (frames.IfNo line e y) = IfNo line (tree_of e.value) (stmt_of y.value)
frame_of (frames.WhileBody line e) = WhileBody line (tree_of e.value)
frame_of (frames.DoBody line) = DoBody line
frame_of (frames.ForBody line i t p) = ForBody line (init_of i.value) (option_map (λ b. tree_of b.value) t) (option_map (λ b. tree_of b.value) p)
frame_of (frames.EachBody line f g e) = EachBody line f g (tree_of e.value)
