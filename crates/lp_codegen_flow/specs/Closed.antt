-- Statements in which each break and each continue leaves something.
use Rattle.std.specs.Prelude.{Bool, true, ◌&&◌}
use Rattle.lp_tree.specs.Statements.{StmtTree, Block, Empty, Run, Declares, If, While, DoWhile, For, Foreach, Switch, Break, Continue, Return, StmtTrees, NoStmt, MoreStmts, ElseTree, NoElse, Else, PartTrees, NoPart, LabelPart, StmtPart, Around, in_loop, in_switch}

-- what stands round a statement
abbrev pub with : Bool → Bool → Around
with b c = record { may_break = b; may_continue = c }

-- each leaves what stands round the statement, or a loop or a switch in it
abbrev mutual
  pub is_closed : Around → StmtTree → Bool
  is_closed a (Block line ss) = are_closed a ss
  is_closed a (Empty line) = true
  is_closed a (Run line e) = true
  is_closed a (Declares line d) = true
  is_closed a (If line e y n) = is_closed a y && else_closed a n
  is_closed a (While line e b) = is_closed in_loop b
  is_closed a (DoWhile line b e) = is_closed in_loop b
  is_closed a (For line i t st b) = is_closed in_loop b
  is_closed a (Foreach line f g e b) = is_closed in_loop b
  is_closed a (Switch line e ps) = parts_closed (in_switch a) ps
  is_closed a (Break line) = a.may_break
  is_closed a (Continue line) = a.may_continue
  is_closed a (Return line e) = true

  pub are_closed : Around → StmtTrees → Bool
  are_closed a NoStmt = true
  are_closed a (MoreStmts s ss) = is_closed a s && are_closed a ss

  pub else_closed : Around → ElseTree → Bool
  else_closed a NoElse = true
  else_closed a (Else s) = is_closed a s

  pub parts_closed : Around → PartTrees → Bool
  parts_closed a NoPart = true
  parts_closed a (LabelPart k ps) = parts_closed a ps
  parts_closed a (StmtPart s ps) = is_closed a s && parts_closed a ps
