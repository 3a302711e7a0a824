-- What the program's stack stands for.
use Rattle.std.specs.Prelude.{List, [], ◌∷◌}
use Rattle.lp_tree.specs.Statements.{StmtTree}
use Rattle.lp_parser_stmt.specs.declared.frame.Open.{Open}
use Rattle.lp_parser_stmt.specs.declared.stack.Stack.{Stack as CodeStack}
use Rattle.lp_parser_stmt.specs.Machine.{Stack, InFunction, Inside}
use Rattle.lp_parser_stmt.specs.View.{frame_of, stmts_of}

-- statements opened on a stack, the first one outermost
abbrev pub above : Stack → List Open → Stack
above s [] = s
above s (o ∷ os) = above (Inside (frame_of o.frame) s) os

-- the statements of the function's block that are whole
abbrev pub done_of : CodeStack → List StmtTree
done_of s = stmts_of s.done

-- the open statements
abbrev pub stack_of : CodeStack → Stack
stack_of s = above (InFunction (done_of s)) s.opens.items
