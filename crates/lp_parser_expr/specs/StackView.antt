-- What the program's stack stands for.
use Rattle.std.specs.Prelude.{[]}
use Rattle.lp_parser_expr.specs.declared.stack.Stack.{Stack as CodeStack}
use Rattle.lp_parser_expr.specs.Levels.{above}
use Rattle.lp_parser_expr.specs.Machine.{Stack}

-- the open productions, the innermost first
abbrev pub stack_of : CodeStack → Stack
stack_of s = above [] s.frames.items
