-- How deep what was read lies, and what has to come.
use Rattle.std.specs.Prelude.{ℕ, max}
use Rattle.lp_tree.specs.Units.{unit_height}
use Rattle.lp_parser_stmt.specs.Depth as stmts
use Rattle.lp_parser_stmt.specs.Depth.{names_height, names_here}
use Rattle.lp_parser.specs.Machine.{State, Top, NeedPath, EndInherit, Modified, Typed, NeedOpen, NeedParam, NextParam, ParamStars, BehindParam, HaveParams, InBody}

-- the depth of what has to come at least
abbrev pub here : State → ℕ
here (Typed b line ms t d) = names_here d
here (InBody b h ps line st) = stmts.here st
here _ = 0

-- the deepest of what was read and of what has to come: the levels of the shallowest unit that begins so
abbrev pub least : State → ℕ
least (Top b) = unit_height b.done
least (NeedPath b line) = unit_height b.done
least (EndInherit b line w) = unit_height b.done
least (Modified b line ms) = unit_height b.done
least (Typed b line ms t d) = max (unit_height b.done) (names_height d)
least (NeedOpen b h) = unit_height b.done
least (NeedParam b h) = unit_height b.done
least (NextParam b h ps) = unit_height b.done
least (ParamStars b h ps at t n) = unit_height b.done
least (BehindParam b h ps) = unit_height b.done
least (HaveParams b h ps) = unit_height b.done
least (InBody b h ps line st) = max (unit_height b.done) (stmts.least st)
