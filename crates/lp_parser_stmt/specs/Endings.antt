-- How an open statement ends with a whole one, and an expression with a mark.
use Rattle.std.specs.Prelude.{◌≡◌, Bool, false, not, Option, Some, None, Result, Ok, Err, if◌then◌else◌}
use Rattle.std.specs.declared.alloc.AllocError.{AllocError}
use Rattle.lp_tree.specs.declared.token.Mark.{Mark}
use Rattle.lp_tree.specs.declared.token.Mark.TheVariants.{Semicolon, CloseParen}
use Rattle.lp_tree.specs.Statements.{StmtTree, If, While, For, Foreach, NoElse, Else}
use Rattle.lp_tree.specs.StatementView.{stmt_of}
use Rattle.lp_parser_stmt.specs.declared.ending.Ended.{Ended}
use Rattle.lp_parser_stmt.specs.declared.ending.Ended.TheVariants as endings
use Rattle.lp_parser_stmt.specs.Machine.{Frame, IfYes, IfNo, WhileBody, ForBody, EachBody, Role, by_paren}
use Rattle.lp_parser_stmt.specs.View.{frame_of}

-- what is whole with its last statement, before a token that is an `else` or not
abbrev pub ended : Bool → StmtTree → Frame → Option StmtTree
ended b t (IfYes line e) = if b then None else Some (If line e t NoElse)
ended b t (IfNo line e y) = Some (If line e y (Else t))
ended b t (WhileBody line e) = Some (While line e t)
ended b t (ForBody line i c p) = Some (For line i c p t)
ended b t (EachBody line f g e) = Some (Foreach line f g e t)
ended b t _ = None

-- it ends, or all is as it was
abbrev pub Ends : Bool → StmtTree → Frame → Result Ended AllocError → Type 0
Ends b t f (Ok (endings.Whole u)) = ended b t f ≡ Some (stmt_of u.value)
Ends b t f (Ok (endings.Stays g u)) = (ended b t f ≡ None) × ((frame_of g ≡ f) × (stmt_of u.value ≡ t))
Ends b t f (Err e) = Unit {0}

-- whether a mark ends what is read for this
abbrev pub is_end : Option Mark → Role → Bool
is_end (Some Semicolon) role = not (by_paren role)
is_end (Some CloseParen) role = by_paren role
is_end _ role = false
