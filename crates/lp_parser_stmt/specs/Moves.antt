-- What the program's steps come to.
use Rattle.std.specs.Prelude.{◌≡◌, ℕ, List, [], Option, Some, None, option_map, Result, Ok, Err, ⊤}
use Rattle.std.specs.declared.alloc.AllocError.{AllocError}
use Rattle.lp_tree.specs.declared.seen.Seen.{Seen}
use Rattle.lp_tree.specs.declared.seen.Sort.{Sort}
use Rattle.lp_tree.specs.declared.seen.Sort.TheVariants as sorts
use Rattle.lp_tree.specs.declared.stmt.Each.{Each}
use Rattle.lp_tree.specs.declared.token.Mark.TheVariants.{OpenParen, Semicolon}
use Rattle.lp_tree.specs.Signs.{IsFromZero}
use Rattle.lp_tree.specs.Statements.{DeclaratorTree}
use Rattle.lp_tree.specs.StatementView.{stmt_of, stmt_trees}
use Rattle.lp_parser_expr.specs.Moves.{state_of as expr_state}
use Rattle.lp_parser_expr.specs.StackView.{stack_of as expr_stack}
use Rattle.lp_parser_stmt.specs.declared.names.NamesMoved.{NamesMoved}
use Rattle.lp_parser_stmt.specs.declared.names.NamesMoved.TheVariants as namings
use Rattle.lp_parser_stmt.specs.declared.names.FirstName.{FirstName}
use Rattle.lp_parser_stmt.specs.declared.names.FirstName.TheVariants as firsts
use Rattle.lp_parser_stmt.specs.declared.focus.Opening.{Opening}
use Rattle.lp_parser_stmt.specs.declared.focus.Opening.TheVariants as openings
use Rattle.lp_parser_stmt.specs.declared.focus.EachAt.{EachAt}
use Rattle.lp_parser_stmt.specs.declared.focus.EachAt.TheVariants as eaches
use Rattle.lp_parser_stmt.specs.declared.focus.LabelAt.{LabelAt}
use Rattle.lp_parser_stmt.specs.declared.focus.LabelAt.TheVariants as labels
use Rattle.lp_parser_stmt.specs.declared.focus.Focus.{Focus}
use Rattle.lp_parser_stmt.specs.declared.focus.Focus.TheVariants as focus
use Rattle.lp_parser_stmt.specs.declared.focus.Moved.{Moved}
use Rattle.lp_parser_stmt.specs.declared.focus.Moved.TheVariants as moved
use Rattle.lp_parser_stmt.specs.View.{declarators_of, names_of, stmts_of, optional_of, role_of, whose_of, switching_of}
use Rattle.lp_parser_stmt.specs.Machine.{Names, Named, names_step, names_finished, Stack, Switching, State, Need, Have, Expect, Reading, Maybe, First, Declaring, NeedEach, EachStars, EachNamed, NeedConst, NeedDigits, HaveInt, NeedTo, NeedToDigits, Over, read_in_parens}

-- an integer token is not negative: its sign is a token of its own
abbrev pub IsUnsigned : Sort → Type 0
IsUnsigned (sorts.Int n) = IsFromZero n
IsUnsigned _ = ⊤

-- the names that are read, where they are whole
abbrev pub finished_with : NamesMoved → Option (List DeclaratorTree)
finished_with (namings.Goes d) = None
finished_with (namings.Ends o) = option_map declarators_of o

-- the names that are next, or none, and then what was read is finished
abbrev pub NamesMoveOn : Option Names → Option (List DeclaratorTree) → Result NamesMoved AllocError → Type 0
NamesMoveOn o ds (Ok (namings.Goes d)) = o ≡ Some (names_of d)
NamesMoveOn o ds (Ok (namings.Ends u)) = (o ≡ None) × (option_map declarators_of u ≡ ds)
NamesMoveOn o ds (Err e) = Unit {0}

-- one token of the names
abbrev pub NamesMove : Names → Seen → Result NamesMoved AllocError → Type 0
NamesMove d x r = NamesMoveOn (names_step d x) (names_finished d) r

-- one name without a value and nothing before: its stars and the name
abbrev pub first_name : Names → Option (ℕ × List ℕ)
first_name (Named [] line n w) = Some (n, w)
first_name _ = None

-- that name, or the names as they were
abbrev pub FirstIs : Names → FirstName → Type 0
FirstIs d (firsts.Alone n w) = first_name d ≡ Some (n, w)
FirstIs d (firsts.Other m) = (first_name d ≡ None) × (names_of m ≡ d)

abbrev pub opening_state : Opening → Stack → State
opening_state (openings.Test role) s = read_in_parens (role_of role) s
opening_state (openings.ForParts line) s = Expect OpenParen (Maybe (First line) s)
opening_state (openings.Variables line) s = Expect OpenParen (NeedEach line None s)

abbrev pub each_state : EachAt → ℕ → Option Each → Stack → State
each_state eaches.Begins line first s = NeedEach line first s
each_state (eaches.Stars at b n) line first s = EachStars line first at b n s
each_state (eaches.Named e) line first s = EachNamed line first e s

abbrev pub label_state : LabelAt → ℕ → Switching → Stack → State
label_state labels.Begins line w s = NeedConst line w s
label_state labels.Minus line w s = NeedDigits line w s
label_state (labels.Int n) line w s = HaveInt line n w s
label_state (labels.To n) line w s = NeedTo line n w s
label_state (labels.ToMinus n) line w s = NeedToDigits line n w s

-- the state of the machine
abbrev pub state_of : Focus → Stack → State
state_of focus.Need s = Need s
state_of (focus.Have t) s = Have (stmt_of t.value) s
state_of (focus.Awaits m) s = Expect m (Need s)
state_of (focus.EndStmt t) s = Expect Semicolon (Have (stmt_of t.value) s)
state_of (focus.Opens o) s = opening_state o s
state_of (focus.Reading es ef role) s = Reading (expr_state ef (expr_stack es)) (role_of role) s
state_of (focus.Maybe part) s = Maybe (optional_of part) s
state_of (focus.Declaring line b d whose) s = Declaring line b (names_of d) (whose_of whose) s
state_of (focus.Variable line first at) s = each_state at line first s
state_of (focus.Label line at w) s = label_state at line (switching_of w) s

-- the state that is next, or the statements that are read, or none
abbrev pub Steps : Option State → Stack → Result Moved AllocError → Type 0
Steps o s' (Ok (moved.Goes f)) = o ≡ Some (state_of f s')
Steps o s' (Ok (moved.Over ss)) = o ≡ Some (Over (stmt_trees (stmts_of ss)))
Steps o s' (Ok moved.Refuses) = o ≡ None
Steps o s' (Err e) = Unit {0}
