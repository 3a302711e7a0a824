-- Steps of expressions in statements and names, as the program takes them.
use Rattle.std.proofs.Common.{◌≡◌, ℕ, List, refl, ap, sym, ◌∙◌, subst, Bool, not}
use Rattle.std.specs.Prelude.{Vec, Option, Some, None, option_map, Result, Ok, if◌then◌else◌}
use Rattle.std.specs.declared.alloc.AllocError.{AllocError}
use Rattle.lp_tree.specs.declared.seen.Seen.{Seen}
use Rattle.lp_tree.specs.declared.token.Mark.{Mark}
use Rattle.lp_tree.specs.declared.token.Mark.TheVariants.{Comma, Semicolon}
use Rattle.lp_tree.specs.declared.keyword.Base.{Base as BaseWord}
use Rattle.lp_tree.specs.Trees.{Tree}
use Rattle.lp_tree.specs.Statements.{DeclaratorTree}
use Rattle.lp_parser_expr.specs.declared.focus.Focus.{Focus as ExprFocus}
use Rattle.lp_parser_expr.specs.declared.focus.Moved.{Moved as ExprMoved}
use Rattle.lp_parser_expr.specs.declared.focus.Moved.TheVariants as expr_moved
use Rattle.lp_parser_expr.specs.declared.tall.Tall.{Tall}
use Rattle.lp_parser_expr.specs.Machine as expr
use Rattle.lp_parser_expr.specs.Moves.{MovesOn, state_of as expr_state}
use Rattle.lp_parser_expr.specs.View.{tree_in}
use Rattle.lp_parser_stmt.specs.declared.names.NamesMoved.{NamesMoved}
use Rattle.lp_parser_stmt.specs.declared.names.NamesMoved.TheVariants as namings
use Rattle.lp_parser_stmt.specs.View.{declarators_of}
use Rattle.lp_tree.specs.declared.stmt.Declarator.{Declarator}
use Rattle.std.specs.declared.alloc.Global.{Global}
use Rattle.lp_parser_stmt.specs.declared.focus.Moved.{Moved}
use Rattle.lp_parser_stmt.specs.Moves.{NamesMove, NamesMoveOn, Steps}
use Rattle.lp_parser_stmt.specs.Machine.{Names, Valued, mark_valued, value_goes, with_name, names_step, names_finished, mark_in, Stack, Role, OneOf, Optional, filled, State, Reading, Declaring, Whose, after_some, reading_goes, mark_after_names, names_go, by_paren, semicolon_skips, paren_skips, step}
use Rattle.lp_parser_stmt.proofs.Ends.{semicolon-is, paren-is}

pub expr_ends : (st : expr.State) (x : Seen) (s' : expr.Stack) (m : ExprMoved) (u : Option Tall) → MovesOn (expr.step st x) (expr.finished st) s' (Ok m) → m ≡ expr_moved.Ends u → (expr.step st x ≡ None) × (tree_in u ≡ expr.finished st)
expr_ends st x s' m u d e = subst (λ y. MovesOn (expr.step st x) (expr.finished st) s' (Ok y)) e d

pub expr_goes : (st : expr.State) (x : Seen) (s' : expr.Stack) (m : ExprMoved) (f : ExprFocus) → MovesOn (expr.step st x) (expr.finished st) s' (Ok m) → m ≡ expr_moved.Goes f → expr.step st x ≡ Some (expr_state f s')
expr_goes st x s' m f d e = subst (λ y. MovesOn (expr.step st x) (expr.finished st) s' (Ok y)) e d

none-valued : (m : Option Mark) (done : List DeclaratorTree) (line n : ℕ) (w : List ℕ) → mark_valued m None done line n w ≡ None
none-valued None done line n w = refl
none-valued (Some Comma) done line n w = refl
none-valued (Some _) done line n w = refl

pub valued_stops : (x : Seen) (e : expr.State) (done : List DeclaratorTree) (line n : ℕ) (w : List ℕ) → expr.step e x ≡ None → None ≡ expr.finished e
    → (names_step (Valued done line n w e) x ≡ None) × (None ≡ names_finished (Valued done line n w e))
valued_stops x e done line n w h f = (
  ap (λ o. value_goes o (expr.finished e) x.sort done line n w) h ∙ ap (λ t. mark_valued (mark_in x.sort) t done line n w) (sym f) ∙ none-valued (mark_in x.sort) done line n w,
  ap (option_map (λ t. with_name done line n w (Some t))) f,
)

pub valued_ends : (x : Seen) (e : expr.State) (t : Tree) (m : Option Mark) (done : List DeclaratorTree) (line n : ℕ) (w : List ℕ) (r : Result NamesMoved AllocError)
    → m ≡ mark_in x.sort → expr.step e x ≡ None → Some t ≡ expr.finished e
    → NamesMoveOn (mark_valued m (Some t) done line n w) (Some (with_name done line n w (Some t))) r → NamesMove (Valued done line n w e) x r
valued_ends x e t m done line n w r k h f d =
    let a : names_step (Valued done line n w e) x ≡ mark_valued m (Some t) done line n w = ap (λ o. value_goes o (expr.finished e) x.sort done line n w) h ∙ ap (λ u. mark_valued (mark_in x.sort) u done line n w) (sym f) ∙ ap (λ y. mark_valued y (Some t) done line n w) (sym k) in
    let b : names_finished (Valued done line n w e) ≡ Some (with_name done line n w (Some t)) = ap (option_map (λ u. with_name done line n w (Some u))) (sym f) in
    subst (λ o. NamesMoveOn o (names_finished (Valued done line n w e)) r) (sym a) (subst (λ ds. NamesMoveOn (mark_valued m (Some t) done line n w) ds r) (sym b) d)

none-after : (m : Option Mark) (role : Role) (s : Stack) → after_some m role None s ≡ None
none-after None role s = refl
none-after (Some m) role s = refl

pub reading_stops : (x : Seen) (e : expr.State) (role : Role) (s : Stack) → expr.step e x ≡ None → None ≡ expr.finished e → step (Reading e role s) x ≡ None
reading_stops x e role s h f = ap (λ o. reading_goes o (expr.finished e) x.sort role s) h ∙ ap (λ t. after_some (mark_in x.sort) role t s) (sym f) ∙ none-after (mark_in x.sort) role s

pub reading_ends : (x : Seen) (e : expr.State) (t : Tree) (m : Option Mark) (role : Role) (s s' : Stack) (r : Result Moved AllocError)
    → m ≡ mark_in x.sort → expr.step e x ≡ None → Some t ≡ expr.finished e → Steps (after_some m role (Some t) s) s' r → Steps (step (Reading e role s) x) s' r
reading_ends x e t m role s s' r k h f d =
    let a : step (Reading e role s) x ≡ after_some m role (Some t) s = ap (λ o. reading_goes o (expr.finished e) x.sort role s) h ∙ ap (λ u. after_some (mark_in x.sort) role u s) (sym f) ∙ ap (λ y. after_some y role (Some t) s) (sym k) in
    subst (λ o. Steps o s' r) (sym a) d

none-declared : (m : Option Mark) (line : ℕ) (b : BaseWord) (whose : Whose) (s : Stack) → mark_after_names m line b None whose s ≡ None
none-declared None line b whose s = refl
none-declared (Some Semicolon) line b whose s = refl
none-declared (Some _) line b whose s = refl

pub declaring_stops : (x : Seen) (d : Names) (line : ℕ) (b : BaseWord) (whose : Whose) (s : Stack) → names_step d x ≡ None → None ≡ names_finished d → step (Declaring line b d whose s) x ≡ None
declaring_stops x d line b whose s h f = ap (λ o. names_go o (names_finished d) x.sort line b whose s) h ∙ ap (λ ds. mark_after_names (mark_in x.sort) line b ds whose s) (sym f) ∙ none-declared (mark_in x.sort) line b whose s

pub declaring_ends : (x : Seen) (d : Names) (ds : List DeclaratorTree) (m : Option Mark) (line : ℕ) (b : BaseWord) (whose : Whose) (s s' : Stack) (r : Result Moved AllocError)
    → m ≡ mark_in x.sort → names_step d x ≡ None → Some ds ≡ names_finished d → Steps (mark_after_names m line b (Some ds) whose s) s' r → Steps (step (Declaring line b d whose s) x) s' r
declaring_ends x d ds m line b whose s s' r k h f q =
    let a : step (Declaring line b d whose s) x ≡ mark_after_names m line b (Some ds) whose s = ap (λ o. names_go o (names_finished d) x.sort line b whose s) h ∙ ap (λ u. mark_after_names (mark_in x.sort) line b u whose s) (sym f) ∙ ap (λ y. mark_after_names y line b (Some ds) whose s) (sym k) in
    subst (λ o. Steps o s' r) (sym a) q

pub skips_semicolon : (part : Optional) (s s' : Stack) (r : Result Moved AllocError) (last : Bool) → last ≡ by_paren (OneOf part) → Steps (if not last then Some (filled part None s) else None) s' r → Steps (semicolon_skips part s) s' r
skips_semicolon part s s' r last e d = subst (λ o. Steps o s' r) (sym (semicolon-is part s)) (subst (λ b. Steps (if not b then Some (filled part None s) else None) s' r) e d)

pub skips_paren : (part : Optional) (s s' : Stack) (r : Result Moved AllocError) (last : Bool) → last ≡ by_paren (OneOf part) → Steps (if last then Some (filled part None s) else None) s' r → Steps (paren_skips part s) s' r
skips_paren part s s' r last e d = subst (λ o. Steps o s' r) (sym (paren-is part s)) (subst (λ b. Steps (if b then Some (filled part None s) else None) s' r) e d)

pub names_ends : (d : Names) (x : Seen) (m : NamesMoved) (u : Option (Vec Declarator Global)) → NamesMove d x (Ok m) → m ≡ namings.Ends u → (names_step d x ≡ None) × (option_map declarators_of u ≡ names_finished d)
names_ends d x m u h e = subst (λ y. NamesMove d x (Ok y)) e h

pub same_names : (a b : Vec Declarator Global) → a ≡ b → Some (declarators_of a) ≡ Some (declarators_of b)
same_names a b e = ap (λ v. Some (declarators_of v)) e
