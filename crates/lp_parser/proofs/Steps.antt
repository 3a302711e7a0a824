-- The steps of the program, arm by arm.
use Rattle.std.proofs.Common.{◌≡◌, ℕ, List, [], ◌∷◌, true, false, refl, ap, sym, ◌∙◌, subst}
use Rattle.std.specs.Prelude.{Option, Some, None, option_map, Result, Ok, Vec}
use Rattle.std.specs.declared.alloc.AllocError.{AllocError}
use Rattle.std.specs.declared.alloc.Global.{Global}
use Rattle.lp_tree.specs.declared.keyword.Modifier.{Modifier as ModifierWord}
use Rattle.lp_tree.specs.declared.keyword.Base.{Base as BaseWord}
use Rattle.lp_tree.specs.declared.seen.Seen.{Seen}
use Rattle.lp_tree.specs.declared.stmt.Declarator.{Declarator}
use Rattle.lp_tree.specs.declared.stmt.Stmt.{Stmt}
use Rattle.lp_tree.specs.declared.token.Mark.{Mark}
use Rattle.lp_tree.specs.declared.unit.Param.{Param}
use Rattle.lp_tree.specs.Statements.{DeclaratorTree}
use Rattle.lp_tree.specs.StatementView.{stmt_trees}
use Rattle.lp_parser_stmt.specs.declared.names.Names.{Names as CodeNames}
use Rattle.lp_parser_stmt.specs.declared.names.NamesMoved.{NamesMoved}
use Rattle.lp_parser_stmt.specs.declared.names.NamesMoved.TheVariants as namings
use Rattle.lp_parser_stmt.specs.declared.focus.Focus.{Focus as StmtFocus}
use Rattle.lp_parser_stmt.specs.declared.focus.Focus.TheVariants as focus
use Rattle.lp_parser_stmt.specs.declared.focus.Moved.{Moved}
use Rattle.lp_parser_stmt.specs.declared.focus.Moved.TheVariants as moved
use Rattle.lp_parser_stmt.specs.declared.focus.Opening.TheVariants as openings
use Rattle.lp_parser_stmt.specs.declared.focus.EachAt.TheVariants as eaches
use Rattle.lp_parser_stmt.specs.declared.focus.LabelAt.TheVariants as labels
use Rattle.lp_parser_stmt.specs.Machine as stmts
use Rattle.lp_parser_stmt.specs.Machine.{Names, AtOne, AtStars, Named, Valued, Stack, names_step, names_finished, mark_in}
use Rattle.lp_parser_stmt.specs.Moves.{NamesMoveOn, Steps, first_name, state_of as stmt_state}
use Rattle.lp_parser_stmt.specs.View.{declarators_of, names_of, stmts_of}
use Rattle.lp_parser.specs.declared.focus.Focus.{Focus}
use Rattle.lp_parser.specs.Machine.{Before, Head, State, Top, Typed, NeedParam, InBody, after_names, body, fun_of, is_paren, named_head, names_go, step, typed_goes, typed_head, with_item}
use Rattle.lp_parser.specs.Moves.{Moves}

-- where the machine of statements goes on, so does the block
pub body_goes : (b : Before) (h : Head) (ps : List Param) (line : ℕ) (s : Stack) (f : StmtFocus) → body b h ps line (stmt_state f s) ≡ InBody b h ps line (stmt_state f s)
body_goes b h ps line s focus.Need = refl
body_goes b h ps line s (focus.Have t) = refl
body_goes b h ps line s (focus.Awaits m) = refl
body_goes b h ps line s (focus.EndStmt t) = refl
body_goes b h ps line s (focus.Opens (openings.Test role)) = refl
body_goes b h ps line s (focus.Opens (openings.ForParts at)) = refl
body_goes b h ps line s (focus.Opens (openings.Variables at)) = refl
body_goes b h ps line s (focus.Reading es ef role) = refl
body_goes b h ps line s (focus.Maybe part) = refl
body_goes b h ps line s (focus.Declaring at base d whose) = refl
body_goes b h ps line s (focus.Variable at first eaches.Begins) = refl
body_goes b h ps line s (focus.Variable at first (eaches.Stars on base n)) = refl
body_goes b h ps line s (focus.Variable at first (eaches.Named e)) = refl
body_goes b h ps line s (focus.Label at labels.Begins w) = refl
body_goes b h ps line s (focus.Label at labels.Minus w) = refl
body_goes b h ps line s (focus.Label at (labels.Int n) w) = refl
body_goes b h ps line s (focus.Label at (labels.To n) w) = refl
body_goes b h ps line s (focus.Label at (labels.ToMinus n) w) = refl

-- one token of a block leads on
pub in_body_goes : (b : Before) (h : Head) (ps : List Param) (line : ℕ) (o : Option stmts.State) (s : Stack) (m : Moved) (f : StmtFocus)
    → Steps o s (Ok m) → m ≡ moved.Goes f → option_map (body b h ps line) o ≡ Some (InBody b h ps line (stmt_state f s))
in_body_goes b h ps line o s m f g e = ap (option_map (body b h ps line)) (subst (λ y. Steps o s (Ok y)) e g) ∙ ap Some (body_goes b h ps line s f)

-- or ends it
pub in_body_over : (b c : Before) (h : Head) (ps : List Param) (line : ℕ) (o : Option stmts.State) (s : Stack) (m : Moved) (ss : Vec Stmt Global) (r : Result (Option Focus) AllocError)
    → Steps o s (Ok m) → m ≡ moved.Over ss → Moves (Some (Top (with_item b (fun_of h ps line (stmt_trees (stmts_of ss)))))) c r → Moves (option_map (body b h ps line) o) c r
in_body_over b c h ps line o s m ss r g e w = subst (λ y. Moves y c r) (sym (ap (option_map (body b h ps line)) (subst (λ y. Steps o s (Ok y)) e g))) w

-- or is refused
pub in_body_none : (b : Before) (h : Head) (ps : List Param) (line : ℕ) (o : Option stmts.State) (s : Stack) (m : Moved)
    → Steps o s (Ok m) → m ≡ moved.Refuses → option_map (body b h ps line) o ≡ None
in_body_none b h ps line o s m g e = ap (option_map (body b h ps line)) (subst (λ y. Steps o s (Ok y)) e g)

-- one token of names leads on
pub names_goes : (o : Option Names) (ds : Option (List DeclaratorTree)) (m : NamesMoved) (d : CodeNames) (mark : Option Mark) (b : Before) (line : ℕ) (ms : List ModifierWord) (t : BaseWord)
    → NamesMoveOn o ds (Ok m) → m ≡ namings.Goes d → names_go o mark ds b line ms t ≡ Some (Typed b line ms t (names_of d))
names_goes o ds m d mark b line ms t g e = ap (λ y. names_go y mark ds b line ms t) (subst (λ y. NamesMoveOn o ds (Ok y)) e g)

-- or stands behind them
pub names_end : (o : Option Names) (ds : Option (List DeclaratorTree)) (m : NamesMoved) (u : Option (Vec Declarator Global)) (mark seen : Option Mark) (b c : Before) (line : ℕ) (ms : List ModifierWord) (t : BaseWord) (r : Result (Option Focus) AllocError)
    → NamesMoveOn o ds (Ok m) → m ≡ namings.Ends u → mark ≡ seen → Moves (after_names mark (option_map declarators_of u) b line ms t) c r → Moves (names_go o seen ds b line ms t) c r
names_end o ds m u mark seen b c line ms t r g e k w =
    let q = subst (λ y. NamesMoveOn o ds (Ok y)) e g in
    subst (λ y. Moves (names_go y seen ds b line ms t) c r) (sym q.0) (subst (λ y. Moves (after_names seen y b line ms t) c r) q.1 (subst (λ y. Moves (after_names y (option_map declarators_of u) b line ms t) c r) k w))

-- the names as the machine goes on with them
abbrev pub others : Names → Seen → Before → ℕ → List ModifierWord → BaseWord → Option State
others d x b line ms t = names_go (names_step d x) (mark_in x.sort) (names_finished d) b line ms t

head_of_first : (d : Names) (n : ℕ) (w : List ℕ) (line : ℕ) (ms : List ModifierWord) (t : BaseWord) → first_name d ≡ Some (n, w) → named_head d line ms t ≡ Some (typed_head line ms t n w)
head_of_first (Named [] at k v) n w line ms t e = ap (λ o. option_map (λ p. typed_head line ms t p.0 p.1) o) e
head_of_first (Named (y ∷ done) at k v) n w line ms t e = cc
head_of_first (AtOne done) n w line ms t e = cc
head_of_first (AtStars done at k) n w line ms t e = cc
head_of_first (Valued done at k v s) n w line ms t e = cc

head_of_others : (d : Names) (line : ℕ) (ms : List ModifierWord) (t : BaseWord) → first_name d ≡ None → named_head d line ms t ≡ None
head_of_others (Named [] at k v) line ms t e = cc
head_of_others (Named (y ∷ done) at k v) line ms t e = refl
head_of_others (AtOne done) line ms t e = refl
head_of_others (AtStars done at k) line ms t e = refl
head_of_others (Valued done at k v s) line ms t e = refl

goes_flat : (h : Option Head) (o : Option State) (b : Before) → typed_goes false h o b ≡ o
goes_flat None o b = refl
goes_flat (Some h) o b = refl

-- a parenthesis behind the first name
pub typed_first : (d : Names) (x : Seen) (b : Before) (line : ℕ) (ms : List ModifierWord) (t : BaseWord) (n : ℕ) (w : List ℕ)
    → is_paren (mark_in x.sort) ≡ true → first_name d ≡ Some (n, w) → step (Typed b line ms t d) x ≡ Some (NeedParam b (typed_head line ms t n w))
typed_first d x b line ms t n w p e =
    ap (λ c. typed_goes c (named_head d line ms t) (others d x b line ms t) b) p
    ∙ ap (λ h. typed_goes true h (others d x b line ms t) b) (head_of_first d n w line ms t e)

-- and behind others
pub typed_others : (d : Names) (x : Seen) (b : Before) (line : ℕ) (ms : List ModifierWord) (t : BaseWord)
    → is_paren (mark_in x.sort) ≡ true → first_name d ≡ None → step (Typed b line ms t d) x ≡ others d x b line ms t
typed_others d x b line ms t p e =
    ap (λ c. typed_goes c (named_head d line ms t) (others d x b line ms t) b) p
    ∙ ap (λ h. typed_goes true h (others d x b line ms t) b) (head_of_others d line ms t e)

-- and any other token
pub typed_names : (d : Names) (x : Seen) (b : Before) (line : ℕ) (ms : List ModifierWord) (t : BaseWord)
    → is_paren (mark_in x.sort) ≡ false → step (Typed b line ms t d) x ≡ others d x b line ms t
typed_names d x b line ms t p =
    ap (λ c. typed_goes c (named_head d line ms t) (others d x b line ms t) b) p
    ∙ goes_flat (named_head d line ms t) (others d x b line ms t) b
