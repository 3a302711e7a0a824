-- Each state that was reached can be brought to an end, as shallow as it says.
use Rattle.std.proofs.Common.{◌≡◌, ℕ, suc, ◌+◌, ◌≤◌, List, [], ◌∷◌, ◌++◌, Bool, true, false, cond, refl, ap, sym, ◌∙◌, subst, arith}
use Rattle.std.specs.Prelude.{ℤ, pos, neg_ℤ, Option, Some, None, option_and_then, bytes_eq, codes}
use Rattle.lp_tree.specs.declared.token.Mark.{Mark}
use Rattle.lp_tree.specs.declared.operator.BinOp.TheVariants.{Sub, Mul}
use Rattle.lp_tree.specs.declared.operator.AssignOp.TheVariants.{Set}
use Rattle.lp_tree.specs.declared.token.Mark.TheVariants as marks
use Rattle.lp_tree.specs.declared.token.Mark.TheVariants.{OpenParen, CloseParen, CloseBrace, Semicolon, Comma, Colon, DotDot}
use Rattle.lp_tree.specs.declared.keyword.Keyword.{Keyword}
use Rattle.lp_tree.specs.declared.keyword.Keyword.TheVariants as words
use Rattle.lp_tree.specs.declared.keyword.Base.{Base as BaseWord}
use Rattle.lp_tree.specs.declared.seen.Sort.{Sort}
use Rattle.lp_tree.specs.declared.seen.Sort.TheVariants as sorts
use Rattle.lp_tree.specs.declared.seen.Seen.{Seen}
use Rattle.lp_tree.specs.declared.stmt.Each.{Each}
use Rattle.lp_tree.specs.declared.stmt.Constant.TheVariants.{Int}
use Rattle.lp_tree.specs.declared.stmt.Part.TheVariants as parts
use Rattle.lp_tree.specs.declared.stmt.Label.{Label}
use Rattle.lp_tree.specs.declared.stmt.Label.TheVariants as labels
use Rattle.lp_tree.specs.Seen.{word, integer, mark, reserved}
use Rattle.lp_tree.specs.Trees.{Tree, Name, height}
use Rattle.lp_tree.specs.Types.{none as no_star}
use Rattle.lp_tree.specs.Expressions as exprs
use Rattle.lp_tree.specs.Statements as stmts
use Rattle.lp_tree.specs.Statements.{DeclaratorTree, LocalTree, InitTree, StmtTree, Block, Empty, If, While, DoWhile, For, Foreach, Switch, StmtTrees, NoElse, Else, else_follows, declarator_heights, stmt_heights, case_value, case_range}
use Rattle.lp_tree.specs.StatementView.{stmt_trees, part_trees}
use Rattle.lp_parser_expr.specs.Machine as expr
use Rattle.lp_parser_expr.specs.Depth as levels
use Rattle.lp_parser_expr.proofs.Viable.{run-append}
use Rattle.lp_parser_expr.proofs.Main.{begun, complete_all}
use Rattle.lp_parser_expr.specs.Theorem.{start as alone_or}
use Rattle.lp_parser_stmt.specs.declared.class.Class.{Class}
use Rattle.lp_parser_stmt.specs.declared.class.Class.TheVariants.{BraceOpens, BraceCloses, SemicolonEnds, ParenCloses, ExpressionBegins, TypeBegins, WordBegins}
use Rattle.lp_parser_stmt.specs.Machine.{Names, AtOne, AtStars, Named, Valued, with_name, at_one, at_stars, named, valued, value_goes, names_step, names_finished, names_run, names_walk, Optional, Value, First, Test, Step, Role, ToRun, TestIf, TestWhile, TestDo, OverEach, OnSwitch, OneOf, Switching, with_part, InBlock, InSwitch, IfYes, IfNo, WhileBody, DoBody, ForBody, EachBody, Stack, InFunction, Inside, around, Whose, OfStmt, OfFor, State, Need, Have, Expect, Reading, Maybe, Declaring, NeedEach, EachStars, EachNamed, NeedConst, NeedDigits, HaveInt, NeedTo, NeedToDigits, Over, class, reads, closes, case_begins, default_begins, labelled, leaves, word_begins, class_begins, settle, after_yes, after_body, act, is_mark, is_else, by_paren, used, after_mark, after, reading_goes, semicolon_skips, paren_skips, first_declares, maybe, declared, after_names, names_go, need_each, each_stars, over, one_more_each, each_named, need_const, need_digits, have_int, need_to, need_to_digits, step, start, run, walk}
use Rattle.lp_parser_stmt.specs.Depth.{names_height, extra, least}
use Rattle.lp_parser_stmt.proofs.Expressions.{ReadTree, tree_end, tree_then, tree_run}
use Rattle.lp_parser_stmt.proofs.NamesRead.{value_run, value_read}
use Rattle.lp_parser_stmt.proofs.Stmts.{goes, block_read}
use Rattle.lp_parser_stmt.proofs.Levels.{heights-push, part-push, names-push, 0<stmt, used-least, used-here, labelled-least}
use Rattle.lp_parser_stmt.proofs.Sound.{ender, Rest, r_over, r_expect, r_need, r_ends_function, r_ends_block, r_ends_switch, r_in_function, r_in_block, r_in_switch, r_if_only, r_if_no, r_while, r_for, r_each_body, r_do, r_reading, r_missing, r_declaring, r_each, r_stars, r_in, r_const, r_digits, r_int, r_to, r_to_digits, RestOnSome, step_back, rest_spelled}

-- a whole expression ends before these marks
abbrev pub Stops : Mark → Type 0
Stops m = (e : expr.State) (t : Tree) (l : ℕ) → expr.finished e ≡ Some t → expr.step e (mark m l) ≡ None

stops-held : (m : Mark) (l : ℕ) (o : Option expr.Held) (t : Tree) → ((u : Tree) → expr.act_mark m u [] ≡ None) → ((u : Tree) → expr.act_mark m u (expr.Alone ∷ []) ≡ None)
    → option_and_then expr.whole_held o ≡ Some t → option_and_then (expr.act_held (sorts.Mark m)) o ≡ None
stops-held m l None t f g e = refl
stops-held m l (Some h) t f g e = stopped h.tree h.stack e
  where
    stopped : (u : Tree) (s : expr.Stack) → expr.whole u s ≡ Some t → expr.act_mark m u s ≡ None
    stopped u [] q = f u
    stopped u (expr.Alone ∷ []) q = g u
    stopped u (expr.Alone ∷ x ∷ s) q = cc
    stopped u (_ ∷ s) q = cc

semicolon-stops : Stops Semicolon
semicolon-stops (expr.Have u s) t l e = stops-held Semicolon l (expr.settle 0 u s) t (λ v. refl) (λ v. refl) e
semicolon-stops (expr.Need s) t l e = cc
semicolon-stops (expr.EndCast line ty s) t l e = cc
semicolon-stops (expr.EndLiteral u s) t l e = cc
semicolon-stops (expr.NeedName c s) t l e = cc
semicolon-stops (expr.NeedParen f s) t l e = cc

paren-stops : Stops CloseParen
paren-stops (expr.Have u s) t l e = stops-held CloseParen l (expr.settle 0 u s) t (λ v. refl) (λ v. refl) e
paren-stops (expr.Need s) t l e = cc
paren-stops (expr.EndCast line ty s) t l e = cc
paren-stops (expr.EndLiteral u s) t l e = cc
paren-stops (expr.NeedName c s) t l e = cc
paren-stops (expr.NeedParen f s) t l e = cc

ender-stops : (role : Role) → Stops (ender role)
ender-stops role = stops-if (by_paren role)
  where
    stops-if : (b : Bool) → Stops (cond b CloseParen Semicolon)
    stops-if true = paren-stops
    stops-if false = semicolon-stops

some_tree : {a b : Tree} → Some a ≡ Some b → a ≡ b
some_tree e = cc

run-then : (m : Mark) (l : ℕ) (o : Option expr.State) (us ys : List Seen) (t : Tree) (stop : Option ReadTree) → ((next : expr.State) → expr.run next us ≡ Some t → tree_run next (us ++ mark m l ∷ ys) ≡ Some (record { tree = t; rest = mark m l ∷ ys }))
    → option_and_then (λ next. expr.run next us) o ≡ Some t → tree_then o (λ next. tree_run next (us ++ mark m l ∷ ys)) stop ≡ Some (record { tree = t; rest = mark m l ∷ ys })
run-then m l None us ys t stop ih e = cc
run-then m l (Some next) us ys t stop ih e = ih next e

-- what the machine of expressions makes of all tokens, it makes of them before such a mark
tree_from : (m : Mark) → Stops m → (l : ℕ) (e : expr.State) (us ys : List Seen) (t : Tree) → expr.run e us ≡ Some t → tree_run e (us ++ mark m l ∷ ys) ≡ Some (record { tree = t; rest = mark m l ∷ ys })
tree_from m w l e [] ys t q =
    ap (λ o. tree_then o (λ next. tree_run next ys) (tree_end (expr.finished e) (mark m l ∷ ys))) (w e t l q)
    ∙ ap (λ o. tree_end o (mark m l ∷ ys)) q
tree_from m w l e (x ∷ us) ys t q =
    run-then m l (expr.step e x) us ys t (tree_end (expr.finished e) (x ∷ us ++ mark m l ∷ ys)) (λ next p. tree_from m w l next us ys t p) q

-- a front of an expression can be ended before such a mark
record Finishes (m : Mark) (e : expr.State) : Type 0 where
  tokens : List Seen
  tree : Tree
  read : (ys : List Seen) → tree_run e (tokens ++ mark m 0 ∷ ys) ≡ Some (record { tree = tree; rest = mark m 0 ∷ ys })
  shallow : height tree ≤ levels.least e

finishes : (b : Bool) (m : Mark) (e : expr.State) (front : List Seen) → Stops m → expr.walk (alone_or b) front ≡ Some e → Finishes m e
finishes b m e front w q =
    let r = begun b front e q in
    let all = complete_all b r.1 (front ++ r.0) r.2 r.3 in
    let rest : expr.run e r.0 ≡ Some r.1 = sym (run-append (alone_or b) front r.0 ∙ ap (option_and_then (λ next. expr.run next r.0)) q) ∙ all in
    record { tokens = r.0; tree = r.1; read = λ ys. tree_from m w 0 e r.0 ys r.1 rest; shallow = r.4 }

-- how names can be ended
abbrev pub NamesReached : Names → Type 0
NamesReached (Valued done line n w e) = (front : List Seen) × (expr.walk (expr.Need (expr.Alone ∷ [])) front ≡ Some e)
NamesReached _ = Unit {0}

pub record NamesEnd (d : Names) : Type 0 where
  pub tokens : List Seen
  pub ones : List DeclaratorTree
  pub read : (ys : List Seen) → names_run d (tokens ++ mark Semicolon 0 ∷ ys) ≡ Some (record { ones = ones; rest = mark Semicolon 0 ∷ ys })
  pub shallow : declarator_heights ones ≤ names_height d

pub names_end : (d : Names) → NamesReached d → NamesEnd d
names_end (AtOne done) r = record { tokens = word (codes "a") 0 ∷ []; ones = with_name done 0 0 (codes "a") None; read = λ ys. refl; shallow = omega (arith, names-push done 0 0 (codes "a") None) }
names_end (AtStars done line n) r = record { tokens = word (codes "a") 0 ∷ []; ones = with_name done line n (codes "a") None; read = λ ys. refl; shallow = omega (arith, names-push done line n (codes "a") None) }
names_end (Named done line n w) r = record { tokens = []; ones = with_name done line n w None; read = λ ys. refl; shallow = omega (arith, names-push done line n w None) }
names_end (Valued done line n w e) r =
    let f = finishes true Semicolon e r.0 semicolon-stops r.1 in
    record {
      tokens = f.tokens;
      ones = with_name done line n w (Some f.tree);
      read = λ ys. value_run e (f.tokens ++ mark Semicolon 0 ∷ ys) done line n w ∙ ap (value_read done line n w) (f.read ys);
      shallow = omega (arith, names-push done line n w (Some f.tree), f.shallow);
    }

-- how a state can be ended
record Ends (st : State) : Type 0 where
  tokens : List Seen
  made : StmtTrees
  rest : Rest st made tokens []
  no_else : else_follows tokens ≡ false
  shallow : suc (stmt_heights made) ≤ least st

-- a statement's end
stmt_ends : (t : StmtTree) (s : Stack) → Ends (Have t s)
stmt_ends t (InFunction done) = record {
  tokens = mark CloseBrace 0 ∷ [];
  made = stmt_trees (done ++ t ∷ []);
  rest = r_in_function (r_ends_function refl);
  no_else = refl;
  shallow = omega (arith, heights-push done t);
}
stmt_ends t (Inside (InBlock line done) s) =
    let q = stmt_ends (Block line (stmt_trees (done ++ t ∷ []))) s in
    record { tokens = mark CloseBrace 0 ∷ q.tokens; made = q.made; rest = r_in_block (r_ends_block q.rest); no_else = refl; shallow = omega (arith, heights-push done t, q.shallow) }
stmt_ends t (Inside (InSwitch w) s) =
    let q = stmt_ends (Switch w.line w.on (part_trees (w.done ++ parts.Stmt t ∷ []))) s in
    record { tokens = mark CloseBrace 0 ∷ q.tokens; made = q.made; rest = r_in_switch (r_ends_switch q.rest); no_else = refl; shallow = omega (arith, part-push w.done t, q.shallow) }
stmt_ends t (Inside (IfYes line e) s) =
    let q = stmt_ends (If line e t NoElse) s in
    record { tokens = q.tokens; made = q.made; rest = r_if_only q.no_else q.rest; no_else = q.no_else; shallow = omega (arith, q.shallow) }
stmt_ends t (Inside (IfNo line e y) s) =
    let q = stmt_ends (If line e y (Else t)) s in
    record { tokens = q.tokens; made = q.made; rest = r_if_no q.rest; no_else = q.no_else; shallow = omega (arith, q.shallow) }
stmt_ends t (Inside (WhileBody line e) s) =
    let q = stmt_ends (While line e t) s in
    record { tokens = q.tokens; made = q.made; rest = r_while q.rest; no_else = q.no_else; shallow = omega (arith, q.shallow) }
stmt_ends t (Inside (ForBody line i c p) s) =
    let q = stmt_ends (For line i c p t) s in
    record { tokens = q.tokens; made = q.made; rest = r_for q.rest; no_else = q.no_else; shallow = omega (arith, q.shallow) }
stmt_ends t (Inside (EachBody line f g e) s) =
    let q = stmt_ends (Foreach line f g e t) s in
    record { tokens = q.tokens; made = q.made; rest = r_each_body q.rest; no_else = q.no_else; shallow = omega (arith, q.shallow) }
stmt_ends t (Inside (DoBody line) s) =
    let q = stmt_ends (DoWhile line t (Name 0 (codes "a"))) s in
    record {
      tokens = reserved words.While 0 ∷ mark OpenParen 0 ∷ word (codes "a") 0 ∷ mark CloseParen 0 ∷ mark Semicolon 0 ∷ q.tokens;
      made = q.made;
      rest = r_do exprs.name q.rest;
      no_else = refl;
      shallow = omega (arith, 0<stmt t, q.shallow);
    }

empty_ends : (s : Stack) → extra s ≡ 1 → Ends (Need s)
empty_ends s h = let q = stmt_ends (Empty 0) s in record { tokens = mark Semicolon 0 ∷ q.tokens; made = q.made; rest = r_need stmts.empty q.rest; no_else = refl; shallow = omega (arith, h, q.shallow) }

need_ends : (s : Stack) → Ends (Need s)
need_ends (InFunction done) = record { tokens = mark CloseBrace 0 ∷ []; made = stmt_trees done; rest = r_ends_function refl; no_else = refl; shallow = omega arith }
need_ends (Inside (InBlock line done) s) =
    let q = stmt_ends (Block line (stmt_trees done)) s in record { tokens = mark CloseBrace 0 ∷ q.tokens; made = q.made; rest = r_ends_block q.rest; no_else = refl; shallow = omega (arith, q.shallow) }
need_ends (Inside (InSwitch w) s) =
    let q = stmt_ends (Switch w.line w.on (part_trees w.done)) s in record { tokens = mark CloseBrace 0 ∷ q.tokens; made = q.made; rest = r_ends_switch q.rest; no_else = refl; shallow = omega (arith, q.shallow) }
need_ends (Inside (IfYes line e) s) = empty_ends (Inside (IfYes line e) s) refl
need_ends (Inside (IfNo line e y) s) = empty_ends (Inside (IfNo line e y) s) refl
need_ends (Inside (WhileBody line e) s) = empty_ends (Inside (WhileBody line e) s) refl
need_ends (Inside (DoBody line) s) = empty_ends (Inside (DoBody line) s) refl
need_ends (Inside (ForBody line i c p) s) = empty_ends (Inside (ForBody line i c p) s) refl
need_ends (Inside (EachBody line f g e) s) = empty_ends (Inside (EachBody line f g e) s) refl

expect_ends : (m : Mark) (next : State) → Ends next → Ends (Expect m next)
expect_ends m next q = record { tokens = mark m 0 ∷ q.tokens; made = q.made; rest = r_expect q.rest; no_else = refl; shallow = q.shallow }

value_ends : (line : ℕ) (s : Stack) → Ends (Maybe (Value line) s)
value_ends line s = let q = stmt_ends (stmts.Return line None) s in record { tokens = mark Semicolon 0 ∷ q.tokens; made = q.made; rest = r_missing q.rest; no_else = refl; shallow = omega (arith, q.shallow) }

step_ends : (line : ℕ) (i : InitTree) (c : Option Tree) (s : Stack) → Ends (Maybe (Step line i c) s)
step_ends line i c s = let q = need_ends (Inside (ForBody line i c None) s) in record { tokens = mark CloseParen 0 ∷ q.tokens; made = q.made; rest = r_missing q.rest; no_else = refl; shallow = omega (arith, q.shallow) }

test_ends : (line : ℕ) (i : InitTree) (s : Stack) → Ends (Maybe (Test line i) s)
test_ends line i s = let q = step_ends line i None s in record { tokens = mark Semicolon 0 ∷ q.tokens; made = q.made; rest = r_missing q.rest; no_else = refl; shallow = omega (arith, q.shallow) }

first_ends : (line : ℕ) (s : Stack) → Ends (Maybe (First line) s)
first_ends line s = let q = test_ends line stmts.Nothing s in record { tokens = mark Semicolon 0 ∷ q.tokens; made = q.made; rest = r_missing q.rest; no_else = refl; shallow = omega (arith, q.shallow) }

maybe_ends : (part : Optional) (s : Stack) → Ends (Maybe part s)
maybe_ends (Value line) s = value_ends line s
maybe_ends (First line) s = first_ends line s
maybe_ends (Test line i) s = test_ends line i s
maybe_ends (Step line i c) s = step_ends line i c s

used_ends : (role : Role) (t : Tree) (s : Stack) → Ends (used role t s)
used_ends ToRun t s = stmt_ends _ s
used_ends (TestIf line) t s = need_ends _
used_ends (TestWhile line) t s = need_ends _
used_ends (TestDo line b) t s = expect_ends Semicolon _ (stmt_ends _ s)
used_ends (OverEach line f g) t s = need_ends _
used_ends (OnSwitch line) t s = expect_ends marks.OpenBrace _ (need_ends _)
used_ends (OneOf (Value line)) t s = stmt_ends _ s
used_ends (OneOf (First line)) t s = maybe_ends _ s
used_ends (OneOf (Test line i)) t s = maybe_ends _ s
used_ends (OneOf (Step line i c)) t s = need_ends _

declared_ends : (whose : Whose) (d : LocalTree) (s : Stack) → Ends (declared whose d s)
declared_ends OfStmt d s = stmt_ends _ s
declared_ends (OfFor line) d s = maybe_ends _ s

-- what is known of the state that was reached
abbrev pub Reached : State → Type 0
Reached (Reading e role s) = (front : List Seen) × (expr.walk (expr.Need []) front ≡ Some e)
Reached (Declaring line b d whose s) = NamesReached d
Reached (Expect m next) = Reached next
Reached _ = Unit {0}

-- some tokens make a state's statements
pub record Made (st : State) : Type 0 where
  pub tokens : List Seen
  pub made : StmtTrees
  pub rest : Rest st made tokens []
  pub shallow : suc (stmt_heights made) ≤ least st

as_made : {st : State} → Ends st → Made st
as_made q = record { tokens = q.tokens; made = q.made; rest = q.rest; shallow = q.shallow }

reading_made : (e : expr.State) (role : Role) (s : Stack) (front : List Seen) → expr.walk (expr.Need []) front ≡ Some e → Made (Reading e role s)
reading_made e role s front w =
    let f = finishes false (ender role) e front (ender-stops role) w in
    let q = used_ends role f.tree s in
    record { tokens = f.tokens ++ mark (ender role) 0 ∷ q.tokens; made = q.made; rest = r_reading (f.read q.tokens) q.rest; shallow = omega (arith, q.shallow, used-least role f.tree s, used-here role f.tree s, f.shallow) }

declaring_made : (line : ℕ) (b : BaseWord) (d : Names) (whose : Whose) (s : Stack) → NamesReached d → Made (Declaring line b d whose s)
declaring_made line b d OfStmt s r =
    let f = names_end d r in
    let q = stmt_ends (stmts.Declares line (record { line = line; base = b; ones = f.ones })) s in
    record { tokens = f.tokens ++ mark Semicolon 0 ∷ q.tokens; made = q.made; rest = r_declaring (f.read q.tokens) q.rest; shallow = omega (arith, q.shallow, f.shallow) }
declaring_made line b d (OfFor at) s r =
    let f = names_end d r in
    let q = test_ends at (stmts.DeclaresFirst (record { line = line; base = b; ones = f.ones })) s in
    record { tokens = f.tokens ++ mark Semicolon 0 ∷ q.tokens; made = q.made; rest = r_declaring (f.read q.tokens) q.rest; shallow = omega (arith, q.shallow, f.shallow) }

-- `: a)`
over_made : (line : ℕ) (first : Option Each) (e : Each) (s : Stack) → Made (EachNamed line first e s)
over_made line None e s =
    let q = need_ends (Inside (EachBody line e None (Name 0 (codes "a"))) s) in
    record { tokens = mark Colon 0 ∷ word (codes "a") 0 ∷ mark CloseParen 0 ∷ q.tokens; made = q.made; rest = r_in stmts.colon (r_reading {l = 0} {ys = q.tokens} refl q.rest); shallow = omega (arith, q.shallow) }
over_made line (Some f) e s =
    let q = need_ends (Inside (EachBody line f (Some e) (Name 0 (codes "a"))) s) in
    record { tokens = mark Colon 0 ∷ word (codes "a") 0 ∷ mark CloseParen 0 ∷ q.tokens; made = q.made; rest = r_in stmts.colon (r_reading {l = 0} {ys = q.tokens} refl q.rest); shallow = omega (arith, q.shallow) }

-- behind a label
label_ends : (k : Label) (w : Switching) (s : Stack) → Ends (labelled k w s)
label_ends k w s = need_ends (Inside (InSwitch (with_part w (parts.Label k))) s)

-- Each state that was reached can be brought to an end.
pub some_end : (st : State) → Reached st → Made st
some_end (Need s) r = as_made (need_ends s)
some_end (Have t s) r = as_made (stmt_ends t s)
some_end (Expect m next) r = let q = some_end next r in record { tokens = mark m 0 ∷ q.tokens; made = q.made; rest = r_expect q.rest; shallow = q.shallow }
some_end (Reading e role s) r = reading_made e role s r.0 r.1
some_end (Maybe part s) r = as_made (maybe_ends part s)
some_end (Declaring line b d whose s) r = declaring_made line b d whose s r
some_end (NeedEach line first s) r =
    let q = over_made line first (record { line = 0; type_name = None; name = codes "a" }) s in
    record { tokens = word (codes "a") 0 ∷ q.tokens; made = q.made; rest = r_each stmts.untyped q.rest; shallow = q.shallow }
some_end (EachStars line first at b n s) r =
    let q = over_made line first (record { line = at; type_name = Some (record { base = b; stars = n + 0 }); name = codes "a" }) s in
    record { tokens = word (codes "a") 0 ∷ q.tokens; made = q.made; rest = r_stars no_star q.rest; shallow = q.shallow }
some_end (EachNamed line first e s) r = over_made line first e s
some_end (NeedConst line w s) r =
    let q = label_ends (labels.Case line (Int (pos 0))) w s in
    record { tokens = integer (pos 0) 0 ∷ mark Colon 0 ∷ q.tokens; made = q.made; rest = r_const (case_value stmts.int) q.rest; shallow = omega (arith, q.shallow, labelled-least (labels.Case line (Int (pos 0))) w s) }
some_end (NeedDigits line w s) r =
    let k = labels.Case line (Int (neg_ℤ (pos 0))) in
    let q = label_ends k w s in
    record { tokens = integer (pos 0) 0 ∷ mark Colon 0 ∷ q.tokens; made = q.made; rest = r_digits (λ l. case_value stmts.negative) q.rest; shallow = omega (arith, q.shallow, labelled-least k w s) }
some_end (HaveInt line n w s) r =
    let k = labels.Case line (Int n) in
    let q = label_ends k w s in
    record { tokens = mark Colon 0 ∷ q.tokens; made = q.made; rest = r_int (λ us c. case_value c) q.rest; shallow = omega (arith, q.shallow, labelled-least k w s) }
some_end (NeedTo line n w s) r =
    let k = labels.Range line n (pos 0) in
    let q = label_ends k w s in
    record { tokens = integer (pos 0) 0 ∷ mark Colon 0 ∷ q.tokens; made = q.made; rest = r_to (λ us l c. case_range c stmts.int) q.rest; shallow = omega (arith, q.shallow, labelled-least k w s) }
some_end (NeedToDigits line n w s) r =
    let k = labels.Range line n (neg_ℤ (pos 0)) in
    let q = label_ends k w s in
    record { tokens = integer (pos 0) 0 ∷ mark Colon 0 ∷ q.tokens; made = q.made; rest = r_to_digits (λ us l l' c. case_range c stmts.negative) q.rest; shallow = omega (arith, q.shallow, labelled-least k w s) }
some_end (Over ss) r = record { tokens = []; made = ss; rest = r_over; shallow = omega arith }

-- what is known of the state that is next
abbrev pub ReachedOnSome : Option State → Type 0
ReachedOnSome None = Unit {0}
ReachedOnSome (Some st) = Reached st

one_walked : (st next : expr.State) (x : Seen) → expr.step st x ≡ Some next → expr.walk st (x ∷ []) ≡ Some next
one_walked st next x e = ap (option_and_then (λ n. Some n)) e

some_state : {a b : expr.State} → Some a ≡ Some b → a ≡ b
some_state e = cc

walked : (o : Option expr.State) (ys : List Seen) (x : Seen) (e next : expr.State) → ((n : expr.State) → expr.walk n ys ≡ Some e → expr.walk n (ys ++ x ∷ []) ≡ Some next)
    → option_and_then (λ n. expr.walk n ys) o ≡ Some e → option_and_then (λ n. expr.walk n (ys ++ x ∷ [])) o ≡ Some next
walked None ys x e next ih p = cc
walked (Some n) ys x e next ih p = ih n p

walk_more : (st : expr.State) (front : List Seen) (e next : expr.State) (x : Seen) → expr.walk st front ≡ Some e → expr.step e x ≡ Some next → expr.walk st (front ++ x ∷ []) ≡ Some next
walk_more st [] e next x w q = ap (λ u. expr.walk u (x ∷ [])) (some_state w) ∙ one_walked e next x q
walk_more st (y ∷ ys) e next x w q = walked (expr.step st y) ys x e next (λ n p. walk_more n ys e next x p q) w

reads_reached : (o : Option expr.State) (x : Seen) (role : Role) (s : Stack) → expr.step (expr.Need []) x ≡ o → ReachedOnSome (reads o role s)
reads_reached None x role s q = tt
reads_reached (Some e) x role s q = (x ∷ [], one_walked (expr.Need []) e x q)

leaves_reached : (b : Bool) (t : StmtTree) (s : Stack) → ReachedOnSome (leaves b t s)
leaves_reached true t s = tt
leaves_reached false t s = tt

closes_reached : (s : Stack) → ReachedOnSome (closes s)
closes_reached (InFunction done) = tt
closes_reached (Inside (InBlock line done) s) = tt
closes_reached (Inside (InSwitch w) s) = tt
closes_reached (Inside _ s) = tt

case_reached : (line : ℕ) (s : Stack) → ReachedOnSome (case_begins line s)
case_reached line (Inside (InSwitch w) s) = tt
case_reached line (Inside _ s) = tt
case_reached line (InFunction done) = tt

default_reached : (line : ℕ) (s : Stack) → ReachedOnSome (default_begins line s)
default_reached line (Inside (InSwitch w) s) = tt
default_reached line (Inside _ s) = tt
default_reached line (InFunction done) = tt

word_reached : (k : Keyword) (line : ℕ) (s : Stack) → ReachedOnSome (word_begins k line s)
word_reached words.If line s = ([], refl)
word_reached words.While line s = ([], refl)
word_reached words.Switch line s = ([], refl)
word_reached words.For line s = tt
word_reached words.Foreach line s = tt
word_reached words.Do line s = tt
word_reached words.Break line s = leaves_reached (around s).may_break _ s
word_reached words.Continue line s = leaves_reached (around s).may_continue _ s
word_reached words.Return line s = tt
word_reached words.Case line s = case_reached line s
word_reached words.Default line s = default_reached line s
word_reached _ line s = tt

class_reached : (c : Class) (x : Seen) (s : Stack) → ReachedOnSome (class_begins c x s)
class_reached BraceOpens x s = tt
class_reached BraceCloses x s = closes_reached s
class_reached SemicolonEnds x s = tt
class_reached ParenCloses x s = tt
class_reached ExpressionBegins x s = reads_reached (expr.step (expr.Need []) x) x ToRun s refl
class_reached (TypeBegins b) x s = tt
class_reached (WordBegins k) x s = word_reached k x.line s

yes_reached : (k : Sort) (line : ℕ) (e : Tree) (t : StmtTree) (s : Stack) → ReachedOnSome (after_yes k line e t s)
yes_reached (sorts.Reserved words.Else) line e t s = tt
yes_reached (sorts.Reserved _) line e t s = tt
yes_reached _ line e t s = tt

body_reached : (k : Sort) (line : ℕ) (t : StmtTree) (s : Stack) → ReachedOnSome (after_body k line t s)
body_reached (sorts.Reserved words.While) line t s = ([], refl)
body_reached (sorts.Reserved _) line t s = tt
body_reached _ line t s = tt

act_reached : (x : Seen) (t : StmtTree) (s : Stack) → ReachedOnSome (act x t s)
act_reached x t (InFunction done) = class_reached (class x.sort) x (InFunction (done ++ t ∷ []))
act_reached x t (Inside (InBlock line done) s) = class_reached (class x.sort) x (Inside (InBlock line (done ++ t ∷ [])) s)
act_reached x t (Inside (InSwitch w) s) = class_reached (class x.sort) x (Inside (InSwitch (with_part w (parts.Stmt t))) s)
act_reached x t (Inside (IfYes line e) s) = yes_reached x.sort line e t s
act_reached x t (Inside (DoBody line) s) = body_reached x.sort line t s
act_reached x t (Inside (IfNo line e y) s) = tt
act_reached x t (Inside (WhileBody line e) s) = tt
act_reached x t (Inside (ForBody line i c p) s) = tt
act_reached x t (Inside (EachBody line f g e) s) = tt

used_reached : (role : Role) (t : Tree) (s : Stack) → Reached (used role t s)
used_reached (OneOf (Value line)) t s = tt
used_reached (OneOf (First line)) t s = tt
used_reached (OneOf (Test line i)) t s = tt
used_reached (OneOf (Step line i c)) t s = tt
used_reached _ t s = tt

if_reached : (b : Bool) (st : State) → Reached st → ReachedOnSome (cond b (Some st) None)
if_reached true st r = r
if_reached false st r = tt

unless_reached : (b : Bool) (st : State) → Reached st → ReachedOnSome (cond b None (Some st))
unless_reached true st r = tt
unless_reached false st r = r

after_mark_reached : (m : Mark) (role : Role) (t : Tree) (s : Stack) → ReachedOnSome (after_mark m role t s)
after_mark_reached Semicolon role t s = unless_reached (by_paren role) (used role t s) (used_reached role t s)
after_mark_reached CloseParen role t s = if_reached (by_paren role) (used role t s) (used_reached role t s)
after_mark_reached _ role t s = tt

after_reached : (k : Sort) (role : Role) (o : Option Tree) (s : Stack) → ReachedOnSome (after k role o s)
after_reached (sorts.Mark m) role None s = tt
after_reached (sorts.Mark m) role (Some t) s = after_mark_reached m role t s
after_reached _ role o s = tt

reading_reached : (o : Option expr.State) (f : Option Tree) (x : Seen) (role : Role) (e : expr.State) (s : Stack) (front : List Seen) → expr.walk (expr.Need []) front ≡ Some e → expr.step e x ≡ o → ReachedOnSome (reading_goes o f x.sort role s)
reading_reached (Some next) f x role e s front w q = (front ++ x ∷ [], walk_more (expr.Need []) front e next x w q)
reading_reached None f x role e s front w q = after_reached x.sort role f s

skips_reached : (part : Optional) (s : Stack) → ReachedOnSome (semicolon_skips part s)
skips_reached (Value line) s = tt
skips_reached (First line) s = tt
skips_reached (Test line i) s = tt
skips_reached (Step line i c) s = tt

paren_reached : (part : Optional) (s : Stack) → ReachedOnSome (paren_skips part s)
paren_reached (Step line i c) s = tt
paren_reached _ s = tt

first_reached : (b : BaseWord) (at : ℕ) (part : Optional) (s : Stack) → ReachedOnSome (first_declares b at part s)
first_reached b at (First line) s = tt
first_reached b at _ s = tt

maybe_reached : (c : Class) (x : Seen) (part : Optional) (s : Stack) → ReachedOnSome (maybe c x part s)
maybe_reached SemicolonEnds x part s = skips_reached part s
maybe_reached ParenCloses x part s = paren_reached part s
maybe_reached (TypeBegins b) x part s = first_reached b x.line part s
maybe_reached ExpressionBegins x part s = reads_reached (expr.step (expr.Need []) x) x (OneOf part) s refl
maybe_reached _ x part s = tt

abbrev pub NamesReachedOnSome : Option Names → Type 0
NamesReachedOnSome None = Unit {0}
NamesReachedOnSome (Some d) = NamesReached d

one_reached : (k : Sort) (l : ℕ) (done : List DeclaratorTree) → NamesReachedOnSome (at_one k l done)
one_reached (sorts.Mark (marks.Binary Mul)) l done = tt
one_reached (sorts.Name w) l done = tt
one_reached _ l done = tt

stars_reached : (k : Sort) (done : List DeclaratorTree) (line n : ℕ) → NamesReachedOnSome (at_stars k done line n)
stars_reached (sorts.Mark (marks.Binary Mul)) done line n = tt
stars_reached (sorts.Name w) done line n = tt
stars_reached _ done line n = tt

named_reached : (k : Sort) (done : List DeclaratorTree) (line n : ℕ) (w : List ℕ) → NamesReachedOnSome (named k done line n w)
named_reached (sorts.Mark (marks.Assign Set)) done line n w = ([], refl)
named_reached (sorts.Mark Comma) done line n w = tt
named_reached _ done line n w = tt

valued_reached : (k : Sort) (o : Option Tree) (done : List DeclaratorTree) (line n : ℕ) (w : List ℕ) → NamesReachedOnSome (valued k o done line n w)
valued_reached (sorts.Mark Comma) (Some t) done line n w = tt
valued_reached (sorts.Mark Comma) None done line n w = tt
valued_reached (sorts.Mark _) o done line n w = tt
valued_reached _ o done line n w = tt

value_reached : (o : Option expr.State) (f : Option Tree) (x : Seen) (done : List DeclaratorTree) (line n : ℕ) (w : List ℕ) (e : expr.State) (front : List Seen)
    → expr.walk (expr.Need (expr.Alone ∷ [])) front ≡ Some e → expr.step e x ≡ o → NamesReachedOnSome (value_goes o f x.sort done line n w)
value_reached (Some next) f x done line n w e front r q = (front ++ x ∷ [], walk_more (expr.Need (expr.Alone ∷ [])) front e next x r q)
value_reached None f x done line n w e front r q = valued_reached x.sort f done line n w

pub names_reached : (d : Names) (x : Seen) → NamesReached d → NamesReachedOnSome (names_step d x)
names_reached (AtOne done) x r = one_reached x.sort x.line done
names_reached (AtStars done line n) x r = stars_reached x.sort done line n
names_reached (Named done line n w) x r = named_reached x.sort done line n w
names_reached (Valued done line n w e) x r = value_reached (expr.step e x) (expr.finished e) x done line n w e r.0 r.1 refl

declared_reached : (whose : Whose) (d : LocalTree) (s : Stack) → Reached (declared whose d s)
declared_reached OfStmt d s = tt
declared_reached (OfFor line) d s = tt

ended_reached : (k : Sort) (line : ℕ) (b : BaseWord) (o : Option (List DeclaratorTree)) (whose : Whose) (s : Stack) → ReachedOnSome (after_names k line b o whose s)
ended_reached (sorts.Mark Semicolon) line b (Some ds) whose s = declared_reached whose (record { line = line; base = b; ones = ds }) s
ended_reached (sorts.Mark Semicolon) line b None whose s = tt
ended_reached (sorts.Mark _) line b o whose s = tt
ended_reached _ line b o whose s = tt

declaring_reached : (o : Option Names) (f : Option (List DeclaratorTree)) (k : Sort) (line : ℕ) (b : BaseWord) (whose : Whose) (s : Stack) → NamesReachedOnSome o → ReachedOnSome (names_go o f k line b whose s)
declaring_reached (Some d) f k line b whose s r = r
declaring_reached None f k line b whose s r = ended_reached k line b f whose s

each_reached : (k : Sort) (at line : ℕ) (first : Option Each) (s : Stack) → ReachedOnSome (need_each k at line first s)
each_reached (sorts.Name w) at line first s = tt
each_reached (sorts.Reserved (words.Base b)) at line first s = tt
each_reached _ at line first s = tt

each_stars_reached : (k : Sort) (line : ℕ) (first : Option Each) (at : ℕ) (b : BaseWord) (n : ℕ) (s : Stack) → ReachedOnSome (each_stars k line first at b n s)
each_stars_reached (sorts.Mark (marks.Binary Mul)) line first at b n s = tt
each_stars_reached (sorts.Name w) line first at b n s = tt
each_stars_reached _ line first at b n s = tt

another_reached : (line : ℕ) (first : Option Each) (e : Each) (s : Stack) → ReachedOnSome (one_more_each line first e s)
another_reached line None e s = tt
another_reached line (Some f) e s = tt

each_named_reached : (k : Sort) (line : ℕ) (first : Option Each) (e : Each) (s : Stack) → ReachedOnSome (each_named k line first e s)
each_named_reached (sorts.Mark Comma) line first e s = another_reached line first e s
each_named_reached (sorts.Mark Colon) line first e s = ([], refl)
each_named_reached (sorts.Name w) line first e s = if_reached (bytes_eq w (codes "in")) (Reading (expr.Need []) (over line first e) s) ([], refl)
each_named_reached _ line first e s = tt

const_reached : (k : Sort) (line : ℕ) (w : Switching) (s : Stack) → ReachedOnSome (need_const k line w s)
const_reached (sorts.Int n) line w s = tt
const_reached (sorts.Text t) line w s = tt
const_reached (sorts.Mark (marks.Binary Sub)) line w s = tt
const_reached _ line w s = tt

digits_reached : (k : Sort) (line : ℕ) (w : Switching) (s : Stack) → ReachedOnSome (need_digits k line w s)
digits_reached (sorts.Int n) line w s = tt
digits_reached _ line w s = tt

int_reached : (k : Sort) (line : ℕ) (n : ℤ) (w : Switching) (s : Stack) → ReachedOnSome (have_int k line n w s)
int_reached (sorts.Mark Colon) line n w s = tt
int_reached (sorts.Mark DotDot) line n w s = tt
int_reached _ line n w s = tt

to_reached : (k : Sort) (line : ℕ) (n : ℤ) (w : Switching) (s : Stack) → ReachedOnSome (need_to k line n w s)
to_reached (sorts.Int m) line n w s = tt
to_reached (sorts.Mark (marks.Binary Sub)) line n w s = tt
to_reached _ line n w s = tt

to_digits_reached : (k : Sort) (line : ℕ) (n : ℤ) (w : Switching) (s : Stack) → ReachedOnSome (need_to_digits k line n w s)
to_digits_reached (sorts.Int m) line n w s = tt
to_digits_reached _ line n w s = tt

step_reached : (st : State) (x : Seen) → Reached st → ReachedOnSome (step st x)
step_reached (Need s) x r = class_reached (class x.sort) x s
step_reached (Have t s) x r = act_reached x (settle (is_else x.sort) t s).stmt (settle (is_else x.sort) t s).stack
step_reached (Expect m next) x r = if_reached (is_mark m x.sort) next r
step_reached (Reading e role s) x r = reading_reached (expr.step e x) (expr.finished e) x role e s r.0 r.1 refl
step_reached (Maybe part s) x r = maybe_reached (class x.sort) x part s
step_reached (Declaring line b d whose s) x r = declaring_reached (names_step d x) (names_finished d) x.sort line b whose s (names_reached d x r)
step_reached (NeedEach line first s) x r = each_reached x.sort x.line line first s
step_reached (EachStars line first at b n s) x r = each_stars_reached x.sort line first at b n s
step_reached (EachNamed line first e s) x r = each_named_reached x.sort line first e s
step_reached (NeedConst line w s) x r = const_reached x.sort line w s
step_reached (NeedDigits line w s) x r = digits_reached x.sort line w s
step_reached (HaveInt line n w s) x r = int_reached x.sort line n w s
step_reached (NeedTo line n w s) x r = to_reached x.sort line n w s
step_reached (NeedToDigits line n w s) x r = to_digits_reached x.sort line n w s
step_reached (Over ss) x r = tt

same_state : {a b : State} → Some a ≡ Some b → a ≡ b
same_state e = cc

then_reached : (o : Option State) (xs : List Seen) (next : State) → ReachedOnSome o → ((st : State) → Reached st → walk st xs ≡ Some next → Reached next) → option_and_then (λ n. walk n xs) o ≡ Some next → Reached next
then_reached None xs next r ih e = cc
then_reached (Some st) xs next r ih e = ih st r e

pub walk_reached : (st next : State) (xs : List Seen) → Reached st → walk st xs ≡ Some next → Reached next
walk_reached st next [] r e = subst (λ u. Reached u) (same_state e) r
walk_reached st next (x ∷ xs) r e = then_reached (step st x) xs next (step_reached st x r) (λ u q p. walk_reached u next xs q p) e

-- the rest of the state to which tokens lead is, with the tokens, the rest of the state before
unwalk-then : (o : Option State) (st next : State) (x : Seen) (xs ys : List Seen) (ss : StmtTrees) → step st x ≡ o → ((u : State) → walk u xs ≡ Some next → Rest u ss (xs ++ ys) []) → option_and_then (λ n. walk n xs) o ≡ Some next → Rest st ss (x ∷ xs ++ ys) []
unwalk-then None st next x xs ys ss q ih e = cc
unwalk-then (Some u) st next x xs ys ss q ih e = step_back st x.sort x.line ss (xs ++ ys) [] (subst (λ o. RestOnSome o ss (xs ++ ys) []) (sym q) (ih u e))

unwalk : (st next : State) (xs ys : List Seen) (ss : StmtTrees) → walk st xs ≡ Some next → Rest next ss ys [] → Rest st ss (xs ++ ys) []
unwalk st next [] ys ss e r = subst (λ u. Rest u ss ys []) (sym (same_state e)) r
unwalk st next (x ∷ xs) ys ss e r = unwalk-then (step st x) st next x xs ys ss refl (λ u p. unwalk u next xs ys ss p r) e

run-step : (st next : State) (x : Seen) (xs : List Seen) → step st x ≡ Some next → run st (x ∷ xs) ≡ run next xs
run-step (Over ss) next x xs e = cc
run-step (Need s) next x xs e = ap (λ o. goes o xs) e
run-step (Have t s) next x xs e = ap (λ o. goes o xs) e
run-step (Expect m n) next x xs e = ap (λ o. goes o xs) e
run-step (Reading f role s) next x xs e = ap (λ o. goes o xs) e
run-step (Maybe part s) next x xs e = ap (λ o. goes o xs) e
run-step (Declaring line b d whose s) next x xs e = ap (λ o. goes o xs) e
run-step (NeedEach line first s) next x xs e = ap (λ o. goes o xs) e
run-step (EachStars line first at b n s) next x xs e = ap (λ o. goes o xs) e
run-step (EachNamed line first f s) next x xs e = ap (λ o. goes o xs) e
run-step (NeedConst line w s) next x xs e = ap (λ o. goes o xs) e
run-step (NeedDigits line w s) next x xs e = ap (λ o. goes o xs) e
run-step (HaveInt line n w s) next x xs e = ap (λ o. goes o xs) e
run-step (NeedTo line n w s) next x xs e = ap (λ o. goes o xs) e
run-step (NeedToDigits line n w s) next x xs e = ap (λ o. goes o xs) e

run-walk-then : (o : Option State) (st next : State) (x : Seen) (xs ys : List Seen) → step st x ≡ o → ((u : State) → walk u xs ≡ Some next → run u (xs ++ ys) ≡ run next ys) → option_and_then (λ n. walk n xs) o ≡ Some next → run st (x ∷ xs ++ ys) ≡ run next ys
run-walk-then None st next x xs ys q ih e = cc
run-walk-then (Some u) st next x xs ys q ih e = run-step st u x (xs ++ ys) q ∙ ih u e

pub run-walk : (st next : State) (xs ys : List Seen) → walk st xs ≡ Some next → run st (xs ++ ys) ≡ run next ys
run-walk st next [] ys e = ap (λ u. run u ys) (same_state e)
run-walk st next (x ∷ xs) ys e = run-walk-then (step st x) st next x xs ys refl (λ u p. run-walk u next xs ys p) e

-- What was walked to can be ended.
pub block_begun : (front : List Seen) (st : State) → walk start front ≡ Some st → (others : List Seen) × (ss : StmtTrees) × (run st others ≡ Some (record { stmts = ss; rest = [] })) × (suc (stmt_heights ss) ≤ least st)
block_begun front st w =
    let q = some_end st (walk_reached start st front tt w) in
    let d = rest_spelled (unwalk start st front q.tokens q.made w q.rest) in
    (q.tokens, q.made, sym (run-walk start st front q.tokens w) ∙ block_read d, q.shallow)

-- the names that were walked to can be ended
some_names : {a b : Names} → Some a ≡ Some b → a ≡ b
some_names e = cc

names_then_reached : (o : Option Names) (xs : List Seen) (next : Names) → NamesReachedOnSome o → ((d : Names) → NamesReached d → names_walk d xs ≡ Some next → NamesReached next) → option_and_then (λ n. names_walk n xs) o ≡ Some next → NamesReached next
names_then_reached None xs next r ih e = cc
names_then_reached (Some d) xs next r ih e = ih d r e

names_walk_reached : (d next : Names) (xs : List Seen) → NamesReached d → names_walk d xs ≡ Some next → NamesReached next
names_walk_reached d next [] r e = subst (λ u. NamesReached u) (some_names e) r
names_walk_reached d next (x ∷ xs) r e = names_then_reached (names_step d x) xs next (names_reached d x r) (λ u q p. names_walk_reached u next xs q p) e

pub names_begun : (front : List Seen) (d : Names) → names_walk (AtOne []) front ≡ Some d → (others : List Seen) × (ds : List DeclaratorTree) × ((ys : List Seen) → names_run d (others ++ mark Semicolon 0 ∷ ys) ≡ Some (record { ones = ds; rest = mark Semicolon 0 ∷ ys })) × (declarator_heights ds ≤ names_height d)
names_begun front d w = let q = names_end d (names_walk_reached (AtOne []) d front tt w) in (q.tokens, q.ones, q.read, q.shallow)
