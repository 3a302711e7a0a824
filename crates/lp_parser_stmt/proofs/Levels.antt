-- A token adds exactly the depth of what has to come.
use Rattle.std.proofs.Common.{◌≡◌, ℕ, suc, ◌+◌, ◌≤◌, ◌<◌, max, List, [], ◌∷◌, ◌++◌, Bool, true, false, cond, refl, ap, sym, ◌∙◌, subst, arith}
use Rattle.std.specs.Prelude.{ℤ, neg_ℤ, Option, Some, None, option_map, bytes_eq, codes}
use Rattle.lp_tree.specs.declared.keyword.Keyword.{Keyword}
use Rattle.lp_tree.specs.declared.keyword.Keyword.TheVariants as words
use Rattle.lp_tree.specs.declared.keyword.Base.{Base as BaseWord}
use Rattle.lp_tree.specs.declared.operator.BinOp.TheVariants.{Sub, Mul}
use Rattle.lp_tree.specs.declared.operator.AssignOp.TheVariants.{Set}
use Rattle.lp_tree.specs.declared.token.Mark.{Mark}
use Rattle.lp_tree.specs.declared.token.Mark.TheVariants as marks
use Rattle.lp_tree.specs.declared.token.Mark.TheVariants.{CloseParen, Comma, Semicolon, Colon, DotDot}
use Rattle.lp_tree.specs.declared.seen.Sort.{Sort}
use Rattle.lp_tree.specs.declared.seen.Sort.TheVariants as sorts
use Rattle.lp_tree.specs.declared.seen.Seen.{Seen}
use Rattle.lp_tree.specs.declared.stmt.Each.{Each}
use Rattle.lp_tree.specs.declared.stmt.Part.{Part}
use Rattle.lp_tree.specs.declared.stmt.Part.TheVariants as parts
use Rattle.lp_tree.specs.declared.stmt.Label.{Label}
use Rattle.lp_tree.specs.declared.stmt.Label.TheVariants as labels
use Rattle.lp_tree.specs.declared.stmt.Constant.TheVariants.{Int, Text}
use Rattle.lp_tree.specs.Trees.{Tree, height}
use Rattle.lp_tree.specs.Statements.{DeclaratorTree, LocalTree, StmtTree, If, While, For, Foreach, NoElse, Else, declarator_heights, stmt_height, stmt_heights, part_heights, height_if}
use Rattle.lp_tree.specs.StatementView.{stmt_trees, part_trees}
use Rattle.lp_parser_expr.specs.Machine as expr
use Rattle.lp_parser_expr.specs.Depth as exprs
use Rattle.lp_parser_expr.proofs.Shallow.{step-grows, finished-height, 0<height, Grows}
use Rattle.lp_parser_stmt.specs.declared.class.Class.{Class}
use Rattle.lp_parser_stmt.specs.declared.class.Class.TheVariants.{BraceOpens, BraceCloses, SemicolonEnds, ParenCloses, ExpressionBegins, TypeBegins, WordBegins}
use Rattle.lp_parser_stmt.specs.Machine.{Names, AtOne, AtStars, Named, Valued, with_name, at_one, at_stars, named, valued, value_goes, names_step, names_finished, Optional, Value, First, Test, Step, Role, ToRun, TestIf, TestWhile, TestDo, OverEach, OnSwitch, OneOf, Switching, with_part, InBlock, InSwitch, IfYes, IfNo, WhileBody, DoBody, ForBody, EachBody, Stack, InFunction, Inside, around, Whose, OfStmt, OfFor, State, Need, Have, Expect, Reading, Maybe, Declaring, NeedEach, EachStars, EachNamed, NeedConst, NeedDigits, HaveInt, NeedTo, NeedToDigits, Over, class, reads, closes, case_begins, default_begins, leaves, word_begins, class_begins, begin, settle, after_yes, after_body, act, act_held, is_mark, is_else, by_paren, used, after_mark, after, reading_goes, semicolon_skips, paren_skips, first_declares, maybe, declared, after_names, names_go, need_each, each_stars, over, one_more_each, each_named, need_const, need_digits, have_int, need_to, need_to_digits, step}
use Rattle.lp_parser_stmt.specs.Depth.{depth, past, optional_height, role_height, optional_least, whose_least, names_height, names_here, extra, here, least}

-- lists and their levels
pub heights-push : (ds : List StmtTree) (t : StmtTree) → stmt_heights (stmt_trees (ds ++ t ∷ [])) ≡ max (stmt_heights (stmt_trees ds)) (stmt_height t)
heights-push [] t = omega arith
heights-push (d ∷ ds) t = omega (arith, heights-push ds t)

pub label-push : (ds : List (Part StmtTree)) (k : Label) → part_heights (part_trees (ds ++ parts.Label k ∷ [])) ≡ part_heights (part_trees ds)
label-push [] k = refl
label-push (parts.Label j ∷ ds) k = label-push ds k
label-push (parts.Stmt u ∷ ds) k = ap (max (stmt_height u)) (label-push ds k)

pub part-push : (ds : List (Part StmtTree)) (t : StmtTree) → part_heights (part_trees (ds ++ parts.Stmt t ∷ [])) ≡ max (part_heights (part_trees ds)) (stmt_height t)
part-push [] t = omega arith
part-push (parts.Label j ∷ ds) t = part-push ds t
part-push (parts.Stmt u ∷ ds) t = omega (arith, part-push ds t)

pub names-push : (ds : List DeclaratorTree) (line n : ℕ) (w : List ℕ) (v : Option Tree) → declarator_heights (with_name ds line n w v) ≡ max (declarator_heights ds) (height_if v)
names-push [] line n w v = omega arith
names-push (d ∷ ds) line n w v = omega (arith, names-push ds line n w v)

-- names
abbrev pub NamesRise : ℕ → Option Names → Type 0
NamesRise n None = Unit {0}
NamesRise n (Some d) = names_height d ≡ max n (names_here d)

one-rises : (k : Sort) (l : ℕ) (done : List DeclaratorTree) → NamesRise (declarator_heights done) (at_one k l done)
one-rises (sorts.Mark (marks.Binary Mul)) l done = omega arith
one-rises (sorts.Mark _) l done = tt
one-rises (sorts.Name w) l done = omega arith
one-rises _ l done = tt

stars-rise : (k : Sort) (done : List DeclaratorTree) (line n : ℕ) → NamesRise (declarator_heights done) (at_stars k done line n)
stars-rise (sorts.Mark (marks.Binary Mul)) done line n = omega arith
stars-rise (sorts.Mark _) done line n = tt
stars-rise (sorts.Name w) done line n = omega arith
stars-rise _ done line n = tt

named-rises : (k : Sort) (done : List DeclaratorTree) (line n : ℕ) (w : List ℕ) → NamesRise (declarator_heights done) (named k done line n w)
named-rises (sorts.Mark (marks.Assign Set)) done line n w = omega arith
named-rises (sorts.Mark Comma) done line n w = omega (arith, names-push done line n w None)
named-rises (sorts.Mark _) done line n w = tt
named-rises _ done line n w = tt

valued-rises : (k : Sort) (o : Option Tree) (done : List DeclaratorTree) (line n m : ℕ) (w : List ℕ) → ((t : Tree) → o ≡ Some t → height t ≡ m) → NamesRise (max (declarator_heights done) m) (valued k o done line n w)
valued-rises (sorts.Mark Comma) (Some t) done line n m w h = omega (arith, names-push done line n w (Some t), h t refl)
valued-rises (sorts.Mark Comma) None done line n m w h = tt
valued-rises (sorts.Mark _) o done line n m w h = tt
valued-rises _ o done line n m w h = tt

value-rises : (o : Option expr.State) (f : Option Tree) (k : Sort) (done : List DeclaratorTree) (line n m : ℕ) (w : List ℕ) → Grows m o → ((t : Tree) → f ≡ Some t → height t ≡ m) → NamesRise (max (declarator_heights done) m) (value_goes o f k done line n w)
value-rises (Some e) f k done line n m w g h = omega (arith, g)
value-rises None f k done line n m w g h = valued-rises k f done line n m w h

pub names-rise : (d : Names) (x : Seen) → NamesRise (names_height d) (names_step d x)
names-rise (AtOne done) x = one-rises x.sort x.line done
names-rise (AtStars done line n) x = stars-rise x.sort done line n
names-rise (Named done line n w) x = named-rises x.sort done line n w
names-rise (Valued done line n w e) x = value-rises (expr.step e x) (expr.finished e) x.sort done line n (exprs.least e) w (step-grows e x) (λ t f. finished-height e t f)

some_list : {a b : List DeclaratorTree} → Some a ≡ Some b → a ≡ b
some_list e = cc

value-whole : (o : Option Tree) (done ds : List DeclaratorTree) (line n m : ℕ) (w : List ℕ) → ((t : Tree) → o ≡ Some t → height t ≡ m) → option_map (λ t. with_name done line n w (Some t)) o ≡ Some ds → declarator_heights ds ≡ max (declarator_heights done) m
value-whole None done ds line n m w h e = cc
value-whole (Some t) done ds line n m w h e = sym (ap declarator_heights (some_list e)) ∙ names-push done line n w (Some t) ∙ ap (max (declarator_heights done)) (h t refl)

pub names-whole : (d : Names) (ds : List DeclaratorTree) → names_finished d ≡ Some ds → declarator_heights ds ≡ names_height d
names-whole (AtOne done) ds e = cc
names-whole (AtStars done line n) ds e = cc
names-whole (Named done line n w) ds e = sym (ap declarator_heights (some_list e)) ∙ names-push done line n w None ∙ omega arith
names-whole (Valued done line n w e) ds f = value-whole (expr.finished e) done ds line n (exprs.least e) w (λ t g. finished-height e t g) f

-- statements
abbrev pub Rises : ℕ → Option State → Type 0
Rises n None = Unit {0}
Rises n (Some st) = least st ≡ max n (here st)

rises-as : (o : Option State) (m n : ℕ) → m ≡ n → Rises m o → Rises n o
rises-as o m n e r = subst (λ k. Rises k o) e r

extra≤1 : (s : Stack) → extra s ≤ 1
extra≤1 (InFunction done) = omega arith
extra≤1 (Inside (InBlock line done) s) = omega arith
extra≤1 (Inside (InSwitch w) s) = omega arith
extra≤1 (Inside _ s) = omega arith

depth≤past : (s : Stack) → depth s ≤ past s
depth≤past (InFunction done) = omega arith
depth≤past (Inside (InBlock line done) s) = omega arith
depth≤past (Inside (InSwitch w) s) = omega arith
depth≤past (Inside (IfYes line e) s) = omega arith
depth≤past (Inside (IfNo line e y) s) = omega arith
depth≤past (Inside (WhileBody line e) s) = omega arith
depth≤past (Inside (DoBody line) s) = omega arith
depth≤past (Inside (ForBody line i t p) s) = omega arith
depth≤past (Inside (EachBody line f g e) s) = omega arith

pub 0<stmt : (t : StmtTree) → 0 < stmt_height t
0<stmt (If line e y n) = omega arith
0<stmt _ = omega arith

run-reads : (o : Option expr.State) (s : Stack) → Rises (max (past s) (depth s + extra s)) (reads o ToRun s)
run-reads None s = tt
run-reads (Some e) s = omega (arith, extra≤1 s)

closes-rises : (s : Stack) → Rises (max (past s) (depth s + extra s)) (closes s)
closes-rises (InFunction done) = omega arith
closes-rises (Inside (InBlock line done) s) = omega arith
closes-rises (Inside (InSwitch w) s) = omega arith
closes-rises (Inside _ s) = tt

case-rises : (line : ℕ) (s : Stack) → Rises (max (past s) (depth s + extra s)) (case_begins line s)
case-rises line (Inside (InSwitch w) s) = omega arith
case-rises line (Inside _ s) = tt
case-rises line (InFunction done) = tt

default-rises : (line : ℕ) (s : Stack) → Rises (max (past s) (depth s + extra s)) (default_begins line s)
default-rises line (Inside (InSwitch w) s) = omega (arith, label-push w.done (labels.Default line))
default-rises line (Inside _ s) = tt
default-rises line (InFunction done) = tt

leaves-rises : (b : Bool) (t : StmtTree) (s : Stack) → stmt_height t ≡ 1 → Rises (max (past s) (depth s + extra s)) (leaves b t s)
leaves-rises true t s h = omega (arith, h, extra≤1 s)
leaves-rises false t s h = tt

word-rises : (k : Keyword) (line : ℕ) (s : Stack) → Rises (max (past s) (depth s + extra s)) (word_begins k line s)
word-rises words.If line s = omega (arith, extra≤1 s)
word-rises words.While line s = omega (arith, extra≤1 s)
word-rises words.Switch line s = omega (arith, extra≤1 s)
word-rises words.For line s = omega (arith, extra≤1 s)
word-rises words.Foreach line s = omega (arith, extra≤1 s)
word-rises words.Do line s = omega (arith, extra≤1 s)
word-rises words.Break line s = leaves-rises (around s).may_break _ s refl
word-rises words.Continue line s = leaves-rises (around s).may_continue _ s refl
word-rises words.Return line s = omega (arith, extra≤1 s)
word-rises words.Case line s = case-rises line s
word-rises words.Default line s = default-rises line s
word-rises _ line s = tt

class-rises : (c : Class) (x : Seen) (s : Stack) → Rises (max (past s) (depth s + extra s)) (class_begins c x s)
class-rises BraceOpens x s = omega (arith, extra≤1 s)
class-rises BraceCloses x s = closes-rises s
class-rises SemicolonEnds x s = omega (arith, extra≤1 s)
class-rises ParenCloses x s = tt
class-rises ExpressionBegins x s = run-reads (expr.step (expr.Need []) x) s
class-rises (TypeBegins b) x s = omega (arith, extra≤1 s)
class-rises (WordBegins k) x s = word-rises k x.line s

begin-rises : (x : Seen) (s : Stack) → Rises (max (past s) (depth s + extra s)) (begin x s)
begin-rises x s = class-rises (class x.sort) x s

-- ending statements changes no depth
settle-if : (b : Bool) (line : ℕ) (e : Tree) (t : StmtTree) (s : Stack) → least (Have (settle b (If line e t NoElse) s).stmt (settle b (If line e t NoElse) s).stack) ≡ least (Have (If line e t NoElse) s)
    → least (Have (settle b t (Inside (IfYes line e) s)).stmt (settle b t (Inside (IfYes line e) s)).stack) ≡ least (Have t (Inside (IfYes line e) s))
settle-if true line e t s ih = refl
settle-if false line e t s ih = ih ∙ omega arith

settle-least : (b : Bool) (t : StmtTree) (s : Stack) → least (Have (settle b t s).stmt (settle b t s).stack) ≡ least (Have t s)
settle-least b t (Inside (IfYes line e) s) = settle-if b line e t s (settle-least b (If line e t NoElse) s)
settle-least b t (Inside (IfNo line e y) s) = settle-least b (If line e y (Else t)) s ∙ omega arith
settle-least b t (Inside (WhileBody line e) s) = settle-least b (While line e t) s ∙ omega arith
settle-least b t (Inside (ForBody line i c p) s) = settle-least b (For line i c p t) s ∙ omega arith
settle-least b t (Inside (EachBody line f g e) s) = settle-least b (Foreach line f g e t) s ∙ omega arith
settle-least b t (Inside (InBlock line done) s) = refl
settle-least b t (Inside (InSwitch w) s) = refl
settle-least b t (Inside (DoBody line) s) = refl
settle-least b t (InFunction done) = refl

yes-rises : (k : Sort) (line : ℕ) (e : Tree) (t : StmtTree) (s : Stack) → Rises (least (Have t (Inside (IfYes line e) s))) (after_yes k line e t s)
yes-rises (sorts.Reserved words.Else) line e t s = omega arith
yes-rises (sorts.Reserved _) line e t s = tt
yes-rises _ line e t s = tt

body-rises : (k : Sort) (line : ℕ) (t : StmtTree) (s : Stack) → Rises (least (Have t (Inside (DoBody line) s))) (after_body k line t s)
body-rises (sorts.Reserved words.While) line t s = omega arith
body-rises (sorts.Reserved _) line t s = tt
body-rises _ line t s = tt

act-rises : (x : Seen) (t : StmtTree) (s : Stack) → Rises (least (Have t s)) (act x t s)
act-rises x t (InFunction done) = rises-as (begin x (InFunction (done ++ t ∷ []))) _ _ (omega (arith, heights-push done t)) (begin-rises x (InFunction (done ++ t ∷ [])))
act-rises x t (Inside (InBlock line done) s) = rises-as (begin x (Inside (InBlock line (done ++ t ∷ [])) s)) _ _ (omega (arith, heights-push done t)) (begin-rises x (Inside (InBlock line (done ++ t ∷ [])) s))
act-rises x t (Inside (InSwitch w) s) = rises-as (begin x (Inside (InSwitch (with_part w (parts.Stmt t))) s)) _ _ (omega (arith, part-push w.done t)) (begin-rises x (Inside (InSwitch (with_part w (parts.Stmt t))) s))
act-rises x t (Inside (IfYes line e) s) = yes-rises x.sort line e t s
act-rises x t (Inside (DoBody line) s) = body-rises x.sort line t s
act-rises x t (Inside (IfNo line e y) s) = tt
act-rises x t (Inside (WhileBody line e) s) = tt
act-rises x t (Inside (ForBody line i c p) s) = tt
act-rises x t (Inside (EachBody line f g e) s) = tt

pub used-least : (role : Role) (t : Tree) (s : Stack) → least (used role t s) ≡ max (max (past s) (max (depth s + role_height role) (depth s + 1 + height t))) (here (used role t s))
used-least ToRun t s = omega (arith, 0<height t)
used-least (TestIf line) t s = omega arith
used-least (TestWhile line) t s = omega arith
used-least (TestDo line b) t s = omega (arith, 0<height t)
used-least (OverEach line f g) t s = omega arith
used-least (OnSwitch line) t s = omega arith
used-least (OneOf (Value line)) t s = omega (arith, 0<height t)
used-least (OneOf (First line)) t s = omega (arith, 0<height t)
used-least (OneOf (Test line i)) t s = omega (arith, 0<height t)
used-least (OneOf (Step line i c)) t s = omega (arith, 0<height t)

pub used-here : (role : Role) (t : Tree) (s : Stack) → here (used role t s) ≤ depth s + 1 + height t
used-here ToRun t s = omega arith
used-here (TestIf line) t s = omega (arith, 0<height t)
used-here (TestWhile line) t s = omega (arith, 0<height t)
used-here (TestDo line b) t s = omega arith
used-here (OverEach line f g) t s = omega (arith, 0<height t)
used-here (OnSwitch line) t s = omega arith
used-here (OneOf (Value line)) t s = omega arith
used-here (OneOf (First line)) t s = omega (arith, 0<height t)
used-here (OneOf (Test line i)) t s = omega (arith, 0<height t)
used-here (OneOf (Step line i c)) t s = omega (arith, 0<height t)

used-rises : (b : Bool) (role : Role) (t : Tree) (s : Stack) (m : ℕ) → height t ≡ m → Rises (max (past s) (max (depth s + role_height role) (depth s + 1 + m))) (cond b (Some (used role t s)) None)
used-rises true role t s m h = used-least role t s ∙ ap (λ k. max (max (past s) (max (depth s + role_height role) (depth s + 1 + k))) (here (used role t s))) h
used-rises false role t s m h = tt

unused-rises : (b : Bool) (role : Role) (t : Tree) (s : Stack) (m : ℕ) → height t ≡ m → Rises (max (past s) (max (depth s + role_height role) (depth s + 1 + m))) (cond b None (Some (used role t s)))
unused-rises false role t s m h = used-rises true role t s m h
unused-rises true role t s m h = tt

mark-rises : (k : Mark) (role : Role) (t : Tree) (s : Stack) (m : ℕ) → height t ≡ m → Rises (max (past s) (max (depth s + role_height role) (depth s + 1 + m))) (after_mark k role t s)
mark-rises Semicolon role t s m h = unused-rises (by_paren role) role t s m h
mark-rises CloseParen role t s m h = used-rises (by_paren role) role t s m h
mark-rises _ role t s m h = tt

after-rises : (k : Sort) (role : Role) (o : Option Tree) (s : Stack) (m : ℕ) → ((t : Tree) → o ≡ Some t → height t ≡ m) → Rises (max (past s) (max (depth s + role_height role) (depth s + 1 + m))) (after k role o s)
after-rises (sorts.Mark k) role (Some t) s m h = mark-rises k role t s m (h t refl)
after-rises (sorts.Mark k) role None s m h = tt
after-rises _ role o s m h = tt

reading-rises : (o : Option expr.State) (f : Option Tree) (k : Sort) (role : Role) (s : Stack) (m : ℕ) → Grows m o → ((t : Tree) → f ≡ Some t → height t ≡ m) → Rises (max (past s) (max (depth s + role_height role) (depth s + 1 + m))) (reading_goes o f k role s)
reading-rises (Some e) f k role s m g h = omega (arith, g)
reading-rises None f k role s m g h = after-rises k role f s m h

abbrev part_least : Optional → Stack → ℕ
part_least part s = max (past s) (max (depth s + optional_height part) (depth s + optional_least part))

maybe-semicolon : (part : Optional) (s : Stack) → Rises (part_least part s) (semicolon_skips part s)
maybe-semicolon (Value line) s = omega arith
maybe-semicolon (First line) s = omega arith
maybe-semicolon (Test line i) s = omega arith
maybe-semicolon (Step line i t) s = tt

maybe-paren : (part : Optional) (s : Stack) → Rises (part_least part s) (paren_skips part s)
maybe-paren (Step line i t) s = omega arith
maybe-paren _ s = tt

maybe-declares : (b : BaseWord) (at : ℕ) (part : Optional) (s : Stack) → Rises (part_least part s) (first_declares b at part s)
maybe-declares b at (First line) s = omega arith
maybe-declares b at _ s = tt

maybe-reads : (o : Option expr.State) (part : Optional) (s : Stack) → Grows 1 o → Rises (part_least part s) (reads o (OneOf part) s)
maybe-reads None part s g = tt
maybe-reads (Some e) (Value line) s g = omega (arith, g)
maybe-reads (Some e) (First line) s g = omega (arith, g)
maybe-reads (Some e) (Test line i) s g = omega (arith, g)
maybe-reads (Some e) (Step line i t) s g = omega (arith, g)

maybe-rises : (c : Class) (x : Seen) (part : Optional) (s : Stack) → Rises (part_least part s) (maybe c x part s)
maybe-rises SemicolonEnds x part s = maybe-semicolon part s
maybe-rises ParenCloses x part s = maybe-paren part s
maybe-rises (TypeBegins b) x part s = maybe-declares b x.line part s
maybe-rises ExpressionBegins x part s = maybe-reads (expr.step (expr.Need []) x) part s (step-grows (expr.Need []) x)
maybe-rises _ x part s = tt

abbrev declared_least : Whose → Stack → ℕ → ℕ
declared_least whose s m = max (past s) (max (depth s + whose_least whose) (depth s + 1 + m))

whose-rises : (whose : Whose) (d : LocalTree) (s : Stack) → least (declared whose d s) ≡ max (declared_least whose s (declarator_heights d.ones)) (here (declared whose d s))
whose-rises OfStmt d s = omega arith
whose-rises (OfFor line) d s = omega arith

ended-rises : (k : Sort) (line : ℕ) (b : BaseWord) (o : Option (List DeclaratorTree)) (whose : Whose) (s : Stack) (m : ℕ) → ((ds : List DeclaratorTree) → o ≡ Some ds → declarator_heights ds ≡ m) → Rises (declared_least whose s m) (after_names k line b o whose s)
ended-rises (sorts.Mark Semicolon) line b (Some ds) whose s m h =
    let d : LocalTree = record { line = line; base = b; ones = ds } in
    whose-rises whose d s ∙ ap (λ k. max (declared_least whose s k) (here (declared whose d s))) (h ds refl)
ended-rises (sorts.Mark Semicolon) line b None whose s m h = tt
ended-rises (sorts.Mark _) line b o whose s m h = tt
ended-rises _ line b o whose s m h = tt

declaring-rises : (o : Option Names) (f : Option (List DeclaratorTree)) (k : Sort) (line : ℕ) (b : BaseWord) (whose : Whose) (s : Stack) (m : ℕ) → NamesRise m o → ((ds : List DeclaratorTree) → f ≡ Some ds → declarator_heights ds ≡ m)
    → Rises (declared_least whose s m) (names_go o f k line b whose s)
declaring-rises (Some d) f k line b whose s m g h = omega (arith, g)
declaring-rises None f k line b whose s m g h = ended-rises k line b f whose s m h

each-rises : (k : Sort) (at line : ℕ) (first : Option Each) (s : Stack) → Rises (max (past s) (depth s + 2)) (need_each k at line first s)
each-rises (sorts.Name w) at line first s = omega arith
each-rises (sorts.Reserved (words.Base b)) at line first s = omega arith
each-rises (sorts.Reserved _) at line first s = tt
each-rises _ at line first s = tt

each_stars-rise : (k : Sort) (line : ℕ) (first : Option Each) (at : ℕ) (b : BaseWord) (n : ℕ) (s : Stack) → Rises (max (past s) (depth s + 2)) (each_stars k line first at b n s)
each_stars-rise (sorts.Mark (marks.Binary Mul)) line first at b n s = omega arith
each_stars-rise (sorts.Mark _) line first at b n s = tt
each_stars-rise (sorts.Name w) line first at b n s = omega arith
each_stars-rise _ line first at b n s = tt

over-rises : (line : ℕ) (first : Option Each) (e : Each) (s : Stack) → Rises (max (past s) (depth s + 2)) (Some (Reading (expr.Need []) (over line first e) s))
over-rises line None e s = omega arith
over-rises line (Some f) e s = omega arith

over-if : (b : Bool) (line : ℕ) (first : Option Each) (e : Each) (s : Stack) → Rises (max (past s) (depth s + 2)) (cond b (Some (Reading (expr.Need []) (over line first e) s)) None)
over-if true line first e s = over-rises line first e s
over-if false line first e s = tt

more_each-rises : (line : ℕ) (first : Option Each) (e : Each) (s : Stack) → Rises (max (past s) (depth s + 2)) (one_more_each line first e s)
more_each-rises line None e s = omega arith
more_each-rises line (Some f) e s = tt

each_named-rises : (k : Sort) (line : ℕ) (first : Option Each) (e : Each) (s : Stack) → Rises (max (past s) (depth s + 2)) (each_named k line first e s)
each_named-rises (sorts.Mark Comma) line first e s = more_each-rises line first e s
each_named-rises (sorts.Mark Colon) line first e s = over-rises line first e s
each_named-rises (sorts.Mark _) line first e s = tt
each_named-rises (sorts.Name w) line first e s = over-if (bytes_eq w (codes "in")) line first e s
each_named-rises _ line first e s = tt

pub labelled-least : (k : Label) (w : Switching) (s : Stack) → past (Inside (InSwitch (with_part w (parts.Label k))) s) ≡ past (Inside (InSwitch w) s)
labelled-least k w s = ap (λ n. max (depth s + suc (max (height w.on) n)) (past s)) (label-push w.done k)

const-rises : (k : Sort) (line : ℕ) (w : Switching) (s : Stack) → Rises (past (Inside (InSwitch w) s)) (need_const k line w s)
const-rises (sorts.Int n) line w s = omega arith
const-rises (sorts.Text t) line w s = omega (arith, labelled-least (labels.Case line (Text t)) w s)
const-rises (sorts.Mark (marks.Binary Sub)) line w s = omega arith
const-rises (sorts.Mark _) line w s = tt
const-rises _ line w s = tt

digits-rise : (k : Sort) (line : ℕ) (w : Switching) (s : Stack) → Rises (past (Inside (InSwitch w) s)) (need_digits k line w s)
digits-rise (sorts.Int n) line w s = omega arith
digits-rise _ line w s = tt

int-rises : (k : Sort) (line : ℕ) (n : ℤ) (w : Switching) (s : Stack) → Rises (past (Inside (InSwitch w) s)) (have_int k line n w s)
int-rises (sorts.Mark Colon) line n w s = omega (arith, labelled-least (labels.Case line (Int n)) w s)
int-rises (sorts.Mark DotDot) line n w s = omega arith
int-rises (sorts.Mark _) line n w s = tt
int-rises _ line n w s = tt

to-rises : (k : Sort) (line : ℕ) (n : ℤ) (w : Switching) (s : Stack) → Rises (past (Inside (InSwitch w) s)) (need_to k line n w s)
to-rises (sorts.Int k) line n w s = omega (arith, labelled-least (labels.Range line n k) w s)
to-rises (sorts.Mark (marks.Binary Sub)) line n w s = omega arith
to-rises (sorts.Mark _) line n w s = tt
to-rises _ line n w s = tt

to_digits-rise : (k : Sort) (line : ℕ) (n : ℤ) (w : Switching) (s : Stack) → Rises (past (Inside (InSwitch w) s)) (need_to_digits k line n w s)
to_digits-rise (sorts.Int k) line n w s = omega (arith, labelled-least (labels.Range line n (neg_ℤ k)) w s)
to_digits-rise _ line n w s = tt

-- this mark leads to a state whose levels were counted already
expect-rises : (b : Bool) (next : State) → here next ≤ least next → Rises (least next) (cond b (Some next) None)
expect-rises true next h = omega (arith, h)
expect-rises false next h = tt

here≤names : (d : Names) → names_here d ≤ names_height d
here≤names (AtOne done) = omega arith
here≤names (AtStars done line n) = omega arith
here≤names (Named done line n w) = omega arith
here≤names (Valued done line n w e) = omega arith

pub here≤least : (st : State) → here st ≤ least st
here≤least (Need s) = omega arith
here≤least (Have t s) = omega (arith, 0<stmt t)
here≤least (Expect m next) = here≤least next
here≤least (Reading e role s) = omega arith
here≤least (Maybe part s) = omega arith
here≤least (Declaring line b d whose s) = omega (arith, here≤names d)
here≤least (NeedEach line first s) = omega arith
here≤least (EachStars line first at b n s) = omega arith
here≤least (EachNamed line first e s) = omega arith
here≤least (NeedConst line w s) = omega arith
here≤least (NeedDigits line w s) = omega arith
here≤least (HaveInt line n w s) = omega arith
here≤least (NeedTo line n w s) = omega arith
here≤least (NeedToDigits line n w s) = omega arith
here≤least (Over ss) = omega arith

step-rises : (st : State) (x : Seen) → Rises (least st) (step st x)
step-rises (Need s) x = begin-rises x s
step-rises (Have t s) x = rises-as (act_held x (settle (is_else x.sort) t s)) _ _ (settle-least (is_else x.sort) t s) (act-rises x (settle (is_else x.sort) t s).stmt (settle (is_else x.sort) t s).stack)
step-rises (Expect m next) x = expect-rises (is_mark m x.sort) next (here≤least next)
step-rises (Reading e role s) x = reading-rises (expr.step e x) (expr.finished e) x.sort role s (exprs.least e) (step-grows e x) (λ t f. finished-height e t f)
step-rises (Maybe part s) x = maybe-rises (class x.sort) x part s
step-rises (Declaring line b d whose s) x = declaring-rises (names_step d x) (names_finished d) x.sort line b whose s (names_height d) (names-rise d x) (λ ds f. names-whole d ds f)
step-rises (NeedEach line first s) x = each-rises x.sort x.line line first s
step-rises (EachStars line first at b n s) x = each_stars-rise x.sort line first at b n s
step-rises (EachNamed line first e s) x = each_named-rises x.sort line first e s
step-rises (NeedConst line w s) x = const-rises x.sort line w s
step-rises (NeedDigits line w s) x = digits-rise x.sort line w s
step-rises (HaveInt line n w s) x = int-rises x.sort line n w s
step-rises (NeedTo line n w s) x = to-rises x.sort line n w s
step-rises (NeedToDigits line n w s) x = to_digits-rise x.sort line n w s
step-rises (Over ss) x = tt

-- A token makes the levels the greater of those before and the depth of what has to come.
pub step-levels : (st next : State) (x : Seen) → step st x ≡ Some next → least next ≡ max (least st) (here next)
step-levels st next x e = subst (λ o. Rises (least st) o) e (step-rises st x)

0<depth : (s : Stack) → 1 ≤ depth s
0<depth (InFunction done) = omega arith
0<depth (Inside f s) = omega arith

-- a function has a level
pub least-some : (st : State) → 1 ≤ least st
least-some (Need s) = omega (arith, 0<depth s)
least-some (Have t s) = omega (arith, 0<depth s)
least-some (Expect m next) = least-some next
least-some (Reading e role s) = omega (arith, 0<depth s)
least-some (Maybe part s) = omega (arith, 0<depth s)
least-some (Declaring line b d whose s) = omega (arith, 0<depth s)
least-some (NeedEach line first s) = omega (arith, 0<depth s)
least-some (EachStars line first at b n s) = omega (arith, 0<depth s)
least-some (EachNamed line first e s) = omega (arith, 0<depth s)
least-some (NeedConst line w s) = omega (arith, 0<depth s)
least-some (NeedDigits line w s) = omega (arith, 0<depth s)
least-some (HaveInt line n w s) = omega (arith, 0<depth s)
least-some (NeedTo line n w s) = omega (arith, 0<depth s)
least-some (NeedToDigits line n w s) = omega (arith, 0<depth s)
least-some (Over ss) = omega arith
