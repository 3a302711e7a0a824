-- What is spelled is read: statements.
use Rattle.std.proofs.Common.{◌≡◌, ℕ, suc, ◌+◌, List, [], ◌∷◌, ◌++◌, Bool, true, false, cond, refl, ap, sym, ◌∙◌, arith}
use Rattle.std.specs.Prelude.{Option, Some, None, option_and_then}
use Rattle.lp_tree.specs.declared.keyword.Base.{Base as BaseWord}
use Rattle.lp_tree.specs.declared.keyword.Keyword.TheVariants as words
use Rattle.lp_tree.specs.declared.token.Mark.TheVariants.{CloseParen, CloseBrace, Semicolon}
use Rattle.lp_tree.specs.declared.seen.Sort.{Sort}
use Rattle.lp_tree.specs.declared.seen.Sort.TheVariants as sorts
use Rattle.lp_tree.specs.declared.seen.Seen.{Seen}
use Rattle.lp_tree.specs.declared.stmt.Each.{Each}
use Rattle.lp_tree.specs.declared.stmt.Part.{Part}
use Rattle.lp_tree.specs.declared.stmt.Part.TheVariants as parts
use Rattle.lp_tree.specs.declared.stmt.Label.{Label}
use Rattle.lp_tree.specs.Seen.{mark}
use Rattle.lp_tree.specs.Types.{SpellsStars, none as no_star, one_more as one_star, typed as type_of}
use Rattle.lp_tree.specs.Trees.{Tree}
use Rattle.lp_tree.specs.Expressions as exprs
use Rattle.lp_tree.specs.Expressions.{Spells}
use Rattle.lp_tree.specs.Statements as stmts
use Rattle.lp_tree.specs.Statements.{DeclaratorTree, InitTree, StmtTree, Block, If, While, For, Foreach, Switch, Break, Continue, StmtTrees, NoStmt, MoreStmts, NoElse, Else, PartTrees, NoPart, Around, in_function, in_switch, declares, SpellsDeclarators, SpellsEach, SpellsEaches, one_each, two_eaches, IsIn, word_in, SpellsLabel, case_value, case_range, default_case, SpellsInit, SpellsOptional, else_follows, SpellsStmt, SpellsStmts, SpellsParts}
use Rattle.lp_tree.specs.StatementView.{stmt_trees, part_of, part_trees}
use Rattle.lp_parser_expr.specs.Machine as expr
use Rattle.lp_parser_stmt.specs.declared.class.Class.TheVariants.{ExpressionBegins}
use Rattle.lp_parser_stmt.specs.Machine.{Names, AtOne, names_step, names_finished, ReadNames, names_end, names_then, names_run, Optional, Value, First, Test, Step, Role, ToRun, TestIf, TestWhile, TestDo, OverEach, OnSwitch, OneOf, Switching, with_part, Frame, InBlock, InSwitch, IfYes, IfNo, WhileBody, DoBody, ForBody, EachBody, Stack, InFunction, Inside, around, Whose, OfStmt, OfFor, State, Need, Have, Reading, Maybe, Declaring, NeedEach, EachStars, EachNamed, Over, class, reads, class_begins, maybe, semicolon_skips, labelled, leaves, settle, act_held, filled, used, by_paren, after, reading_goes, declared, after_names, names_go, over, start, Read, run, is_else}
use Rattle.lp_parser_stmt.proofs.Expressions.{ReadTree, tree_end, tree_then, tree_run, before_semicolon, before_paren}
use Rattle.lp_parser_stmt.proofs.NamesRead.{names_read}

abbrev pub goes : Option State → List Seen → Option Read
goes o xs = option_and_then (λ next. run next xs) o

-- behind an expression
abbrev pub tree_after : Role → Stack → Tree → List Seen → Option Read
tree_after role s t [] = None
tree_after role s t (x ∷ xs) = goes (after x.sort role (Some t) s) xs

abbrev pub tree_read : Role → Stack → Option ReadTree → Option Read
tree_read role s None = None
tree_read role s (Some r) = tree_after role s r.tree r.rest

no_tree : (k : Sort) (role : Role) (s : Stack) → after k role None s ≡ None
no_tree (sorts.Mark m) role s = refl
no_tree _ role s = refl

reading_stops : (o : Option Tree) (x : Seen) (xs : List Seen) (role : Role) (s : Stack) → goes (after x.sort role o s) xs ≡ tree_read role s (tree_end o (x ∷ xs))
reading_stops None x xs role s = ap (λ o. goes o xs) (no_tree x.sort role s)
reading_stops (Some t) x xs role s = refl

reading_steps : (o : Option expr.State) (f : Option Tree) (x : Seen) (xs : List Seen) (role : Role) (s : Stack)
    → ((e : expr.State) → run (Reading e role s) xs ≡ tree_read role s (tree_run e xs))
    → goes (reading_goes o f x.sort role s) xs ≡ tree_read role s (tree_then o (λ next. tree_run next xs) (tree_end f (x ∷ xs)))
reading_steps (Some e) f x xs role s ih = ih e
reading_steps None f x xs role s ih = reading_stops f x xs role s

pub reading_run : (e : expr.State) (xs : List Seen) (role : Role) (s : Stack) → run (Reading e role s) xs ≡ tree_read role s (tree_run e xs)
reading_run e [] role s = refl
reading_run e (x ∷ xs) role s = reading_steps (expr.step e x) (expr.finished e) x xs role s (λ next. reading_run next xs role s)

-- behind the names of a declaration
abbrev pub names_after : ℕ → BaseWord → Whose → Stack → List DeclaratorTree → List Seen → Option Read
names_after line b whose s ds [] = None
names_after line b whose s ds (x ∷ xs) = goes (after_names x.sort line b (Some ds) whose s) xs

abbrev pub declaration_read : ℕ → BaseWord → Whose → Stack → Option ReadNames → Option Read
declaration_read line b whose s None = None
declaration_read line b whose s (Some r) = names_after line b whose s r.ones r.rest

no_names : (k : Sort) (line : ℕ) (b : BaseWord) (whose : Whose) (s : Stack) → after_names k line b None whose s ≡ None
no_names (sorts.Mark Semicolon) line b whose s = refl
no_names (sorts.Mark _) line b whose s = refl
no_names _ line b whose s = refl

names_stop : (o : Option (List DeclaratorTree)) (x : Seen) (xs : List Seen) (line : ℕ) (b : BaseWord) (whose : Whose) (s : Stack) → goes (after_names x.sort line b o whose s) xs ≡ declaration_read line b whose s (names_end o (x ∷ xs))
names_stop None x xs line b whose s = ap (λ o. goes o xs) (no_names x.sort line b whose s)
names_stop (Some ds) x xs line b whose s = refl

names_go_on : (o : Option Names) (f : Option (List DeclaratorTree)) (x : Seen) (xs : List Seen) (line : ℕ) (b : BaseWord) (whose : Whose) (s : Stack)
    → ((d : Names) → run (Declaring line b d whose s) xs ≡ declaration_read line b whose s (names_run d xs))
    → goes (names_go o f x.sort line b whose s) xs ≡ declaration_read line b whose s (names_then o (λ next. names_run next xs) (names_end f (x ∷ xs)))
names_go_on (Some d) f x xs line b whose s ih = ih d
names_go_on None f x xs line b whose s ih = names_stop f x xs line b whose s

pub declaring_run : (d : Names) (xs : List Seen) (line : ℕ) (b : BaseWord) (whose : Whose) (s : Stack) → run (Declaring line b d whose s) xs ≡ declaration_read line b whose s (names_run d xs)
declaring_run d [] line b whose s = refl
declaring_run d (x ∷ xs) line b whose s = names_go_on (names_step d x) (names_finished d) x xs line b whose s (λ next. declaring_run next xs line b whose s)

-- A token that begins an expression begins nothing else.
data Starts : List Seen → Type 0 where
  starting : {x : Seen} {xs : List Seen} {e : expr.State} → class x.sort ≡ ExpressionBegins → expr.step (expr.Need []) x ≡ Some e → Starts (x ∷ xs)

starts : {t : Tree} {ts rest : List Seen} → Spells t ts rest → Starts ts
starts exprs.int = starting refl refl
starts exprs.string = starting refl refl
starts exprs.name = starting refl refl
starts (exprs.paren d) = starting refl refl
starts (exprs.array d) = starting refl refl
starts (exprs.mapping d) = starting refl refl
starts (exprs.call d) = starting refl refl
starts (exprs.efun_call d) = starting refl refl
starts (exprs.parent_call d) = starting refl refl
starts (exprs.named_parent_call d) = starting refl refl
starts (exprs.catch d) = starting refl refl
starts (exprs.sscanf d h e k p) = starting refl refl
starts (exprs.index d h e i) = starts d
starts (exprs.range d h a b) = starts d
starts (exprs.call_other d h a) = starts d
starts (exprs.post_step d h) = starts d
starts (exprs.pre_step d h) = starting refl refl
starts (exprs.unary exprs.exclamation d h) = starting refl refl
starts (exprs.unary exprs.tilde d h) = starting refl refl
starts (exprs.unary exprs.minus d h) = starting refl refl
starts (exprs.cast ty d h) = starting refl refl
starts (exprs.binary d h e k) = starts d
starts (exprs.and_then d h e k) = starts d
starts (exprs.or_else d h e k) = starts d
starts (exprs.cond d h y n k) = starts d
starts (exprs.assign d h v k) = starts d
starts (exprs.sequence d h p) = starts d

-- it is read as an expression
need_starts : {ts : List Seen} → Starts ts → (s : Stack) → run (Need s) ts ≡ run (Reading (expr.Need []) ToRun s) ts
need_starts (starting {x} {xs} {e} c q) s =
    ap (λ k. goes (class_begins k x s) xs) c ∙ ap (λ o. goes (reads o ToRun s) xs) q
    ∙ sym (ap (λ o. goes (reading_goes o None x.sort ToRun s) xs) q)

maybe_starts : {ts : List Seen} → Starts ts → (part : Optional) (s : Stack) → run (Maybe part s) ts ≡ run (Reading (expr.Need []) (OneOf part) s) ts
maybe_starts (starting {x} {xs} {e} c q) part s =
    ap (λ k. goes (maybe k x part s) xs) c ∙ ap (λ o. goes (reads o (OneOf part) s) xs) q
    ∙ sym (ap (λ o. goes (reading_goes o None x.sort (OneOf part) s) xs) q)

-- an expression that `;` ends, and one that `)` ends
pub read_semicolon : {t : Tree} {ts rest : List Seen} {l : ℕ} → Spells t ts (mark Semicolon l ∷ rest) → (role : Role) (s : Stack) → by_paren role ≡ false → run (Reading (expr.Need []) role s) ts ≡ run (used role t s) rest
read_semicolon {t} {ts} {rest} d role s e =
    reading_run (expr.Need []) ts role s ∙ ap (tree_read role s) (before_semicolon d)
    ∙ ap (λ b. goes (cond b None (Some (used role t s))) rest) e

pub read_paren : {t : Tree} {ts rest : List Seen} {l : ℕ} → Spells t ts (mark CloseParen l ∷ rest) → (role : Role) (s : Stack) → by_paren role ≡ true → run (Reading (expr.Need []) role s) ts ≡ run (used role t s) rest
read_paren {t} {ts} {rest} d role s e =
    reading_run (expr.Need []) ts role s ∙ ap (tree_read role s) (before_paren d)
    ∙ ap (λ b. goes (cond b (Some (used role t s)) None) rest) e

-- the names of a declaration
pub read_names : {ds : List DeclaratorTree} {us rest : List Seen} {l : ℕ} → SpellsDeclarators ds us (mark Semicolon l ∷ rest) → (line : ℕ) (b : BaseWord) (whose : Whose) (s : Stack)
    → run (Declaring line b (AtOne []) whose s) us ≡ run (declared whose (record { line = line; base = b; ones = ds }) s) rest
read_names {us} d line b whose s = declaring_run (AtOne []) us line b whose s ∙ ap (declaration_read line b whose s) (names_read d [])

each_stars_run : {n : ℕ} {ts us : List Seen} → SpellsStars n ts us → (line : ℕ) (first : Option Each) (at : ℕ) (b : BaseWord) (k all : ℕ) (s : Stack) → all ≡ k + n → run (EachStars line first at b k s) ts ≡ run (EachStars line first at b all s) us
each_stars_run {us} no_star line first at b k all s e = ap (λ m. run (EachStars line first at b m s) us) (omega (arith, e))
each_stars_run (one_star d) line first at b k all s e = each_stars_run d line first at b (suc k) all s (omega (arith, e))

each_read : {e : Each} {ts us : List Seen} → SpellsEach e ts us → (line : ℕ) (first : Option Each) (s : Stack) → run (NeedEach line first s) ts ≡ run (EachNamed line first e s) us
each_read stmts.untyped line first s = refl
each_read (stmts.typed (type_of {b} {n} {l} d)) line first s = each_stars_run d line first l b 0 n s (omega arith)

in_read : {x : Seen} → IsIn x → (us : List Seen) (line : ℕ) (first : Option Each) (e : Each) (s : Stack) → run (EachNamed line first e s) (x ∷ us) ≡ run (Reading (expr.Need []) (over line first e) s) us
in_read stmts.colon us line first e s = refl
in_read word_in us line first e s = refl

eaches_read : {f : Each} {g : Option Each} {x : Seen} {ts us : List Seen} → SpellsEaches f g ts (x ∷ us) → IsIn x → (line : ℕ) (s : Stack) → run (NeedEach line None s) ts ≡ run (Reading (expr.Need []) (OverEach line f g) s) us
eaches_read {f} {us} (one_each d) i line s = each_read d line None s ∙ in_read i us line None f s
eaches_read {f} {us} (two_eaches {f = g} d e) i line s = each_read d line None s ∙ each_read e line (Some f) s ∙ in_read i us line (Some f) g s

label_read : {k : Label} {ts us : List Seen} → SpellsLabel k ts us → (w : Switching) (s : Stack) → run (Need (Inside (InSwitch w) s)) ts ≡ run (labelled k w s) us
label_read (case_value stmts.int) w s = refl
label_read (case_value stmts.negative) w s = refl
label_read (case_value stmts.string) w s = refl
label_read (case_range stmts.int stmts.int) w s = refl
label_read (case_range stmts.int stmts.negative) w s = refl
label_read (case_range stmts.negative stmts.int) w s = refl
label_read (case_range stmts.negative stmts.negative) w s = refl
label_read default_case w s = refl

init_read : {i : InitTree} {ts us : List Seen} {l : ℕ} → SpellsInit i ts (mark Semicolon l ∷ us) → (line : ℕ) (s : Stack) → run (Maybe (First line) s) ts ≡ run (Maybe (Test line i) s) us
init_read stmts.no_init line s = refl
init_read (stmts.init_local (declares {b} {line = at} d)) line s = read_names d at b (OfFor line) s
init_read (stmts.init_expr d) line s = maybe_starts (starts d) (First line) s ∙ read_semicolon d (OneOf (First line)) s refl

optional_read : {e : Option Tree} {ts us : List Seen} {l : ℕ} → SpellsOptional e ts (mark Semicolon l ∷ us) → (part : Optional) (s : Stack) → semicolon_skips part s ≡ Some (filled part None s) → by_paren (OneOf part) ≡ false
    → run (Maybe part s) ts ≡ run (filled part e s) us
optional_read {us} stmts.missing part s h p = ap (λ o. goes o us) h
optional_read (stmts.given d) part s h p = maybe_starts (starts d) part s ∙ read_semicolon d (OneOf part) s p

step_read : {e : Option Tree} {ts us : List Seen} {l : ℕ} → SpellsOptional e ts (mark CloseParen l ∷ us) → (line : ℕ) (i : InitTree) (t : Option Tree) (s : Stack) → run (Maybe (Step line i t) s) ts ≡ run (Need (Inside (ForBody line i t e) s)) us
step_read stmts.missing line i t s = refl
step_read (stmts.given d) line i t s = maybe_starts (starts d) (Step line i t) s ∙ read_paren d (OneOf (Step line i t)) s refl

-- statements in front of statements
abbrev pub joined : List StmtTree → StmtTrees → StmtTrees
joined [] ss = ss
joined (d ∷ ds) ss = MoreStmts d (joined ds ss)

pub joined-none : (ds : List StmtTree) → stmt_trees ds ≡ joined ds NoStmt
joined-none [] = refl
joined-none (d ∷ ds) = ap (MoreStmts d) (joined-none ds)

pub joined-more : (ds : List StmtTree) (t : StmtTree) (ss : StmtTrees) → joined (ds ++ t ∷ []) ss ≡ joined ds (MoreStmts t ss)
joined-more [] t ss = refl
joined-more (d ∷ ds) t ss = ap (MoreStmts d) (joined-more ds t ss)

-- parts in front of parts
abbrev pub parts_joined : List (Part StmtTree) → PartTrees → PartTrees
parts_joined [] ps = ps
parts_joined (d ∷ ds) ps = part_of d (parts_joined ds ps)

pub parts_joined-none : (ds : List (Part StmtTree)) → part_trees ds ≡ parts_joined ds NoPart
parts_joined-none [] = refl
parts_joined-none (d ∷ ds) = ap (part_of d) (parts_joined-none ds)

pub parts_joined-more : (ds : List (Part StmtTree)) (p : Part StmtTree) (ps : PartTrees) → parts_joined (ds ++ p ∷ []) ps ≡ parts_joined ds (part_of p ps)
parts_joined-more [] p ps = refl
parts_joined-more (d ∷ ds) p ps = ap (part_of d) (parts_joined-more ds p ps)

-- what is spelled begins somewhere
data NonEmpty : List Seen → Type 0 where
  nonempty : {x : Seen} {xs : List Seen} → NonEmpty (x ∷ xs)

starts-some : {ts : List Seen} → Starts ts → NonEmpty ts
starts-some (starting c q) = nonempty

stmt-some : {a : Around} {t : StmtTree} {ts rest : List Seen} → SpellsStmt a t ts rest → NonEmpty ts
stmt-some (stmts.run d) = starts-some (starts d)
stmt-some (stmts.local (declares d)) = nonempty
stmt-some (stmts.block d) = nonempty
stmt-some stmts.empty = nonempty
stmt-some (stmts.if_only d y w) = nonempty
stmt-some (stmts.if_else d y n) = nonempty
stmt-some (stmts.while d b) = nonempty
stmt-some (stmts.do_while b d) = nonempty
stmt-some (stmts.for i t p b) = nonempty
stmt-some (stmts.foreach f x e b) = nonempty
stmt-some (stmts.switch e p) = nonempty
stmt-some (stmts.break h) = nonempty
stmt-some (stmts.continue h) = nonempty
stmt-some (stmts.return e) = nonempty

stmts-some : {a : Around} {ss : StmtTrees} {ts rest : List Seen} → SpellsStmts a ss ts rest → NonEmpty ts
stmts-some stmts.no_more = nonempty
stmts-some (stmts.stmt d e) = stmt-some d

label-some : {k : Label} {ts rest : List Seen} → SpellsLabel k ts rest → NonEmpty ts
label-some (case_value c) = nonempty
label-some (case_range c d) = nonempty
label-some default_case = nonempty

parts-some : {a : Around} {ps : PartTrees} {ts rest : List Seen} → SpellsParts a ps ts rest → NonEmpty ts
parts-some stmts.no_part = nonempty
parts-some (stmts.label_part d e) = label-some d
parts-some (stmts.stmt_part d e) = stmt-some d

-- a statement that each token ends
have_ends : (t u : StmtTree) (f : Frame) (s : Stack) (rest : List Seen) → ((b : Bool) → settle b t (Inside f s) ≡ settle b u s) → run (Have t (Inside f s)) rest ≡ run (Have u s) rest
have_ends t u f s [] e = refl
have_ends t u f s (x ∷ xs) e = ap (λ h. goes (act_held x h) xs) (e (is_else x.sort))

if-false : {A : Type 0} (b : Bool) (x y : A) → b ≡ false → cond b x y ≡ y
if-false true x y h = cc
if-false false x y h = refl

pub same_else : (k : Sort) → is_else k ≡ stmts.is_else k
same_else (sorts.Reserved words.Else) = refl
same_else (sorts.Reserved _) = refl
same_else _ = refl

if_ends : (line : ℕ) (e : Tree) (t : StmtTree) (s : Stack) (rest : List Seen) → else_follows rest ≡ false → run (Have t (Inside (IfYes line e) s)) rest ≡ run (Have (If line e t NoElse) s) rest
if_ends line e t s [] h = refl
if_ends line e t s (x ∷ xs) h = ap (λ h. goes (act_held x h) xs) (if-false (is_else x.sort) _ _ (same_else x.sort ∙ h))

-- a list of statements in braces, and what its end makes
pub record IsList (F : List StmtTree → Stack) (K : StmtTrees → List Seen → Option Read) (a : Around) : Type 0 where
  pub ends : (done : List StmtTree) (l : ℕ) (rest : List Seen) → run (Need (F done)) (mark CloseBrace l ∷ rest) ≡ K (stmt_trees done) rest
  pub next : (done : List StmtTree) (t : StmtTree) (x : Seen) (xs : List Seen) → run (Have t (F done)) (x ∷ xs) ≡ run (Need (F (done ++ t ∷ []))) (x ∷ xs)
  pub stands : (done : List StmtTree) → a ≡ around (F done)

next_stmt : {F : List StmtTree → Stack} {K : StmtTrees → List Seen → Option Read} {a : Around} → IsList F K a → (done : List StmtTree) (t : StmtTree) (us : List Seen) → NonEmpty us → run (Have t (F done)) us ≡ run (Need (F (done ++ t ∷ []))) us
next_stmt r done t us (nonempty {x} {xs}) = r.next done t x xs

next_part : (w : Switching) (t : StmtTree) (s : Stack) (us : List Seen) → NonEmpty us → run (Have t (Inside (InSwitch w) s)) us ≡ run (Need (Inside (InSwitch (with_part w (parts.Stmt t))) s)) us
next_part w t s us (nonempty {x} {xs}) = refl

block_list : (line : ℕ) (s : Stack) (a : Around) → a ≡ around s → IsList (λ done. Inside (InBlock line done) s) (λ ss rest. run (Have (Block line ss) s) rest) a
block_list line s a e = record { ends = λ done l rest. refl; next = λ done t x xs. refl; stands = λ done. e }

function_list : IsList (λ done. InFunction done) (λ ss rest. run (Over ss) rest) in_function
function_list = record { ends = λ done l rest. refl; next = λ done t x xs. refl; stands = λ done. refl }

mutual
  pub stmt_read : {a : Around} {t : StmtTree} {ts rest : List Seen} → SpellsStmt a t ts rest → (s : Stack) → a ≡ around s → run (Need s) ts ≡ run (Have t s) rest
  stmt_read {a} (stmts.block {line} d) s h = list_read d (block_list line s a h) []
  stmt_read stmts.empty s h = refl
  stmt_read (stmts.run d) s h = need_starts (starts d) s ∙ read_semicolon d ToRun s refl
  stmt_read (stmts.local (declares {b} {line} d)) s h = read_names d line b OfStmt s
  stmt_read {rest} (stmts.if_only {e} {y} {line} d f w) s h =
      read_paren d (TestIf line) s refl ∙ stmt_read f (Inside (IfYes line e) s) h ∙ if_ends line e y s rest w
  stmt_read {rest} (stmts.if_else {e} {y} {n} {line} d f g) s h =
      read_paren d (TestIf line) s refl ∙ stmt_read f (Inside (IfYes line e) s) h ∙ stmt_read g (Inside (IfNo line e y) s) h
      ∙ have_ends n (If line e y (Else n)) (IfNo line e y) s rest (λ b. refl)
  stmt_read {rest} (stmts.while {e} {b} {line} d f) s h =
      read_paren d (TestWhile line) s refl ∙ stmt_read f (Inside (WhileBody line e) s) refl ∙ have_ends b (While line e b) (WhileBody line e) s rest (λ c. refl)
  stmt_read (stmts.do_while {b} {line} f d) s h = stmt_read f (Inside (DoBody line) s) refl ∙ read_paren d (TestDo line b) s refl
  stmt_read {rest} (stmts.for {i} {t} {s = p} {b} {line} d e g f) s h =
      init_read d line s ∙ optional_read e (Test line i) s refl refl ∙ step_read g line i t s ∙ stmt_read f (Inside (ForBody line i t p) s) refl
      ∙ have_ends b (For line i t p b) (ForBody line i t p) s rest (λ c. refl)
  stmt_read {rest} (stmts.foreach {f} {s = g} {e} {b} {line} d i k m) s h =
      eaches_read d i line s ∙ read_paren k (OverEach line f g) s refl ∙ stmt_read m (Inside (EachBody line f g e) s) refl
      ∙ have_ends b (Foreach line f g e b) (EachBody line f g e) s rest (λ c. refl)
  stmt_read {a} (stmts.switch {e} {line} d p) s h = read_paren d (OnSwitch line) s refl ∙ parts_read p (record { line = line; on = e; done = [] }) s (ap in_switch h)
  stmt_read {rest} (stmts.break {line} {l} w) s h = ap (λ b. goes (leaves b (Break line) s) (mark Semicolon l ∷ rest)) (sym (ap (λ a. a.may_break) h) ∙ w)
  stmt_read {rest} (stmts.continue {line} {l} w) s h = ap (λ b. goes (leaves b (Continue line) s) (mark Semicolon l ∷ rest)) (sym (ap (λ a. a.may_continue) h) ∙ w)
  stmt_read (stmts.return {line} o) s h = optional_read o (Value line) s refl refl

  pub list_read : {a : Around} {ss : StmtTrees} {ts rest : List Seen} → SpellsStmts a ss ts rest → {F : List StmtTree → Stack} {K : StmtTrees → List Seen → Option Read} → IsList F K a → (done : List StmtTree) → run (Need (F done)) ts ≡ K (joined done ss) rest
  list_read {rest} (stmts.no_more {l}) {F} {K} r done = r.ends done l rest ∙ ap (λ ss. K ss rest) (joined-none done)
  list_read {rest} (stmts.stmt {s = t} {ss} {us} d e) {F} {K} r done =
      stmt_read d (F done) (r.stands done) ∙ next_stmt r done t us (stmts-some e) ∙ list_read e r (done ++ t ∷ []) ∙ ap (λ ss. K ss rest) (joined-more done t ss)

  pub parts_read : {a : Around} {ps : PartTrees} {ts rest : List Seen} → SpellsParts a ps ts rest → (w : Switching) (s : Stack) → a ≡ in_switch (around s) → run (Need (Inside (InSwitch w) s)) ts ≡ run (Have (Switch w.line w.on (parts_joined w.done ps)) s) rest
  parts_read {rest} stmts.no_part w s h = ap (λ ps. run (Have (Switch w.line w.on ps) s) rest) (parts_joined-none w.done)
  parts_read {rest} (stmts.label_part {k} {ps} d e) w s h =
      label_read d w s ∙ parts_read e (with_part w (parts.Label k)) s h ∙ ap (λ ps. run (Have (Switch w.line w.on ps) s) rest) (parts_joined-more w.done (parts.Label k) ps)
  parts_read {rest} (stmts.stmt_part {s = t} {ps} {us} d e) w s h =
      stmt_read d (Inside (InSwitch w) s) h ∙ next_part w t s us (parts-some e) ∙ parts_read e (with_part w (parts.Stmt t)) s h
      ∙ ap (λ ps. run (Have (Switch w.line w.on ps) s) rest) (parts_joined-more w.done (parts.Stmt t) ps)

-- What is spelled is read.
pub block_read : {ss : StmtTrees} {ts rest : List Seen} → SpellsStmts in_function ss ts rest → run start ts ≡ Some (record { stmts = ss; rest = rest })
block_read d = list_read d function_list []
