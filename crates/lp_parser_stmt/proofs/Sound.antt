-- What is read is spelled: statements.
use Rattle.std.proofs.Common.{◌≡◌, ℕ, suc, ◌+◌, List, [], ◌∷◌, ◌++◌, Bool, true, false, cond, refl, ap, sym, ◌∙◌, subst, arith}
use Rattle.std.specs.Prelude.{ℤ, Option, Some, None, IsTrue, bytes_eq, codes}
use Rattle.std.proofs.lemmas.Slice.Eq.{bytes_eq-Decides}
use Rattle.lp_tree.specs.declared.keyword.Keyword.{Keyword}
use Rattle.lp_tree.specs.declared.keyword.Keyword.TheVariants as words
use Rattle.lp_tree.specs.declared.keyword.Base.{Base as BaseWord}
use Rattle.lp_tree.specs.declared.operator.BinOp.TheVariants.{Sub, Mul}
use Rattle.lp_tree.specs.declared.token.Mark.{Mark}
use Rattle.lp_tree.specs.declared.token.Mark.TheVariants as marks
use Rattle.lp_tree.specs.declared.token.Mark.TheVariants.{OpenParen, CloseParen, OpenBrace, CloseBrace, Semicolon, Comma, Colon, DotDot}
use Rattle.lp_tree.specs.declared.seen.Sort.{Sort}
use Rattle.lp_tree.specs.declared.seen.Sort.TheVariants as sorts
use Rattle.lp_tree.specs.declared.seen.Seen.{Seen}
use Rattle.lp_tree.specs.declared.stmt.Each.{Each}
use Rattle.lp_tree.specs.declared.stmt.Constant.TheVariants.{Int}
use Rattle.lp_tree.specs.declared.stmt.Part.TheVariants as parts
use Rattle.lp_tree.specs.declared.stmt.Label.{Label}
use Rattle.lp_tree.specs.Seen.{word, text, integer, mark, reserved}
use Rattle.lp_tree.specs.Types.{SpellsStars, none as no_star, one_more as one_star, typed as type_of}
use Rattle.lp_tree.specs.Trees.{Tree}
use Rattle.lp_tree.specs.Expressions.{Spells}
use Rattle.lp_tree.specs.Statements as stmts
use Rattle.lp_tree.specs.Statements.{DeclaratorTree, LocalTree, InitTree, DeclaresFirst, StmtTree, Block, If, While, DoWhile, For, Foreach, Switch, Break, Continue, Return, StmtTrees, NoStmt, MoreStmts, NoElse, Else, PartTrees, NoPart, LabelPart, StmtPart, Around, in_function, in_switch, SpellsLocal, declares, SpellsDeclarators, SpellsEach, SpellsEaches, one_each, two_eaches, IsIn, word_in, SpellsConstant, SpellsLabel, case_value, case_range, default_case, SpellsInit, SpellsOptional, else_follows, SpellsStmt, SpellsStmts, SpellsParts}
use Rattle.lp_tree.specs.StatementView.{stmt_trees, part_trees}
use Rattle.lp_parser_expr.specs.Machine as expr
use Rattle.lp_parser_expr.proofs.Sound.{needs_more, bottom}
use Rattle.lp_parser_stmt.specs.Machine.{Names, AtOne, names_step, names_finished, names_end, names_then, names_run, Optional, Value, First, Test, Step, Role, ToRun, TestIf, TestWhile, OnSwitch, OneOf, Switching, with_part, InBlock, InSwitch, IfYes, IfNo, WhileBody, DoBody, ForBody, EachBody, Stack, InFunction, Inside, around, Whose, State, Need, Have, Expect, Reading, Maybe, Declaring, NeedEach, EachStars, EachNamed, NeedConst, NeedDigits, HaveInt, NeedTo, NeedToDigits, Over, reads, closes, case_begins, default_begins, labelled, leaves, class, begin, settle, after_yes, after_body, act, act_held, is_mark, is_else, by_paren, filled, used, after, reading_goes, semicolon_skips, paren_skips, first_declares, maybe, declared, after_names, names_go, need_each, each_stars, over, one_more_each, each_named, need_const, need_digits, have_int, need_to, need_to_digits, step, start, Read, run}
use Rattle.lp_parser_stmt.proofs.Expressions.{tree_end, tree_then, tree_run, tree_spelled}
use Rattle.lp_parser_stmt.proofs.NamesRead.{names_rest, names_spelled}
use Rattle.lp_parser_stmt.proofs.Stmts.{goes, joined, joined-none, joined-more, parts_joined, parts_joined-none, parts_joined-more, same_else}

-- the mark that ends an expression
abbrev pub ender : Role → Mark
ender role = cond (by_paren role) CloseParen Semicolon

-- From here, the tokens before the rest make the statements of the function.
pub data Rest : State → StmtTrees → List Seen → List Seen → Type 0 where
  r_over : {ss : StmtTrees} {rest : List Seen} → Rest (Over ss) ss rest rest
  r_expect : {m : Mark} {next : State} {ss : StmtTrees} {l : ℕ} {xs rest : List Seen} → Rest next ss xs rest → Rest (Expect m next) ss (mark m l ∷ xs) rest
  -- a statement, or what ends the statements
  r_need : {s : Stack} {t : StmtTree} {ss : StmtTrees} {xs ys rest : List Seen} → SpellsStmt (around s) t xs ys → Rest (Have t s) ss ys rest → Rest (Need s) ss xs rest
  r_ends_function : {done : List StmtTree} {ss : StmtTrees} {l : ℕ} {rest : List Seen} → ss ≡ stmt_trees done → Rest (Need (InFunction done)) ss (mark CloseBrace l ∷ rest) rest
  r_ends_block : {line l : ℕ} {done : List StmtTree} {s : Stack} {ss : StmtTrees} {xs rest : List Seen}
      → Rest (Have (Block line (stmt_trees done)) s) ss xs rest → Rest (Need (Inside (InBlock line done) s)) ss (mark CloseBrace l ∷ xs) rest
  r_ends_switch : {w : Switching} {l : ℕ} {s : Stack} {ss : StmtTrees} {xs rest : List Seen}
      → Rest (Have (Switch w.line w.on (part_trees w.done)) s) ss xs rest → Rest (Need (Inside (InSwitch w) s)) ss (mark CloseBrace l ∷ xs) rest
  r_label : {w : Switching} {k : Label} {s : Stack} {ss : StmtTrees} {xs ys rest : List Seen}
      → SpellsLabel k xs ys → Rest (labelled k w s) ss ys rest → Rest (Need (Inside (InSwitch w) s)) ss xs rest
  -- behind a statement
  r_in_function : {done : List StmtTree} {t : StmtTree} {ss : StmtTrees} {xs rest : List Seen} → Rest (Need (InFunction (done ++ t ∷ []))) ss xs rest → Rest (Have t (InFunction done)) ss xs rest
  r_in_block : {line : ℕ} {done : List StmtTree} {t : StmtTree} {s : Stack} {ss : StmtTrees} {xs rest : List Seen}
      → Rest (Need (Inside (InBlock line (done ++ t ∷ [])) s)) ss xs rest → Rest (Have t (Inside (InBlock line done) s)) ss xs rest
  r_in_switch : {w : Switching} {t : StmtTree} {s : Stack} {ss : StmtTrees} {xs rest : List Seen}
      → Rest (Need (Inside (InSwitch (with_part w (parts.Stmt t))) s)) ss xs rest → Rest (Have t (Inside (InSwitch w) s)) ss xs rest
  r_if_only : {line : ℕ} {e : Tree} {t : StmtTree} {s : Stack} {ss : StmtTrees} {xs rest : List Seen}
      → else_follows xs ≡ false → Rest (Have (If line e t NoElse) s) ss xs rest → Rest (Have t (Inside (IfYes line e) s)) ss xs rest
  r_if_else : {line l : ℕ} {e : Tree} {t n : StmtTree} {s : Stack} {ss : StmtTrees} {xs ys rest : List Seen}
      → SpellsStmt (around s) n xs ys → Rest (Have (If line e t (Else n)) s) ss ys rest → Rest (Have t (Inside (IfYes line e) s)) ss (reserved words.Else l ∷ xs) rest
  r_if_no : {line : ℕ} {e : Tree} {y t : StmtTree} {s : Stack} {ss : StmtTrees} {xs rest : List Seen} → Rest (Have (If line e y (Else t)) s) ss xs rest → Rest (Have t (Inside (IfNo line e y) s)) ss xs rest
  r_while : {line : ℕ} {e : Tree} {t : StmtTree} {s : Stack} {ss : StmtTrees} {xs rest : List Seen} → Rest (Have (While line e t) s) ss xs rest → Rest (Have t (Inside (WhileBody line e) s)) ss xs rest
  r_for : {line : ℕ} {i : InitTree} {c p : Option Tree} {t : StmtTree} {s : Stack} {ss : StmtTrees} {xs rest : List Seen} → Rest (Have (For line i c p t) s) ss xs rest → Rest (Have t (Inside (ForBody line i c p) s)) ss xs rest
  r_each_body : {line : ℕ} {f : Each} {g : Option Each} {e : Tree} {t : StmtTree} {s : Stack} {ss : StmtTrees} {xs rest : List Seen} → Rest (Have (Foreach line f g e t) s) ss xs rest → Rest (Have t (Inside (EachBody line f g e) s)) ss xs rest
  r_do : {line l l' l'' l''' : ℕ} {e : Tree} {t : StmtTree} {s : Stack} {ss : StmtTrees} {xs ys rest : List Seen}
      → Spells e xs (mark CloseParen l'' ∷ mark Semicolon l''' ∷ ys) → Rest (Have (DoWhile line t e) s) ss ys rest
      → Rest (Have t (Inside (DoBody line) s)) ss (reserved words.While l ∷ mark OpenParen l' ∷ xs) rest
  -- in an expression, and where one may be missing
  r_reading : {e : expr.State} {role : Role} {t : Tree} {l : ℕ} {s : Stack} {ss : StmtTrees} {xs ys rest : List Seen}
      → tree_run e xs ≡ Some (record { tree = t; rest = mark (ender role) l ∷ ys }) → Rest (used role t s) ss ys rest → Rest (Reading e role s) ss xs rest
  r_missing : {part : Optional} {l : ℕ} {s : Stack} {ss : StmtTrees} {xs rest : List Seen} → Rest (filled part None s) ss xs rest → Rest (Maybe part s) ss (mark (ender (OneOf part)) l ∷ xs) rest
  r_given : {part : Optional} {t : Tree} {l : ℕ} {s : Stack} {ss : StmtTrees} {xs ys rest : List Seen}
      → Spells t xs (mark (ender (OneOf part)) l ∷ ys) → Rest (filled part (Some t) s) ss ys rest → Rest (Maybe part s) ss xs rest
  r_first : {line : ℕ} {d : LocalTree} {l : ℕ} {s : Stack} {ss : StmtTrees} {xs ys rest : List Seen}
      → SpellsLocal d xs (mark Semicolon l ∷ ys) → Rest (Maybe (Test line (DeclaresFirst d)) s) ss ys rest → Rest (Maybe (First line) s) ss xs rest
  r_declaring : {line : ℕ} {b : BaseWord} {d : Names} {whose : Whose} {ds : List DeclaratorTree} {l : ℕ} {s : Stack} {ss : StmtTrees} {xs ys rest : List Seen}
      → names_run d xs ≡ Some (record { ones = ds; rest = mark Semicolon l ∷ ys }) → Rest (declared whose (record { line = line; base = b; ones = ds }) s) ss ys rest → Rest (Declaring line b d whose s) ss xs rest
  -- the variables of a `foreach`
  r_each : {line : ℕ} {first : Option Each} {e : Each} {s : Stack} {ss : StmtTrees} {xs ys rest : List Seen} → SpellsEach e xs ys → Rest (EachNamed line first e s) ss ys rest → Rest (NeedEach line first s) ss xs rest
  r_stars : {line at n m l : ℕ} {first : Option Each} {b : BaseWord} {w : List ℕ} {s : Stack} {ss : StmtTrees} {xs ys rest : List Seen}
      → SpellsStars m xs (word w l ∷ ys) → Rest (EachNamed line first (record { line = at; type_name = Some (record { base = b; stars = n + m }); name = w }) s) ss ys rest → Rest (EachStars line first at b n s) ss xs rest
  r_comma : {line l : ℕ} {e : Each} {s : Stack} {ss : StmtTrees} {xs rest : List Seen} → Rest (NeedEach line (Some e) s) ss xs rest → Rest (EachNamed line None e s) ss (mark Comma l ∷ xs) rest
  r_in : {line : ℕ} {first : Option Each} {e : Each} {x : Seen} {s : Stack} {ss : StmtTrees} {xs rest : List Seen}
      → IsIn x → Rest (Reading (expr.Need []) (over line first e) s) ss xs rest → Rest (EachNamed line first e s) ss (x ∷ xs) rest
  -- the parts of a label
  r_const : {line : ℕ} {k : Label} {w : Switching} {s : Stack} {ss : StmtTrees} {xs ys rest : List Seen} → SpellsLabel k (reserved words.Case line ∷ xs) ys → Rest (labelled k w s) ss ys rest → Rest (NeedConst line w s) ss xs rest
  r_digits : {line : ℕ} {k : Label} {w : Switching} {s : Stack} {ss : StmtTrees} {xs ys rest : List Seen}
      → ((l : ℕ) → SpellsLabel k (reserved words.Case line ∷ mark (marks.Binary Sub) l ∷ xs) ys) → Rest (labelled k w s) ss ys rest → Rest (NeedDigits line w s) ss xs rest
  r_int : {line : ℕ} {n : ℤ} {k : Label} {w : Switching} {s : Stack} {ss : StmtTrees} {xs ys rest : List Seen}
      → ((us : List Seen) → SpellsConstant (Int n) us xs → SpellsLabel k (reserved words.Case line ∷ us) ys) → Rest (labelled k w s) ss ys rest → Rest (HaveInt line n w s) ss xs rest
  r_to : {line : ℕ} {n : ℤ} {k : Label} {w : Switching} {s : Stack} {ss : StmtTrees} {xs ys rest : List Seen}
      → ((us : List Seen) (l : ℕ) → SpellsConstant (Int n) us (mark DotDot l ∷ xs) → SpellsLabel k (reserved words.Case line ∷ us) ys) → Rest (labelled k w s) ss ys rest → Rest (NeedTo line n w s) ss xs rest
  r_to_digits : {line : ℕ} {n : ℤ} {k : Label} {w : Switching} {s : Stack} {ss : StmtTrees} {xs ys rest : List Seen}
      → ((us : List Seen) (l l' : ℕ) → SpellsConstant (Int n) us (mark DotDot l ∷ mark (marks.Binary Sub) l' ∷ xs) → SpellsLabel k (reserved words.Case line ∷ us) ys) → Rest (labelled k w s) ss ys rest
      → Rest (NeedToDigits line n w s) ss xs rest

-- a list of statements and what stands behind it
pub record Listed (a : Around) (K : StmtTrees → List Seen → Type 0) (xs : List Seen) : Type 0 where
  pub more : StmtTrees
  pub behind : List Seen
  pub spelled : SpellsStmts a more xs behind
  pub rest : K more behind

block_rest : {line : ℕ} {done : List StmtTree} {s : Stack} {ss : StmtTrees} {xs rest : List Seen} → Rest (Need (Inside (InBlock line done) s)) ss xs rest → Listed (around s) (λ more ys. Rest (Have (Block line (joined done more)) s) ss ys rest) xs
block_rest {line} {done} {s} {ss} {xs} {rest} (r_need {t} d (r_in_block r)) =
    let q = block_rest r in
    record { more = MoreStmts t q.more; behind = q.behind; spelled = stmts.stmt d q.spelled; rest = subst (λ m. Rest (Have (Block line m) s) ss q.behind rest) (joined-more done t q.more) q.rest }
block_rest {line} {done} {s} {ss} {rest} (r_ends_block {xs = ys} r) = record { more = NoStmt; behind = ys; spelled = stmts.no_more; rest = subst (λ m. Rest (Have (Block line m) s) ss ys rest) (joined-none done) r }

function_rest : {done : List StmtTree} {ss : StmtTrees} {xs rest : List Seen} → Rest (Need (InFunction done)) ss xs rest → Listed in_function (λ more ys. (ss ≡ joined done more) × (ys ≡ rest)) xs
function_rest {done} (r_need {t} d (r_in_function r)) = let q = function_rest r in record { more = MoreStmts t q.more; behind = q.behind; spelled = stmts.stmt d q.spelled; rest = (q.rest.0 ∙ joined-more done t q.more, q.rest.1) }
function_rest {done} {rest} (r_ends_function e) = record { more = NoStmt; behind = rest; spelled = stmts.no_more; rest = (e ∙ joined-none done, refl) }

-- the parts of a `switch` and what stands behind it
record Parted (a : Around) (K : PartTrees → List Seen → Type 0) (xs : List Seen) : Type 0 where
  more : PartTrees
  behind : List Seen
  spelled : SpellsParts a more xs behind
  rest : K more behind

switch_rest : {w : Switching} {s : Stack} {ss : StmtTrees} {xs rest : List Seen} → Rest (Need (Inside (InSwitch w) s)) ss xs rest → Parted (in_switch (around s)) (λ more ys. Rest (Have (Switch w.line w.on (parts_joined w.done more)) s) ss ys rest) xs
switch_rest {w} {s} {ss} {rest} (r_need {t} d (r_in_switch r)) =
    let q = switch_rest r in
    record { more = StmtPart t q.more; behind = q.behind; spelled = stmts.stmt_part d q.spelled; rest = subst (λ m. Rest (Have (Switch w.line w.on m) s) ss q.behind rest) (parts_joined-more w.done (parts.Stmt t) q.more) q.rest }
switch_rest {w} {s} {ss} {rest} (r_label {k} d r) =
    let q = switch_rest r in
    record { more = LabelPart k q.more; behind = q.behind; spelled = stmts.label_part d q.spelled; rest = subst (λ m. Rest (Have (Switch w.line w.on m) s) ss q.behind rest) (parts_joined-more w.done (parts.Label k) q.more) q.rest }
switch_rest {w} {s} {ss} {rest} (r_ends_switch {xs = ys} r) = record { more = NoPart; behind = ys; spelled = stmts.no_part; rest = subst (λ m. Rest (Have (Switch w.line w.on m) s) ss ys rest) (parts_joined-none w.done) r }

-- an expression and what stands behind it
record Read_by (role : Role) (s : Stack) (ss : StmtTrees) (xs end : List Seen) : Type 0 where
  tree : Tree
  line : ℕ
  behind : List Seen
  spelled : Spells tree xs (mark (ender role) line ∷ behind)
  rest : Rest (used role tree s) ss behind end

reading_rest : {role : Role} {s : Stack} {ss : StmtTrees} {xs rest : List Seen} → Rest (Reading (expr.Need []) role s) ss xs rest → Read_by role s ss xs rest
reading_rest {xs} (r_reading {t} {l} {ys} e r) =
    record { tree = t; line = l; behind = ys; spelled = (tree_spelled {g = 0} (expr.Need []) xs xs _ (needs_more bottom) e).spells; rest = r }

record Optional_by (part : Optional) (s : Stack) (ss : StmtTrees) (xs end : List Seen) : Type 0 where
  tree : Option Tree
  line : ℕ
  behind : List Seen
  spelled : SpellsOptional tree xs (mark (ender (OneOf part)) line ∷ behind)
  rest : Rest (filled part tree s) ss behind end

test_rest : {line : ℕ} {i : InitTree} {s : Stack} {ss : StmtTrees} {xs rest : List Seen} → Rest (Maybe (Test line i) s) ss xs rest → Optional_by (Test line i) s ss xs rest
test_rest (r_missing {l} {xs = ys} r) = record { tree = None; line = l; behind = ys; spelled = stmts.missing; rest = r }
test_rest (r_given {t} {l} {ys} d r) = record { tree = Some t; line = l; behind = ys; spelled = stmts.given d; rest = r }

step_rest : {line : ℕ} {i : InitTree} {c : Option Tree} {s : Stack} {ss : StmtTrees} {xs rest : List Seen} → Rest (Maybe (Step line i c) s) ss xs rest → Optional_by (Step line i c) s ss xs rest
step_rest (r_missing {l} {xs = ys} r) = record { tree = None; line = l; behind = ys; spelled = stmts.missing; rest = r }
step_rest (r_given {t} {l} {ys} d r) = record { tree = Some t; line = l; behind = ys; spelled = stmts.given d; rest = r }

value_rest : {line : ℕ} {s : Stack} {ss : StmtTrees} {xs rest : List Seen} → Rest (Maybe (Value line) s) ss xs rest → Optional_by (Value line) s ss xs rest
value_rest (r_missing {l} {xs = ys} r) = record { tree = None; line = l; behind = ys; spelled = stmts.missing; rest = r }
value_rest (r_given {t} {l} {ys} d r) = record { tree = Some t; line = l; behind = ys; spelled = stmts.given d; rest = r }

record First_by (at : ℕ) (s : Stack) (ss : StmtTrees) (xs end : List Seen) : Type 0 where
  init : InitTree
  line : ℕ
  behind : List Seen
  spelled : SpellsInit init xs (mark Semicolon line ∷ behind)
  rest : Rest (Maybe (Test at init) s) ss behind end

first_rest : {line : ℕ} {s : Stack} {ss : StmtTrees} {xs rest : List Seen} → Rest (Maybe (First line) s) ss xs rest → First_by line s ss xs rest
first_rest (r_missing {l} {xs = ys} r) = record { init = stmts.Nothing; line = l; behind = ys; spelled = stmts.no_init; rest = r }
first_rest (r_given {t} {l} {ys} d r) = record { init = stmts.RunsFirst t; line = l; behind = ys; spelled = stmts.init_expr d; rest = r }
first_rest (r_first {d} {l} {ys} p r) = record { init = DeclaresFirst d; line = l; behind = ys; spelled = stmts.init_local p; rest = r }

-- the state that is next has its rest
abbrev pub RestOnSome : Option State → StmtTrees → List Seen → List Seen → Type 0
RestOnSome None ss xs rest = ⊥
RestOnSome (Some next) ss xs rest = Rest next ss xs rest

abbrev on : Sort → ℕ → Seen
on k l = record { sort = k; line = l }

same_tree : (e : expr.State) (x : Seen) (xs : List Seen) (o : Option expr.State) → expr.step e x ≡ o → tree_run e (x ∷ xs) ≡ tree_then o (λ next. tree_run next xs) (tree_end (expr.finished e) (x ∷ xs))
same_tree e x xs o q = ap (λ p. tree_then p (λ next. tree_run next xs) (tree_end (expr.finished e) (x ∷ xs))) q

expression_back : (o : Option expr.State) (x : Seen) (s : Stack) (ss : StmtTrees) (xs rest : List Seen) → expr.step (expr.Need []) x ≡ o → RestOnSome (reads o ToRun s) ss xs rest → Rest (Need s) ss (x ∷ xs) rest
expression_back None x s ss xs rest q r = absurd r
expression_back (Some e) x s ss xs rest q (r_reading p r) =
    r_need (stmts.run (tree_spelled {g = 0} (expr.Need []) (x ∷ xs) (x ∷ xs) _ (needs_more bottom) (same_tree (expr.Need []) x xs (Some e) q ∙ p)).spells) r

-- the names of a declaration and what stands behind them
record Declared_by (line : ℕ) (b : BaseWord) (whose : Whose) (s : Stack) (ss : StmtTrees) (xs end : List Seen) : Type 0 where
  ones : List DeclaratorTree
  at : ℕ
  behind : List Seen
  spelled : SpellsDeclarators ones xs (mark Semicolon at ∷ behind)
  rest : Rest (declared whose (record { line = line; base = b; ones = ones }) s) ss behind end

declaring_rest : {line : ℕ} {b : BaseWord} {whose : Whose} {s : Stack} {ss : StmtTrees} {xs rest : List Seen} → Rest (Declaring line b (AtOne []) whose s) ss xs rest → Declared_by line b whose s ss xs rest
declaring_rest {line} {b} {whose} {s} {ss} {xs} {rest} (r_declaring {ds} {l} {ys} e r) =
    let m = names_spelled (names_rest (AtOne []) xs (record { ones = ds; rest = mark Semicolon l ∷ ys }) e) in
    record { ones = m.0; at = l; behind = ys; spelled = m.1; rest = subst (λ d. Rest (declared whose (record { line = line; base = b; ones = d }) s) ss ys rest) m.2 r }

close_back : (l : ℕ) (s : Stack) (ss : StmtTrees) (xs rest : List Seen) → RestOnSome (closes s) ss xs rest → Rest (Need s) ss (mark CloseBrace l ∷ xs) rest
close_back l (InFunction done) ss xs rest r_over = r_ends_function refl
close_back l (Inside (InBlock line done) s) ss xs rest r = r_ends_block r
close_back l (Inside (InSwitch w) s) ss xs rest r = r_ends_switch r
close_back l (Inside _ s) ss xs rest r = absurd r

mark_back : (m : Mark) (l : ℕ) (s : Stack) (ss : StmtTrees) (xs rest : List Seen) → RestOnSome (begin (mark m l) s) ss xs rest → Rest (Need s) ss (mark m l ∷ xs) rest
mark_back OpenBrace l s ss xs rest r = let q = block_rest r in r_need (stmts.block q.spelled) q.rest
mark_back CloseBrace l s ss xs rest r = close_back l s ss xs rest r
mark_back Semicolon l s ss xs rest r = r_need stmts.empty r
mark_back CloseParen l s ss xs rest r = absurd r
mark_back m l s ss xs rest r = expression_back (expr.step (expr.Need []) (mark m l)) (mark m l) s ss xs rest refl r

leave_back : (b : Bool) (t : StmtTree) (x : Seen) (s : Stack) (ss : StmtTrees) (xs rest : List Seen)
    → (IsTrue b → (l : ℕ) (ys : List Seen) → SpellsStmt (around s) t (x ∷ mark Semicolon l ∷ ys) ys) → RestOnSome (leaves b t s) ss xs rest → Rest (Need s) ss (x ∷ xs) rest
leave_back false t x s ss xs rest d r = absurd r
leave_back true t x s ss xs rest d (r_expect {l} {xs = ys} r) = r_need (d refl l ys) r

if_back : {l : ℕ} {s : Stack} {ss : StmtTrees} {xs rest : List Seen} → Rest (Expect OpenParen (Reading (expr.Need []) (TestIf l) s)) ss xs rest → Rest (Need s) ss (reserved words.If l ∷ xs) rest
if_back {l} {s} {ss} {rest} (r_expect r) = let q = reading_rest r in tested q.rest q.spelled
  where
    tested : {e : Tree} {at k : ℕ} {ts us : List Seen} → Rest (Need (Inside (IfYes l e) s)) ss us rest → Spells e ts (mark CloseParen at ∷ us) → Rest (Need s) ss (reserved words.If l ∷ mark OpenParen k ∷ ts) rest
    tested (r_need y (r_if_only h r)) d = r_need (stmts.if_only d y h) r
    tested (r_need y (r_if_else n r)) d = r_need (stmts.if_else d y n) r

while_back : {l : ℕ} {s : Stack} {ss : StmtTrees} {xs rest : List Seen} → Rest (Expect OpenParen (Reading (expr.Need []) (TestWhile l) s)) ss xs rest → Rest (Need s) ss (reserved words.While l ∷ xs) rest
while_back {l} {s} {ss} {rest} (r_expect r) = let q = reading_rest r in tested q.rest q.spelled
  where
    tested : {e : Tree} {at k : ℕ} {ts us : List Seen} → Rest (Need (Inside (WhileBody l e) s)) ss us rest → Spells e ts (mark CloseParen at ∷ us) → Rest (Need s) ss (reserved words.While l ∷ mark OpenParen k ∷ ts) rest
    tested (r_need b (r_while r)) d = r_need (stmts.while d b) r

do_back : {l : ℕ} {s : Stack} {ss : StmtTrees} {xs rest : List Seen} → Rest (Need (Inside (DoBody l) s)) ss xs rest → Rest (Need s) ss (reserved words.Do l ∷ xs) rest
do_back (r_need b (r_do d r)) = r_need (stmts.do_while b d) r

for_back : {l : ℕ} {s : Stack} {ss : StmtTrees} {xs rest : List Seen} → Rest (Expect OpenParen (Maybe (First l) s)) ss xs rest → Rest (Need s) ss (reserved words.For l ∷ xs) rest
for_back {l} {s} {ss} {rest} (r_expect r) =
    let i = first_rest r in let c = test_rest i.rest in let p = step_rest c.rest in looped p.rest i.spelled c.spelled p.spelled
  where
    looped : {i : InitTree} {c p : Option Tree} {k at at' at'' : ℕ} {ts us vs ws : List Seen} → Rest (Need (Inside (ForBody l i c p) s)) ss ws rest
        → SpellsInit i ts (mark Semicolon at ∷ us) → SpellsOptional c us (mark Semicolon at' ∷ vs) → SpellsOptional p vs (mark CloseParen at'' ∷ ws) → Rest (Need s) ss (reserved words.For l ∷ mark OpenParen k ∷ ts) rest
    looped (r_need b (r_for r)) d e g = r_need (stmts.for d e g b) r

each_back : {l : ℕ} {s : Stack} {ss : StmtTrees} {xs rest : List Seen} → Rest (Expect OpenParen (NeedEach l None s)) ss xs rest → Rest (Need s) ss (reserved words.Foreach l ∷ xs) rest
each_back {l} {s} {ss} {rest} (r_expect (r_each {e = f} d r)) = behind r d
  where
    looped : {f : Each} {g : Option Each} {x : Seen} {e : Tree} {k at : ℕ} {ts us vs : List Seen} → Rest (Need (Inside (EachBody l f g e) s)) ss vs rest
        → SpellsEaches f g ts (x ∷ us) → IsIn x → Spells e us (mark CloseParen at ∷ vs) → Rest (Need s) ss (reserved words.Foreach l ∷ mark OpenParen k ∷ ts) rest
    looped (r_need b (r_each_body r)) d i e = r_need (stmts.foreach d i e b) r

    behind_two : {f g : Each} {k at : ℕ} {ts us vs : List Seen} → Rest (EachNamed l (Some f) g s) ss vs rest → SpellsEach f ts (mark Comma at ∷ us) → SpellsEach g us vs → Rest (Need s) ss (reserved words.Foreach l ∷ mark OpenParen k ∷ ts) rest
    behind_two (r_in i r) d e = let q = reading_rest r in looped q.rest (two_eaches d e) i q.spelled

    behind : {f : Each} {k : ℕ} {ts us : List Seen} → Rest (EachNamed l None f s) ss us rest → SpellsEach f ts us → Rest (Need s) ss (reserved words.Foreach l ∷ mark OpenParen k ∷ ts) rest
    behind (r_in i r) d = let q = reading_rest r in looped q.rest (one_each d) i q.spelled
    behind (r_comma (r_each e r)) d = behind_two r d e

switch_back : {l : ℕ} {s : Stack} {ss : StmtTrees} {xs rest : List Seen} → Rest (Expect OpenParen (Reading (expr.Need []) (OnSwitch l) s)) ss xs rest → Rest (Need s) ss (reserved words.Switch l ∷ xs) rest
switch_back {l} {s} {ss} {rest} (r_expect r) = let q = reading_rest r in opened q.rest q.spelled
  where
    opened : {e : Tree} {at k : ℕ} {ts us : List Seen} → Rest (Expect OpenBrace (Need (Inside (InSwitch (record { line = l; on = e; done = [] })) s))) ss us rest → Spells e ts (mark CloseParen at ∷ us)
        → Rest (Need s) ss (reserved words.Switch l ∷ mark OpenParen k ∷ ts) rest
    opened (r_expect r) d = let q = switch_rest r in r_need (stmts.switch d q.spelled) q.rest

case_back : (l : ℕ) (s : Stack) (ss : StmtTrees) (xs rest : List Seen) → RestOnSome (case_begins l s) ss xs rest → Rest (Need s) ss (reserved words.Case l ∷ xs) rest
case_back l (Inside (InSwitch w) s) ss xs rest (r_const d r) = r_label d r
case_back l (Inside _ s) ss xs rest r = absurd r
case_back l (InFunction done) ss xs rest r = absurd r

default_back : (l : ℕ) (s : Stack) (ss : StmtTrees) (xs rest : List Seen) → RestOnSome (default_begins l s) ss xs rest → Rest (Need s) ss (reserved words.Default l ∷ xs) rest
default_back l (Inside (InSwitch w) s) ss xs rest (r_expect r) = r_label default_case r
default_back l (Inside _ s) ss xs rest r = absurd r
default_back l (InFunction done) ss xs rest r = absurd r

word_back : (k : Keyword) (l : ℕ) (s : Stack) (ss : StmtTrees) (xs rest : List Seen) → RestOnSome (begin (reserved k l) s) ss xs rest → Rest (Need s) ss (reserved k l ∷ xs) rest
word_back words.If l s ss xs rest r = if_back r
word_back words.While l s ss xs rest r = while_back r
word_back words.Do l s ss xs rest r = do_back r
word_back words.For l s ss xs rest r = for_back r
word_back words.Foreach l s ss xs rest r = each_back r
word_back words.Switch l s ss xs rest r = switch_back r
word_back words.Case l s ss xs rest r = case_back l s ss xs rest r
word_back words.Default l s ss xs rest r = default_back l s ss xs rest r
word_back words.Break l s ss xs rest r = leave_back (around s).may_break (Break l) (reserved words.Break l) s ss xs rest (λ h at ys. stmts.break h) r
word_back words.Continue l s ss xs rest r = leave_back (around s).may_continue (Continue l) (reserved words.Continue l) s ss xs rest (λ h at ys. stmts.continue h) r
word_back words.Return l s ss xs rest r = let q = value_rest r in r_need (stmts.return q.spelled) q.rest
word_back (words.Base b) l s ss xs rest r = let q = declaring_rest r in r_need (stmts.local (declares q.spelled)) q.rest
word_back words.Catch l s ss xs rest r = expression_back _ (reserved words.Catch l) s ss xs rest refl r
word_back words.Sscanf l s ss xs rest r = expression_back _ (reserved words.Sscanf l) s ss xs rest refl r
word_back _ l s ss xs rest r = absurd r

begin_back : (k : Sort) (l : ℕ) (s : Stack) (ss : StmtTrees) (xs rest : List Seen) → RestOnSome (begin (on k l) s) ss xs rest → Rest (Need s) ss (on k l ∷ xs) rest
begin_back (sorts.Mark m) l s ss xs rest r = mark_back m l s ss xs rest r
begin_back (sorts.Reserved k) l s ss xs rest r = word_back k l s ss xs rest r
begin_back (sorts.Name w) l s ss xs rest r = expression_back _ (word w l) s ss xs rest refl r
begin_back (sorts.Text w) l s ss xs rest r = expression_back _ (text w l) s ss xs rest refl r
begin_back (sorts.Int n) l s ss xs rest r = expression_back _ (integer n l) s ss xs rest refl r
begin_back sorts.Wrong l s ss xs rest r = absurd r

yes_back : (k : Sort) (l line : ℕ) (e : Tree) (t : StmtTree) (s : Stack) (ss : StmtTrees) (xs rest : List Seen) → RestOnSome (after_yes k line e t s) ss xs rest → Rest (Have t (Inside (IfYes line e) s)) ss (on k l ∷ xs) rest
yes_back (sorts.Reserved words.Else) l line e t s ss xs rest (r_need n (r_if_no r)) = r_if_else n r
yes_back (sorts.Reserved _) l line e t s ss xs rest r = absurd r
yes_back _ l line e t s ss xs rest r = absurd r

body_back : (k : Sort) (l line : ℕ) (t : StmtTree) (s : Stack) (ss : StmtTrees) (xs rest : List Seen) → RestOnSome (after_body k line t s) ss xs rest → Rest (Have t (Inside (DoBody line) s)) ss (on k l ∷ xs) rest
body_back (sorts.Reserved words.While) l line t s ss xs rest (r_expect r) = let q = reading_rest r in ended q.rest q.spelled
  where
    ended : {e : Tree} {at k : ℕ} {ts us : List Seen} → Rest (Expect Semicolon (Have (DoWhile line t e) s)) ss us rest → Spells e ts (mark CloseParen at ∷ us) → Rest (Have t (Inside (DoBody line) s)) ss (reserved words.While l ∷ mark OpenParen k ∷ ts) rest
    ended (r_expect r) d = r_do d r
body_back (sorts.Reserved _) l line t s ss xs rest r = absurd r
body_back _ l line t s ss xs rest r = absurd r

act_back : (k : Sort) (l : ℕ) (t : StmtTree) (s : Stack) (ss : StmtTrees) (xs rest : List Seen) → RestOnSome (act (on k l) t s) ss xs rest → Rest (Have t s) ss (on k l ∷ xs) rest
act_back k l t (InFunction done) ss xs rest r = r_in_function (begin_back k l (InFunction (done ++ t ∷ [])) ss xs rest r)
act_back k l t (Inside (InBlock line done) s) ss xs rest r = r_in_block (begin_back k l (Inside (InBlock line (done ++ t ∷ [])) s) ss xs rest r)
act_back k l t (Inside (InSwitch w) s) ss xs rest r = r_in_switch (begin_back k l (Inside (InSwitch (with_part w (parts.Stmt t))) s) ss xs rest r)
act_back k l t (Inside (IfYes line e) s) ss xs rest r = yes_back k l line e t s ss xs rest r
act_back k l t (Inside (DoBody line) s) ss xs rest r = body_back k l line t s ss xs rest r
act_back k l t (Inside (IfNo line e y) s) ss xs rest r = absurd r
act_back k l t (Inside (WhileBody line e) s) ss xs rest r = absurd r
act_back k l t (Inside (ForBody line i c p) s) ss xs rest r = absurd r
act_back k l t (Inside (EachBody line f g e) s) ss xs rest r = absurd r

abbrev Settles : Bool → Sort → ℕ → Stack → StmtTrees → List Seen → List Seen → Type 0
Settles b k l s ss xs rest = (t : StmtTree) → RestOnSome (act_held (on k l) (settle b t s)) ss xs rest → Rest (Have t s) ss (on k l ∷ xs) rest

if_settles : (b : Bool) (k : Sort) (l line : ℕ) (e : Tree) (s : Stack) (ss : StmtTrees) (xs rest : List Seen) → is_else k ≡ b → Settles b k l s ss xs rest → Settles b k l (Inside (IfYes line e) s) ss xs rest
if_settles true k l line e s ss xs rest h ih = λ t r. act_back k l t (Inside (IfYes line e) s) ss xs rest r
if_settles false k l line e s ss xs rest h ih = λ t r. r_if_only (sym (same_else k) ∙ h) (ih (If line e t NoElse) r)

settle_back : (b : Bool) (k : Sort) (l : ℕ) (s : Stack) (ss : StmtTrees) (xs rest : List Seen) → is_else k ≡ b → Settles b k l s ss xs rest
settle_back b k l (Inside (IfYes line e) s) ss xs rest h = if_settles b k l line e s ss xs rest h (settle_back b k l s ss xs rest h)
settle_back b k l (Inside (IfNo line e y) s) ss xs rest h = λ t r. r_if_no (settle_back b k l s ss xs rest h (If line e y (Else t)) r)
settle_back b k l (Inside (WhileBody line e) s) ss xs rest h = λ t r. r_while (settle_back b k l s ss xs rest h (While line e t) r)
settle_back b k l (Inside (ForBody line i c p) s) ss xs rest h = λ t r. r_for (settle_back b k l s ss xs rest h (For line i c p t) r)
settle_back b k l (Inside (EachBody line f g e) s) ss xs rest h = λ t r. r_each_body (settle_back b k l s ss xs rest h (Foreach line f g e t) r)
settle_back b k l (Inside (InBlock line done) s) ss xs rest h = λ t r. act_back k l t (Inside (InBlock line done) s) ss xs rest r
settle_back b k l (Inside (InSwitch w) s) ss xs rest h = λ t r. act_back k l t (Inside (InSwitch w) s) ss xs rest r
settle_back b k l (Inside (DoBody line) s) ss xs rest h = λ t r. act_back k l t (Inside (DoBody line) s) ss xs rest r
settle_back b k l (InFunction done) ss xs rest h = λ t r. act_back k l t (InFunction done) ss xs rest r

expect_back : (m : Mark) (k : Sort) (l : ℕ) (next : State) (ss : StmtTrees) (xs rest : List Seen) → RestOnSome (cond (is_mark m k) (Some next) None) ss xs rest → Rest (Expect m next) ss (on k l ∷ xs) rest
expect_back OpenParen (sorts.Mark OpenParen) l next ss xs rest r = r_expect r
expect_back OpenBrace (sorts.Mark OpenBrace) l next ss xs rest r = r_expect r
expect_back Semicolon (sorts.Mark Semicolon) l next ss xs rest r = r_expect r
expect_back Colon (sorts.Mark Colon) l next ss xs rest r = r_expect r
expect_back _ _ l next ss xs rest r = absurd r

-- an expression that a mark ends
used_back : (b : Bool) (m : Mark) (l : ℕ) (role : Role) (t : Tree) (e : expr.State) (s : Stack) (ss : StmtTrees) (xs rest : List Seen) → (IsTrue b → ender role ≡ m) → tree_run e (mark m l ∷ xs) ≡ Some (record { tree = t; rest = mark m l ∷ xs })
    → RestOnSome (cond b (Some (used role t s)) None) ss xs rest → Rest (Reading e role s) ss (mark m l ∷ xs) rest
used_back true m l role t e s ss xs rest h q r = r_reading {l = l} (q ∙ ap (λ k. Some (record { tree = t; rest = mark k l ∷ xs })) (sym (h refl))) r
used_back false m l role t e s ss xs rest h q r = absurd r

unused_back : (b : Bool) (l : ℕ) (role : Role) (t : Tree) (e : expr.State) (s : Stack) (ss : StmtTrees) (xs rest : List Seen) → by_paren role ≡ b → tree_run e (mark Semicolon l ∷ xs) ≡ Some (record { tree = t; rest = mark Semicolon l ∷ xs })
    → RestOnSome (cond b None (Some (used role t s))) ss xs rest → Rest (Reading e role s) ss (mark Semicolon l ∷ xs) rest
unused_back false l role t e s ss xs rest h q r = used_back true Semicolon l role t e s ss xs rest (λ _. ap (λ b. cond b CloseParen Semicolon) h) q r
unused_back true l role t e s ss xs rest h q r = absurd r

after_back : (k : Sort) (l : ℕ) (role : Role) (o : Option Tree) (e : expr.State) (s : Stack) (ss : StmtTrees) (xs rest : List Seen) → ((t : Tree) → o ≡ Some t → tree_run e (on k l ∷ xs) ≡ Some (record { tree = t; rest = on k l ∷ xs }))
    → RestOnSome (after k role o s) ss xs rest → Rest (Reading e role s) ss (on k l ∷ xs) rest
after_back (sorts.Mark Semicolon) l role (Some t) e s ss xs rest q r = unused_back (by_paren role) l role t e s ss xs rest refl (q t refl) r
after_back (sorts.Mark CloseParen) l role (Some t) e s ss xs rest q r = used_back (by_paren role) CloseParen l role t e s ss xs rest (λ h. ap (λ b. cond b CloseParen Semicolon) h) (q t refl) r
after_back (sorts.Mark m) l role None e s ss xs rest q r = absurd r
after_back (sorts.Mark _) l role (Some t) e s ss xs rest q r = absurd r
after_back _ l role o e s ss xs rest q r = absurd r

reading_back : (o : Option expr.State) (k : Sort) (l : ℕ) (role : Role) (e : expr.State) (s : Stack) (ss : StmtTrees) (xs rest : List Seen) → expr.step e (on k l) ≡ o → RestOnSome (reading_goes o (expr.finished e) k role s) ss xs rest → Rest (Reading e role s) ss (on k l ∷ xs) rest
reading_back (Some next) k l role e s ss xs rest q (r_reading p r) = r_reading (same_tree e (on k l) xs (Some next) q ∙ p) r
reading_back None k l role e s ss xs rest q r =
    after_back k l role (expr.finished e) e s ss xs rest (λ t f. same_tree e (on k l) xs None q ∙ ap (λ o. tree_end o (on k l ∷ xs)) f) r

part_semicolon : (part : Optional) (l : ℕ) (s : Stack) (ss : StmtTrees) (xs rest : List Seen) → RestOnSome (semicolon_skips part s) ss xs rest → Rest (Maybe part s) ss (mark Semicolon l ∷ xs) rest
part_semicolon (Value line) l s ss xs rest r = r_missing r
part_semicolon (First line) l s ss xs rest r = r_missing r
part_semicolon (Test line i) l s ss xs rest r = r_missing r
part_semicolon (Step line i c) l s ss xs rest r = absurd r

part_paren : (part : Optional) (l : ℕ) (s : Stack) (ss : StmtTrees) (xs rest : List Seen) → RestOnSome (paren_skips part s) ss xs rest → Rest (Maybe part s) ss (mark CloseParen l ∷ xs) rest
part_paren (Step line i c) l s ss xs rest r = r_missing r
part_paren _ l s ss xs rest r = absurd r

part_declares : (b : BaseWord) (part : Optional) (l : ℕ) (s : Stack) (ss : StmtTrees) (xs rest : List Seen) → RestOnSome (first_declares b l part s) ss xs rest → Rest (Maybe part s) ss (reserved (words.Base b) l ∷ xs) rest
part_declares b (First line) l s ss xs rest r = let q = declaring_rest r in r_first (declares q.spelled) q.rest
part_declares b _ l s ss xs rest r = absurd r

part_reads : (o : Option expr.State) (x : Seen) (part : Optional) (s : Stack) (ss : StmtTrees) (xs rest : List Seen) → expr.step (expr.Need []) x ≡ o → RestOnSome (reads o (OneOf part) s) ss xs rest → Rest (Maybe part s) ss (x ∷ xs) rest
part_reads None x part s ss xs rest q r = absurd r
part_reads (Some e) x part s ss xs rest q (r_reading p r) =
    r_given (tree_spelled {g = 0} (expr.Need []) (x ∷ xs) (x ∷ xs) _ (needs_more bottom) (same_tree (expr.Need []) x xs (Some e) q ∙ p)).spells r

part_mark : (m : Mark) (l : ℕ) (part : Optional) (s : Stack) (ss : StmtTrees) (xs rest : List Seen) → RestOnSome (maybe (class (sorts.Mark m)) (mark m l) part s) ss xs rest → Rest (Maybe part s) ss (mark m l ∷ xs) rest
part_mark Semicolon l part s ss xs rest r = part_semicolon part l s ss xs rest r
part_mark CloseParen l part s ss xs rest r = part_paren part l s ss xs rest r
part_mark OpenBrace l part s ss xs rest r = absurd r
part_mark CloseBrace l part s ss xs rest r = absurd r
part_mark m l part s ss xs rest r = part_reads (expr.step (expr.Need []) (mark m l)) (mark m l) part s ss xs rest refl r

part_word : (k : Keyword) (l : ℕ) (part : Optional) (s : Stack) (ss : StmtTrees) (xs rest : List Seen) → RestOnSome (maybe (class (sorts.Reserved k)) (reserved k l) part s) ss xs rest → Rest (Maybe part s) ss (reserved k l ∷ xs) rest
part_word (words.Base b) l part s ss xs rest r = part_declares b part l s ss xs rest r
part_word words.Catch l part s ss xs rest r = part_reads _ (reserved words.Catch l) part s ss xs rest refl r
part_word words.Sscanf l part s ss xs rest r = part_reads _ (reserved words.Sscanf l) part s ss xs rest refl r
part_word _ l part s ss xs rest r = absurd r

part_back : (k : Sort) (l : ℕ) (part : Optional) (s : Stack) (ss : StmtTrees) (xs rest : List Seen) → RestOnSome (maybe (class k) (on k l) part s) ss xs rest → Rest (Maybe part s) ss (on k l ∷ xs) rest
part_back (sorts.Mark m) l part s ss xs rest r = part_mark m l part s ss xs rest r
part_back (sorts.Reserved k) l part s ss xs rest r = part_word k l part s ss xs rest r
part_back (sorts.Name w) l part s ss xs rest r = part_reads _ (word w l) part s ss xs rest refl r
part_back (sorts.Text w) l part s ss xs rest r = part_reads _ (text w l) part s ss xs rest refl r
part_back (sorts.Int n) l part s ss xs rest r = part_reads _ (integer n l) part s ss xs rest refl r
part_back sorts.Wrong l part s ss xs rest r = absurd r

names_ended : (k : Sort) (l line : ℕ) (b : BaseWord) (o : Option (List DeclaratorTree)) (d : Names) (whose : Whose) (s : Stack) (ss : StmtTrees) (xs rest : List Seen)
    → ((ds : List DeclaratorTree) → o ≡ Some ds → names_run d (on k l ∷ xs) ≡ Some (record { ones = ds; rest = on k l ∷ xs })) → RestOnSome (after_names k line b o whose s) ss xs rest → Rest (Declaring line b d whose s) ss (on k l ∷ xs) rest
names_ended (sorts.Mark Semicolon) l line b (Some ds) d whose s ss xs rest q r = r_declaring {ds = ds} {l = l} {ys = xs} (q ds refl) r
names_ended _ l line b _ d whose s ss xs rest q r = absurd r

declaring_back : (o : Option Names) (k : Sort) (l line : ℕ) (b : BaseWord) (d : Names) (whose : Whose) (s : Stack) (ss : StmtTrees) (xs rest : List Seen)
    → names_step d (on k l) ≡ o → RestOnSome (names_go o (names_finished d) k line b whose s) ss xs rest → Rest (Declaring line b d whose s) ss (on k l ∷ xs) rest
declaring_back (Some next) k l line b d whose s ss xs rest q (r_declaring p r) =
    r_declaring (ap (λ o. names_then o (λ next. names_run next xs) (names_end (names_finished d) (on k l ∷ xs))) q ∙ p) r
declaring_back None k l line b d whose s ss xs rest q r =
    names_ended k l line b (names_finished d) d whose s ss xs rest (λ ds f. ap (λ o. names_then o (λ next. names_run next xs) (names_end (names_finished d) (on k l ∷ xs))) q ∙ ap (λ o. names_end o (on k l ∷ xs)) f) r

stars_rest : {line at n m : ℕ} {first : Option Each} {b : BaseWord} {w : List ℕ} {s : Stack} {ss : StmtTrees} {ys rest : List Seen} → m ≡ n
    → Rest (EachNamed line first (record { line = at; type_name = Some (record { base = b; stars = m }); name = w }) s) ss ys rest → Rest (EachNamed line first (record { line = at; type_name = Some (record { base = b; stars = n }); name = w }) s) ss ys rest
stars_rest {line} {at} {first} {b} {w} {s} {ss} {ys} {rest} e r = subst (λ k. Rest (EachNamed line first (record { line = at; type_name = Some (record { base = b; stars = k }); name = w }) s) ss ys rest) e r

typed_back : {l line : ℕ} {first : Option Each} {b : BaseWord} {s : Stack} {ss : StmtTrees} {xs rest : List Seen} → Rest (EachStars line first l b 0 s) ss xs rest → Rest (NeedEach line first s) ss (reserved (words.Base b) l ∷ xs) rest
typed_back (r_stars d r) = r_each (stmts.typed (type_of d)) (stars_rest (omega arith) r)

star_back : {l line at n : ℕ} {first : Option Each} {b : BaseWord} {s : Stack} {ss : StmtTrees} {xs rest : List Seen} → Rest (EachStars line first at b (suc n) s) ss xs rest → Rest (EachStars line first at b n s) ss (mark (marks.Binary Mul) l ∷ xs) rest
star_back (r_stars d r) = r_stars (one_star d) (stars_rest (omega arith) r)

need_each_back : (k : Sort) (l line : ℕ) (first : Option Each) (s : Stack) (ss : StmtTrees) (xs rest : List Seen) → RestOnSome (need_each k l line first s) ss xs rest → Rest (NeedEach line first s) ss (on k l ∷ xs) rest
need_each_back (sorts.Name w) l line first s ss xs rest r = r_each stmts.untyped r
need_each_back (sorts.Reserved (words.Base b)) l line first s ss xs rest r = typed_back r
need_each_back _ l line first s ss xs rest r = absurd r

each_stars_back : (k : Sort) (l line : ℕ) (first : Option Each) (at : ℕ) (b : BaseWord) (n : ℕ) (s : Stack) (ss : StmtTrees) (xs rest : List Seen) → RestOnSome (each_stars k line first at b n s) ss xs rest → Rest (EachStars line first at b n s) ss (on k l ∷ xs) rest
each_stars_back (sorts.Mark (marks.Binary Mul)) l line first at b n s ss xs rest r = star_back r
each_stars_back (sorts.Name w) l line first at b n s ss xs rest r = r_stars no_star (stars_rest (omega arith) r)
each_stars_back _ l line first at b n s ss xs rest r = absurd r

another_each_back : (l line : ℕ) (first : Option Each) (e : Each) (s : Stack) (ss : StmtTrees) (xs rest : List Seen) → RestOnSome (one_more_each line first e s) ss xs rest → Rest (EachNamed line first e s) ss (mark Comma l ∷ xs) rest
another_each_back l line None e s ss xs rest r = r_comma r
another_each_back l line (Some f) e s ss xs rest r = absurd r

in_back : (b : Bool) (l line : ℕ) (w : List ℕ) (first : Option Each) (e : Each) (s : Stack) (ss : StmtTrees) (xs rest : List Seen) → (IsTrue b → w ≡ codes "in") → RestOnSome (cond b (Some (Reading (expr.Need []) (over line first e) s)) None) ss xs rest → Rest (EachNamed line first e s) ss (word w l ∷ xs) rest
in_back true l line w first e s ss xs rest h r = subst (λ v. Rest (EachNamed line first e s) ss (word v l ∷ xs) rest) (sym (h refl)) (r_in word_in r)
in_back false l line w first e s ss xs rest h r = absurd r

each_named_back : (k : Sort) (l line : ℕ) (first : Option Each) (e : Each) (s : Stack) (ss : StmtTrees) (xs rest : List Seen) → RestOnSome (each_named k line first e s) ss xs rest → Rest (EachNamed line first e s) ss (on k l ∷ xs) rest
each_named_back (sorts.Mark Comma) l line first e s ss xs rest r = another_each_back l line first e s ss xs rest r
each_named_back (sorts.Mark Colon) l line first e s ss xs rest r = r_in stmts.colon r
each_named_back (sorts.Name w) l line first e s ss xs rest r = in_back (bytes_eq w (codes "in")) l line w first e s ss xs rest (λ h. (bytes_eq-Decides w (codes "in")).0 h) r
each_named_back _ l line first e s ss xs rest r = absurd r

const_back : (k : Sort) (l line : ℕ) (w : Switching) (s : Stack) (ss : StmtTrees) (xs rest : List Seen) → RestOnSome (need_const k line w s) ss xs rest → Rest (NeedConst line w s) ss (on k l ∷ xs) rest
const_back (sorts.Int n) l line w s ss xs rest (r_int d r) = r_const (d _ stmts.int) r
const_back (sorts.Text t) l line w s ss xs rest (r_expect r) = r_const (case_value stmts.string) r
const_back (sorts.Mark (marks.Binary Sub)) l line w s ss xs rest (r_digits d r) = r_const (d l) r
const_back _ l line w s ss xs rest r = absurd r

digits_back : (k : Sort) (l line : ℕ) (w : Switching) (s : Stack) (ss : StmtTrees) (xs rest : List Seen) → RestOnSome (need_digits k line w s) ss xs rest → Rest (NeedDigits line w s) ss (on k l ∷ xs) rest
digits_back (sorts.Int n) l line w s ss xs rest (r_int d r) = r_digits (λ at. d _ stmts.negative) r
digits_back _ l line w s ss xs rest r = absurd r

int_back : (k : Sort) (l line : ℕ) (n : ℤ) (w : Switching) (s : Stack) (ss : StmtTrees) (xs rest : List Seen) → RestOnSome (have_int k line n w s) ss xs rest → Rest (HaveInt line n w s) ss (on k l ∷ xs) rest
int_back (sorts.Mark Colon) l line n w s ss xs rest r = r_int (λ us c. case_value c) r
int_back (sorts.Mark DotDot) l line n w s ss xs rest (r_to d r) = r_int (λ us c. d us l c) r
int_back _ l line n w s ss xs rest r = absurd r

to_back : (k : Sort) (l line : ℕ) (n : ℤ) (w : Switching) (s : Stack) (ss : StmtTrees) (xs rest : List Seen) → RestOnSome (need_to k line n w s) ss xs rest → Rest (NeedTo line n w s) ss (on k l ∷ xs) rest
to_back (sorts.Int m) l line n w s ss xs rest (r_expect r) = r_to (λ us at c. case_range c stmts.int) r
to_back (sorts.Mark (marks.Binary Sub)) l line n w s ss xs rest (r_to_digits d r) = r_to (λ us at c. d us at l c) r
to_back _ l line n w s ss xs rest r = absurd r

to_digits_back : (k : Sort) (l line : ℕ) (n : ℤ) (w : Switching) (s : Stack) (ss : StmtTrees) (xs rest : List Seen) → RestOnSome (need_to_digits k line n w s) ss xs rest → Rest (NeedToDigits line n w s) ss (on k l ∷ xs) rest
to_digits_back (sorts.Int m) l line n w s ss xs rest (r_expect r) = r_to_digits (λ us at at' c. case_range c stmts.negative) r
to_digits_back _ l line n w s ss xs rest r = absurd r

-- A token before the rest of the state that it leads to is the rest of the state before.
pub step_back : (st : State) (k : Sort) (l : ℕ) (ss : StmtTrees) (xs rest : List Seen) → RestOnSome (step st (on k l)) ss xs rest → Rest st ss (on k l ∷ xs) rest
step_back (Need s) k l ss xs rest r = begin_back k l s ss xs rest r
step_back (Have t s) k l ss xs rest r = settle_back (is_else k) k l s ss xs rest refl t r
step_back (Expect m next) k l ss xs rest r = expect_back m k l next ss xs rest r
step_back (Reading e role s) k l ss xs rest r = reading_back (expr.step e (on k l)) k l role e s ss xs rest refl r
step_back (Maybe part s) k l ss xs rest r = part_back k l part s ss xs rest r
step_back (Declaring line b d whose s) k l ss xs rest r = declaring_back (names_step d (on k l)) k l line b d whose s ss xs rest refl r
step_back (NeedEach line first s) k l ss xs rest r = need_each_back k l line first s ss xs rest r
step_back (EachStars line first at b n s) k l ss xs rest r = each_stars_back k l line first at b n s ss xs rest r
step_back (EachNamed line first e s) k l ss xs rest r = each_named_back k l line first e s ss xs rest r
step_back (NeedConst line w s) k l ss xs rest r = const_back k l line w s ss xs rest r
step_back (NeedDigits line w s) k l ss xs rest r = digits_back k l line w s ss xs rest r
step_back (HaveInt line n w s) k l ss xs rest r = int_back k l line n w s ss xs rest r
step_back (NeedTo line n w s) k l ss xs rest r = to_back k l line n w s ss xs rest r
step_back (NeedToDigits line n w s) k l ss xs rest r = to_digits_back k l line n w s ss xs rest r
step_back (Over ts) k l ss xs rest r = absurd r

some_read : {a b : Read} → Some a ≡ Some b → a ≡ b
some_read e = cc

then_rest : (o : Option State) (st : State) (k : Sort) (l : ℕ) (xs : List Seen) (r : Read) → step st (on k l) ≡ o → ((next : State) → run next xs ≡ Some r → Rest next r.stmts xs r.rest) → goes o xs ≡ Some r → Rest st r.stmts (on k l ∷ xs) r.rest
then_rest None st k l xs r q ih e = cc
then_rest (Some next) st k l xs r q ih e = step_back st k l r.stmts xs r.rest (subst (λ o. RestOnSome o r.stmts xs r.rest) (sym q) (ih next e))

-- What is run has its rest.
pub run_rest : (st : State) (xs : List Seen) (r : Read) → run st xs ≡ Some r → Rest st r.stmts xs r.rest
run_rest (Over ss) xs r e = subst (λ q. Rest (Over ss) q.stmts xs q.rest) (some_read e) r_over
run_rest st [] r e = cc
run_rest st (x ∷ xs) r e = then_rest (step st x) st x.sort x.line xs r refl (λ next p. run_rest next xs r p) e

function_spelled : {ss : StmtTrees} {xs rest : List Seen} → Listed in_function (λ more ys. (ss ≡ joined [] more) × (ys ≡ rest)) xs → SpellsStmts in_function ss xs rest
function_spelled {ss} {xs} {rest} q = subst (λ m. SpellsStmts in_function m xs rest) (sym q.rest.0) (subst (λ ys. SpellsStmts in_function q.more xs ys) q.rest.1 q.spelled)

pub rest_spelled : {ss : StmtTrees} {xs rest : List Seen} → Rest start ss xs rest → SpellsStmts in_function ss xs rest
rest_spelled r = function_spelled (function_rest r)

-- What is read is spelled.
pub block_spelled : (ss : StmtTrees) (ts rest : List Seen) → run start ts ≡ Some (record { stmts = ss; rest = rest }) → SpellsStmts in_function ss ts rest
block_spelled ss ts rest e = rest_spelled (run_rest start ts (record { stmts = ss; rest = rest }) e)
