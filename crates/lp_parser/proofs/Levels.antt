-- A token adds exactly the depth of what has to come.
use Rattle.std.proofs.Common.{◌≡◌, ℕ, ◌≤◌, max, List, [], ◌∷◌, ◌++◌, Bool, true, false, refl, ap, subst, arith}
use Rattle.std.specs.Prelude.{Option, Some, None, option_and_then, option_map}
use Rattle.lp_tree.specs.declared.keyword.Modifier.{Modifier as ModifierWord}
use Rattle.lp_tree.specs.declared.keyword.Base.{Base as BaseWord}
use Rattle.lp_tree.specs.declared.keyword.Keyword.{Keyword}
use Rattle.lp_tree.specs.declared.keyword.Keyword.TheVariants as words
use Rattle.lp_tree.specs.declared.operator.BinOp.TheVariants.{Mul}
use Rattle.lp_tree.specs.declared.token.Mark.{Mark}
use Rattle.lp_tree.specs.declared.token.Mark.TheVariants as marks
use Rattle.lp_tree.specs.declared.token.Mark.TheVariants.{OpenParen, CloseParen, OpenBrace, Comma, Semicolon}
use Rattle.lp_tree.specs.declared.seen.Sort.{Sort}
use Rattle.lp_tree.specs.declared.seen.Sort.TheVariants as sorts
use Rattle.lp_tree.specs.declared.seen.Seen.{Seen}
use Rattle.lp_tree.specs.declared.unit.Param.{Param}
use Rattle.lp_tree.specs.Statements.{DeclaratorTree, declarator_heights}
use Rattle.lp_tree.specs.Units.{ItemTree, Inherit, Var, Phase, Inherits, Definitions, item_height, unit_height}
use Rattle.lp_parser_stmt.specs.Machine as stmts
use Rattle.lp_parser_stmt.specs.Depth as depths
use Rattle.lp_parser_stmt.specs.Depth.{names_height}
use Rattle.lp_parser_stmt.specs.Machine.{Names, AtOne, names_step, names_finished, mark_in}
use Rattle.lp_parser_stmt.proofs.Laws.{reads_names, reads_blocks}
use Rattle.lp_parser.specs.Machine.{Before, Head, State, Top, NeedPath, EndInherit, Modified, Typed, NeedOpen, NeedParam, NextParam, ParamStars, BehindParam, HaveParams, InBody, inherits, word_at_top, at_top, need_path, end_inherit, word_modified, modified, named_head, is_paren, after_names, names_go, typed_goes, need_open, need_param, next_param, param_stars, behind_param, have_params, proto_of, fun_of, body, step, run}
use Rattle.lp_parser.specs.Depth.{here, least}

pub height-push : (is : List ItemTree) (i : ItemTree) → unit_height (is ++ i ∷ []) ≡ max (unit_height is) (item_height i)
height-push [] i = omega arith
height-push (j ∷ is) i = omega (arith, height-push is i)

abbrev Rises : ℕ → Option State → Type 0
Rises n None = Unit {0}
Rises n (Some st) = least st ≡ max n (here st)

inherits-rise : (p : Phase) (b : Before) (line : ℕ) → Rises (unit_height b.done) (inherits p b line)
inherits-rise Inherits b line = omega arith
inherits-rise Definitions b line = tt

word-rises : (k : Keyword) (l : ℕ) (b : Before) → Rises (unit_height b.done) (word_at_top k l b)
word-rises (words.Modifier m) l b = omega arith
word-rises (words.Base t) l b = omega arith
word-rises words.Inherit l b = inherits-rise b.phase b l
word-rises _ l b = tt

top-rises : (k : Sort) (l : ℕ) (b : Before) → Rises (unit_height b.done) (at_top k l b)
top-rises (sorts.Reserved k) l b = word-rises k l b
top-rises (sorts.Name w) l b = omega arith
top-rises _ l b = tt

path-rises : (k : Sort) (b : Before) (line : ℕ) → Rises (unit_height b.done) (need_path k b line)
path-rises (sorts.Text w) b line = omega arith
path-rises _ b line = tt

end-rises : (k : Sort) (b : Before) (line : ℕ) (w : List ℕ) → Rises (unit_height b.done) (end_inherit k b line w)
end-rises (sorts.Mark Semicolon) b line w = omega (arith, height-push b.done (Inherit line w))
end-rises _ b line w = tt

word_modified-rises : (k : Keyword) (b : Before) (line : ℕ) (ms : List ModifierWord) → Rises (unit_height b.done) (word_modified k b line ms)
word_modified-rises (words.Modifier m) b line ms = omega arith
word_modified-rises (words.Base t) b line ms = omega arith
word_modified-rises _ b line ms = tt

modified-rises : (k : Sort) (b : Before) (line : ℕ) (ms : List ModifierWord) → Rises (unit_height b.done) (modified k b line ms)
modified-rises (sorts.Reserved k) b line ms = word_modified-rises k b line ms
modified-rises (sorts.Name w) b line ms = omega arith
modified-rises _ b line ms = tt

names-end : (m : Option Mark) (o : Option (List DeclaratorTree)) (b : Before) (line : ℕ) (ms : List ModifierWord) (t : BaseWord) (n : ℕ) → ((ds : List DeclaratorTree) → o ≡ Some ds → declarator_heights ds ≡ n) → Rises (max (unit_height b.done) n) (after_names m o b line ms t)
names-end (Some Semicolon) (Some ds) b line ms t n h = omega (arith, height-push b.done (Var line ms t ds), h ds refl)
names-end (Some Semicolon) None b line ms t n h = tt
names-end (Some _) o b line ms t n h = tt
names-end None o b line ms t n h = tt

names-rise : (o : Option Names) (m : Option Mark) (d : Names) (x : Seen) (b : Before) (line : ℕ) (ms : List ModifierWord) (t : BaseWord) → names_step d x ≡ o → Rises (max (unit_height b.done) (names_height d)) (names_go o m (names_finished d) b line ms t)
names-rise (Some next) m d x b line ms t e = omega (arith, reads_names.levels d next x e)
names-rise None m d x b line ms t e = names-end m (names_finished d) b line ms t (names_height d) (λ ds f. reads_names.whole d ds f)

abbrev IsHead : Option Head → Type 0
IsHead None = ⊥
IsHead (Some h) = Unit {0}

typed-rises : (c : Bool) (h : Option Head) (o : Option State) (b : Before) (n : ℕ) → (IsHead h → n ≡ 0) → Rises (max (unit_height b.done) n) o → Rises (max (unit_height b.done) n) (typed_goes c h o b)
typed-rises true (Some h) o b n z r = omega (arith, z tt)
typed-rises true None o b n z r = r
typed-rises false (Some h) o b n z r = r
typed-rises false None o b n z r = r

head-flat : (d : Names) (line : ℕ) (ms : List ModifierWord) (t : BaseWord) → IsHead (named_head d line ms t) → names_height d ≡ 0
head-flat (stmts.Named [] at n w) line ms t h = refl
head-flat (stmts.Named (y ∷ done) at n w) line ms t h = absurd h
head-flat (AtOne done) line ms t h = absurd h
head-flat (stmts.AtStars done at n) line ms t h = absurd h
head-flat (stmts.Valued done at n w v) line ms t h = absurd h

open-rises : (k : Sort) (b : Before) (h : Head) → Rises (unit_height b.done) (need_open k b h)
open-rises (sorts.Mark OpenParen) b h = omega arith
open-rises _ b h = tt

next-rises : (k : Sort) (l : ℕ) (b : Before) (h : Head) (ps : List Param) → Rises (unit_height b.done) (next_param k l b h ps)
next-rises (sorts.Name w) l b h ps = omega arith
next-rises (sorts.Reserved (words.Base t)) l b h ps = omega arith
next-rises _ l b h ps = tt

param-rises : (k : Sort) (l : ℕ) (b : Before) (h : Head) → Rises (unit_height b.done) (need_param k l b h)
param-rises (sorts.Mark CloseParen) l b h = omega arith
param-rises (sorts.Name w) l b h = omega arith
param-rises (sorts.Reserved (words.Base t)) l b h = omega arith
param-rises _ l b h = tt

param_stars-rise : (k : Sort) (b : Before) (h : Head) (ps : List Param) (at : ℕ) (t : BaseWord) (n : ℕ) → Rises (unit_height b.done) (param_stars k b h ps at t n)
param_stars-rise (sorts.Mark (marks.Binary Mul)) b h ps at t n = omega arith
param_stars-rise (sorts.Name w) b h ps at t n = omega arith
param_stars-rise _ b h ps at t n = tt

behind-rises : (k : Sort) (b : Before) (h : Head) (ps : List Param) → Rises (unit_height b.done) (behind_param k b h ps)
behind-rises (sorts.Mark Comma) b h ps = omega arith
behind-rises (sorts.Mark CloseParen) b h ps = omega arith
behind-rises _ b h ps = tt

have-rises : (k : Sort) (l : ℕ) (b : Before) (h : Head) (ps : List Param) → Rises (unit_height b.done) (have_params k l b h ps)
have-rises (sorts.Mark Semicolon) l b h ps = omega (arith, height-push b.done (proto_of h ps))
have-rises (sorts.Mark OpenBrace) l b h ps = omega arith
have-rises _ l b h ps = tt

in_body-rises : (b : Before) (h : Head) (ps : List Param) (line : ℕ) (st next : stmts.State) (x : Seen) → stmts.step st x ≡ Some next → Rises (max (unit_height b.done) (depths.least st)) (Some (body b h ps line next))
in_body-rises b h ps line st (stmts.Over ss) x e = omega (arith, height-push b.done (fun_of h ps line ss), reads_blocks.levels st (stmts.Over ss) x e, reads_blocks.positive st)
in_body-rises b h ps line st next x e = omega (arith, reads_blocks.levels st next x e)

body-rises : (o : Option stmts.State) (b : Before) (h : Head) (ps : List Param) (line : ℕ) (st : stmts.State) (x : Seen) → stmts.step st x ≡ o → Rises (max (unit_height b.done) (depths.least st)) (option_map (body b h ps line) o)
body-rises None b h ps line st x e = tt
body-rises (Some next) b h ps line st x e = in_body-rises b h ps line st next x e

step-rises : (st : State) (x : Seen) → Rises (least st) (step st x)
step-rises (Top b) x = top-rises x.sort x.line b
step-rises (NeedPath b line) x = path-rises x.sort b line
step-rises (EndInherit b line w) x = end-rises x.sort b line w
step-rises (Modified b line ms) x = modified-rises x.sort b line ms
step-rises (Typed b line ms t d) x = typed-rises (is_paren (mark_in x.sort)) (named_head d line ms t) _ b (names_height d) (head-flat d line ms t) (names-rise (names_step d x) (mark_in x.sort) d x b line ms t refl)
step-rises (NeedOpen b h) x = open-rises x.sort b h
step-rises (NeedParam b h) x = param-rises x.sort x.line b h
step-rises (NextParam b h ps) x = next-rises x.sort x.line b h ps
step-rises (ParamStars b h ps at t n) x = param_stars-rise x.sort b h ps at t n
step-rises (BehindParam b h ps) x = behind-rises x.sort b h ps
step-rises (HaveParams b h ps) x = have-rises x.sort x.line b h ps
step-rises (InBody b h ps line st) x = body-rises (stmts.step st x) b h ps line st x refl

-- A token makes the levels the greater of those before and the depth of what has to come.
pub step-levels : (st next : State) (x : Seen) → step st x ≡ Some next → least next ≡ max (least st) (here next)
step-levels st next x e = subst (λ o. Rises (least st) o) e (step-rises st x)

some_items : {a c : List ItemTree} → Some a ≡ Some c → a ≡ c
some_items e = cc

then-least : (o : Option State) (st : State) (x : Seen) (xs : List Seen) (is : List ItemTree) → step st x ≡ o → ((next : State) → run next xs ≡ Some is → least next ≤ unit_height is) → option_and_then (λ n. run n xs) o ≡ Some is → least st ≤ unit_height is
then-least None st x xs is q ih e = cc
then-least (Some next) st x xs is q ih e = omega (arith, ih next e, step-levels st next x q)

-- What is read in the end is at least as deep as each state on the way.
pub run-least : (st : State) (xs : List Seen) (is : List ItemTree) → run st xs ≡ Some is → least st ≤ unit_height is
run-least (Top b) [] is e = omega (arith, ap unit_height (some_items e))
run-least st [] is e = cc
run-least st (x ∷ xs) is e = then-least (step st x) st x xs is refl (λ next p. run-least next xs is p) e
