-- Each state that was reached can be brought to an end, as shallow as it says.
use Rattle.std.proofs.Common.{◌≡◌, ℕ, ◌+◌, ◌≤◌, List, [], ◌∷◌, ◌++◌, Bool, true, false, refl, ap, sym, ◌∙◌, subst, arith}
use Rattle.std.specs.Prelude.{Option, Some, None, option_and_then, option_map, codes}
use Rattle.lp_tree.specs.declared.keyword.Modifier.{Modifier as ModifierWord}
use Rattle.lp_tree.specs.declared.keyword.Base.{Base as BaseWord}
use Rattle.lp_tree.specs.declared.keyword.Keyword.{Keyword}
use Rattle.lp_tree.specs.declared.keyword.Keyword.TheVariants as words
use Rattle.lp_tree.specs.declared.operator.BinOp.TheVariants.{Mul}
use Rattle.lp_tree.specs.declared.token.Mark.{Mark}
use Rattle.lp_tree.specs.declared.token.Mark.TheVariants as marks
use Rattle.lp_tree.specs.declared.token.Mark.TheVariants.{OpenParen, CloseParen, OpenBrace, Comma, Semicolon}
use Rattle.lp_tree.specs.declared.seen.Sort.{Sort}
use Rattle.lp_tree.specs.declared.seen.Sort.TheVariants as sorts
use Rattle.lp_tree.specs.declared.seen.Seen.{Seen}
use Rattle.lp_tree.specs.declared.unit.Param.{Param}
use Rattle.lp_tree.specs.Seen.{word, text, mark}
use Rattle.lp_tree.specs.Types.{none as no_star}
use Rattle.lp_tree.specs.Statements.{DeclaratorTree}
use Rattle.lp_tree.specs.Units as units
use Rattle.lp_tree.specs.Units.{ItemTree, Inherit, Var, Phase, Inherits, Definitions, no_item, no_type, unit_height}
use Rattle.lp_parser_stmt.specs.Machine as stmts
use Rattle.lp_parser_stmt.specs.Machine.{Names, AtOne, names_step, names_finished, names_walk, mark_in}
use Rattle.lp_parser_stmt.proofs.Laws.{reads_names, reads_blocks}
use Rattle.lp_parser.specs.Machine.{Before, with_item, Head, untyped_head, State, Top, NeedPath, EndInherit, Modified, Typed, NeedOpen, NeedParam, NextParam, ParamStars, BehindParam, HaveParams, InBody, inherits, word_at_top, at_top, need_path, end_inherit, word_modified, modified, named_head, is_paren, after_names, names_go, typed_goes, need_open, need_param, next_param, param_stars, behind_param, have_params, param, proto_of, fun_of, body, step, walk}
use Rattle.lp_parser.specs.Depth.{least}
use Rattle.lp_parser.proofs.Levels.{height-push}
use Rattle.lp_parser.proofs.Sound.{Rest, r_top, r_path, r_inherit, r_name, r_var, r_open, r_no_params, r_next, r_param_stars, r_params, r_proto, r_body, RestOnSome, step_back}

append_end : (l : List ItemTree) → l ++ [] ≡ l
append_end [] = refl
append_end (x ∷ l) = ap (λ m. x ∷ m) (append_end l)

-- some tokens make a state's items
pub record Made (st : State) : Type 0 where
  pub tokens : List Seen
  pub items : List ItemTree
  pub rest : Rest st items tokens
  pub shallow : unit_height items ≤ least st

top_made : (b : Before) → Made (Top b)
top_made b = record { tokens = []; items = b.done; rest = r_top no_item (sym (append_end b.done)); shallow = omega arith }

inherit_made : (b : Before) (line : ℕ) (w : List ℕ) → Made (EndInherit b line w)
inherit_made b line w =
    let q = top_made (with_item b (Inherit line w)) in
    record { tokens = mark Semicolon 0 ∷ q.tokens; items = q.items; rest = r_inherit q.rest; shallow = omega (arith, q.shallow, height-push b.done (Inherit line w)) }

have_made : (b : Before) (h : Head) (ps : List Param) → Made (HaveParams b h ps)
have_made b h ps =
    let q = top_made (with_item b (proto_of h ps)) in
    record { tokens = mark Semicolon 0 ∷ q.tokens; items = q.items; rest = r_proto q.rest; shallow = omega (arith, q.shallow, height-push b.done (proto_of h ps)) }

behind_made : (b : Before) (h : Head) (ps : List Param) → Made (BehindParam b h ps)
behind_made b h ps = let q = have_made b h ps in record { tokens = mark CloseParen 0 ∷ q.tokens; items = q.items; rest = r_params q.rest; shallow = q.shallow }

need_made : (b : Before) (h : Head) → Made (NeedParam b h)
need_made b h = let q = have_made b h [] in record { tokens = mark CloseParen 0 ∷ q.tokens; items = q.items; rest = r_no_params q.rest; shallow = q.shallow }

open_made : (b : Before) (h : Head) → Made (NeedOpen b h)
open_made b h = let q = need_made b h in record { tokens = mark OpenParen 0 ∷ q.tokens; items = q.items; rest = r_open q.rest; shallow = q.shallow }

typed_made : (b : Before) (line : ℕ) (ms : List ModifierWord) (t : BaseWord) (d : Names) (front : List Seen) → names_walk (AtOne []) front ≡ Some d → Made (Typed b line ms t d)
typed_made b line ms t d front w =
    let f = reads_names.begun front d w in
    let q = top_made (with_item b (Var line ms t f.1)) in
    record { tokens = f.0 ++ mark Semicolon 0 ∷ q.tokens; items = q.items; rest = r_var (f.2 q.tokens) q.rest; shallow = omega (arith, q.shallow, f.3, height-push b.done (Var line ms t f.1)) }

body_made : (b : Before) (h : Head) (ps : List Param) (line : ℕ) (st : stmts.State) (front : List Seen) → stmts.walk stmts.start front ≡ Some st → Made (InBody b h ps line st)
body_made b h ps line st front w =
    let f = reads_blocks.begun front st w in
    let i = fun_of h ps line f.1 in
    record { tokens = f.0; items = b.done ++ i ∷ []; rest = r_body {b = b} {ss = f.1} {ys = []} f.2 (r_top no_item (sym (append_end (b.done ++ i ∷ [])))); shallow = omega (arith, f.3, height-push b.done i) }

-- what is known of the state that was reached
abbrev pub Reached : State → Type 0
Reached (Typed b line ms t d) = (front : List Seen) × (names_walk (AtOne []) front ≡ Some d)
Reached (InBody b h ps line st) = (front : List Seen) × (stmts.walk stmts.start front ≡ Some st)
Reached _ = Unit {0}

pub some_end : (st : State) → Reached st → Made st
some_end (Top b) r = top_made b
some_end (NeedPath b line) r = let q = inherit_made b line [] in record { tokens = text [] 0 ∷ q.tokens; items = q.items; rest = r_path q.rest; shallow = q.shallow }
some_end (EndInherit b line w) r = inherit_made b line w
some_end (Modified b line ms) r = let q = open_made b (untyped_head line ms (codes "a")) in record { tokens = word (codes "a") 0 ∷ q.tokens; items = q.items; rest = r_name q.rest; shallow = q.shallow }
some_end (Typed b line ms t d) r = typed_made b line ms t d r.0 r.1
some_end (NeedOpen b h) r = open_made b h
some_end (NeedParam b h) r = need_made b h
some_end (NextParam b h ps) r =
    let q = behind_made b h (ps ++ param 0 None (codes "a") ∷ []) in record { tokens = word (codes "a") 0 ∷ q.tokens; items = q.items; rest = r_next (units.param no_type) q.rest; shallow = q.shallow }
some_end (ParamStars b h ps at t n) r =
    let q = behind_made b h (ps ++ param at (Some (record { base = t; stars = n + 0 })) (codes "a") ∷ []) in record { tokens = word (codes "a") 0 ∷ q.tokens; items = q.items; rest = r_param_stars no_star q.rest; shallow = q.shallow }
some_end (BehindParam b h ps) r = behind_made b h ps
some_end (HaveParams b h ps) r = have_made b h ps
some_end (InBody b h ps line st) r = body_made b h ps line st r.0 r.1

-- what is known of the state that is next
abbrev ReachedOnSome : Option State → Type 0
ReachedOnSome None = Unit {0}
ReachedOnSome (Some st) = Reached st

inherits_reached : (p : Phase) (b : Before) (line : ℕ) → ReachedOnSome (inherits p b line)
inherits_reached Inherits b line = tt
inherits_reached Definitions b line = tt

word_reached : (k : Keyword) (l : ℕ) (b : Before) → ReachedOnSome (word_at_top k l b)
word_reached (words.Modifier m) l b = tt
word_reached (words.Base t) l b = ([], refl)
word_reached words.Inherit l b = inherits_reached b.phase b l
word_reached _ l b = tt

top_reached : (k : Sort) (l : ℕ) (b : Before) → ReachedOnSome (at_top k l b)
top_reached (sorts.Reserved k) l b = word_reached k l b
top_reached (sorts.Name w) l b = tt
top_reached _ l b = tt

path_reached : (k : Sort) (b : Before) (line : ℕ) → ReachedOnSome (need_path k b line)
path_reached (sorts.Text w) b line = tt
path_reached _ b line = tt

end_reached : (k : Sort) (b : Before) (line : ℕ) (w : List ℕ) → ReachedOnSome (end_inherit k b line w)
end_reached (sorts.Mark Semicolon) b line w = tt
end_reached _ b line w = tt

word_modified_reached : (k : Keyword) (b : Before) (line : ℕ) (ms : List ModifierWord) → ReachedOnSome (word_modified k b line ms)
word_modified_reached (words.Modifier m) b line ms = tt
word_modified_reached (words.Base t) b line ms = ([], refl)
word_modified_reached _ b line ms = tt

modified_reached : (k : Sort) (b : Before) (line : ℕ) (ms : List ModifierWord) → ReachedOnSome (modified k b line ms)
modified_reached (sorts.Reserved k) b line ms = word_modified_reached k b line ms
modified_reached (sorts.Name w) b line ms = tt
modified_reached _ b line ms = tt

some_names : {a c : Names} → Some a ≡ Some c → a ≡ c
some_names e = cc

one_name : (d next : Names) (x : Seen) → names_step d x ≡ Some next → names_walk d (x ∷ []) ≡ Some next
one_name d next x e = ap (option_and_then (λ n. Some n)) e

names_walked : (o : Option Names) (ys : List Seen) (x : Seen) (e next : Names) → ((n : Names) → names_walk n ys ≡ Some e → names_walk n (ys ++ x ∷ []) ≡ Some next) → option_and_then (λ n. names_walk n ys) o ≡ Some e → option_and_then (λ n. names_walk n (ys ++ x ∷ [])) o ≡ Some next
names_walked None ys x e next ih p = cc
names_walked (Some n) ys x e next ih p = ih n p

names_more : (d : Names) (front : List Seen) (e next : Names) (x : Seen) → names_walk d front ≡ Some e → names_step e x ≡ Some next → names_walk d (front ++ x ∷ []) ≡ Some next
names_more d [] e next x w q = ap (λ u. names_walk u (x ∷ [])) (some_names w) ∙ one_name e next x q
names_more d (y ∷ ys) e next x w q = names_walked (names_step d y) ys x e next (λ n p. names_more n ys e next x p q) w

some_state : {a c : stmts.State} → Some a ≡ Some c → a ≡ c
some_state e = cc

one_stmt : (st next : stmts.State) (x : Seen) → stmts.step st x ≡ Some next → stmts.walk st (x ∷ []) ≡ Some next
one_stmt st next x e = ap (option_and_then (λ n. Some n)) e

stmts_walked : (o : Option stmts.State) (ys : List Seen) (x : Seen) (e next : stmts.State) → ((n : stmts.State) → stmts.walk n ys ≡ Some e → stmts.walk n (ys ++ x ∷ []) ≡ Some next) → option_and_then (λ n. stmts.walk n ys) o ≡ Some e → option_and_then (λ n. stmts.walk n (ys ++ x ∷ [])) o ≡ Some next
stmts_walked None ys x e next ih p = cc
stmts_walked (Some n) ys x e next ih p = ih n p

stmts_more : (st : stmts.State) (front : List Seen) (e next : stmts.State) (x : Seen) → stmts.walk st front ≡ Some e → stmts.step e x ≡ Some next → stmts.walk st (front ++ x ∷ []) ≡ Some next
stmts_more st [] e next x w q = ap (λ u. stmts.walk u (x ∷ [])) (some_state w) ∙ one_stmt e next x q
stmts_more st (y ∷ ys) e next x w q = stmts_walked (stmts.step st y) ys x e next (λ n p. stmts_more n ys e next x p q) w

after_reached : (m : Option Mark) (o : Option (List DeclaratorTree)) (b : Before) (line : ℕ) (ms : List ModifierWord) (t : BaseWord) → ReachedOnSome (after_names m o b line ms t)
after_reached (Some Semicolon) (Some ds) b line ms t = tt
after_reached (Some Semicolon) None b line ms t = tt
after_reached (Some _) o b line ms t = tt
after_reached None o b line ms t = tt

names_reached : (o : Option Names) (m : Option Mark) (f : Option (List DeclaratorTree)) (d : Names) (x : Seen) (front : List Seen) (b : Before) (line : ℕ) (ms : List ModifierWord) (t : BaseWord) → names_walk (AtOne []) front ≡ Some d → names_step d x ≡ o → ReachedOnSome (names_go o m f b line ms t)
names_reached (Some next) m f d x front b line ms t w e = (front ++ x ∷ [], names_more (AtOne []) front d next x w e)
names_reached None m f d x front b line ms t w e = after_reached m f b line ms t

typed_reached : (c : Bool) (h : Option Head) (o : Option State) (b : Before) → ReachedOnSome o → ReachedOnSome (typed_goes c h o b)
typed_reached true (Some h) o b r = tt
typed_reached true None o b r = r
typed_reached false (Some h) o b r = r
typed_reached false None o b r = r

open_reached : (k : Sort) (b : Before) (h : Head) → ReachedOnSome (need_open k b h)
open_reached (sorts.Mark OpenParen) b h = tt
open_reached _ b h = tt

next_reached : (k : Sort) (l : ℕ) (b : Before) (h : Head) (ps : List Param) → ReachedOnSome (next_param k l b h ps)
next_reached (sorts.Name w) l b h ps = tt
next_reached (sorts.Reserved (words.Base t)) l b h ps = tt
next_reached _ l b h ps = tt

need_reached : (k : Sort) (l : ℕ) (b : Before) (h : Head) → ReachedOnSome (need_param k l b h)
need_reached (sorts.Mark CloseParen) l b h = tt
need_reached (sorts.Name w) l b h = tt
need_reached (sorts.Reserved (words.Base t)) l b h = tt
need_reached _ l b h = tt

stars_reached : (k : Sort) (b : Before) (h : Head) (ps : List Param) (at : ℕ) (t : BaseWord) (n : ℕ) → ReachedOnSome (param_stars k b h ps at t n)
stars_reached (sorts.Mark (marks.Binary Mul)) b h ps at t n = tt
stars_reached (sorts.Name w) b h ps at t n = tt
stars_reached _ b h ps at t n = tt

behind_reached : (k : Sort) (b : Before) (h : Head) (ps : List Param) → ReachedOnSome (behind_param k b h ps)
behind_reached (sorts.Mark Comma) b h ps = tt
behind_reached (sorts.Mark CloseParen) b h ps = tt
behind_reached _ b h ps = tt

have_reached : (k : Sort) (l : ℕ) (b : Before) (h : Head) (ps : List Param) → ReachedOnSome (have_params k l b h ps)
have_reached (sorts.Mark Semicolon) l b h ps = tt
have_reached (sorts.Mark OpenBrace) l b h ps = ([], refl)
have_reached _ l b h ps = tt

in_reached : (b : Before) (h : Head) (ps : List Param) (line : ℕ) (st : stmts.State) (front : List Seen) → stmts.walk stmts.start front ≡ Some st → Reached (body b h ps line st)
in_reached b h ps line (stmts.Over ss) front w = tt
in_reached b h ps line st front w = (front, w)

body_reached : (o : Option stmts.State) (b : Before) (h : Head) (ps : List Param) (line : ℕ) (st : stmts.State) (x : Seen) (front : List Seen) → stmts.walk stmts.start front ≡ Some st → stmts.step st x ≡ o → ReachedOnSome (option_map (body b h ps line) o)
body_reached None b h ps line st x front w e = tt
body_reached (Some next) b h ps line st x front w e = in_reached b h ps line next (front ++ x ∷ []) (stmts_more stmts.start front st next x w e)

step_reached : (st : State) (x : Seen) → Reached st → ReachedOnSome (step st x)
step_reached (Top b) x r = top_reached x.sort x.line b
step_reached (NeedPath b line) x r = path_reached x.sort b line
step_reached (EndInherit b line w) x r = end_reached x.sort b line w
step_reached (Modified b line ms) x r = modified_reached x.sort b line ms
step_reached (Typed b line ms t d) x r = typed_reached (is_paren (mark_in x.sort)) (named_head d line ms t) _ b (names_reached (names_step d x) (mark_in x.sort) (names_finished d) d x r.0 b line ms t r.1 refl)
step_reached (NeedOpen b h) x r = open_reached x.sort b h
step_reached (NeedParam b h) x r = need_reached x.sort x.line b h
step_reached (NextParam b h ps) x r = next_reached x.sort x.line b h ps
step_reached (ParamStars b h ps at t n) x r = stars_reached x.sort b h ps at t n
step_reached (BehindParam b h ps) x r = behind_reached x.sort b h ps
step_reached (HaveParams b h ps) x r = have_reached x.sort x.line b h ps
step_reached (InBody b h ps line st) x r = body_reached (stmts.step st x) b h ps line st x r.0 r.1 refl

same_state : {a c : State} → Some a ≡ Some c → a ≡ c
same_state e = cc

then_reached : (o : Option State) (xs : List Seen) (next : State) → ReachedOnSome o → ((st : State) → Reached st → walk st xs ≡ Some next → Reached next) → option_and_then (λ n. walk n xs) o ≡ Some next → Reached next
then_reached None xs next r ih e = cc
then_reached (Some st) xs next r ih e = ih st r e

pub walk_reached : (st next : State) (xs : List Seen) → Reached st → walk st xs ≡ Some next → Reached next
walk_reached st next [] r e = subst (λ u. Reached u) (same_state e) r
walk_reached st next (x ∷ xs) r e = then_reached (step st x) xs next (step_reached st x r) (λ u q p. walk_reached u next xs q p) e

-- the rest of the state to which tokens lead is, with the tokens, the rest of the state before
unwalk-then : (o : Option State) (st next : State) (x : Seen) (xs ys : List Seen) (is : List ItemTree) → step st x ≡ o → ((u : State) → walk u xs ≡ Some next → Rest u is (xs ++ ys)) → option_and_then (λ n. walk n xs) o ≡ Some next → Rest st is (x ∷ xs ++ ys)
unwalk-then None st next x xs ys is q ih e = cc
unwalk-then (Some u) st next x xs ys is q ih e = step_back st x.sort x.line is (xs ++ ys) (subst (λ o. RestOnSome o is (xs ++ ys)) (sym q) (ih u e))

pub unwalk : (st next : State) (xs ys : List Seen) (is : List ItemTree) → walk st xs ≡ Some next → Rest next is ys → Rest st is (xs ++ ys)
unwalk st next [] ys is e r = subst (λ u. Rest u is ys) (sym (same_state e)) r
unwalk st next (x ∷ xs) ys is e r = unwalk-then (step st x) st next x xs ys is refl (λ u p. unwalk u next xs ys is p r) e
