-- How a token ends productions.
use Rattle.std.proofs.Common.{◌≡◌, ℕ, suc, ◌≤◌, ◌<◌, List, [], ◌∷◌, Bool, true, false, cond, refl, ap, ◌∙◌, arith}
use Rattle.std.specs.Prelude.{Some, option_and_then, IsTrue}
use Rattle.std.proofs.lemmas.Bool.{le-leb, lt-leb}
use Rattle.lp_tree.specs.declared.operator.BinOp.{BinOp}
use Rattle.lp_tree.specs.declared.operator.BinOp.TheVariants as ops
use Rattle.lp_tree.specs.declared.seen.Seen.{Seen}
use Rattle.lp_tree.specs.Trees.{Tree, Int, Name, Index, PreStep, Unary, Cast, Binary, AndThen, OrElse, Cond, Assign, Sequence, Trees, level, rank, is_place}
use Rattle.lp_parser_expr.specs.Machine.{Callee, Function, called, infix_level, infix_tree, Frame, Stepping, LeftOf, Stack, wants_of, needs, needs_of, plug, Held, settle, Have, binds, act, act_held, step, whole_held, run}
use Rattle.lp_parser_expr.specs.declared.infix.Infix.{Infix}
use Rattle.lp_parser_expr.specs.declared.infix.Infix.TheVariants.{Plain}

abbrev pub held : Tree → Stack → Held
held t s = record { tree = t; stack = s }

pub settle-stays : (p : ℕ) (t : Tree) (s : Stack) → needs_of s ≤ p → settle p t s ≡ Some (held t s)
settle-stays p t [] h = refl
settle-stays p t (f ∷ s) h = ap (λ b. cond b (Some (held t (f ∷ s))) (option_and_then (λ u. settle p u s) (plug f t))) (le-leb (needs f) p h)

pub settle-ends : (p : ℕ) (t u : Tree) (f : Frame) (s : Stack) → p < needs f → plug f t ≡ Some u → settle p t (f ∷ s) ≡ settle p u s
settle-ends p t u f s h e = ap (λ b. cond b (Some (held t (f ∷ s))) (option_and_then (λ v. settle p v s) (plug f t))) (lt-leb (needs f) p h) ∙ ap (option_and_then (λ v. settle p v s)) e

-- the level of the token that follows
abbrev pub follow : List Seen → ℕ
follow [] = 0
follow (x ∷ xs) = binds x.sort

pub run-ends : (t u : Tree) (f : Frame) (s : Stack) (rest : List Seen) → follow rest < needs f → plug f t ≡ Some u → run (Have t (f ∷ s)) rest ≡ run (Have u s) rest
run-ends t u f s [] h e = ap (option_and_then whole_held) (settle-ends 0 t u f s h e)
run-ends t u f s (x ∷ xs) h e = ap (λ o. option_and_then (λ next. run next xs) (option_and_then (act_held x.sort) o)) (settle-ends (binds x.sort) t u f s h e)

pub step-stays : (t : Tree) (s : Stack) (x : Seen) → needs_of s ≤ binds x.sort → step (Have t s) x ≡ act x.sort t s
step-stays t s x h = ap (option_and_then (act_held x.sort)) (settle-stays (binds x.sort) t s h)

pub run-stays : (t : Tree) (s : Stack) (x : Seen) (rest : List Seen) → needs_of s ≤ binds x.sort → run (Have t s) (x ∷ rest) ≡ option_and_then (λ next. run next rest) (act x.sort t s)
run-stays t s x rest h = ap (option_and_then (λ next. run next rest)) (step-stays t s x h)

-- a token of this level or above goes on with the last part of the tree
abbrev pub reach : Tree → ℕ
reach (Sequence line parts) = 1
reach (Assign line op p v) = 2
reach (Cond line t y n) = 3
reach (OrElse line l r) = 5
reach (AndThen line l r) = 6
reach (Binary line op l r) = suc (level op)
reach (Unary line op t) = 14
reach (Cast line ty t) = 14
reach (PreStep line s t) = 15
reach _ = 16

pub level-least : (op : BinOp) → 6 ≤ level op
level-least ops.Or = omega arith
level-least _ = omega arith

pub level≤13 : (op : BinOp) → level op ≤ 13
level≤13 ops.Or = omega arith
level≤13 _ = omega arith

pub infix-least : (op : Infix) → 4 ≤ infix_level op
infix-least (Plain op) = omega (arith, level-least op)
infix-least _ = omega arith

pub infix≤13 : (op : Infix) → infix_level op ≤ 13
infix≤13 (Plain op) = level≤13 op
infix≤13 _ = omega arith

pub rank≤reach : (t : Tree) → rank t ≤ reach t
rank≤reach (Binary line op l r) = omega arith
rank≤reach _ = omega arith

pub left<reach : (t : Tree) (n : ℕ) → 4 ≤ n → n ≤ 13 → n ≤ rank t → n < reach t
left<reach (Binary line op l r) n g k h = omega arith
left<reach _ n g k h = omega arith

pub postfix-reach : (t : Tree) → 15 ≤ rank t → 15 < reach t
postfix-reach (Binary line op l r) h = absurd (omega (arith, level≤13 op))
postfix-reach (Int line n) h = omega arith
postfix-reach _ h = omega arith

pub 0<reach : (t : Tree) → 0 < reach t
0<reach (Binary line op l r) = omega arith
0<reach _ = omega arith

pub place-rank : (p : Tree) → IsTrue (is_place p) → rank p ≡ 15
place-rank (Name line w) h = refl
place-rank (Index line t e i) h = refl
place-rank _ h = cc

pub needs≤wants : (s : Stack) → needs_of s ≤ wants_of s
needs≤wants [] = omega arith
needs≤wants (Stepping line st ∷ s) = omega arith
needs≤wants (_ ∷ s) = omega arith

pub wants-most : (s : Stack) → wants_of s ≤ 15
wants-most [] = omega arith
wants-most (LeftOf op l ∷ s) = omega (arith, infix≤13 op)
wants-most (_ ∷ s) = omega arith

pub needs-most : (s : Stack) → needs_of s ≤ 15
needs-most s = omega (arith, needs≤wants s, wants-most s)

pub called-rank : (c : Callee) (w : List ℕ) (args : Trees) → rank (called c w args) ≡ 15
called-rank (Function line) w args = refl
called-rank _ w args = refl

pub infix-rank : (op : Infix) (l r : Tree) → rank (infix_tree op l r) ≡ infix_level op
infix-rank (Plain op) l r = refl
infix-rank _ l r = refl

pub if-true : {A : Type 0} (b : Bool) (x y : A) → IsTrue b → cond b x y ≡ x
if-true true x y h = refl
if-true false x y h = cc
