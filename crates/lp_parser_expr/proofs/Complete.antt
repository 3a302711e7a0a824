-- What is spelled is read.
use Rattle.std.proofs.Common.{◌≡◌, ℕ, suc, ◌+◌, ◌≤◌, ◌<◌, List, [], ◌∷◌, ◌++◌, cond, refl, ap, ◌∙◌, arith}
use Rattle.std.specs.Prelude.{Some, option_and_then, nat_le, IsTrue, codes}
use Rattle.std.proofs.lemmas.Bool.{le-leb}
use Rattle.lp_tree.specs.declared.keyword.Keyword.TheVariants as words
use Rattle.lp_tree.specs.declared.keyword.Base.{Base as BaseWord}
use Rattle.lp_tree.specs.declared.operator.UnOp.{UnOp}
use Rattle.lp_tree.specs.declared.operator.BinOp.TheVariants.{Lt, Mul}
use Rattle.lp_tree.specs.declared.types.TypeName.{TypeName}
use Rattle.lp_tree.specs.declared.expr.Edge.{Edge}
use Rattle.lp_tree.specs.declared.expr.Edge.TheVariants.{Front, Back}
use Rattle.lp_tree.specs.declared.token.Mark.{Mark}
use Rattle.lp_tree.specs.declared.token.Mark.TheVariants as marks
use Rattle.lp_tree.specs.declared.token.Mark.TheVariants.{OpenParen, CloseParen, OpenBrace, CloseBrace, OpenBracket, CloseBracket, Comma, Colon, ColonColon, DotDot, Arrow, Question}
use Rattle.lp_tree.specs.declared.seen.Seen.{Seen}
use Rattle.lp_tree.specs.Seen.{word, text, integer, mark, reserved}
use Rattle.lp_tree.specs.Types.{SpellsStars, none as no_star, one_more as one_star, SpellsType, typed}
use Rattle.lp_tree.specs.Trees.{Tree, Int, Text, Name, Paren, Array, Mapping, Catch, Sscanf, Index, Range, PostStep, PreStep, Unary, Cast, Binary, AndThen, OrElse, Cond, Assign, Sequence, Trees, NoTree, OneMore, Pairs, NoPair, OnePair, End, Open, At, trees, pairs, level, rank, line_of, is_place}
use Rattle.lp_tree.specs.Expressions.{IsUnary, exclamation, tilde, minus, SpellsEdge, from_front, from_back, Spells, int, string, name, paren, array, mapping, call, efun_call, parent_call, named_parent_call, catch, sscanf, index, range, call_other, post_step, pre_step, unary, cast, binary, and_then, or_else, cond as conditional, assign, sequence, SpellsParts, final, further, SpellsItems, none, last, more, SpellsPairs, no_pair, last_pair, more_pairs, SpellsPlaces, no_place, comma_last, one_place, SpellsEnd, missing, given}
use Rattle.lp_parser_expr.specs.Machine.{Callee, Function, Efun, Parent, NamedParent, Other, called, Frame, InParen, InArray, AtKey, AtValue, InArgs, InCatch, ScanText, ScanForm, ScanPlaces, InIndex, InRange, Stepping, UnaryOf, Casting, LeftOf, Testing, Choosing, Assigning, InSequence, Stack, wants_of, needs, needs_of, plug, State, Need, Have, EndCast, EndLiteral, NeedName, NeedParen, binds, begin_mark, closed, after_comma, act, step, run}
use Rattle.lp_parser_expr.specs.declared.infix.Infix.TheVariants.{Plain, And, Or}
use Rattle.lp_parser_expr.proofs.Settle.{follow, run-ends, step-stays, reach, level-least, level≤13, rank≤reach, left<reach, postfix-reach, 0<reach, place-rank, needs≤wants, wants-most, needs-most, if-true}

-- items in front of items
abbrev pub joined : List Tree → Trees → Trees
joined [] us = us
joined (d ∷ ds) us = OneMore d (joined ds us)

pub joined-none : (ds : List Tree) → trees ds ≡ joined ds NoTree
joined-none [] = refl
joined-none (d ∷ ds) = ap (OneMore d) (joined-none ds)

pub joined-last : (ds : List Tree) (t : Tree) → trees (ds ++ t ∷ []) ≡ joined ds (OneMore t NoTree)
joined-last [] t = refl
joined-last (d ∷ ds) t = ap (OneMore d) (joined-last ds t)

pub joined-more : (ds : List Tree) (t : Tree) (us : Trees) → joined (ds ++ t ∷ []) us ≡ joined ds (OneMore t us)
joined-more [] t us = refl
joined-more (d ∷ ds) t us = ap (OneMore d) (joined-more ds t us)

-- pairs in front of pairs
abbrev pub pairs_joined : List (Tree × Tree) → Pairs → Pairs
pairs_joined [] ps = ps
pairs_joined (d ∷ ds) ps = OnePair d.0 d.1 (pairs_joined ds ps)

pub pairs_joined-none : (ds : List (Tree × Tree)) → pairs ds ≡ pairs_joined ds NoPair
pairs_joined-none [] = refl
pairs_joined-none (d ∷ ds) = ap (OnePair d.0 d.1) (pairs_joined-none ds)

pub pairs_joined-last : (ds : List (Tree × Tree)) (k v : Tree) → pairs (ds ++ (k, v) ∷ []) ≡ pairs_joined ds (OnePair k v NoPair)
pairs_joined-last [] k v = refl
pairs_joined-last (d ∷ ds) k v = ap (OnePair d.0 d.1) (pairs_joined-last ds k v)

pub pairs_joined-more : (ds : List (Tree × Tree)) (k v : Tree) (ps : Pairs) → pairs_joined (ds ++ (k, v) ∷ []) ps ≡ pairs_joined ds (OnePair k v ps)
pairs_joined-more [] k v ps = refl
pairs_joined-more (d ∷ ds) k v ps = ap (OnePair d.0 d.1) (pairs_joined-more ds k v ps)

if-le : {A : Type 0} (m n : ℕ) (x y : A) → m ≤ n → cond (nat_le m n) x y ≡ x
if-le m n x y h = ap (λ b. cond b x y) (le-leb m n h)

prefix_begins : {m : Mark} {op : UnOp} → IsUnary m op → (line : ℕ) (s : Stack) → wants_of s ≤ 14 → begin_mark m line s ≡ Some (Need (UnaryOf line op ∷ s))
prefix_begins exclamation line s h = if-le (wants_of s) 14 _ _ h
prefix_begins tilde line s h = if-le (wants_of s) 14 _ _ h
prefix_begins minus line s h = if-le (wants_of s) 14 _ _ h

pub sequence_begins : (t : Tree) (s : Stack) → wants_of s ≤ 0 → after_comma t s ≡ Some (Need (InSequence (line_of t) (t ∷ []) ∷ s))
sequence_begins t [] h = refl
sequence_begins t (InParen line ∷ s) h = refl
sequence_begins t (InCatch line ∷ s) h = refl
sequence_begins t (InIndex of e ∷ s) h = refl
sequence_begins t (InRange of a e ∷ s) h = refl
sequence_begins t (Testing c ∷ s) h = refl
sequence_begins t (_ ∷ s) h = absurd (omega arith)

follow-places : {ps : Trees} {ts rest : List Seen} → SpellsPlaces ps ts rest → follow ts ≤ 1
follow-places no_place = omega arith
follow-places comma_last = omega arith
follow-places (one_place d h g) = omega arith

-- how a scan goes on behind its form, or behind a place
record GoesOn (line : ℕ) (t f : Tree) (done : List Tree) (s : Stack) (x : Tree) (top : Frame) : Type 0 where
  free : needs top ≡ 0
  closes : closed x (top ∷ s) ≡ Some (Have (Sscanf line t f (trees done)) s)
  goes : after_comma x (top ∷ s) ≡ Some (Need (ScanPlaces line t f done ∷ s))

behind_form : (line : ℕ) (t f : Tree) (s : Stack) → GoesOn line t f [] s f (ScanForm line t)
behind_form line t f s = record { free = refl; closes = refl; goes = refl }

behind_place : (line : ℕ) (t f : Tree) (done : List Tree) (s : Stack) (p : Tree) → IsTrue (is_place p) → GoesOn line t f (done ++ p ∷ []) s p (ScanPlaces line t f done)
behind_place line t f done s p h = record { free = refl; closes = if-true (is_place p) _ _ h; goes = if-true (is_place p) _ _ h }

-- A reader moves as the machine does, and looks at a tree only through the productions that the next token leaves open.
pub record IsReader {X : Type 0} (R : State → List Seen → X) : Type 0 where
  pub goes : (st next : State) (x : Seen) (xs : List Seen) → step st x ≡ Some next → R st (x ∷ xs) ≡ R next xs
  pub ends : (t u : Tree) (f : Frame) (s : Stack) (rest : List Seen) → follow rest < needs f → plug f t ≡ Some u → R (Have t (f ∷ s)) rest ≡ R (Have u s) rest

module _ {X : Type 0} (R : State → List Seen → X) (m : IsReader R) where
  have : (t : Tree) (s : Stack) (x : Seen) (next : State) (rest : List Seen) → needs_of s ≤ binds x.sort → act x.sort t s ≡ Some next → R (Have t s) (x ∷ rest) ≡ R next rest
  have t s x next rest h e = m.goes (Have t s) next x rest (step-stays t s x h ∙ e)

  stars : {n l : ℕ} {ts us : List Seen} → SpellsStars n ts (mark CloseParen l ∷ us) → (line : ℕ) (b : BaseWord) (k all : ℕ) (s : Stack) → all ≡ k + n → R (EndCast line (record { base = b; stars = k }) s) ts ≡ R (Need (Casting line (record { base = b; stars = all }) ∷ s)) us
  stars {l} {us} no_star line b k all s e =
      m.goes (EndCast line (record { base = b; stars = k }) s) (Need (Casting line (record { base = b; stars = k }) ∷ s)) (mark CloseParen l) us refl
      ∙ ap (λ j. R (Need (Casting line (record { base = b; stars = j }) ∷ s)) us) (omega arith)
  stars (one_star {l = l2} {ts} d) line b k all s e =
      m.goes (EndCast line (record { base = b; stars = k }) s) (EndCast line (record { base = b; stars = suc k }) s) (mark (marks.Binary Mul) l2) ts refl
      ∙ stars d line b (suc k) all s (omega arith)

  type_read : {ty : TypeName} {l : ℕ} {ts us : List Seen} → SpellsType ty ts (mark CloseParen l ∷ us) → (line : ℕ) (s : Stack) → wants_of s ≤ 14 → R (Need (InParen line ∷ s)) ts ≡ R (Need (Casting line ty ∷ s)) us
  type_read (typed {b} {n} {l = l2} {ts} d) line s h =
      m.goes (Need (InParen line ∷ s)) (EndCast line (record { base = b; stars = 0 }) s) (reserved (words.Base b) l2) ts (if-le (wants_of s) 14 _ _ h)
      ∙ stars d line b 0 n s (omega arith)

  index_edge : {e : Edge} {ts us : List Seen} → SpellsEdge e ts us → (of : Tree) (s : Stack) → R (Need (InIndex of Front ∷ s)) ts ≡ R (Need (InIndex of e ∷ s)) us
  index_edge from_front of s = refl
  index_edge (from_back {l} {rest}) of s = m.goes (Need (InIndex of Front ∷ s)) (Need (InIndex of Back ∷ s)) (mark (marks.Binary Lt) l) rest refl

  range_edge : {e : Edge} {ts us : List Seen} → SpellsEdge e ts us → (of : Tree) (a : End) (s : Stack) → R (Need (InRange of a Front ∷ s)) ts ≡ R (Need (InRange of a e ∷ s)) us
  range_edge from_front of a s = refl
  range_edge (from_back {l} {rest}) of a s = m.goes (Need (InRange of a Front ∷ s)) (Need (InRange of a Back ∷ s)) (mark (marks.Binary Lt) l) rest refl

  named : (c : Callee) (w : List ℕ) (l l' : ℕ) (ts : List Seen) (s : Stack) → R (NeedName c s) (word w l ∷ mark OpenParen l' ∷ ts) ≡ R (Need (InArgs c w [] ∷ s)) ts
  named c w l l' ts s =
      m.goes (NeedName c s) (NeedParen (InArgs c w []) s) (word w l) (mark OpenParen l' ∷ ts) refl
      ∙ m.goes (NeedParen (InArgs c w []) s) (Need (InArgs c w [] ∷ s)) (mark OpenParen l') ts refl

  mutual
    pub complete : {t : Tree} {ts rest : List Seen} → Spells t ts rest → (s : Stack) → wants_of s ≤ rank t → follow rest < reach t → R (Need s) ts ≡ R (Have t s) rest
    complete (int {line} {n} {rest}) s h f = m.goes (Need s) (Have (Int line n) s) (integer n line) rest refl
    complete (string {line} {w} {rest}) s h f = m.goes (Need s) (Have (Text line w) s) (text w line) rest refl
    complete (name {line} {w} {rest}) s h f = m.goes (Need s) (Have (Name line w) s) (word w line) rest refl
    complete (paren {line} {l} {t} {ts} {rest} d) s h f =
        m.goes (Need s) (Need (InParen line ∷ s)) (mark OpenParen line) ts refl
        ∙ complete d (InParen line ∷ s) (omega arith) (0<reach t)
        ∙ have t (InParen line ∷ s) (mark CloseParen l) (Have (Paren line t) s) rest (omega arith) refl
    complete (array {line} {l} {items} {ts} d) s h f =
        m.goes (Need s) (Need (InParen line ∷ s)) (mark OpenParen line) (mark OpenBrace l ∷ ts) refl
        ∙ m.goes (Need (InParen line ∷ s)) (Need (InArray line [] ∷ s)) (mark OpenBrace l) ts refl
        ∙ complete_array d line [] s
    complete (mapping {line} {l} {pairs} {ts} d) s h f =
        m.goes (Need s) (Need (InParen line ∷ s)) (mark OpenParen line) (mark OpenBracket l ∷ ts) refl
        ∙ m.goes (Need (InParen line ∷ s)) (Need (AtKey line [] ∷ s)) (mark OpenBracket l) ts refl
        ∙ complete_pairs d line [] s
    complete (call {line} {l} {w} {ts} d) s h f =
        m.goes (Need s) (Have (Name line w) s) (word w line) (mark OpenParen l ∷ ts) refl
        ∙ have (Name line w) s (mark OpenParen l) (Need (InArgs (Function line) w [] ∷ s)) ts (needs-most s) refl
        ∙ complete_args d (Function line) w [] s
    complete (efun_call {line} {l} {l'} {l''} {w} {ts} d) s h f =
        m.goes (Need s) (Have (Name line (codes "efun")) s) (word (codes "efun") line) (mark ColonColon l ∷ word w l' ∷ mark OpenParen l'' ∷ ts) refl
        ∙ have (Name line (codes "efun")) s (mark ColonColon l) (NeedName (Efun line) s) (word w l' ∷ mark OpenParen l'' ∷ ts) (needs-most s) refl
        ∙ named (Efun line) w l' l'' ts s
        ∙ complete_args d (Efun line) w [] s
    complete (parent_call {line} {l} {l'} {w} {ts} d) s h f =
        m.goes (Need s) (NeedName (Parent line) s) (mark ColonColon line) (word w l ∷ mark OpenParen l' ∷ ts) refl
        ∙ named (Parent line) w l l' ts s
        ∙ complete_args d (Parent line) w [] s
    complete (named_parent_call {line} {l} {l'} {l''} {p} {w} {ts} d) s h f =
        m.goes (Need s) (Have (Text line p) s) (text p line) (mark ColonColon l ∷ word w l' ∷ mark OpenParen l'' ∷ ts) refl
        ∙ have (Text line p) s (mark ColonColon l) (NeedName (NamedParent line p) s) (word w l' ∷ mark OpenParen l'' ∷ ts) (needs-most s) refl
        ∙ named (NamedParent line p) w l' l'' ts s
        ∙ complete_args d (NamedParent line p) w [] s
    complete (catch {line} {l} {l'} {t} {ts} {rest} d) s h f =
        m.goes (Need s) (NeedParen (InCatch line) s) (reserved words.Catch line) (mark OpenParen l ∷ ts) refl
        ∙ m.goes (NeedParen (InCatch line) s) (Need (InCatch line ∷ s)) (mark OpenParen l) ts refl
        ∙ complete d (InCatch line ∷ s) (omega arith) (0<reach t)
        ∙ have t (InCatch line ∷ s) (mark CloseParen l') (Have (Catch line t) s) rest (omega arith) refl
    complete (sscanf {line} {l} {l'} {t} {f = f'} {places} {ts} {us} {vs} {rest} d h1 e h2 g) s h f =
        m.goes (Need s) (NeedParen (ScanText line) s) (reserved words.Sscanf line) (mark OpenParen l ∷ ts) refl
        ∙ m.goes (NeedParen (ScanText line) s) (Need (ScanText line ∷ s)) (mark OpenParen l) ts refl
        ∙ complete d (ScanText line ∷ s) h1 (omega (arith, rank≤reach t))
        ∙ have t (ScanText line ∷ s) (mark Comma l') (Need (ScanForm line t ∷ s)) us (omega arith) refl
        ∙ complete e (ScanForm line t ∷ s) h2 (omega (arith, rank≤reach f', follow-places g))
        ∙ complete_places g line t f' [] s f' (ScanForm line t) (behind_form line t f' s)
    complete (index {t} {i} {e} {l} {l'} {us} {rest} d h1 w g) s h f =
        complete d s (omega (arith, wants-most s)) (postfix-reach t h1)
        ∙ have t s (mark OpenBracket l) (Need (InIndex t Front ∷ s)) us (needs-most s) refl
        ∙ index_edge w t s
        ∙ complete g (InIndex t e ∷ s) (omega arith) (0<reach i)
        ∙ have i (InIndex t e ∷ s) (mark CloseBracket l') (Have (Index (line_of t) t e i) s) rest (omega arith) refl
    complete (range {t} {a} {l} {us} d h1 e g) s h f =
        complete d s (omega (arith, wants-most s)) (postfix-reach t h1)
        ∙ have t s (mark OpenBracket l) (Need (InIndex t Front ∷ s)) us (needs-most s) refl
        ∙ complete_from e t s
        ∙ complete_to g t a s
    complete (call_other {t} {w} {l} {l'} {l''} {us} d h1 g) s h f =
        complete d s (omega (arith, wants-most s)) (postfix-reach t h1)
        ∙ have t s (mark Arrow l) (NeedName (Other t) s) (word w l' ∷ mark OpenParen l'' ∷ us) (needs-most s) refl
        ∙ named (Other t) w l' l'' us s
        ∙ complete_args g (Other t) w [] s
    complete (post_step {t} {s = st} {l} {rest} d h1) s h f =
        complete d s (omega (arith, wants-most s, place-rank t h1)) (postfix-reach t (omega (arith, place-rank t h1)))
        ∙ have t s (mark (marks.Step st) l) (Have (PostStep (line_of t) st t) s) rest (needs-most s) (if-true (is_place t) _ _ h1)
    complete (pre_step {t} {s = st} {line} {ts} {rest} d h1) s h f =
        m.goes (Need s) (Need (Stepping line st ∷ s)) (mark (marks.Step st) line) ts (if-le (wants_of s) 14 _ _ h)
        ∙ complete d (Stepping line st ∷ s) (omega (arith, place-rank t h1)) (omega (arith, rank≤reach t, place-rank t h1))
        ∙ m.ends t (PreStep line st t) (Stepping line st) s rest (omega arith) (if-true (is_place t) _ _ h1)
    complete (unary {t} {m = k} {op} {line} {ts} {rest} w d h1) s h f =
        m.goes (Need s) (Need (UnaryOf line op ∷ s)) (mark k line) ts (prefix_begins w line s h)
        ∙ complete d (UnaryOf line op ∷ s) h1 (omega (arith, rank≤reach t))
        ∙ m.ends t (Unary line op t) (UnaryOf line op) s rest (omega arith) refl
    complete (cast {t} {ty} {line} {ts} {rest} w d h1) s h f =
        m.goes (Need s) (Need (InParen line ∷ s)) (mark OpenParen line) ts refl
        ∙ type_read w line s h
        ∙ complete d (Casting line ty ∷ s) h1 (omega (arith, rank≤reach t))
        ∙ m.ends t (Cast line ty t) (Casting line ty) s rest (omega arith) refl
    complete (binary {op} {l} {r} {at} {us} {rest} d h1 e h2) s h f =
        complete d s (omega arith) (left<reach l (level op) (omega (arith, level-least op)) (level≤13 op) h1)
        ∙ have l s (mark (marks.Binary op) at) (Need (LeftOf (Plain op) l ∷ s)) us (omega (arith, needs≤wants s)) (if-le (wants_of s) (level op) _ _ h)
        ∙ complete e (LeftOf (Plain op) l ∷ s) (omega arith) (omega (arith, rank≤reach r))
        ∙ m.ends r (Binary (line_of l) op l r) (LeftOf (Plain op) l) s rest f refl
    complete (and_then {l} {r} {at} {us} {rest} d h1 e h2) s h f =
        complete d s (omega arith) (left<reach l 5 (omega arith) (omega arith) h1)
        ∙ have l s (mark marks.AndThen at) (Need (LeftOf And l ∷ s)) us (omega (arith, needs≤wants s)) (if-le (wants_of s) 5 _ _ h)
        ∙ complete e (LeftOf And l ∷ s) (omega arith) (omega (arith, rank≤reach r))
        ∙ m.ends r (AndThen (line_of l) l r) (LeftOf And l) s rest f refl
    complete (or_else {l} {r} {at} {us} {rest} d h1 e h2) s h f =
        complete d s (omega arith) (left<reach l 4 (omega arith) (omega arith) h1)
        ∙ have l s (mark marks.OrElse at) (Need (LeftOf Or l ∷ s)) us (omega (arith, needs≤wants s)) (if-le (wants_of s) 4 _ _ h)
        ∙ complete e (LeftOf Or l ∷ s) (omega arith) (omega (arith, rank≤reach r))
        ∙ m.ends r (OrElse (line_of l) l r) (LeftOf Or l) s rest f refl
    complete (conditional {t} {y} {n} {at} {colon} {us} {vs} {rest} d h1 e g h2) s h f =
        complete d s (omega arith) (left<reach t 4 (omega arith) (omega arith) h1)
        ∙ have t s (mark Question at) (Need (Testing t ∷ s)) us (omega (arith, needs≤wants s)) (if-le (wants_of s) 3 _ _ h)
        ∙ complete e (Testing t ∷ s) (omega arith) (0<reach y)
        ∙ have y (Testing t ∷ s) (mark Colon colon) (Need (Choosing t y ∷ s)) vs (omega arith) refl
        ∙ complete g (Choosing t y ∷ s) h2 (omega (arith, rank≤reach n))
        ∙ m.ends n (Cond (line_of t) t y n) (Choosing t y) s rest f refl
    complete (assign {p} {v} {op} {at} {us} {rest} d h1 e h2) s h f =
        complete d s (omega (arith, place-rank p h1)) (omega (arith, rank≤reach p, place-rank p h1))
        ∙ have p s (mark (marks.Assign op) at) (Need (Assigning op p ∷ s)) us (omega (arith, needs≤wants s)) (if-true (is_place p) _ _ h1 ∙ if-le (wants_of s) 2 _ _ h)
        ∙ complete e (Assigning op p ∷ s) h2 (omega (arith, rank≤reach v))
        ∙ m.ends v (Assign (line_of p) op p v) (Assigning op p) s rest f refl
    complete (sequence {t} {l} {us} d h1 g) s h f =
        complete d s (omega arith) (omega (arith, rank≤reach t))
        ∙ have t s (mark Comma l) (Need (InSequence (line_of t) (t ∷ []) ∷ s)) us (omega (arith, needs≤wants s)) (sequence_begins t s h)
        ∙ complete_parts g (line_of t) (t ∷ []) s f

    complete_parts : {us : Trees} {ts rest : List Seen} → SpellsParts us ts rest → (line : ℕ) (done : List Tree) (s : Stack) → follow rest < 1 → R (Need (InSequence line done ∷ s)) ts ≡ R (Have (Sequence line (joined done us)) s) rest
    complete_parts (final {t} {rest} d h) line done s f =
        complete d (InSequence line done ∷ s) h (omega (arith, 0<reach t))
        ∙ m.ends t (Sequence line (trees (done ++ t ∷ []))) (InSequence line done) s rest f refl
        ∙ ap (λ us. R (Have (Sequence line us) s) rest) (joined-last done t)
    complete_parts {rest} (further {t} {parts} {l} {us} d h g) line done s f =
        complete d (InSequence line done ∷ s) h (omega (arith, rank≤reach t))
        ∙ have t (InSequence line done ∷ s) (mark Comma l) (Need (InSequence line (done ++ t ∷ []) ∷ s)) us (omega arith) refl
        ∙ complete_parts g line (done ++ t ∷ []) s f
        ∙ ap (λ us. R (Have (Sequence line us) s) rest) (joined-more done t parts)

    complete_args : {us : Trees} {ts rest : List Seen} → SpellsItems CloseParen us ts rest → (c : Callee) (w : List ℕ) (done : List Tree) (s : Stack) → R (Need (InArgs c w done ∷ s)) ts ≡ R (Have (called c w (joined done us)) s) rest
    complete_args (none {l} {rest}) c w done s =
        m.goes (Need (InArgs c w done ∷ s)) (Have (called c w (trees done)) s) (mark CloseParen l) rest refl
        ∙ ap (λ us. R (Have (called c w us) s) rest) (joined-none done)
    complete_args (last {t} {l} {rest} d h) c w done s =
        complete d (InArgs c w done ∷ s) h (0<reach t)
        ∙ have t (InArgs c w done ∷ s) (mark CloseParen l) (Have (called c w (trees (done ++ t ∷ []))) s) rest (omega arith) refl
        ∙ ap (λ us. R (Have (called c w us) s) rest) (joined-last done t)
    complete_args (more {t} {us} {l} {rest} {rest'} d h e) c w done s =
        complete d (InArgs c w done ∷ s) h (omega (arith, rank≤reach t))
        ∙ have t (InArgs c w done ∷ s) (mark Comma l) (Need (InArgs c w (done ++ t ∷ []) ∷ s)) rest (omega arith) refl
        ∙ complete_args e c w (done ++ t ∷ []) s
        ∙ ap (λ vs. R (Have (called c w vs) s) rest') (joined-more done t us)

    complete_array : {us : Trees} {ts rest : List Seen} {l : ℕ} → SpellsItems CloseBrace us ts (mark CloseParen l ∷ rest) → (line : ℕ) (done : List Tree) (s : Stack) → R (Need (InArray line done ∷ s)) ts ≡ R (Have (Array line (joined done us)) s) rest
    complete_array {rest} {l} (none {l = l2}) line done s =
        m.goes (Need (InArray line done ∷ s)) (EndLiteral (Array line (trees done)) s) (mark CloseBrace l2) (mark CloseParen l ∷ rest) refl
        ∙ m.goes (EndLiteral (Array line (trees done)) s) (Have (Array line (trees done)) s) (mark CloseParen l) rest refl
        ∙ ap (λ us. R (Have (Array line us) s) rest) (joined-none done)
    complete_array {rest} {l} (last {t} {l = l2} d h) line done s =
        complete d (InArray line done ∷ s) h (0<reach t)
        ∙ have t (InArray line done ∷ s) (mark CloseBrace l2) (EndLiteral (Array line (trees (done ++ t ∷ []))) s) (mark CloseParen l ∷ rest) (omega arith) refl
        ∙ m.goes (EndLiteral (Array line (trees (done ++ t ∷ []))) s) (Have (Array line (trees (done ++ t ∷ []))) s) (mark CloseParen l) rest refl
        ∙ ap (λ us. R (Have (Array line us) s) rest) (joined-last done t)
    complete_array {rest} (more {t} {us} {l = l2} {rest = mid} d h e) line done s =
        complete d (InArray line done ∷ s) h (omega (arith, rank≤reach t))
        ∙ have t (InArray line done ∷ s) (mark Comma l2) (Need (InArray line (done ++ t ∷ []) ∷ s)) mid (omega arith) refl
        ∙ complete_array e line (done ++ t ∷ []) s
        ∙ ap (λ vs. R (Have (Array line vs) s) rest) (joined-more done t us)

    complete_pairs : {ps : Pairs} {ts rest : List Seen} {l : ℕ} → SpellsPairs ps ts (mark CloseParen l ∷ rest) → (line : ℕ) (done : List (Tree × Tree)) (s : Stack) → R (Need (AtKey line done ∷ s)) ts ≡ R (Have (Mapping line (pairs_joined done ps)) s) rest
    complete_pairs {rest} {l} (no_pair {l = l2}) line done s =
        m.goes (Need (AtKey line done ∷ s)) (EndLiteral (Mapping line (pairs done)) s) (mark CloseBracket l2) (mark CloseParen l ∷ rest) refl
        ∙ m.goes (EndLiteral (Mapping line (pairs done)) s) (Have (Mapping line (pairs done)) s) (mark CloseParen l) rest refl
        ∙ ap (λ ps. R (Have (Mapping line ps) s) rest) (pairs_joined-none done)
    complete_pairs {rest} {l} (last_pair {k} {v} {l = l2} {l' = l3} {us} d h1 e h2) line done s =
        complete d (AtKey line done ∷ s) h1 (0<reach k)
        ∙ have k (AtKey line done ∷ s) (mark Colon l2) (Need (AtValue line done k ∷ s)) us (omega arith) refl
        ∙ complete e (AtValue line done k ∷ s) h2 (0<reach v)
        ∙ have v (AtValue line done k ∷ s) (mark CloseBracket l3) (EndLiteral (Mapping line (pairs (done ++ (k, v) ∷ []))) s) (mark CloseParen l ∷ rest) (omega arith) refl
        ∙ m.goes (EndLiteral (Mapping line (pairs (done ++ (k, v) ∷ []))) s) (Have (Mapping line (pairs (done ++ (k, v) ∷ []))) s) (mark CloseParen l) rest refl
        ∙ ap (λ ps. R (Have (Mapping line ps) s) rest) (pairs_joined-last done k v)
    complete_pairs {rest} (more_pairs {k} {v} {ps} {l = l2} {l' = l3} {us} {vs} d h1 e h2 g) line done s =
        complete d (AtKey line done ∷ s) h1 (0<reach k)
        ∙ have k (AtKey line done ∷ s) (mark Colon l2) (Need (AtValue line done k ∷ s)) us (omega arith) refl
        ∙ complete e (AtValue line done k ∷ s) h2 (omega (arith, rank≤reach v))
        ∙ have v (AtValue line done k ∷ s) (mark Comma l3) (Need (AtKey line (done ++ (k, v) ∷ []) ∷ s)) vs (omega arith) refl
        ∙ complete_pairs g line (done ++ (k, v) ∷ []) s
        ∙ ap (λ ps. R (Have (Mapping line ps) s) rest) (pairs_joined-more done k v ps)

    complete_places : {ps : Trees} {ts rest : List Seen} → SpellsPlaces ps ts rest → (line : ℕ) (t f : Tree) (done : List Tree) (s : Stack) (x : Tree) (top : Frame) → GoesOn line t f done s x top → R (Have x (top ∷ s)) ts ≡ R (Have (Sscanf line t f (joined done ps)) s) rest
    complete_places (no_place {l} {rest}) line t f done s x top g =
        have x (top ∷ s) (mark CloseParen l) (Have (Sscanf line t f (trees done)) s) rest (omega (arith, g.free)) g.closes
        ∙ ap (λ ps. R (Have (Sscanf line t f ps) s) rest) (joined-none done)
    complete_places (comma_last {l} {l'} {rest}) line t f done s x top g =
        have x (top ∷ s) (mark Comma l) (Need (ScanPlaces line t f done ∷ s)) (mark CloseParen l' ∷ rest) (omega (arith, g.free)) g.goes
        ∙ m.goes (Need (ScanPlaces line t f done ∷ s)) (Have (Sscanf line t f (trees done)) s) (mark CloseParen l') rest refl
        ∙ ap (λ ps. R (Have (Sscanf line t f ps) s) rest) (joined-none done)
    complete_places {rest} (one_place {p} {ps} {l} {ts} d h e) line t f done s x top g =
        have x (top ∷ s) (mark Comma l) (Need (ScanPlaces line t f done ∷ s)) ts (omega (arith, g.free)) g.goes
        ∙ complete d (ScanPlaces line t f done ∷ s) (omega (arith, place-rank p h)) (omega (arith, rank≤reach p, place-rank p h, follow-places e))
        ∙ complete_places e line t f (done ++ p ∷ []) s p (ScanPlaces line t f done) (behind_place line t f done s p h)
        ∙ ap (λ ps. R (Have (Sscanf line t f ps) s) rest) (joined-more done p ps)

    complete_from : {a : End} {ts us : List Seen} {l : ℕ} → SpellsEnd a ts (mark DotDot l ∷ us) → (of : Tree) (s : Stack) → R (Need (InIndex of Front ∷ s)) ts ≡ R (Need (InRange of a Front ∷ s)) us
    complete_from {us} {l} missing of s = m.goes (Need (InIndex of Front ∷ s)) (Need (InRange of Open Front ∷ s)) (mark DotDot l) us refl
    complete_from {us} {l} (given {e} {t} w d) of s =
        index_edge w of s
        ∙ complete d (InIndex of e ∷ s) (omega arith) (0<reach t)
        ∙ have t (InIndex of e ∷ s) (mark DotDot l) (Need (InRange of (At e t) Front ∷ s)) us (omega arith) refl

    complete_to : {b : End} {ts rest : List Seen} {l : ℕ} → SpellsEnd b ts (mark CloseBracket l ∷ rest) → (of : Tree) (a : End) (s : Stack) → R (Need (InRange of a Front ∷ s)) ts ≡ R (Have (Range (line_of of) of a b) s) rest
    complete_to {rest} {l} missing of a s = m.goes (Need (InRange of a Front ∷ s)) (Have (Range (line_of of) of a Open) s) (mark CloseBracket l) rest refl
    complete_to {rest} {l} (given {e} {t} w d) of a s =
        range_edge w of a s
        ∙ complete d (InRange of a e ∷ s) (omega arith) (0<reach t)
        ∙ have t (InRange of a e ∷ s) (mark CloseBracket l) (Have (Range (line_of of) of a (At e t)) s) rest (omega arith) refl

run_goes : (st next : State) (x : Seen) (xs : List Seen) → step st x ≡ Some next → run st (x ∷ xs) ≡ run next xs
run_goes st next x xs e = ap (option_and_then (λ n. run n xs)) e

pub run_reads : IsReader run
run_reads = record { goes = run_goes; ends = run-ends }
