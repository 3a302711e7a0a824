-- No token makes what was read shallower.
use Rattle.std.proofs.Common.{◌≡◌, ℕ, suc, ◌≤◌, ◌<◌, max, List, [], ◌∷◌, ◌++◌, Bool, true, false, cond, refl, ap, sym, ◌∙◌, subst, arith}
use Rattle.std.specs.Prelude.{Option, Some, None, option_and_then, nat_le, codes, bytes_eq}
use Rattle.std.proofs.lemmas.Bool.{leb-false}
use Rattle.lp_tree.specs.declared.keyword.Keyword.{Keyword}
use Rattle.lp_tree.specs.declared.keyword.Keyword.TheVariants as words
use Rattle.lp_tree.specs.declared.keyword.Base.{Base as BaseWord}
use Rattle.lp_tree.specs.declared.operator.UnOp.{UnOp}
use Rattle.lp_tree.specs.declared.operator.UnOp.TheVariants.{Not, Flip, Neg}
use Rattle.lp_tree.specs.declared.operator.BinOp.{BinOp}
use Rattle.lp_tree.specs.declared.operator.BinOp.TheVariants.{Sub, Lt, Mul}
use Rattle.lp_tree.specs.declared.operator.AssignOp.{AssignOp}
use Rattle.lp_tree.specs.declared.operator.Step.{Step}
use Rattle.lp_tree.specs.declared.types.TypeName.{TypeName}
use Rattle.lp_tree.specs.declared.expr.Edge.TheVariants.{Front}
use Rattle.lp_tree.specs.declared.token.Mark.{Mark}
use Rattle.lp_tree.specs.declared.token.Mark.TheVariants as marks
use Rattle.lp_tree.specs.declared.token.Mark.TheVariants.{OpenParen, CloseParen, OpenBrace, CloseBrace, OpenBracket, CloseBracket, Comma, Colon, ColonColon, DotDot, Arrow, Question}
use Rattle.lp_tree.specs.declared.seen.Sort.{Sort}
use Rattle.lp_tree.specs.declared.seen.Sort.TheVariants as sorts
use Rattle.lp_tree.specs.declared.seen.Seen.{Seen}
use Rattle.lp_tree.specs.Seen.{text}
use Rattle.lp_tree.specs.Trees.{Tree, Int, Text, Name, Sscanf, PostStep, PreStep, Unary, Cast, Binary, AndThen, OrElse, Cond, Assign, Sequence, Trees, trees, pairs, line_of, is_place, height, heights, pair_heights}
use Rattle.lp_parser_expr.specs.Machine.{Callee, Function, Efun, Parent, NamedParent, Other, called, infix_level, Frame, Alone, InParen, InArray, AtKey, AtValue, InArgs, InCatch, ScanText, ScanForm, ScanPlaces, InIndex, InRange, Stepping, UnaryOf, Casting, LeftOf, Testing, Choosing, Assigning, InSequence, Stack, wants_of, needs, plug, Held, settle, State, Need, Have, EndCast, EndLiteral, NeedName, NeedParen, binds, empty_paren, empty_brace, empty_bracket, opened_brace, opened_bracket, begun_range, counted_back, prefixed, begin_base, begin_op, begin_mark, begin_word, begin, infixed, assigned_to, opened, scoped, closed, ended_brace, ended_bracket, after_dots, after_colon, begun_sequence, after_comma, act_mark, act, act_held, end_cast, end_literal, need_name, need_paren, step, whole, whole_held, finished, run}
use Rattle.lp_parser_expr.specs.declared.infix.Infix.{Infix}
use Rattle.lp_parser_expr.specs.declared.infix.Infix.TheVariants.{Plain, And, Or}
use Rattle.lp_parser_expr.specs.Depth.{tallest, tallest_pair, callee_height, as_place, makes, up, total, least_need, least}
use Rattle.lp_parser_expr.proofs.Settle.{held}

-- the second is no better: it is a place only where the first is
abbrev NoBetter : Bool → Bool → Type 0
NoBetter true b = Unit {0}
NoBetter false true = ⊥
NoBetter false false = Unit {0}

same-no-better : (b : Bool) → NoBetter b b
same-no-better true = tt
same-no-better false = tt

any-no-better : (b : Bool) → NoBetter b false
any-no-better true = tt
any-no-better false = tt

as_place-le : (b c : Bool) (m n : ℕ) → NoBetter b c → m ≤ n → as_place b m ≤ as_place c n
as_place-le true true m n w h = h
as_place-le true false m n w h = omega arith
as_place-le false true m n w h = absurd w
as_place-le false false m n w h = omega arith

up-le : (f : Frame) (b c : Bool) (m n : ℕ) → NoBetter b c → m ≤ n → up f b m ≤ up f c n
up-le (Stepping line s) b c m n w h = omega (arith, as_place-le b c m n w h)
up-le (ScanPlaces line t f done) b c m n w h = omega (arith, as_place-le b c m n w h)
up-le _ b c m n w h = omega arith

pub total-le : (s : Stack) (b c : Bool) (m n : ℕ) → NoBetter b c → m ≤ n → total s b m ≤ total s c n
total-le [] b c m n w h = h
total-le (f ∷ s) b c m n w h = total-le s (makes f) (makes f) (up f b m) (up f c n) (same-no-better (makes f)) (up-le f b c m n w h)

as_place-above : (b : Bool) (h : ℕ) → h ≤ as_place b h
as_place-above true h = omega arith
as_place-above false h = omega arith

pub up-above : (f : Frame) (b : Bool) (h : ℕ) → h ≤ up f b h
up-above (Stepping line s) b h = omega (arith, as_place-above b h)
up-above (ScanPlaces line t f done) b h = omega (arith, as_place-above b h)
up-above _ b h = omega arith

-- the whole has the levels of the part, and more
pub total-above : (s : Stack) (b : Bool) (h : ℕ) → h ≤ total s b h
total-above [] b h = omega arith
total-above (f ∷ s) b h = omega (arith, up-above f b h, total-above s (makes f) (up f b h))

pub 0<height : (t : Tree) → 0 < height t
0<height (Int line n) = omega arith
0<height _ = omega arith

pub heights-trees : (ts : List Tree) → heights (trees ts) ≡ tallest ts
heights-trees [] = refl
heights-trees (t ∷ ts) = ap (max (height t)) (heights-trees ts)

pub tallest-push : (ts : List Tree) (t : Tree) → tallest (ts ++ t ∷ []) ≡ max (tallest ts) (height t)
tallest-push [] t = omega arith
tallest-push (u ∷ us) t = omega (arith, tallest-push us t)

pub heights-pairs : (ps : List (Tree × Tree)) → pair_heights (pairs ps) ≡ tallest_pair ps
heights-pairs [] = refl
heights-pairs (p ∷ ps) = ap (max (max (height p.0) (height p.1))) (heights-pairs ps)

pub tallest_pair-push : (ps : List (Tree × Tree)) (k v : Tree) → tallest_pair (ps ++ (k, v) ∷ []) ≡ max (tallest_pair ps) (max (height k) (height v))
tallest_pair-push [] k v = omega arith
tallest_pair-push (p ∷ ps) k v = omega (arith, tallest_pair-push ps k v)

pub called-height : (c : Callee) (w : List ℕ) (args : Trees) → height (called c w args) ≡ suc (max (callee_height c) (heights args))
called-height (Function line) w args = omega arith
called-height _ w args = omega arith

pub called-least : (c : Callee) (w : List ℕ) (args : Trees) (s : Stack) → least (Have (called c w args) s) ≡ total s false (suc (max (callee_height c) (heights args)))
called-least (Function line) w args s = ap (total s false) (called-height (Function line) w args)
called-least (Efun line) w args s = ap (total s false) (called-height (Efun line) w args)
called-least (Parent line) w args s = ap (total s false) (called-height (Parent line) w args)
called-least (NamedParent line p) w args s = ap (total s false) (called-height (NamedParent line p) w args)
called-least (Other t) w args s = ap (total s false) (called-height (Other t) w args)

-- a tree on a stack, where there is one, has these levels
abbrev pub HasLevels : Option Held → ℕ → Type 0
HasLevels None n = Unit {0}
HasLevels (Some h) n = total h.stack (is_place h.tree) (height h.tree) ≡ n

levels-as : (o : Option Held) (m n : ℕ) → m ≡ n → HasLevels o m → HasLevels o n
levels-as o m n e h = subst (λ k. HasLevels o k) e h

abbrev Settling : ℕ → Stack → Type 0
Settling p s = (v : Tree) → HasLevels (settle p v s) (total s (is_place v) (height v))

step-levels : (p : ℕ) (s : Stack) (line : ℕ) (u : Step) (t : Tree) (b : Bool) → Settling p s → HasLevels (option_and_then (λ v. settle p v s) (cond b (Some (PreStep line u t)) None)) (total s false (up (Stepping line u) b (height t)))
step-levels p s line u t true ih = ih (PreStep line u t)
step-levels p s line u t false ih = tt

sequence-levels : (line : ℕ) (done : List Tree) (t : Tree) → height (Sequence line (trees (done ++ t ∷ []))) ≡ suc (max (tallest done) (height t))
sequence-levels line done t = omega (arith, heights-trees (done ++ t ∷ []), tallest-push done t)

settle-if : (p : ℕ) (t : Tree) (f : Frame) (s : Stack) (b : Bool) → nat_le (needs f) p ≡ b → Settling p s → HasLevels (cond b (Some (held t (f ∷ s))) (option_and_then (λ v. settle p v s) (plug f t))) (total (f ∷ s) (is_place t) (height t))
settle-if p t f s true e ih = refl
settle-if p t (Stepping line u) s false e ih = step-levels p s line u t (is_place t) ih
settle-if p t (UnaryOf line op) s false e ih = ih (Unary line op t)
settle-if p t (Casting line ty) s false e ih = ih (Cast line ty t)
settle-if p t (LeftOf (Plain op) l) s false e ih = ih (Binary (line_of l) op l t)
settle-if p t (LeftOf And l) s false e ih = ih (AndThen (line_of l) l t)
settle-if p t (LeftOf Or l) s false e ih = ih (OrElse (line_of l) l t)
settle-if p t (Choosing c y) s false e ih = ih (Cond (line_of c) c y t)
settle-if p t (Assigning op q) s false e ih = ih (Assign (line_of q) op q t)
settle-if p t (InSequence line done) s false e ih =
    let u = Sequence line (trees (done ++ t ∷ [])) in
    levels-as (settle p u s) _ _ (ap (total s false) (sequence-levels line done t)) (ih u)
settle-if p t f s false e ih = absurd (omega (arith, leb-false 0 p e))

pub settle-levels : (p : ℕ) (s : Stack) (t : Tree) → HasLevels (settle p t s) (total s (is_place t) (height t))
settle-levels p [] t = refl
settle-levels p (f ∷ s) t = settle-if p t f s (nat_le (needs f) p) refl (settle-levels p s)

abbrev pub Grows : ℕ → Option State → Type 0
Grows n None = Unit {0}
Grows n (Some st) = n ≤ least st

-- the next operand has a level at least
least-need : (s : Stack) (b : Bool) (n : ℕ) → 1 ≤ n → least_need s ≤ total s b n
least-need [] b n h = h
least-need (InArgs c w done ∷ s) b n h = total-le s _ _ _ _ tt (omega arith)
least-need (InArray line done ∷ s) b n h = total-le s _ _ _ _ tt (omega arith)
least-need (AtKey line done ∷ s) b n h = total-le s _ _ _ _ tt (omega arith)
least-need (ScanPlaces line t f done ∷ s) b n h = total-le s _ _ _ _ tt (omega arith)
least-need (InParen line ∷ s) b n h = total-le s _ _ _ _ tt (omega arith)
least-need (f ∷ s) b n h = total-le (f ∷ s) true b 1 n tt h

grow-if : (b : Bool) (n : ℕ) (st : State) → n ≤ least st → Grows n (cond b (Some st) None)
grow-if true n st h = h
grow-if false n st h = tt

call-levels : (c : Callee) (w : List ℕ) (done : List Tree) (s : Stack) (n : ℕ) → n ≡ tallest done → total s false (suc (max (callee_height c) n)) ≡ least (Have (called c w (trees done)) s)
call-levels c w done s n e = ap (λ k. total s false (suc (max (callee_height c) k))) (e ∙ sym (heights-trees done)) ∙ sym (called-least c w (trees done) s)

paren-grows : (s : Stack) → Grows (least_need s) (empty_paren s)
paren-grows (InArgs c w done ∷ s) = omega (arith, call-levels c w done s (tallest done) refl)
paren-grows (ScanPlaces line t f done ∷ s) = total-le s _ _ _ _ tt (omega (arith, heights-trees done))
paren-grows _ = tt

brace-grows : (s : Stack) → Grows (least_need s) (empty_brace s)
brace-grows (InArray line done ∷ s) = total-le s _ _ _ _ tt (omega (arith, heights-trees done))
brace-grows _ = tt

bracket-grows : (s : Stack) → Grows (least_need s) (empty_bracket s)
bracket-grows (AtKey line done ∷ s) = total-le s _ _ _ _ tt (omega (arith, heights-pairs done))
bracket-grows (InRange of a Front ∷ s) = total-le s _ _ _ _ tt (omega (arith, 0<height of))
bracket-grows _ = tt

open_brace-grows : (s : Stack) → Grows (least_need s) (opened_brace s)
open_brace-grows (InParen line ∷ s) = omega arith
open_brace-grows _ = tt

open_bracket-grows : (s : Stack) → Grows (least_need s) (opened_bracket s)
open_bracket-grows (InParen line ∷ s) = omega arith
open_bracket-grows _ = tt

range-grows : (s : Stack) → Grows (least_need s) (begun_range s)
range-grows (InIndex of Front ∷ s) = total-le s _ _ _ _ tt (omega arith)
range-grows _ = tt

back-grows : (s : Stack) → Grows (least_need s) (counted_back s)
back-grows (InIndex of Front ∷ s) = omega arith
back-grows (InRange of a Front ∷ s) = omega arith
back-grows _ = tt

prefix-grows : (op : UnOp) (line : ℕ) (s : Stack) → Grows (least_need s) (prefixed op line s)
prefix-grows op line s = grow-if (nat_le (wants_of s) 14) (least_need s) (Need (UnaryOf line op ∷ s)) (least-need s false 2 (omega arith))

op-grows : (op : BinOp) (line : ℕ) (s : Stack) → Grows (least_need s) (begin_op op line s)
op-grows Sub line s = prefix-grows Neg line s
op-grows Lt line s = back-grows s
op-grows _ line s = tt

base-grows : (b : BaseWord) (s : Stack) → Grows (least_need s) (begin_base b s)
base-grows b (InParen line ∷ s) = grow-if (nat_le (wants_of s) 14) (total s false 1) (EndCast line (record { base = b; stars = 0 }) s) (total-le s _ _ _ _ tt (omega arith))
base-grows b _ = tt

mark-grows : (m : Mark) (line : ℕ) (s : Stack) → Grows (least_need s) (begin_mark m line s)
mark-grows OpenParen line s = least-need s false 1 (omega arith)
mark-grows CloseParen line s = paren-grows s
mark-grows OpenBrace line s = open_brace-grows s
mark-grows CloseBrace line s = brace-grows s
mark-grows OpenBracket line s = open_bracket-grows s
mark-grows CloseBracket line s = bracket-grows s
mark-grows ColonColon line s = least-need s false 1 (omega arith)
mark-grows DotDot line s = range-grows s
mark-grows marks.Not line s = prefix-grows Not line s
mark-grows marks.Flip line s = prefix-grows Flip line s
mark-grows (marks.Binary op) line s = op-grows op line s
mark-grows (marks.Step st) line s = grow-if (nat_le (wants_of s) 14) (least_need s) (Need (Stepping line st ∷ s)) (least-need s false 2 (omega arith))
mark-grows _ line s = tt

word-grows : (k : Keyword) (line : ℕ) (s : Stack) → Grows (least_need s) (begin_word k line s)
word-grows (words.Base b) line s = base-grows b s
word-grows words.Catch line s = least-need s false 2 (omega arith)
word-grows words.Sscanf line s = least-need s false 2 (omega arith)
word-grows _ line s = tt

begin-grows : (k : Sort) (line : ℕ) (s : Stack) → Grows (least_need s) (begin k line s)
begin-grows (sorts.Name w) line s = least-need s true 1 (omega arith)
begin-grows (sorts.Text w) line s = least-need s false 1 (omega arith)
begin-grows (sorts.Int n) line s = least-need s false 1 (omega arith)
begin-grows (sorts.Mark m) line s = mark-grows m line s
begin-grows (sorts.Reserved k) line s = word-grows k line s
begin-grows sorts.Wrong line s = tt

scan-grows : (line : ℕ) (t f : Tree) (done : List Tree) (p : Tree) (s : Stack) (b : Bool) → Grows (total s false (suc (max (height t) (max (height f) (max (tallest done) (as_place b (height p))))))) (cond b (Some (Have (Sscanf line t f (trees (done ++ p ∷ []))) s)) None)
scan-grows line t f done p s true = total-le s _ _ _ _ tt (omega (arith, heights-trees (done ++ p ∷ []), tallest-push done p))
scan-grows line t f done p s false = tt

place-grows : (line : ℕ) (t f : Tree) (done : List Tree) (p : Tree) (s : Stack) (b : Bool) → Grows (total s false (suc (max (height t) (max (height f) (max (tallest done) (as_place b (height p))))))) (cond b (Some (Need (ScanPlaces line t f (done ++ p ∷ []) ∷ s))) None)
place-grows line t f done p s true = total-le s _ _ _ _ tt (omega (arith, tallest-push done p))
place-grows line t f done p s false = tt

abbrev levels_on : Tree → Stack → ℕ
levels_on t s = total s (is_place t) (height t)

closed-grows : (t : Tree) (s : Stack) → Grows (levels_on t s) (closed t s)
closed-grows t (InParen line ∷ s) = omega arith
closed-grows t (InArgs c w done ∷ s) = omega (arith, call-levels c w (done ++ t ∷ []) s (max (tallest done) (height t)) (sym (tallest-push done t)))
closed-grows t (InCatch line ∷ s) = omega arith
closed-grows t (ScanForm line text ∷ s) = total-le s _ _ _ _ tt (omega arith)
closed-grows t (ScanPlaces line text form done ∷ s) = scan-grows line text form done t s (is_place t)
closed-grows t _ = tt

ended_brace-grows : (t : Tree) (s : Stack) → Grows (levels_on t s) (ended_brace t s)
ended_brace-grows t (InArray line done ∷ s) = total-le s _ _ _ _ tt (omega (arith, heights-trees (done ++ t ∷ []), tallest-push done t))
ended_brace-grows t _ = tt

ended_bracket-grows : (t : Tree) (s : Stack) → Grows (levels_on t s) (ended_bracket t s)
ended_bracket-grows t (AtValue line done k ∷ s) = total-le s _ _ _ _ tt (omega (arith, heights-pairs (done ++ (k, t) ∷ []), tallest_pair-push done k t))
ended_bracket-grows t (InIndex of e ∷ s) = omega arith
ended_bracket-grows t (InRange of a e ∷ s) = omega arith
ended_bracket-grows t _ = tt

dots-grows : (t : Tree) (s : Stack) → Grows (levels_on t s) (after_dots t s)
dots-grows t (InIndex of e ∷ s) = total-le s _ _ _ _ tt (omega arith)
dots-grows t _ = tt

colon-grows : (t : Tree) (s : Stack) → Grows (levels_on t s) (after_colon t s)
colon-grows t (Testing c ∷ s) = total-le s _ _ _ _ tt (omega arith)
colon-grows t (AtKey line done ∷ s) = total-le s _ _ _ _ tt (omega arith)
colon-grows t _ = tt

sequence-grows : (t : Tree) (s : Stack) → Grows (levels_on t s) (begun_sequence t s)
sequence-grows t s = grow-if (nat_le (wants_of s) 0) _ (Need (InSequence (line_of t) (t ∷ []) ∷ s)) (total-le s _ _ _ _ (any-no-better (is_place t)) (omega arith))

comma-grows : (t : Tree) (s : Stack) → Grows (levels_on t s) (after_comma t s)
comma-grows t (InArray line done ∷ s) = total-le s _ _ _ _ tt (omega (arith, tallest-push done t))
comma-grows t (AtValue line done k ∷ s) = total-le s _ _ _ _ tt (omega (arith, tallest_pair-push done k t))
comma-grows t (InArgs c w done ∷ s) = total-le s _ _ _ _ tt (omega (arith, tallest-push done t))
comma-grows t (ScanText line ∷ s) = total-le s _ _ _ _ tt (omega arith)
comma-grows t (ScanForm line text ∷ s) = total-le s _ _ _ _ tt (omega arith)
comma-grows t (ScanPlaces line text form done ∷ s) = place-grows line text form done t s (is_place t)
comma-grows t (InSequence line done ∷ s) = total-le s _ _ _ _ tt (omega (arith, tallest-push done t))
comma-grows t s = sequence-grows t s

opened-grows : (t : Tree) (s : Stack) → Grows (levels_on t s) (opened t s)
opened-grows (Name line w) s = total-le s _ _ _ _ tt (omega arith)
opened-grows _ s = tt

scoped-grows : (t : Tree) (s : Stack) → Grows (levels_on t s) (scoped t s)
scoped-grows (Name line w) s = grow-if (bytes_eq w (codes "efun")) _ (NeedName (Efun line) s) (total-le s _ _ _ _ tt (omega arith))
scoped-grows (Text line p) s = omega arith
scoped-grows _ s = tt

index-up : (f : Frame) (b : Bool) (h : ℕ) → up f b h ≤ up f true (suc (max h 1))
index-up (Stepping line s) true h = omega arith
index-up (Stepping line s) false h = omega arith
index-up (ScanPlaces line t f done) true h = omega arith
index-up (ScanPlaces line t f done) false h = omega arith
index-up _ b h = omega arith

-- an index makes a place, one level up
index-grows : (s : Stack) (b : Bool) (h : ℕ) → total s b h ≤ total s true (suc (max h 1))
index-grows [] b h = omega arith
index-grows (f ∷ s) b h = total-le s _ _ _ _ (same-no-better (makes f)) (index-up f b h)

infix-grows : (op : Infix) (t : Tree) (s : Stack) → Grows (levels_on t s) (infixed op t s)
infix-grows op t s = grow-if (nat_le (wants_of s) (infix_level op)) _ (Need (LeftOf op t ∷ s)) (total-le s _ _ _ _ (any-no-better (is_place t)) (omega arith))

assign-grows : (op : AssignOp) (t : Tree) (s : Stack) (b : Bool) → Grows (levels_on t s) (cond b (assigned_to op t s) None)
assign-grows op t s true = grow-if (nat_le (wants_of s) 2) _ (Need (Assigning op t ∷ s)) (total-le s _ _ _ _ (any-no-better (is_place t)) (omega arith))
assign-grows op t s false = tt

act_mark-grows : (m : Mark) (t : Tree) (s : Stack) → Grows (levels_on t s) (act_mark m t s)
act_mark-grows (marks.Binary op) t s = infix-grows (Plain op) t s
act_mark-grows marks.AndThen t s = infix-grows And t s
act_mark-grows marks.OrElse t s = infix-grows Or t s
act_mark-grows (marks.Assign op) t s = assign-grows op t s (is_place t)
act_mark-grows (marks.Step st) t s = grow-if (is_place t) _ (Have (PostStep (line_of t) st t) s) (total-le s _ _ _ _ (any-no-better (is_place t)) (omega arith))
act_mark-grows Question t s = grow-if (nat_le (wants_of s) 3) _ (Need (Testing t ∷ s)) (total-le s _ _ _ _ (any-no-better (is_place t)) (omega arith))
act_mark-grows OpenParen t s = opened-grows t s
act_mark-grows OpenBracket t s = index-grows s (is_place t) (height t)
act_mark-grows Arrow t s = total-le s _ _ _ _ (any-no-better (is_place t)) (omega arith)
act_mark-grows ColonColon t s = scoped-grows t s
act_mark-grows CloseParen t s = closed-grows t s
act_mark-grows CloseBrace t s = ended_brace-grows t s
act_mark-grows CloseBracket t s = ended_bracket-grows t s
act_mark-grows DotDot t s = dots-grows t s
act_mark-grows Colon t s = colon-grows t s
act_mark-grows Comma t s = comma-grows t s
act_mark-grows _ t s = tt

act-grows : (k : Sort) (t : Tree) (s : Stack) → Grows (levels_on t s) (act k t s)
act-grows (sorts.Mark m) t s = act_mark-grows m t s
act-grows _ t s = tt

held-grows : (k : Sort) (o : Option Held) (n : ℕ) → HasLevels o n → Grows n (option_and_then (act_held k) o)
held-grows k None n h = tt
held-grows k (Some g) n h = subst (λ m. Grows m (act k g.tree g.stack)) h (act-grows k g.tree g.stack)

cast_op-grows : (op : BinOp) (line : ℕ) (ty : TypeName) (s : Stack) → Grows (total s false 2) (end_cast (sorts.Mark (marks.Binary op)) line ty s)
cast_op-grows Mul line ty s = omega arith
cast_op-grows _ line ty s = tt

cast_mark-grows : (m : Mark) (line : ℕ) (ty : TypeName) (s : Stack) → Grows (total s false 2) (end_cast (sorts.Mark m) line ty s)
cast_mark-grows (marks.Binary op) line ty s = cast_op-grows op line ty s
cast_mark-grows CloseParen line ty s = omega arith
cast_mark-grows _ line ty s = tt

cast-grows : (k : Sort) (line : ℕ) (ty : TypeName) (s : Stack) → Grows (total s false 2) (end_cast k line ty s)
cast-grows (sorts.Mark m) line ty s = cast_mark-grows m line ty s
cast-grows _ line ty s = tt

literal_mark-grows : (m : Mark) (t : Tree) (s : Stack) → Grows (levels_on t s) (end_literal (sorts.Mark m) t s)
literal_mark-grows CloseParen t s = omega arith
literal_mark-grows _ t s = tt

literal-grows : (k : Sort) (t : Tree) (s : Stack) → Grows (levels_on t s) (end_literal k t s)
literal-grows (sorts.Mark m) t s = literal_mark-grows m t s
literal-grows _ t s = tt

name-grows : (k : Sort) (c : Callee) (s : Stack) → Grows (total s false (suc (callee_height c))) (need_name k c s)
name-grows (sorts.Name w) c s = total-le s _ _ _ _ tt (omega arith)
name-grows _ c s = tt

need_mark-grows : (m : Mark) (f : Frame) (s : Stack) → Grows (least_need (f ∷ s)) (need_paren (sorts.Mark m) f s)
need_mark-grows OpenParen f s = omega arith
need_mark-grows _ f s = tt

need_paren-grows : (k : Sort) (f : Frame) (s : Stack) → Grows (least_need (f ∷ s)) (need_paren k f s)
need_paren-grows (sorts.Mark m) f s = need_mark-grows m f s
need_paren-grows _ f s = tt

pub step-grows : (st : State) (x : Seen) → Grows (least st) (step st x)
step-grows (Need s) x = begin-grows x.sort x.line s
step-grows (Have t s) x = held-grows x.sort (settle (binds x.sort) t s) _ (settle-levels (binds x.sort) s t)
step-grows (EndCast line ty s) x = cast-grows x.sort line ty s
step-grows (EndLiteral t s) x = literal-grows x.sort t s
step-grows (NeedName c s) x = name-grows x.sort c s
step-grows (NeedParen f s) x = need_paren-grows x.sort f s

some_tree : {t u : Tree} → Some t ≡ Some u → t ≡ u
some_tree e = cc

whole-height : (t : Tree) (s : Stack) (u : Tree) → whole t s ≡ Some u → total s (is_place t) (height t) ≡ height u
whole-height t [] u e = ap height (some_tree e)
whole-height t (Alone ∷ []) u e = ap height (some_tree e)
whole-height t _ u e = cc

whole-levels : (o : Option Held) (n : ℕ) (u : Tree) → HasLevels o n → option_and_then whole_held o ≡ Some u → height u ≡ n
whole-levels None n u h e = cc
whole-levels (Some g) n u h e = sym (whole-height g.tree g.stack u e) ∙ h

-- a whole expression has the levels that its state says
pub finished-height : (st : State) (u : Tree) → finished st ≡ Some u → height u ≡ least st
finished-height (Have t s) u e = whole-levels (settle 0 t s) (least (Have t s)) u (settle-levels 0 s t) e
finished-height (Need s) u e = cc
finished-height (EndCast line ty s) u e = cc
finished-height (EndLiteral t s) u e = cc
finished-height (NeedName c s) u e = cc
finished-height (NeedParen f s) u e = cc

run-then : (n : ℕ) (o : Option State) (xs : List Seen) (u : Tree) → Grows n o → ((st : State) → run st xs ≡ Some u → least st ≤ height u) → option_and_then (λ next. run next xs) o ≡ Some u → n ≤ height u
run-then n None xs u g ih e = cc
run-then n (Some st) xs u g ih e = omega (arith, ih st e)

-- What is read in the end is at least as deep as each state on the way.
pub run-least : (st : State) (ts : List Seen) (u : Tree) → run st ts ≡ Some u → least st ≤ height u
run-least st [] u e = omega (arith, finished-height st u e)
run-least st (x ∷ xs) u e = run-then (least st) (step st x) xs u (step-grows st x) (λ next f. run-least next xs u f) e
