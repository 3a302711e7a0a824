-- What the machine has read begins an expression.
use Rattle.std.proofs.Common.{◌≡◌, ℕ, suc, ◌≤◌, max, List, [], ◌∷◌, ◌++◌, Bool, true, false, cond, refl, ap, ◌∙◌, subst, arith}
use Rattle.std.specs.Prelude.{Option, Some, None, option_and_then, codes}
use Rattle.lp_tree.specs.declared.operator.Step.{Step}
use Rattle.lp_tree.specs.declared.expr.Edge.TheVariants.{Front}
use Rattle.lp_tree.specs.declared.token.Mark.TheVariants.{OpenParen, CloseParen, OpenBrace, CloseBrace, OpenBracket, CloseBracket, Comma, Colon}
use Rattle.lp_tree.specs.declared.seen.Seen.{Seen}
use Rattle.lp_tree.specs.Seen.{word, mark}
use Rattle.lp_tree.specs.Trees.{Tree, Name, Paren, Array, Mapping, Catch, Sscanf, Index, Range, PreStep, Unary, Cast, Cond, Assign, Sequence, Trees, NoTree, At, trees, pairs, line_of, is_place, height}
use Rattle.lp_parser_expr.specs.Machine.{Callee, Function, called, infix_level, infix_tree, Alone, InParen, InArray, AtKey, AtValue, InArgs, InCatch, ScanText, ScanForm, ScanPlaces, InIndex, InRange, Stepping, UnaryOf, Casting, LeftOf, Testing, Choosing, Assigning, InSequence, Stack, wants_of, plug, State, Need, Have, step, run, walk}
use Rattle.lp_parser_expr.specs.declared.infix.Infix.{Infix}
use Rattle.lp_parser_expr.specs.declared.infix.Infix.TheVariants.{Plain, And, Or}
use Rattle.lp_parser_expr.specs.Depth.{tallest, callee_height, total, least_need, least}
use Rattle.lp_parser_expr.proofs.Settle.{follow, run-ends, run-stays, infix≤13}
use Rattle.lp_parser_expr.proofs.Shallow.{heights-trees, tallest-push, heights-pairs, tallest_pair-push, called-height}
use Rattle.lp_parser_expr.proofs.Sound.{Opened, bottom, alone, in_paren, in_array, at_key, at_value, in_args, in_catch, scan_text, scan_form, scan_places, in_index, in_range, stepping_on, unary_of, casting, left_of, testing, choosing, assigning, in_sequence, Reads, needs_more, has, cast_end, literal_end, name_next, args_next, catch_next, scan_next, ReadsOnSome, step_reads}

-- each open production may stand in the one below it
abbrev IsFit : Stack → Type 0
IsFit [] = Unit {0}
IsFit (Alone ∷ []) = Unit {0}
IsFit (Alone ∷ f ∷ s) = ⊥
IsFit (Stepping line st ∷ s) = (wants_of s ≤ 14) × IsFit s
IsFit (UnaryOf line op ∷ s) = (wants_of s ≤ 14) × IsFit s
IsFit (Casting line ty ∷ s) = (wants_of s ≤ 14) × IsFit s
IsFit (LeftOf op l ∷ s) = (wants_of s ≤ infix_level op) × IsFit s
IsFit (Testing t ∷ s) = (wants_of s ≤ 3) × IsFit s
IsFit (Choosing t y ∷ s) = (wants_of s ≤ 3) × IsFit s
IsFit (Assigning op p ∷ s) = (wants_of s ≤ 2) × IsFit s
IsFit (InSequence t done ∷ s) = (wants_of s ≤ 0) × IsFit s
IsFit (f ∷ s) = IsFit s

fits : {g : ℕ} {s : Stack} {ts rest : List Seen} → Opened g s ts rest → IsFit s
fits bottom = tt
fits alone = tt
fits (in_paren o) = fits o
fits (in_array o e) = fits o
fits (at_key o e) = fits o
fits (at_value o e d h) = fits o
fits (in_args o n e) = fits o
fits (in_catch o) = fits o
fits (scan_text o) = fits o
fits (scan_form o d h) = fits o
fits (scan_places o d h e k a) = fits o
fits (in_index o d h w) = fits o
fits (in_range o d h a w) = fits o
fits (stepping_on o h) = (h, fits o)
fits (unary_of w o h) = (h, fits o)
fits (casting o w h) = (h, fits o)
fits (left_of o h d k) = (h, fits o)
fits (testing o h d k) = (h, fits o)
fits (choosing o h d k e) = (h, fits o)
fits (assigning o h d k) = (h, fits o)
fits (in_sequence o h d k a) = (h, fits o)

-- a name, which is a place of one level
abbrev some_name : Seen
some_name = word (codes "a") 0

abbrev some_place : Tree
some_place = Name 0 (codes "a")

-- tokens that end the open productions, round a tree that is a place or not
abbrev pub tail : Stack → Bool → List Seen
tail [] b = []
tail (Alone ∷ s) b = []
tail (InParen line ∷ s) b = mark CloseParen 0 ∷ tail s false
tail (InArray line done ∷ s) b = mark CloseBrace 0 ∷ mark CloseParen 0 ∷ tail s false
tail (AtKey line done ∷ s) b = mark Colon 0 ∷ some_name ∷ mark CloseBracket 0 ∷ mark CloseParen 0 ∷ tail s false
tail (AtValue line done k ∷ s) b = mark CloseBracket 0 ∷ mark CloseParen 0 ∷ tail s false
tail (InArgs c w done ∷ s) b = mark CloseParen 0 ∷ tail s false
tail (InCatch line ∷ s) b = mark CloseParen 0 ∷ tail s false
tail (ScanText line ∷ s) b = mark Comma 0 ∷ some_name ∷ mark CloseParen 0 ∷ tail s false
tail (ScanForm line t ∷ s) b = mark CloseParen 0 ∷ tail s false
tail (ScanPlaces line t f done ∷ s) true = mark CloseParen 0 ∷ tail s false
tail (ScanPlaces line t f done ∷ s) false = mark OpenBracket 0 ∷ some_name ∷ mark CloseBracket 0 ∷ mark CloseParen 0 ∷ tail s false
tail (InIndex t e ∷ s) b = mark CloseBracket 0 ∷ tail s true
tail (InRange t a e ∷ s) b = mark CloseBracket 0 ∷ tail s false
tail (Stepping line st ∷ s) true = tail s false
tail (Stepping line st ∷ s) false = mark OpenBracket 0 ∷ some_name ∷ mark CloseBracket 0 ∷ tail s false
tail (UnaryOf line op ∷ s) b = tail s false
tail (Casting line ty ∷ s) b = tail s false
tail (LeftOf op l ∷ s) b = tail s false
tail (Testing t ∷ s) b = mark Colon 0 ∷ some_name ∷ tail s false
tail (Choosing t y ∷ s) b = tail s false
tail (Assigning op p ∷ s) b = tail s false
tail (InSequence t done ∷ s) b = tail s false

-- what ends the open productions begins with a comma at most
follow-tail : (s : Stack) (b : Bool) → IsFit s → wants_of s ≤ 14 → (follow (tail s b) ≤ 1) × (follow (tail s b) ≤ wants_of s)
follow-tail [] b w h = (omega arith, omega arith)
follow-tail (Alone ∷ s) b w h = (omega arith, omega arith)
follow-tail (ScanPlaces line t f done ∷ s) b w h = absurd (omega arith)
follow-tail (Stepping line st ∷ s) b w h = absurd (omega arith)
follow-tail (UnaryOf line op ∷ s) b w h = let k = follow-tail s false w.1 w.0 in (k.0, omega (arith, k.0))
follow-tail (Casting line ty ∷ s) b w h = let k = follow-tail s false w.1 w.0 in (k.0, omega (arith, k.0))
follow-tail (LeftOf op l ∷ s) b w h = let k = follow-tail s false w.1 (omega (arith, w.0, infix≤13 op)) in (k.0, omega (arith, k.0))
follow-tail (Choosing t y ∷ s) b w h = let k = follow-tail s false w.1 (omega (arith, w.0)) in (k.0, omega (arith, k.0))
follow-tail (Assigning op p ∷ s) b w h = let k = follow-tail s false w.1 (omega (arith, w.0)) in (k.0, omega (arith, k.0))
follow-tail (InSequence t done ∷ s) b w h = let k = follow-tail s false w.1 (omega (arith, w.0)) in (k.0, omega (arith, k.0))
follow-tail (_ ∷ s) b w h = (omega arith, omega arith)

-- the tree that is found, and its levels
abbrev pub Found : Option Tree → ℕ → Type 0
Found o n = (u : Tree) × (o ≡ Some u) × (height u ≡ n)

by : {o o' : Option Tree} {n : ℕ} → o ≡ o' → Found o' n → Found o n
by e h = (h.0, e ∙ h.1, h.2)

found_as : {o : Option Tree} {m n : ℕ} → m ≡ n → Found o m → Found o n
found_as e h = (h.0, h.1, h.2 ∙ e)

stepped_place : (line : ℕ) (st : Step) (t : Tree) → is_place t ≡ true → plug (Stepping line st) t ≡ Some (PreStep line st t)
stepped_place line st t e = ap (λ b. cond b (Some (PreStep line st t)) None) e

called-no-place : (c : Callee) (w : List ℕ) (args : Trees) → is_place (called c w args) ≡ false
called-no-place (Function line) w args = refl
called-no-place _ w args = refl

infix-no-place : (op : Infix) (l r : Tree) → is_place (infix_tree op l r) ≡ false
infix-no-place (Plain op) l r = refl
infix-no-place _ l r = refl

infix-height : (op : Infix) (l r : Tree) → height (infix_tree op l r) ≡ suc (max (height l) (height r))
infix-height (Plain op) l r = refl
infix-height And l r = refl
infix-height Or l r = refl

called-tallest : (c : Callee) (w : List ℕ) (done : List Tree) → height (called c w (trees done)) ≡ suc (max (callee_height c) (tallest done))
called-tallest c w done = omega (arith, called-height c w (trees done), heights-trees done)

scan-tallest : (line : ℕ) (t f : Tree) (done : List Tree) (p : Tree) → height (Sscanf line t f (trees (done ++ p ∷ []))) ≡ suc (max (height t) (max (height f) (max (tallest done) (height p))))
scan-tallest line t f done p = omega (arith, heights-trees (done ++ p ∷ []), tallest-push done p)

pub ends : (s : Stack) (t : Tree) (b : Bool) → is_place t ≡ b → IsFit s → Found (run (Have t s) (tail s b)) (total s b (height t))
ends [] t b e w = (t, refl, refl)
ends (Alone ∷ []) t b e w = (t, refl, refl)
ends (Alone ∷ f ∷ s) t b e w = absurd w
ends (InParen line ∷ s) t b e w = by (run-stays t (InParen line ∷ s) (mark CloseParen 0) (tail s false) (omega arith)) (ends s (Paren line t) false refl w)
ends (InArray line done ∷ s) t b e w =
    let u = Array line (trees (done ++ t ∷ [])) in
    by (run-stays t (InArray line done ∷ s) (mark CloseBrace 0) (mark CloseParen 0 ∷ tail s false) (omega arith))
    (found_as (ap (λ n. total s false (suc n)) (heights-trees (done ++ t ∷ []) ∙ tallest-push done t)) (ends s u false refl w))
ends (AtKey line done ∷ s) t b e w =
    let u = Mapping line (pairs (done ++ (t, some_place) ∷ [])) in
    by (run-stays t (AtKey line done ∷ s) (mark Colon 0) (some_name ∷ mark CloseBracket 0 ∷ mark CloseParen 0 ∷ tail s false) (omega arith))
    (by (run-stays some_place (AtValue line done t ∷ s) (mark CloseBracket 0) (mark CloseParen 0 ∷ tail s false) (omega arith))
    (found_as (ap (λ n. total s false (suc n)) (heights-pairs (done ++ (t, some_place) ∷ []) ∙ tallest_pair-push done t some_place)) (ends s u false refl w)))
ends (AtValue line done k ∷ s) t b e w =
    let u = Mapping line (pairs (done ++ (k, t) ∷ [])) in
    by (run-stays t (AtValue line done k ∷ s) (mark CloseBracket 0) (mark CloseParen 0 ∷ tail s false) (omega arith))
    (found_as (ap (λ n. total s false (suc n)) (heights-pairs (done ++ (k, t) ∷ []) ∙ tallest_pair-push done k t)) (ends s u false refl w))
ends (InArgs c n done ∷ s) t b e w =
    let u = called c n (trees (done ++ t ∷ [])) in
    by (run-stays t (InArgs c n done ∷ s) (mark CloseParen 0) (tail s false) (omega arith))
    (found_as (ap (total s false) (called-tallest c n (done ++ t ∷ []) ∙ ap (λ k. suc (max (callee_height c) k)) (tallest-push done t))) (ends s u false (called-no-place c n (trees (done ++ t ∷ []))) w))
ends (InCatch line ∷ s) t b e w = by (run-stays t (InCatch line ∷ s) (mark CloseParen 0) (tail s false) (omega arith)) (ends s (Catch line t) false refl w)
ends (ScanText line ∷ s) t b e w =
    by (run-stays t (ScanText line ∷ s) (mark Comma 0) (some_name ∷ mark CloseParen 0 ∷ tail s false) (omega arith))
    (by (run-stays some_place (ScanForm line t ∷ s) (mark CloseParen 0) (tail s false) (omega arith))
    (found_as (ap (total s false) (omega arith)) (ends s (Sscanf line t some_place NoTree) false refl w)))
ends (ScanForm line x ∷ s) t b e w =
    by (run-stays t (ScanForm line x ∷ s) (mark CloseParen 0) (tail s false) (omega arith))
    (found_as (ap (total s false) (omega arith)) (ends s (Sscanf line x t NoTree) false refl w))
ends (ScanPlaces line x f done ∷ s) t true e w =
    by (run-stays t (ScanPlaces line x f done ∷ s) (mark CloseParen 0) (tail s false) (omega arith)
    ∙ ap (λ b. option_and_then (λ next. run next (tail s false)) (cond b (Some (Have (Sscanf line x f (trees (done ++ t ∷ []))) s)) None)) e)
    (found_as (ap (total s false) (scan-tallest line x f done t)) (ends s (Sscanf line x f (trees (done ++ t ∷ []))) false refl w))
ends (ScanPlaces line x f done ∷ s) t false e w =
    let i = Index (line_of t) t Front some_place in
    by (run-stays t (ScanPlaces line x f done ∷ s) (mark OpenBracket 0) (some_name ∷ mark CloseBracket 0 ∷ mark CloseParen 0 ∷ tail s false) (omega arith))
    (by (run-stays some_place (InIndex t Front ∷ ScanPlaces line x f done ∷ s) (mark CloseBracket 0) (mark CloseParen 0 ∷ tail s false) (omega arith))
    (by (run-stays i (ScanPlaces line x f done ∷ s) (mark CloseParen 0) (tail s false) (omega arith))
    (found_as (ap (total s false) (scan-tallest line x f done i)) (ends s (Sscanf line x f (trees (done ++ i ∷ []))) false refl w))))
ends (InIndex of x ∷ s) t b e w = by (run-stays t (InIndex of x ∷ s) (mark CloseBracket 0) (tail s true) (omega arith)) (ends s (Index (line_of of) of x t) true refl w)
ends (InRange of a x ∷ s) t b e w = by (run-stays t (InRange of a x ∷ s) (mark CloseBracket 0) (tail s false) (omega arith)) (ends s (Range (line_of of) of a (At x t)) false refl w)
ends (Stepping line st ∷ s) t true e w =
    by (run-ends t (PreStep line st t) (Stepping line st) s (tail s false) (omega (arith, (follow-tail s false w.1 w.0).0)) (stepped_place line st t e)) (ends s (PreStep line st t) false refl w.1)
ends (Stepping line st ∷ s) t false e w =
    let i = Index (line_of t) t Front some_place in
    by (run-stays t (Stepping line st ∷ s) (mark OpenBracket 0) (some_name ∷ mark CloseBracket 0 ∷ tail s false) (omega arith))
    (by (run-stays some_place (InIndex t Front ∷ Stepping line st ∷ s) (mark CloseBracket 0) (tail s false) (omega arith))
    (by (run-ends i (PreStep line st i) (Stepping line st) s (tail s false) (omega (arith, (follow-tail s false w.1 w.0).0)) refl) (ends s (PreStep line st i) false refl w.1)))
ends (UnaryOf line op ∷ s) t b e w = by (run-ends t (Unary line op t) (UnaryOf line op) s (tail s false) (omega (arith, (follow-tail s false w.1 w.0).0)) refl) (ends s (Unary line op t) false refl w.1)
ends (Casting line ty ∷ s) t b e w = by (run-ends t (Cast line ty t) (Casting line ty) s (tail s false) (omega (arith, (follow-tail s false w.1 w.0).0)) refl) (ends s (Cast line ty t) false refl w.1)
ends (LeftOf op l ∷ s) t b e w =
    let k = follow-tail s false w.1 (omega (arith, w.0, infix≤13 op)) in
    by (run-ends t (infix_tree op l t) (LeftOf op l) s (tail s false) (omega (arith, k.1, w.0)) refl)
    (found_as (ap (total s false) (infix-height op l t)) (ends s (infix_tree op l t) false (infix-no-place op l t) w.1))
ends (Testing c ∷ s) t b e w =
    let k = follow-tail s false w.1 (omega (arith, w.0)) in
    by (run-stays t (Testing c ∷ s) (mark Colon 0) (some_name ∷ tail s false) (omega arith))
    (by (run-ends some_place (Cond (line_of c) c t some_place) (Choosing c t) s (tail s false) (omega (arith, k.0)) refl) (ends s (Cond (line_of c) c t some_place) false refl w.1))
ends (Choosing c y ∷ s) t b e w =
    let k = follow-tail s false w.1 (omega (arith, w.0)) in
    by (run-ends t (Cond (line_of c) c y t) (Choosing c y) s (tail s false) (omega (arith, k.0)) refl) (ends s (Cond (line_of c) c y t) false refl w.1)
ends (Assigning op p ∷ s) t b e w =
    let k = follow-tail s false w.1 (omega (arith, w.0)) in
    by (run-ends t (Assign (line_of p) op p t) (Assigning op p) s (tail s false) (omega (arith, k.0)) refl) (ends s (Assign (line_of p) op p t) false refl w.1)
ends (InSequence c done ∷ s) t b e w =
    let k = follow-tail s false w.1 (omega (arith, w.0)) in
    let u = Sequence c (trees (done ++ t ∷ [])) in
    by (run-ends t u (InSequence c done) s (tail s false) (omega (arith, k.1, w.0)) refl)
    (found_as (ap (total s false) (omega (arith, heights-trees (done ++ t ∷ []), tallest-push done t))) (ends s u false refl w.1))

need_end : (s : Stack) → IsFit s → (us : List Seen) × Found (run (Need s) us) (least_need s)
need_end (InArgs c n done ∷ s) w = (mark CloseParen 0 ∷ tail s false, found_as (ap (total s false) (called-tallest c n done)) (ends s (called c n (trees done)) false (called-no-place c n (trees done)) w))
need_end (InArray line done ∷ s) w = (mark CloseBrace 0 ∷ mark CloseParen 0 ∷ tail s false, found_as (ap (λ n. total s false (suc n)) (heights-trees done)) (ends s (Array line (trees done)) false refl w))
need_end (AtKey line done ∷ s) w = (mark CloseBracket 0 ∷ mark CloseParen 0 ∷ tail s false, found_as (ap (λ n. total s false (suc n)) (heights-pairs done)) (ends s (Mapping line (pairs done)) false refl w))
need_end (ScanPlaces line t f done ∷ s) w = (mark CloseParen 0 ∷ tail s false, found_as (ap (λ n. total s false (suc (max (height t) (max (height f) n)))) (heights-trees done)) (ends s (Sscanf line t f (trees done)) false refl w))
need_end (InParen line ∷ s) w = (mark OpenBrace 0 ∷ mark CloseBrace 0 ∷ mark CloseParen 0 ∷ tail s false, ends s (Array line NoTree) false refl w)
need_end s w = (some_name ∷ tail s true, ends s some_place true refl w)

-- each state that was reached can be brought to an end, as shallow as it allows
pub some_end : {g : ℕ} {st : State} {ts rest : List Seen} → Reads g st ts rest → (us : List Seen) × Found (run st us) (least st)
some_end (needs_more {s} o) = need_end s (fits o)
some_end (has {t} {s} o d h) = (tail s (is_place t), ends s t (is_place t) refl (fits o))
some_end (cast_end {s} {line} {ty} o d h) = (mark CloseParen 0 ∷ some_name ∷ tail (Casting line ty ∷ s) true, ends (Casting line ty ∷ s) some_place true refl (h, fits o))
some_end (literal_end {t} {s} o d) = (mark CloseParen 0 ∷ tail s (is_place t), ends s t (is_place t) refl (fits o))
some_end (name_next {c} {s} o d) = (some_name ∷ mark OpenParen 0 ∷ mark CloseParen 0 ∷ tail s false, found_as (ap (total s false) (omega (arith, called-tallest c (codes "a") []))) (ends s (called c (codes "a") NoTree) false (called-no-place c (codes "a") NoTree) (fits o)))
some_end (args_next {c} {w} {s} o d) = let k = need_end (InArgs c w [] ∷ s) (fits o) in (mark OpenParen 0 ∷ k.0, k.1)
some_end (catch_next {s} {line} o) = let k = need_end (InCatch line ∷ s) (fits o) in (mark OpenParen 0 ∷ k.0, k.1)
some_end (scan_next {s} {line} o) = let k = need_end (ScanText line ∷ s) (fits o) in (mark OpenParen 0 ∷ k.0, k.1)

walk-then : {g : ℕ} (o : Option State) (xs ts : List Seen) (st' : State) → ReadsOnSome g o ts xs → ((next : State) → Reads g next ts xs → walk next xs ≡ Some st' → Reads g st' ts []) → option_and_then (λ next. walk next xs) o ≡ Some st' → Reads g st' ts []
walk-then None xs ts st' r ih e = cc
walk-then (Some next) xs ts st' r ih e = ih next r e

some_state : {a b : State} → Some a ≡ Some b → a ≡ b
some_state e = cc

pub walked : {g : ℕ} (st : State) (xs ts : List Seen) (st' : State) → Reads g st ts xs → walk st xs ≡ Some st' → Reads g st' ts []
walked {g} st [] ts st' r e = subst (λ x. Reads g x ts []) (some_state e) r
walked st (x ∷ xs) ts st' r e = walk-then (step st x) xs ts st' (step_reads st x.sort x.line ts xs r) (λ next q f. walked next xs ts st' q f) e

after_step : (o : Option State) (xs w : List Seen) → ((next : State) → run next (xs ++ w) ≡ option_and_then (λ last. run last w) (walk next xs)) → option_and_then (λ next. run next (xs ++ w)) o ≡ option_and_then (λ next. run next w) (option_and_then (λ next. walk next xs) o)
after_step None xs w ih = refl
after_step (Some next) xs w ih = ih next

pub run-append : (st : State) (a w : List Seen) → run st (a ++ w) ≡ option_and_then (λ next. run next w) (walk st a)
run-append st [] w = refl
run-append st (x ∷ xs) w = after_step (step st x) xs w (λ next. run-append next xs w)
