-- How deep the shallowest expression is that begins as the machine has read.
use Rattle.std.specs.Prelude.{ℕ, suc, max, List, [], ◌∷◌, Bool, true, false}
use Rattle.lp_tree.specs.Trees.{Tree, height, end_height, is_place}
use Rattle.lp_parser_expr.specs.Machine.{Callee, Other, Frame, Alone, InParen, InArray, AtKey, AtValue, InArgs, InCatch, ScanText, ScanForm, ScanPlaces, InIndex, InRange, Stepping, UnaryOf, Casting, LeftOf, Testing, Choosing, Assigning, InSequence, Stack, State, Need, Have, EndCast, EndLiteral, NeedName, NeedParen}

abbrev pub tallest : List Tree → ℕ
tallest [] = 0
tallest (t ∷ ts) = max (height t) (tallest ts)

abbrev pub tallest_pair : List (Tree × Tree) → ℕ
tallest_pair [] = 0
tallest_pair (p ∷ ps) = max (max (height p.0) (height p.1)) (tallest_pair ps)

abbrev pub callee_height : Callee → ℕ
callee_height (Other t) = height t
callee_height _ = 0

-- the levels of a place that begins with this operand: what is none is indexed
abbrev pub as_place : Bool → ℕ → ℕ
as_place true h = h
as_place false h = suc (max h 1)

-- the levels of a production whose open part is a place or not, and has this many
abbrev pub up : Frame → Bool → ℕ → ℕ
up Alone b h = h
up (InParen line) b h = suc h
up (InArray line done) b h = suc (max (tallest done) h)
up (AtKey line done) b h = suc (max (tallest_pair done) (max h 1))
up (AtValue line done k) b h = suc (max (tallest_pair done) (max (height k) h))
up (InArgs c w done) b h = suc (max (callee_height c) (max (tallest done) h))
up (InCatch line) b h = suc h
up (ScanText line) b h = suc (max h 1)
up (ScanForm line t) b h = suc (max (height t) h)
up (ScanPlaces line t f done) b h = suc (max (height t) (max (height f) (max (tallest done) (as_place b h))))
up (InIndex of e) b h = suc (max (height of) h)
up (InRange of a e) b h = suc (max (height of) (max (end_height a) h))
up (Stepping line s) b h = suc (as_place b h)
up (UnaryOf line op) b h = suc h
up (Casting line ty) b h = suc h
up (LeftOf op l) b h = suc (max (height l) h)
up (Testing t) b h = suc (max (height t) (max h 1))
up (Choosing t y) b h = suc (max (height t) (max (height y) h))
up (Assigning op p) b h = suc (max (height p) h)
up (InSequence line done) b h = suc (max (tallest done) h)

-- whether a production is a place
abbrev pub makes : Frame → Bool
makes (InIndex t e) = true
makes _ = false

-- the levels of the whole round an open part
abbrev pub total : Stack → Bool → ℕ → ℕ
total [] b h = h
total (f ∷ s) b h = total s (makes f) (up f b h)

-- where an operand is waited for: a name has one level, and some productions can end without an operand
abbrev pub least_need : Stack → ℕ
least_need (InArgs c w done ∷ s) = total s false (suc (max (callee_height c) (tallest done)))
least_need (InArray line done ∷ s) = total s false (suc (tallest done))
least_need (AtKey line done ∷ s) = total s false (suc (tallest_pair done))
least_need (ScanPlaces line t f done ∷ s) = total s false (suc (max (height t) (max (height f) (tallest done))))
-- behind `(` the shallowest is `({ })`
least_need (InParen line ∷ s) = total s false 1
least_need s = total s true 1

-- the levels of the shallowest expression that begins so
abbrev pub least : State → ℕ
least (Need s) = least_need s
least (Have t s) = total s (is_place t) (height t)
least (EndCast line ty s) = total s false 2
least (EndLiteral t s) = total s (is_place t) (height t)
least (NeedName c s) = total s false (suc (callee_height c))
least (NeedParen f s) = least_need (f ∷ s)
