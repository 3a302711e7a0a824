-- Signs stand in order, each behind the one before.
use Rattle.std.proofs.Common.{ℕ, zero, suc, ◌+◌, ◌<◌, ◌≤◌, Bool, true, false, cond, List, [], ◌∷◌, sym, subst, arith}
use Rattle.std.proofs.lemmas.Str.{len_utf8_bounds}
use Rattle.std.specs.Char.{len_utf8}
use Rattle.lp_lexer.specs.declared.sign.Sign.{Sign}
use Rattle.lp_lexer.specs.Source.{Rest, skipped, signs, joins, line_after, width, end_of}
use Rattle.lp_lexer.specs.Lexis.{Place, begin_of, Reaches, here, more, ReachesOpenComment}
use Rattle.lp_lexer.proofs.Advances.{Advances, then_on, stays, weaker, next-advances}

-- the signs begin behind a place, in order, and end by a limit
abbrev pub IsOrdered : ℕ → ℕ → List Sign → Type 0
IsOrdered limit behind [] = behind ≤ limit
IsOrdered limit behind (s ∷ ss) = (behind ≤ s.at) × IsOrdered limit (end_of s) ss

ordered_if : (limit behind : ℕ) (b : Bool) (xs ys : List Sign) → IsOrdered limit behind xs → IsOrdered limit behind ys → IsOrdered limit behind (cond b xs ys)
ordered_if limit behind true xs ys a c = a
ordered_if limit behind false xs ys a c = c

pub signs-ordered : (limit behind at line : ℕ) (cs : List ℕ) → behind ≤ at → at + width cs ≤ limit → IsOrdered limit behind (signs at line cs)
signs-ordered limit behind at line [] h k = omega arith
signs-ordered limit behind at line (c ∷ []) h k = (h, omega arith)
signs-ordered limit behind at line (c ∷ d ∷ cs) h k =
    let x = len_utf8_bounds c in
    let y = len_utf8_bounds d in
    ordered_if limit behind (joins c d) (signs (at + 2) (line + 1) cs) _
    (signs-ordered limit behind (at + 2) (line + 1) cs (omega arith) (omega (arith, x.0, y.0)))
    (h, signs-ordered limit (at + len_utf8 c) (at + len_utf8 c) (line_after line c) (d ∷ cs) (omega arith) (omega arith))

pub skipped-ordered : (limit n behind : ℕ) (ss : List Sign) → IsOrdered limit behind ss → IsOrdered limit (skipped n behind ss).behind (skipped n behind ss).left
skipped-ordered limit zero behind ss h = h
skipped-ordered limit (suc n) behind [] h = h
skipped-ordered limit (suc n) behind (s ∷ ss) h = skipped-ordered limit n (end_of s) ss h.1

pub ordered_within : (limit behind : ℕ) (ss : List Sign) → IsOrdered limit behind ss → behind ≤ limit
ordered_within limit behind [] h = h
ordered_within limit behind (s ∷ ss) h = let k = ordered_within limit (end_of s) ss h.1 in omega (arith, h.0, k)

pub reaches-advances : {a p : Place} → Reaches a p → Advances 0 a.rest.behind a.rest.left p.rest
reaches-advances {a} here = stays a.rest.behind a.rest.left
reaches-advances {a} (more {p} {q} r e) = weaker (then_on (reaches-advances r) (next-advances p q e)) (omega arith)

pub reached-ordered : (limit : ℕ) (a p : Place) → Reaches a p → IsOrdered limit a.rest.behind a.rest.left → IsOrdered limit p.rest.behind p.rest.left
reached-ordered limit a p r h =
    let d = reaches-advances r in
    subst (λ (x : Rest). IsOrdered limit x.behind x.left) (sym d.is) (skipped-ordered limit d.signs a.rest.behind a.rest.left h)

pub begin-ordered : (cs : List ℕ) → IsOrdered (width cs) 0 (signs 0 1 cs)
begin-ordered cs = signs-ordered (width cs) 0 0 1 cs (omega arith) (omega arith)

-- a comment that is found begins within the source
pub open_within : (cs : List ℕ) (n : ℕ) → ReachesOpenComment (begin_of cs) n → n < width cs
open_within cs n x =
    let h = reached-ordered (width cs) (begin_of cs) x.0 x.3 (begin-ordered cs) in
    let k : IsOrdered (width cs) x.0.rest.behind (x.1 ∷ x.2) = subst (IsOrdered (width cs) x.0.rest.behind) x.4 h in
    let w = ordered_within (width cs) (end_of x.1) x.2 k.1 in
    let b = len_utf8_bounds x.1.code in
    omega (arith, w, b.0, x.6)
