-- What instructions lead to is steady.
use Rattle.std.proofs.Common.{◌≡◌, ℕ, zero, suc, refl, sym, ◌∙◌, ap, subst, arith, Bool, true, false, ◌&&◌, cond, List, [], ◌∷◌, ◌++◌, Contains, Option, Some, None, slice_get}
use Rattle.std.proofs.lemmas.List.Elements.{Contains-append_right}
use Rattle.lp_instr.specs.declared.instr.Instr.{Instr}
use Rattle.lp_instr.specs.Sound.{Shape}
use Rattle.lp_code.specs.declared.program.RawProgram.{RawProgram}
use Rattle.lp_code.specs.Inside.{stands}
use Rattle.lp_verify.specs.declared.effect.Effect.{Effect}
use Rattle.lp_verify.specs.declared.effect.Exit.{Exit}
use Rattle.lp_verify.specs.Effects.{effect_of}
use Rattle.lp_verify.specs.Paths.{Known, Never, Once, Mixed, Fits, Way}
use Rattle.lp_verify.specs.Flow.{exits, exits_hold, holds, is_within, mixed_at, lead, leads, goes_on, ways_from, ways}
use Rattle.lp_verify.specs.Work.{AreSteady}
use Rattle.lp_verify.proofs.Growing.{fits_same, fits_mixed}

and_left : (x y : Bool) → (x && y) ≡ true → x ≡ true
and_left true y h = refl
and_left false y h = h

and_right : (x y : Bool) → (x && y) ≡ true → y ≡ true
and_right true y h = h
and_right false y h = cc

abbrev pub Better : List Way → Way → Type 0
Better ws w = (v : Way) × Contains ws v × (v.to ≡ w.to) × Fits w.known v.known

one_of : (w v : Way) → Contains (v ∷ []) w → v ≡ w
one_of w v (zero, lt, e) = e
one_of w v (suc k, lt, e) = absurd (omega (arith, lt))

front : (c : Bool) (to : ℕ) (ws : List Way) → c ≡ true → Contains (cond c (mixed_at to ∷ []) [] ++ ws) (mixed_at to)
front true to ws h = (0, omega arith, refl)
front false to ws h = cc

once_better : (p : RawProgram) (at : ℕ) (f : Shape) (e : Effect) (xs : List Exit) (w : Way) → exits_hold p at f e xs ≡ true
    → Contains (leads p at (Once f) e xs) w → Better (leads p at Mixed e xs) w
once_better p at f e [] w h (k, lt, q) = absurd (omega (arith, lt))
once_better p at f e (x ∷ xs) w h (zero, lt, q) =
    (mixed_at x.to, front (is_within p at x.to) x.to (leads p at Mixed e xs) (and_left _ _ (and_left _ _ (and_left _ _ h))), ap (λ (v : Way). v.to) q, fits_mixed w.known)
once_better p at f e (x ∷ xs) w h (suc k, lt, q) =
    let r = once_better p at f e xs w (and_right _ _ h) (k, omega (arith, lt), q) in
    (r.0, Contains-append_right (lead p at Mixed e x) (leads p at Mixed e xs) r.0 r.1, r.2, r.3)

pub held_exits : (p : RawProgram) (at : ℕ) (f : Shape) (i : Instr) → holds p at f i ≡ true → exits_hold p at f (effect_of i) (exits p at (effect_of i)) ≡ true
held_exits p at f i h = and_right _ _ (and_left _ _ (and_right (stands p at i) _ h))

cond_better : (c : Bool) (ws vs : List Way) (w : Way) → (c ≡ true → Contains ws w → Better vs w) → Contains (cond c ws []) w → Better vs w
cond_better true ws vs w go h = go refl h
cond_better false ws vs w go (k, lt, q) = absurd (omega (arith, lt))

same_better : (ws : List Way) (w : Way) → Contains ws w → Better ws w
same_better ws w h = (w, h, refl, fits_same w.known)

more_from : (p : RawProgram) (at : ℕ) (k j : Known) (w : Way) (o : Option Instr) → Fits k j → Contains (ways_from p at k o) w → Better (ways_from p at j o) w
more_from p at k j w None f (n, lt, q) = absurd (omega (arith, lt))
more_from p at Never j w (Some i) f (n, lt, q) = absurd (omega (arith, lt))
more_from p at (Once x) Never w (Some i) f h = absurd f
more_from p at (Once x) (Once y) w (Some i) f h = let P : Shape → Type 0 = λ z. Better (ways_from p at (Once z) (Some i)) w in subst P f (same_better (ways_from p at (Once x) (Some i)) w h)
more_from p at (Once x) Mixed w (Some i) f h = cond_better (holds p at x i) (leads p at (Once x) (effect_of i) (exits p at (effect_of i))) (leads p at Mixed (effect_of i) (exits p at (effect_of i))) w
    (λ t c. once_better p at x (effect_of i) (exits p at (effect_of i)) w (held_exits p at x i t) c) h
more_from p at Mixed Never w (Some i) f h = absurd f
more_from p at Mixed (Once y) w (Some i) f h = absurd f
more_from p at Mixed Mixed w (Some i) f h = same_better (leads p at Mixed (effect_of i) (exits p at (effect_of i))) w h

nowhere_from : (p : RawProgram) (at : ℕ) (o : Option Instr) → ways_from p at Never o ≡ []
nowhere_from p at None = refl
nowhere_from p at (Some i) = refl

pub are_steady : (p : RawProgram) → AreSteady (ways p)
unfolding ways
are_steady p = record {
  nowhere = λ at. nowhere_from p at (slice_get p.instrs at);
  more = λ at k j w f c. more_from p at k j w (slice_get p.instrs at) f c;
}

-- what is carried on from a place, by its instruction
pub ways_on : (p : RawProgram) (at : ℕ) (k : Known) (i : Instr) (ws : List Way) → slice_get p.instrs at ≡ Some i → goes_on p at k i ≡ true → ws ≡ leads p at k (effect_of i) (exits p at (effect_of i)) → ws ≡ ways p at k
unfolding ways
ways_on p at k i ws g t e = e ∙ ap (λ c. cond c (leads p at k (effect_of i) (exits p at (effect_of i))) []) (sym t) ∙ ap (ways_from p at k) (sym g)

pub ways_off : (p : RawProgram) (at : ℕ) (k : Known) (i : Instr) → slice_get p.instrs at ≡ Some i → goes_on p at k i ≡ false → [] ≡ ways p at k
unfolding ways
ways_off p at k i g t = ap (λ c. cond c (leads p at k (effect_of i) (exits p at (effect_of i))) []) (sym t) ∙ ap (ways_from p at k) (sym g)
