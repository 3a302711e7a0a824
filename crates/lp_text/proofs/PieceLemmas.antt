-- Pieces round a separator, and the pieces joined.
use Rattle.std.proofs.Common.{◌≡◌, ◌∙◌, ℕ, zero, suc, ◌+◌, ◌-◌, ◌<◌, ◌≤◌, List, [], ◌∷◌, ◌++◌, Option, Some, None, Bool, true, false, cond, length, take, drop, get_or, map, refl, ap, sym, subst, arith, append_assoc, length-append, length-drop, nat_eq}
use Rattle.std.proofs.lemmas.Grind.{common_steps}
use Rattle.std.proofs.lemmas.List.{drop-drop}
use Rattle.std.proofs.lemmas.List.Folds.{length-flat_map-take}
use Rattle.std.specs.Cmp.Lexicographic.{bytes_decides}
use Rattle.std.specs.List.{starts_with, flat_map}
use Rattle.lp_text.specs.Texts.{place_from, place}
use Rattle.lp_text.specs.Pieces.{pieces_after, pieces, with_head, exploded, imploded, AreNext, AreRoundFirst}
use Rattle.lp_text.proofs.FindLemmas.{not_past}
use Rattle.lp_values.specs.Limits.{max_code_points}

-- a text that another begins with is its front
is_front : (s t : List ℕ) → starts_with nat_eq s t ≡ true → t ≡ take (length t) s
is_front s t h = (bytes_decides t (take (length t) s)).0 h

front_fits : (s t : List ℕ) → starts_with nat_eq s t ≡ true → length t ≤ length s
front_fits s t h = let e : length t ≡ length (take (length t) s) = ap (λ (l : List ℕ). length l) (is_front s t h) in grind (arith, common_steps)

-- what is to be passed is dropped
skip_is : (by : List ℕ) (n : ℕ) (cs : List ℕ) → pieces_after by n cs ≡ pieces by (drop n cs)
skip_is by zero cs = refl
skip_is by (suc n) [] = refl
skip_is by (suc n) (c ∷ cs) = skip_is by n cs

pieces_cons : (by : List ℕ) (c : ℕ) (cs : List ℕ) (b : Bool) → starts_with nat_eq (c ∷ cs) by ≡ b → pieces by (c ∷ cs) ≡ cond b ([] ∷ pieces_after by (length by - 1) cs) (with_head c (pieces by cs))
pieces_cons by c cs b e = ap (λ (x : Bool). cond x ([] ∷ pieces_after by (length by - 1) cs) (with_head c (pieces by cs))) e

-- the pieces of a rest whose first code point has the place i, by the place of the separator
abbrev Found : List ℕ → ℕ → List ℕ → Option ℕ → Type 0
Found by i cs None = pieces by cs ≡ cs ∷ []
Found by i cs (Some j) = (i ≤ j) × (j + length by ≤ i + length cs) × (pieces by cs ≡ take (j - i) cs ∷ pieces by (drop (j + length by - i) cs))

later : (by : List ℕ) (c : ℕ) (cs : List ℕ) (i : ℕ) (r : Option ℕ) → pieces by (c ∷ cs) ≡ with_head c (pieces by cs) → Found by (i + 1) cs r → Found by i (c ∷ cs) r
later by c cs i None e f = e ∙ ap (with_head c) f
later by c cs i (Some j) e f =
    let k : j - i ≡ suc (j - (i + 1)) = omega (arith, f.0) in
    let m : j + length by - i ≡ suc (j + length by - (i + 1)) = omega (arith, f.0) in
    (omega (arith, f.0), omega (arith, f.1), rw (k, m) (e ∙ ap (with_head c) f.2))

here : (by : List ℕ) (c : ℕ) (cs : List ℕ) (i : ℕ) → 0 < length by → starts_with nat_eq (c ∷ cs) by ≡ true → Found by i (c ∷ cs) (Some i)
here by c cs i some e =
    let k : i - i ≡ 0 = omega arith in
    let m : i + length by - i ≡ suc (length by - 1) = omega arith in
    (omega arith, omega (arith, front_fits (c ∷ cs) by e), rw (k, m) (pieces_cons by c cs true e ∙ ap (λ (l : List (List ℕ)). [] ∷ l) (skip_is by (length by - 1) cs)))

found_cons : (by : List ℕ) (i c : ℕ) (cs : List ℕ) (b : Bool) → 0 < length by → starts_with nat_eq (c ∷ cs) by ≡ b → Found by (i + 1) cs (place_from by (i + 1) cs) → Found by i (c ∷ cs) (cond b (Some i) (place_from by (i + 1) cs))
found_cons by i c cs true some e f = here by c cs i some e
found_cons by i c cs false some e f = later by c cs i (place_from by (i + 1) cs) (pieces_cons by c cs false e) f

found : (by : List ℕ) → 0 < length by → (i : ℕ) (cs : List ℕ) → Found by i cs (place_from by i cs)
found by some i [] = let e : nat_eq (length by) 0 ≡ false = search arith in rw e refl
found by some i (c ∷ cs) = found_cons by i c cs (starts_with nat_eq (c ∷ cs) by) some refl (found by some (i + 1) cs)

from_rest : (by cs : List ℕ) (from : ℕ) (r : Option ℕ) → from ≤ length cs → Found by from (drop from cs) r → AreNext by cs from r
from_rest by cs from None le f = f
from_rest by cs from (Some j) le f =
    let n : length (drop from cs) ≡ length cs - from = length-drop from cs in
    let k : from + (j + length by - from) ≡ j + length by = omega (arith, f.0) in
    (f.0, omega (arith, f.0, f.1, n), f.2 ∙ ap (λ (l : List ℕ). take (j - from) (drop from cs) ∷ pieces by l) (drop-drop (j + length by - from) from cs ∙ ap (λ (x : ℕ). drop x cs) k))

-- the pieces of the rest from a place on are those round the next place of the separator
pub next : (by cs : List ℕ) (from : ℕ) → 0 < length by → from ≤ length cs → AreNext by cs from (place by cs from)
next by cs from some le = subst (AreNext by cs from) (sym (not_past by cs from le)) (from_rest by cs from (place_from by from (drop from cs)) le (found by some from (drop from cs)))

round_first : (by cs : List ℕ) (r : Option ℕ) → AreNext by cs 0 r → AreRoundFirst by cs (pieces by cs) r
round_first by cs None f = f
round_first by cs (Some i) f = let k : i - 0 ≡ i = omega arith in subst (λ (x : ℕ). pieces by cs ≡ take x cs ∷ pieces by (drop (i + length by) cs)) k f.2

exploded_is : (by cs : List ℕ) → 0 < length by → exploded by cs ≡ pieces by cs
exploded_is by cs some = let e : nat_eq (length by) 0 ≡ false = search arith in rw e refl

-- the pieces of a text are those round the first place of the separator
pub first : (by cs : List ℕ) → 0 < length by → AreRoundFirst by cs (exploded by cs) (place by cs 0)
first by cs some = rw (exploded_is by cs some) (round_first by cs (place by cs 0) (next by cs 0 some (omega arith)))

with_head_joined : (by : List ℕ) (c : ℕ) (ps : List (List ℕ)) → imploded by (with_head c ps) ≡ c ∷ imploded by ps
with_head_joined by c [] = refl
with_head_joined by c (p ∷ ps) = refl

front_joined : (by : List ℕ) (ps : List (List ℕ)) → 0 < length ps → imploded by ([] ∷ ps) ≡ by ++ imploded by ps
front_joined by [] some = absurd (omega (arith, some))
front_joined by (q ∷ qs) some = rw append_assoc refl

head_some : (c : ℕ) (ps : List (List ℕ)) → 0 < length (with_head c ps)
head_some c [] = omega arith
head_some c (p ∷ ps) = omega arith

cond_some : (b : Bool) (c : ℕ) (ps qs : List (List ℕ)) → 0 < length (cond b ([] ∷ ps) (with_head c qs))
cond_some true c ps qs = omega arith
cond_some false c ps qs = head_some c qs

pieces_some : (by : List ℕ) (n : ℕ) (cs : List ℕ) → 0 < length (pieces_after by n cs)
pieces_some by zero [] = omega arith
pieces_some by (suc n) [] = omega arith
pieces_some by (suc n) (c ∷ cs) = pieces_some by n cs
pieces_some by zero (c ∷ cs) = cond_some (starts_with nat_eq (c ∷ cs) by) c (pieces_after by (length by - 1) cs) (pieces by cs)

joined_cons : (by : List ℕ) (c : ℕ) (cs : List ℕ) (b : Bool) → 0 < length by → starts_with nat_eq (c ∷ cs) by ≡ b → imploded by (pieces_after by (length by - 1) cs) ≡ drop (length by - 1) cs → imploded by (pieces by cs) ≡ cs → imploded by (cond b ([] ∷ pieces_after by (length by - 1) cs) (with_head c (pieces by cs))) ≡ c ∷ cs
joined_cons by c cs true some e skipped rest =
    let k : length by ≡ suc (length by - 1) = omega arith in
    let d : drop (length by) (c ∷ cs) ≡ drop (length by - 1) cs = ap (λ (x : ℕ). drop x (c ∷ cs)) k in
    let t : by ≡ take (length by) (c ∷ cs) = is_front (c ∷ cs) by e in
    let whole : take (length by) (c ∷ cs) ++ drop (length by) (c ∷ cs) ≡ c ∷ cs = grind (arith, common_steps) in
    front_joined by (pieces_after by (length by - 1) cs) (pieces_some by (length by - 1) cs) ∙ ap (λ (l : List ℕ). by ++ l) (skipped ∙ sym d) ∙ ap (λ (l : List ℕ). l ++ drop (length by) (c ∷ cs)) t ∙ whole
joined_cons by c cs false some e skipped rest = with_head_joined by c (pieces by cs) ∙ ap (λ (l : List ℕ). c ∷ l) rest

joined_is : (by : List ℕ) → 0 < length by → (n : ℕ) (cs : List ℕ) → imploded by (pieces_after by n cs) ≡ drop n cs
joined_is by some zero [] = refl
joined_is by some (suc n) [] = refl
joined_is by some (suc n) (c ∷ cs) = joined_is by some n cs
joined_is by some zero (c ∷ cs) = joined_cons by c cs (starts_with nat_eq (c ∷ cs) by) some refl (joined_is by some (length by - 1) cs) (joined_is by some zero cs)

singles_flat : (cs : List ℕ) → flat_map (λ p. [] ++ p) (map (λ c. c ∷ []) cs) ≡ cs
singles_flat [] = refl
singles_flat (c ∷ cs) = ap (λ (l : List ℕ). c ∷ l) (singles_flat cs)

singles_joined : (cs : List ℕ) → imploded [] (map (λ c. c ∷ []) cs) ≡ cs
singles_joined [] = refl
singles_joined (c ∷ cs) = ap (λ (l : List ℕ). c ∷ l) (singles_flat cs)

-- imploding what was exploded gives the text
pub round_trip : (by cs : List ℕ) → imploded by (exploded by cs) ≡ cs
round_trip [] cs = singles_joined cs
round_trip (b ∷ bs) cs = ap (imploded (b ∷ bs)) (exploded_is (b ∷ bs) cs (omega arith)) ∙ joined_is (b ∷ bs) (omega arith) 0 cs

-- with one more text the whole is at least as long as what there is so far and that text
pub too_long : (by : List ℕ) (rest : List (List ℕ)) (i start total : ℕ) (p : List ℕ) → i < length rest → p ≡ get_or rest i p → total ≡ start + length (flat_map (λ p. by ++ p) (take i rest)) → max_code_points < total + (length by + length p) → start + length (flat_map (λ p. by ++ p) rest) ≤ max_code_points → ⊥
too_long by rest i start total p lt e sofar above fits =
    let a : length (by ++ get_or rest i p) ≡ length by + length (get_or rest i p) = length-append by (get_or rest i p) in
    let n : length p ≡ length (get_or rest i p) = ap (λ (l : List ℕ). length l) e in
    omega (arith, length-flat_map-take (λ p. by ++ p) rest i p lt, a, n, sofar, above, fits)
