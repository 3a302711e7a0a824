-- What is computed at a place is what the definitions say there.
use Rattle.std.proofs.Common.{◌≡◌, ◌≤◌, ◌<◌, ℕ, zero, suc, ◌+◌, ◌*◌, inl, inr, refl, sym, ◌∙◌, ap, subst, arith, Bool, true, false, not, cond, ◌&&◌, nat_lt, List, [], ◌∷◌, ◌++◌, All, Contains, length, map, take, replicate, get_or, Option, Some, None, slice_get}
use Rattle.std.proofs.lemmas.List.{length-map, length-replicate, append-nil, append_assoc}
use Rattle.std.proofs.lemmas.List.Elements.{All-cons, All-nil, All-head, All-weaker, All-append, Contains-append_right}
use Rattle.lp_instr.specs.declared.instr.Instr.{Instr}
use Rattle.lp_instr.specs.Code.{Catching}
use Rattle.lp_instr.specs.Sound.{Shape}
use Rattle.lp_code.specs.declared.program.RawProgram.{RawProgram}
use Rattle.lp_code.specs.declared.program.FunRow.{FunRow}
use Rattle.lp_code.specs.Inside.{stands}
use Rattle.lp_verify.specs.declared.effect.Effect.{Effect}
use Rattle.lp_verify.specs.declared.seen.Seen.{Seen}
use Rattle.lp_verify.specs.declared.seen.Seen.TheVariants as seen
use Rattle.lp_verify.specs.declared.walk.Walk.{Walk}
use Rattle.lp_verify.specs.Effects.{effect_of}
use Rattle.lp_verify.specs.Fails.{is_bad, bad, Fails, NoneFails, IsLeast}
use Rattle.lp_verify.specs.Flow.{exits, flows, goes_on, holds, leads, start_ways, starts, starts_in, ways}
use Rattle.lp_verify.specs.Openings.{list_at}
use Rattle.lp_verify.specs.Paths.{Known, Never, Once, Mixed, Fits, Way, begins, at as known_at, begin_shape}
use Rattle.lp_verify.specs.Walks.{known_of, facts, IsIn, IsWalk, IsStarted, IsNew, MayLead, Moves}
use Rattle.lp_verify.specs.Work.{AreBegun, IsAll, IsLearned, Works, left, Grows}
use Rattle.lp_verify.proofs.Growing.{fits_trans, same_or}
use Rattle.lp_verify.proofs.Opened.{goes_at, goes_longer}
use Rattle.lp_verify.proofs.Steady.{are_steady, held_exits, ways_on, ways_off}
use Rattle.lp_verify.proofs.Walking.{fact_at, moves_none}
use Rattle.lp_verify.proofs.Working.{works_none, works_more, works_on, works_end, less_on, works_in}

pub bad_read : (p : RawProgram) (at : ℕ) (i : Instr) (k j : Known) (b : Bool) → slice_get p.instrs at ≡ Some i → k ≡ j → b ≡ is_bad p at j (Some i) → b ≡ bad p at k
unfolding bad
bad_read p at i k j b g e h = h ∙ ap (is_bad p at j) (sym g) ∙ ap (λ z. is_bad p at z (slice_get p.instrs at)) (sym e)

may_from : (p : RawProgram) (at : ℕ) (k : Known) (i : Instr) → goes_on p at k i ≡ true → MayLead p at k (effect_of i) (exits p at (effect_of i))
may_from p at Never i h = tt
may_from p at (Once f) i h = held_exits p at f i h
may_from p at Mixed i h = tt

-- behind an instruction that paths go on from, each exit may be taken
pub look_may : (p : RawProgram) (at : ℕ) (k : Known) (i : Instr) (e : Effect) (b : Bool) → b ≡ goes_on p at k i → b ≡ true → e ≡ effect_of i → MayLead p at k e (exits p at e)
look_may p at k i e b g t f = let P : Effect → Type 0 = λ z. MayLead p at k z (exits p at z) in subst P (sym f) (may_from p at k i (sym g ∙ t))

pub look_on : (p : RawProgram) (at : ℕ) (v : Seen) (i : Instr) (e : Effect) (b : Bool) (a c : Walk) → at < length p.instrs → length a.seen.items ≡ length p.instrs → v ≡ get_or a.seen.items at v → slice_get p.instrs at ≡ Some i
    → b ≡ goes_on p at (known_of a.openings v) i → b ≡ true → e ≡ effect_of i → Moves (leads p at (known_of a.openings v) e (exits p at e)) a c → Moves (ways p at (known_at (facts a) at)) a c
look_on p at v i e b a c l s r g h t f m =
    let P : List Way → Type 0 = λ z. Moves z a c in
    let q = ways_on p at (known_of a.openings v) i (leads p at (known_of a.openings v) e (exits p at e)) g (sym h ∙ t) (ap (λ z. leads p at (known_of a.openings v) z (exits p at z)) f) in
    subst P (q ∙ ap (ways p at) (sym (fact_at a.openings a.seen.items at v (omega (arith, l, s)) r))) m

pub look_off : (p : RawProgram) (at : ℕ) (v : Seen) (i : Instr) (b : Bool) (a : Walk) → at < length p.instrs → length a.seen.items ≡ length p.instrs → v ≡ get_or a.seen.items at v → slice_get p.instrs at ≡ Some i
    → b ≡ goes_on p at (known_of a.openings v) i → b ≡ false → IsWalk a → Moves (ways p at (known_at (facts a) at)) a a
look_off p at v i b a l s r g h t w =
    let P : List Way → Type 0 = λ z. Moves z a a in
    subst P (ways_off p at (known_of a.openings v) i g (sym h ∙ t) ∙ ap (ways p at) (sym (fact_at a.openings a.seen.items at v (omega (arith, l, s)) r))) (moves_none a w)

nevers : (lists : List (List Catching)) (n : ℕ) → map (known_of lists) (replicate n seen.Never) ≡ replicate n Never
nevers lists zero = refl
nevers lists (suc n) = ap (λ z. Never ∷ z) (nevers lists n)

all_in : (lists : List (List Catching)) (n : ℕ) → All (IsIn lists) (replicate n seen.Never)
all_in lists zero = All-nil (IsIn lists)
all_in lists (suc n) = All-cons (IsIn lists) seen.Never (replicate n seen.Never) tt (all_in lists n)

pub new_walk : (n : ℕ) (w : Walk) → w.openings ≡ [] ∷ [] → w.seen.items ≡ replicate n seen.Never → w.todo.items ≡ [] → IsNew n w
new_walk n w o s t = record {
  started = record {
    walk = (let P : List Seen → Type 0 = λ z. All (IsIn w.openings) z in subst P (sym s) (all_in w.openings n));
    first = ap (λ z. list_at z 0) o;
    some = (let e = ap length o in omega (arith, e));
  };
  facts_are = ap (map (known_of w.openings)) s ∙ nevers w.openings n;
  todo_is = t;
}

-- What holds while paths are begun.
pub record Begins (p : RawProgram) (i : ℕ) (w : Walk) : Type 0 where
  pub started : IsStarted w
  pub size : length w.seen.items ≡ length p.instrs
  pub works : Works (ways p) (starts p) (facts w) w.todo.items
  pub begun : AreBegun (starts_in (length p.instrs) (take i p.funs)) (facts w)

pub begins_none : (p : RawProgram) (n : ℕ) (w : Walk) → n ≡ length p.instrs → IsNew n w → Begins p 0 w
begins_none p n w e h = record {
  started = h.started;
  size = (let a = length-map w.seen.items (known_of w.openings) in let b = ap length h.facts_are in let c = length-replicate n Never in omega (arith, a, b, c, e));
  works = (let P : List Known → Type 0 = λ xs. Works (ways p) (starts p) xs w.todo.items in subst P (sym h.facts_are)
      (let Q : List ℕ → Type 0 = λ t. Works (ways p) (starts p) (replicate n Never) t in subst Q (sym h.todo_is) (works_none (ways p) (starts p) n (are_steady p))));
  begun = none p.funs;
}
  where
    none : (rows : List FunRow) → AreBegun (starts_in (length p.instrs) (take 0 rows)) (facts w)
    none [] = All-nil (λ q. Fits (Once begin_shape) (known_at (facts w) q))
    none (r ∷ rs) = All-nil (λ q. Fits (Once begin_shape) (known_at (facts w) q))

starts_append : (n : ℕ) (xs ys : List FunRow) → starts_in n (xs ++ ys) ≡ starts_in n xs ++ starts_in n ys
starts_append n [] ys = refl
starts_append n (x ∷ xs) ys = ap (λ z. cond (nat_lt x.from n) (x.from ∷ []) [] ++ z) (starts_append n xs ys) ∙ sym (append_assoc (cond (nat_lt x.from n) (x.from ∷ []) []) (starts_in n xs) (starts_in n ys))

take_one : (rows : List FunRow) (i : ℕ) (r : FunRow) → i < length rows → r ≡ get_or rows i r → take (suc i) rows ≡ take i rows ++ (r ∷ [])
take_one [] i r h e = absurd (omega (arith, h))
take_one (x ∷ xs) zero r h e = let s : x ≡ r = sym e in ap (λ z. z ∷ []) s
take_one (x ∷ xs) (suc i) r h e = ap (λ z. x ∷ z) (take_one xs i r (omega (arith, h)) e)

starts_more : (n : ℕ) (rows : List FunRow) (i : ℕ) (r : FunRow) → i < length rows → r ≡ get_or rows i r → starts_in n (take (i + 1) rows) ≡ starts_in n (take i rows) ++ cond (nat_lt r.from n) (r.from ∷ []) []
starts_more n rows i r h e = let f : i + 1 ≡ suc i = omega arith in
    ap (λ k. starts_in n (take k rows)) f ∙ ap (starts_in n) (take_one rows i r h e) ∙ starts_append n (take i rows) (r ∷ []) ∙ ap (λ z. starts_in n (take i rows) ++ z) (append-nil (cond (nat_lt r.from n) (r.from ∷ []) []))

start_in : (n : ℕ) (rows : List FunRow) (i : ℕ) (r : FunRow) → i < length rows → r ≡ get_or rows i r → nat_lt r.from n ≡ true → Contains (starts_in n rows) r.from
start_in n [] i r h e t = absurd (omega (arith, h))
start_in n (x ∷ xs) zero r h e t = let P : FunRow → Type 0 = λ z. Contains (starts_in n (z ∷ xs)) r.from in
    subst P e (let Q : Bool → Type 0 = λ c. Contains (cond c (r.from ∷ []) [] ++ starts_in n xs) r.from in subst Q (sym t) (0, omega arith, refl))
start_in n (x ∷ xs) (suc i) r h e t = Contains-append_right (cond (nat_lt x.from n) (x.from ∷ []) []) (starts_in n xs) r.from (start_in n xs i r (omega (arith, h)) e t)

learned_start : (p : RawProgram) (q : ℕ) (c : Bool) → (c ≡ true → Contains (starts p) q)
    → All (λ (w : Way). IsLearned (ways p) (starts p) w.to w.known) (cond c (record { to = q; known = Once begin_shape } ∷ []) [])
learned_start p q true h = All-cons (λ (w : Way). IsLearned (ways p) (starts p) w.to w.known) (record { to = q; known = Once begin_shape }) [] (begins (h refl)) (All-nil (λ (w : Way). IsLearned (ways p) (starts p) w.to w.known))
learned_start p q false h = All-nil (λ (w : Way). IsLearned (ways p) (starts p) w.to w.known)

begun_start : (xs : List Known) (q : ℕ) (c : Bool) → All (λ (w : Way). Fits w.known (known_at xs w.to)) (cond c (record { to = q; known = Once begin_shape } ∷ []) []) → All (λ z. Fits (Once begin_shape) (known_at xs z)) (cond c (q ∷ []) [])
begun_start xs q true h = All-cons (λ z. Fits (Once begin_shape) (known_at xs z)) q [] (All-head (λ (w : Way). Fits w.known (known_at xs w.to)) (record { to = q; known = Once begin_shape }) [] h) (All-nil (λ z. Fits (Once begin_shape) (known_at xs z)))
begun_start xs q false h = All-nil (λ z. Fits (Once begin_shape) (known_at xs z))

pub started_then : (a b : Walk) (ws : List Way) → IsStarted a → Moves ws a b → IsStarted b
started_then a b ws h m = record {
  walk = m.walk;
  first = goes_at a.openings b.openings 0 m.goes_on h.some ∙ h.first;
  some = (let l = goes_longer a.openings b.openings m.goes_on in let s = h.some in omega (arith, l, s));
}

pub size_then : (n : ℕ) (a b : Walk) (ws : List Way) → length a.seen.items ≡ n → Moves ws a b → length b.seen.items ≡ n
size_then n a b ws h m = let s = m.grows.size in let x = length-map a.seen.items (known_of a.openings) in let y = length-map b.seen.items (known_of b.openings) in omega (arith, s, x, y, h)

pub begins_more : (p : RawProgram) (i : ℕ) (r : FunRow) (a b : Walk) → i < length p.funs → r ≡ get_or p.funs i r → Begins p i a → Moves (start_ways (length a.seen.items) r.from) a b → Begins p (i + 1) b
begins_more p i r a b l e h m =
    let Q : ℕ → Type 0 = λ z. Moves (start_ways z r.from) a b in
    let g : Moves (start_ways (length p.instrs) r.from) a b = subst Q h.size m in
    record {
      started = started_then a b (start_ways (length p.instrs) r.from) h.started g;
      size = size_then (length p.instrs) a b (start_ways (length p.instrs) r.from) h.size g;
      works = works_more (ways p) (starts p) (start_ways (length p.instrs) r.from) (facts a) (facts b) a.todo.items b.todo.items h.works
          (learned_start p r.from (nat_lt r.from (length p.instrs)) (λ t. start_in (length p.instrs) p.funs i r l e t)) g.grows;
      begun = (let P : List ℕ → Type 0 = λ z. AreBegun z (facts b) in subst P (sym (starts_more (length p.instrs) p.funs i r l e))
          (All-append (λ z. Fits (Once begin_shape) (known_at (facts b) z)) (starts_in (length p.instrs) (take i p.funs)) (cond (nat_lt r.from (length p.instrs)) (r.from ∷ []) [])
          (All-weaker (λ z. Fits (Once begin_shape) (known_at (facts a) z)) (λ z. Fits (Once begin_shape) (known_at (facts b) z)) (λ z f. fits_trans (Once begin_shape) (known_at (facts a) z) (known_at (facts b) z) f (g.grows.above z)) (starts_in (length p.instrs) (take i p.funs)) h.begun)
          (begun_start (facts b) r.from (nat_lt r.from (length p.instrs)) g.grows.says)));
    }

take_all : (rows : List FunRow) (i : ℕ) → length rows ≤ i → take i rows ≡ rows
take_all [] zero h = refl
take_all [] (suc i) h = refl
take_all (x ∷ xs) zero h = absurd (omega (arith, h))
take_all (x ∷ xs) (suc i) h = ap (λ z. x ∷ z) (take_all xs i (omega (arith, h)))

-- What holds while paths are walked.
pub record Solves (p : RawProgram) (w : Walk) : Type 0 where
  pub walk : IsWalk w
  pub size : length w.seen.items ≡ length p.instrs
  pub works : Works (ways p) (starts p) (facts w) w.todo.items
  pub begun : AreBegun (starts p) (facts w)

pub solves_begin : (p : RawProgram) (i : ℕ) (w : Walk) → length p.funs ≤ i → Begins p i w → Solves p w
solves_begin p i w l h = record {
  walk = h.started.walk;
  size = h.size;
  works = h.works;
  begun = (let P : List FunRow → Type 0 = λ z. AreBegun (starts_in (length p.instrs) z) (facts w) in subst P (take_all p.funs i l) h.begun);
}

pub solves_on : (p : RawProgram) (q : ℕ) (a b c : Walk) → Solves p a → b.openings ≡ a.openings → b.seen.items ≡ a.seen.items → a.todo.items ≡ b.todo.items ++ (q ∷ []) → Moves (ways p q (known_at (facts b) q)) b c → Solves p c
solves_on p q a b c h o s t m =
    let same : facts b ≡ facts a = ap (λ z. map (known_of z) b.seen.items) o ∙ ap (map (known_of a.openings)) s in
    let P : List Known → Type 0 = λ xs. Grows (ways p q (known_at xs q)) xs b.todo.items (facts c) c.todo.items in
    let g : Grows (ways p q (known_at (facts a) q)) (facts a) b.todo.items (facts c) c.todo.items = subst P same m.grows in
    record {
      walk = m.walk;
      size = size_then (length p.instrs) b c (ways p q (known_at (facts b) q)) (ap length s ∙ h.size) m;
      works = works_on (ways p) (starts p) (facts a) (facts c) a.todo.items b.todo.items c.todo.items q (ways p q (known_at (facts a) q)) (are_steady p) h.works t refl g;
      begun = All-weaker (λ z. Fits (Once begin_shape) (known_at (facts a) z)) (λ z. Fits (Once begin_shape) (known_at (facts c) z)) (λ z f. fits_trans (Once begin_shape) (known_at (facts a) z) (known_at (facts c) z) f (g.above z)) (starts p) h.begun;
    }

pub solves_less : (p : RawProgram) (q : ℕ) (a b c : Walk) → Solves p a → b.openings ≡ a.openings → b.seen.items ≡ a.seen.items → a.todo.items ≡ b.todo.items ++ (q ∷ []) → Moves (ways p q (known_at (facts b) q)) b c
    → 2 * left (facts c) + length c.todo.items < 2 * left (facts a) + length a.todo.items
solves_less p q a b c h o s t m =
    let same : facts b ≡ facts a = ap (λ z. map (known_of z) b.seen.items) o ∙ ap (map (known_of a.openings)) s in
    let P : List Known → Type 0 = λ xs. Grows (ways p q (known_at (facts b) q)) xs b.todo.items (facts c) c.todo.items in
    less_on (ways p q (known_at (facts b) q)) (facts a) (facts c) a.todo.items b.todo.items c.todo.items q t (subst P same m.grows)

pub solves_in : (p : RawProgram) (q : ℕ) (a : Walk) (rest : List ℕ) → Solves p a → a.todo.items ≡ rest ++ (q ∷ []) → q < length p.instrs
solves_in p q a rest h t = let l = works_in (ways p) (starts p) (facts a) a.todo.items rest q h.works t in let x = length-map a.seen.items (known_of a.openings) in let s = h.size in omega (arith, l, x, s)

pub solves_end : (p : RawProgram) (a : Walk) → Solves p a → a.todo.items ≡ [] → IsAll (ways p) (starts p) (facts a)
solves_end p a h t = let P : List ℕ → Type 0 = λ z. Works (ways p) (starts p) (facts a) z in works_end (ways p) (starts p) (facts a) (are_steady p) h.begun (subst P t h.works)

not_true : (b c : Bool) → (b ≡ true → c ≡ true) → not c ≡ true → not b ≡ true
not_true true c f h = let t = f refl in cc
not_true false c f h = refl

first_true : (x y : Bool) → (x && y) ≡ true → x ≡ true
first_true true y h = refl
first_true false y h = h

holds_stands : (p : RawProgram) (at : ℕ) (f : Shape) (i : Instr) → holds p at f i ≡ true → stands p at i ≡ true
holds_stands p at f i h = first_true (stands p at i) (flows p at f (effect_of i)) h

-- what says more is bad where less is
more_bad : (p : RawProgram) (at : ℕ) (k j : Known) (o : Option Instr) → Fits k j → is_bad p at k o ≡ true → is_bad p at j o ≡ true
more_bad p at k j None f h = cc
more_bad p at Never Never (Some i) f h = h
more_bad p at Never (Once x) (Some i) f h = not_true (holds p at x i) (stands p at i) (holds_stands p at x i) h
more_bad p at Never Mixed (Some i) f h = refl
more_bad p at (Once x) Never (Some i) f h = absurd f
more_bad p at (Once x) (Once y) (Some i) f h = let P : Shape → Type 0 = λ z. not (holds p at z i) ≡ true in subst P f h
more_bad p at (Once x) Mixed (Some i) f h = refl
more_bad p at Mixed Never (Some i) f h = absurd f
more_bad p at Mixed (Once y) (Some i) f h = absurd f
more_bad p at Mixed Mixed (Some i) f h = refl

-- where all is known, an instruction fails just where what is said of it is bad
pub fails_said : (p : RawProgram) (at : ℕ) (xs : List Known) → IsAll (ways p) (starts p) xs → Fails p at → bad p at (known_at xs at) ≡ true
unfolding bad
fails_said p at xs h (inl g) = more_bad p at Never (known_at xs at) (slice_get p.instrs at) tt g
fails_said p at xs h (inr (k, l, g)) = more_bad p at k (known_at xs at) (slice_get p.instrs at) (h.whole at k l) g

fails_from : (p : RawProgram) (at : ℕ) (k : Known) → IsLearned (ways p) (starts p) at k → bad p at k ≡ true → Fails p at
fails_from p at Never h g = inl g
fails_from p at (Once f) h g = inr (Once f, h, g)
fails_from p at Mixed h g = inr (Mixed, h, g)

pub said_fails : (p : RawProgram) (at : ℕ) (xs : List Known) → IsAll (ways p) (starts p) xs → bad p at (known_at xs at) ≡ true → Fails p at
said_fails p at xs h g = fails_from p at (known_at xs at) (h.learned at) g

no_both : (x : Bool) → x ≡ true → x ≡ false → ⊥
no_both true a b = cc
no_both false a b = cc

pub none_more : (p : RawProgram) (n : ℕ) (w : Walk) (v : Seen) (b : Bool) → IsAll (ways p) (starts p) (facts w) → n < length w.seen.items → v ≡ get_or w.seen.items n v → b ≡ bad p n (known_of w.openings v) → b ≡ false → NoneFails p n → NoneFails p (n + 1)
none_more p n w v b h lt r e g none at l f = elim (same_or at n) [
  | inl q ↦ let F : ℕ → Type 0 = λ z. Fails p z in
      no_both (bad p n (known_at (facts w) n)) (fails_said p n (facts w) h (subst F q f)) (ap (bad p n) (fact_at w.openings w.seen.items n v lt r) ∙ sym e ∙ g)
  | inr o ↦ none at (omega (arith, l, o)) f
]

pub least_here : (p : RawProgram) (n : ℕ) (w : Walk) (v : Seen) (b : Bool) → IsAll (ways p) (starts p) (facts w) → n < length w.seen.items → v ≡ get_or w.seen.items n v → b ≡ bad p n (known_of w.openings v) → b ≡ true → NoneFails p n → IsLeast p (Some n)
least_here p n w v b h lt r e g none = (said_fails p n (facts w) h (ap (bad p n) (fact_at w.openings w.seen.items n v lt r) ∙ sym e ∙ g), none)

pub none_all : (p : RawProgram) (n m : ℕ) → m ≤ n → NoneFails p n → NoneFails p m
none_all p n m l h at k = h at (omega (arith, k, l))

pub begins_more_at : (p : RawProgram) (fs : List FunRow) (i : ℕ) (r : FunRow) (a b : Walk) → fs ≡ p.funs → i < length fs → r ≡ get_or fs i r → Begins p i a → Moves (start_ways (length a.seen.items) r.from) a b → Begins p (i + 1) b
begins_more_at p fs i r a b q l e h m = begins_more p i r a b (let P : List FunRow → Type 0 = λ z. i < length z in subst P q l) (e ∙ ap (λ z. get_or z i r) q) h m

pub solves_begin_at : (p : RawProgram) (fs : List FunRow) (i : ℕ) (w : Walk) → fs ≡ p.funs → length fs ≤ i → Begins p i w → Solves p w
solves_begin_at p fs i w q l h = solves_begin p i w (let P : List FunRow → Type 0 = λ z. length z ≤ i in subst P q l) h

pub solves_end_at : (p : RawProgram) (a b : Walk) → Solves p a → b.openings ≡ a.openings → b.seen.items ≡ a.seen.items → a.todo.items ≡ [] → IsAll (ways p) (starts p) (facts b)
solves_end_at p a b h o s t = let P : List Known → Type 0 = λ z. IsAll (ways p) (starts p) z in
    subst P (sym (ap (λ z. map (known_of z) b.seen.items) o ∙ ap (map (known_of a.openings)) s)) (solves_end p a h t)

pub facts_size : (w : Walk) → length (facts w) ≡ length w.seen.items
facts_size w = length-map w.seen.items (known_of w.openings)
