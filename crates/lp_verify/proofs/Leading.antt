-- What is learned behind the exits of an instruction.
use Rattle.std.proofs.Common.{◌≡◌, ◌≤◌, ◌<◌, ℕ, zero, suc, ◌+◌, ◌-◌, refl, sym, ◌∙◌, ap, subst, arith, List, [], ◌∷◌, ◌++◌, All, length, map, take, get_or, Option, Some, Bool, true, false, ◌&&◌}
use Rattle.std.proofs.lemmas.List.{append_assoc, length-map}
use Rattle.std.proofs.lemmas.List.Elements.{All-head, All-tail, All-weaker}
use Rattle.lp_instr.specs.declared.instr.Case.{Case}
use Rattle.lp_instr.specs.Code.{Catching}
use Rattle.lp_code.specs.declared.program.RawProgram.{RawProgram}
use Rattle.lp_code.specs.declared.program.SwitchRow.{SwitchRow}
use Rattle.lp_verify.specs.declared.effect.Change.TheVariants.{Stay}
use Rattle.lp_verify.specs.declared.seen.Form.{Form}
use Rattle.lp_verify.specs.declared.seen.Seen.{Seen}
use Rattle.lp_verify.specs.declared.seen.Seen.TheVariants as seen
use Rattle.lp_verify.specs.declared.effect.Effect.{Effect}
use Rattle.lp_verify.specs.declared.effect.Exit.{Exit}
use Rattle.lp_verify.specs.declared.walk.Walk.{Walk}
use Rattle.lp_verify.specs.Openings.{GoesOn, list_at}
use Rattle.lp_verify.specs.Paths.{Known, Never, Once, Mixed, Way}
use Rattle.lp_verify.specs.Flow.{exit_holds, exits_hold, lead, leads, once_at, case_exit, changed, exit, exits, next_exits, jump_exits, row_exits, row_at}
use Rattle.lp_verify.specs.Walks.{shape_of, known_of, IsIn, facts, IsWalk, Moves, MayLead, IsReady}
use Rattle.lp_verify.specs.Work.{Grows}
use Rattle.lp_verify.proofs.Growing.{grows_nothing}
use Rattle.lp_verify.proofs.Opened.{goes_at, goes_longer}
use Rattle.lp_verify.proofs.Walking.{moves_then}

in_more : (a b : List (List Catching)) → GoesOn a b → (v : Seen) → IsIn a v → IsIn b v
in_more a b g seen.Never h = tt
in_more a b g (seen.Once f) h = let l = goes_longer a b g in omega (arith, h, l)
in_more a b g seen.Mixed h = tt

pub known_more : (a b : List (List Catching)) → GoesOn a b → (v : Seen) → IsIn a v → known_of b v ≡ known_of a v
known_more a b g seen.Never h = refl
known_more a b g (seen.Once f) h = ap (λ z. Once (record { height = f.height; catches = z })) (goes_at a b f.open g h)
known_more a b g seen.Mixed h = refl

facts_more : (a b : List (List Catching)) → GoesOn a b → (xs : List Seen) → All (IsIn a) xs → map (known_of b) xs ≡ map (known_of a) xs
facts_more a b g [] h = refl
facts_more a b g (x ∷ xs) h = ap (λ z. z ∷ map (known_of b) xs) (known_more a b g x (All-head (IsIn a) x xs h)) ∙ ap (λ z. known_of a x ∷ z) (facts_more a b g xs (All-tail (IsIn a) x xs h))

pub walk_more : (a b : List (List Catching)) (xs : List Seen) → GoesOn a b → All (IsIn a) xs → All (IsIn b) xs
walk_more a b xs g h = All-weaker (IsIn a) (IsIn b) (in_more a b g) xs h

-- a list of open catches is added, and nothing is learned
openings_move : (a b : Walk) → IsWalk a → GoesOn a.openings b.openings → b.seen.items ≡ a.seen.items → b.todo.items ≡ a.todo.items → Moves [] a b
openings_move a b h g s t =
    let same : facts b ≡ facts a = ap (map (known_of b.openings)) s ∙ facts_more a.openings b.openings g a.seen.items h in
    record {
      goes_on = g;
      walk = (let P : List Seen → Type 0 = λ z. All (IsIn b.openings) z in subst P (sym s) (walk_more a.openings b.openings a.seen.items g h));
      grows = (let P : List Known → Type 0 = λ z. Grows [] (facts a) a.todo.items z b.todo.items in subst P (sym same)
          (let Q : List ℕ → Type 0 = λ z. Grows [] (facts a) a.todo.items (facts a) z in subst Q (sym t) (grows_nothing (facts a) a.todo.items)));
    }

-- the shape behind an exit is learned
pub leave_moves : (a b c : Walk) (f : Form) (e : Effect) (x : Exit) (height number : ℕ) → IsWalk a → GoesOn a.openings b.openings → b.seen.items ≡ a.seen.items → b.todo.items ≡ a.todo.items
    → list_at b.openings number ≡ changed x.change f.height (list_at a.openings f.open)
    → Moves (record { to = x.to; known = Once (record { height = height; catches = list_at b.openings number }) } ∷ []) b c
    → height ≡ f.height - e.takes + x.leaves → Moves (once_at (shape_of a.openings f) e x ∷ []) a c
leave_moves a b c f e x height number h g s t l m i =
    moves_then [] (once_at (shape_of a.openings f) e x ∷ []) a b c (openings_move a b h g s t)
    (let P : List Catching → Type 0 = λ z. Moves (record { to = x.to; known = Once (record { height = f.height - e.takes + x.leaves; catches = z }) } ∷ []) b c in
    subst P l (let Q : ℕ → Type 0 = λ z. Moves (record { to = x.to; known = Once (record { height = z; catches = list_at b.openings number }) } ∷ []) b c in subst Q i m))

-- a walk is ready for more
pub ready_then : (p : RawProgram) (a b : Walk) (v : Seen) (ws : List Way) → IsReady p a v → Moves ws a b → IsReady p b v
ready_then p a b v ws h m = record {
  walk = m.walk;
  inside = in_more a.openings b.openings m.goes_on v h.inside;
  size = (let s = m.grows.size in let x = length-map a.seen.items (known_of a.openings) in let y = length-map b.seen.items (known_of b.openings) in let z = h.size in omega (arith, s, x, y, z));
}

pub known_then : (p : RawProgram) (a b : Walk) (v : Seen) (ws : List Way) → IsReady p a v → Moves ws a b → known_of b.openings v ≡ known_of a.openings v
known_then p a b v ws h m = known_more a.openings b.openings m.goes_on v h.inside

pub leads_append : (p : RawProgram) (at : ℕ) (k : Known) (e : Effect) (xs ys : List Exit) → leads p at k e (xs ++ ys) ≡ leads p at k e xs ++ leads p at k e ys
leads_append p at k e [] ys = refl
leads_append p at k e (x ∷ xs) ys = ap (λ z. lead p at k e x ++ z) (leads_append p at k e xs ys) ∙ sym (append_assoc (lead p at k e x) (leads p at k e xs) (leads p at k e ys))

-- some exits and then others
pub lead_then : (p : RawProgram) (at : ℕ) (e : Effect) (v : Seen) (xs ys : List Exit) (a b c : Walk) → IsReady p a v
    → Moves (leads p at (known_of a.openings v) e xs) a b → Moves (leads p at (known_of b.openings v) e ys) b c → Moves (leads p at (known_of a.openings v) e (xs ++ ys)) a c
lead_then p at e v xs ys a b c h g m =
    let P : List Way → Type 0 = λ ws. Moves ws a c in
    let Q : Known → Type 0 = λ k. Moves (leads p at k e ys) b c in
    subst P (sym (leads_append p at (known_of a.openings v) e xs ys))
    (moves_then (leads p at (known_of a.openings v) e xs) (leads p at (known_of a.openings v) e ys) a b c g
    (subst Q (known_then p a b v (leads p at (known_of a.openings v) e xs) h g) m))

and_left : (x y : Bool) → (x && y) ≡ true → x ≡ true
and_left true y h = refl
and_left false y h = h

and_right : (x y : Bool) → (x && y) ≡ true → y ≡ true
and_right true y h = h
and_right false y h = cc

and_both : (x y : Bool) → x ≡ true → y ≡ true → (x && y) ≡ true
and_both true y h g = g
and_both false y h g = h

holds_left : (p : RawProgram) (at : ℕ) (k : Known) (e : Effect) (xs ys : List Exit) → MayLead p at k e (xs ++ ys) → MayLead p at k e xs
holds_left p at Never e xs ys h = tt
holds_left p at Mixed e xs ys h = tt
holds_left p at (Once f) e [] ys h = refl
holds_left p at (Once f) e (x ∷ xs) ys h = and_both (exit_holds p at f e x) (exits_hold p at f e xs) (and_left (exit_holds p at f e x) (exits_hold p at f e (xs ++ ys)) h)
    (holds_left p at (Once f) e xs ys (and_right (exit_holds p at f e x) (exits_hold p at f e (xs ++ ys)) h))

holds_right : (p : RawProgram) (at : ℕ) (k : Known) (e : Effect) (xs ys : List Exit) → MayLead p at k e (xs ++ ys) → MayLead p at k e ys
holds_right p at Never e xs ys h = tt
holds_right p at Mixed e xs ys h = tt
holds_right p at (Once f) e [] ys h = h
holds_right p at (Once f) e (x ∷ xs) ys h = holds_right p at (Once f) e xs ys (and_right (exit_holds p at f e x) (exits_hold p at f e (xs ++ ys)) h)

-- of exits that may be taken the first ones may
pub may_left : (p : RawProgram) (at : ℕ) (k : Known) (e : Effect) (xs ys : List Exit) → MayLead p at k e (xs ++ ys) → MayLead p at k e xs
may_left p at k e xs ys h = holds_left p at k e xs ys h

-- and so may the others, also when more is known of other places
pub may_right : (p : RawProgram) (at : ℕ) (v : Seen) (e : Effect) (xs ys : List Exit) (a b : Walk) (ws : List Way) → IsReady p a v → Moves ws a b → MayLead p at (known_of a.openings v) e (xs ++ ys) → MayLead p at (known_of b.openings v) e ys
may_right p at v e xs ys a b ws h m g = let P : Known → Type 0 = λ k. MayLead p at k e ys in
    subst P (sym (known_then p a b v ws h m)) (holds_right p at (known_of a.openings v) e xs ys g)

take_one : (cs : List Case) (i : ℕ) (c : Case) → i < length cs → c ≡ get_or cs i c → take (suc i) cs ≡ take i cs ++ (c ∷ [])
take_one [] i c h e = absurd (omega (arith, h))
take_one (x ∷ xs) zero c h e = let s : x ≡ c = sym e in ap (λ z. z ∷ []) s
take_one (x ∷ xs) (suc i) c h e = ap (λ z. x ∷ z) (take_one xs i c (omega (arith, h)) e)

map_append : (xs ys : List Case) → map case_exit (xs ++ ys) ≡ map case_exit xs ++ map case_exit ys
map_append [] ys = refl
map_append (x ∷ xs) ys = ap (λ z. case_exit x ∷ z) (map_append xs ys)

cases_more : (cs : List Case) (i : ℕ) (c : Case) → i < length cs → c ≡ get_or cs i c → map case_exit (take (i + 1) cs) ≡ map case_exit (take i cs) ++ (case_exit c ∷ [])
cases_more cs i c h e = let f : i + 1 ≡ suc i = omega arith in ap (λ n. map case_exit (take n cs)) f ∙ ap (map case_exit) (take_one cs i c h e) ∙ map_append (take i cs) (c ∷ [])

case_may : (p : RawProgram) (at : ℕ) (k : Known) (e : Effect) (cs : List Case) (i : ℕ) (c : Case) → i < length cs → c ≡ get_or cs i c → MayLead p at k e (map case_exit cs) → MayLead p at k e (case_exit c ∷ [])
case_may p at Never e cs i c h g m = tt
case_may p at Mixed e cs i c h g m = tt
case_may p at (Once f) e [] i c h g m = absurd (omega (arith, h))
case_may p at (Once f) e (x ∷ xs) zero c h g m = let P : Case → Type 0 = λ z. exits_hold p at f e (case_exit z ∷ []) ≡ true in
    subst P (sym g) (and_both (exit_holds p at f e (case_exit x)) true (and_left (exit_holds p at f e (case_exit x)) (exits_hold p at f e (map case_exit xs)) m) refl)
case_may p at (Once f) e (x ∷ xs) (suc i) c h g m = case_may p at (Once f) e xs i c (omega (arith, h)) g (and_right (exit_holds p at f e (case_exit x)) (exits_hold p at f e (map case_exit xs)) m)

-- one label more
pub case_may_then : (p : RawProgram) (at : ℕ) (v : Seen) (e : Effect) (cs : List Case) (i : ℕ) (c : Case) (a b : Walk) (ws : List Way) → IsReady p a v → Moves ws a b → i < length cs → c ≡ get_or cs i c
    → MayLead p at (known_of a.openings v) e (map case_exit cs) → MayLead p at (known_of b.openings v) e (case_exit c ∷ [])
case_may_then p at v e cs i c a b ws h m l g q = let P : Known → Type 0 = λ k. MayLead p at k e (case_exit c ∷ []) in
    subst P (sym (known_then p a b v ws h m)) (case_may p at (known_of a.openings v) e cs i c l g q)

pub case_then : (p : RawProgram) (at : ℕ) (v : Seen) (e : Effect) (cs : List Case) (i : ℕ) (c : Case) (a b d : Walk) → IsReady p a v → i < length cs → c ≡ get_or cs i c
    → Moves (leads p at (known_of a.openings v) e (map case_exit (take i cs))) a b → Moves (leads p at (known_of b.openings v) e (case_exit c ∷ [])) b d
    → Moves (leads p at (known_of a.openings v) e (map case_exit (take (i + 1) cs))) a d
case_then p at v e cs i c a b d h l g m n = let P : List Exit → Type 0 = λ xs. Moves (leads p at (known_of a.openings v) e xs) a d in
    subst P (sym (cases_more cs i c l g)) (lead_then p at e v (map case_exit (take i cs)) (case_exit c ∷ []) a b d h m n)

get_same : (cs : List Case) (i : ℕ) (d : Case) → i < length cs → get_or cs i d ≡ get_or cs i (get_or cs i d)
get_same [] i d h = absurd (omega (arith, h))
get_same (x ∷ xs) zero d h = refl
get_same (x ∷ xs) (suc i) d h = get_same xs i d (omega (arith, h))

pub case_may_at : (p : RawProgram) (at : ℕ) (v : Seen) (e : Effect) (cs : List Case) (i : ℕ) (d : Case) (x : Exit) (a b : Walk) (ws : List Way) → IsReady p a v → Moves ws a b → i < length cs → x ≡ case_exit (get_or cs i d)
    → MayLead p at (known_of a.openings v) e (map case_exit cs) → MayLead p at (known_of b.openings v) e (x ∷ [])
case_may_at p at v e cs i d x a b ws h m l g q = let P : Exit → Type 0 = λ z. MayLead p at (known_of b.openings v) e (z ∷ []) in
    subst P (sym g) (case_may_then p at v e cs i (get_or cs i d) a b ws h m l (get_same cs i d l) q)

pub case_then_at : (p : RawProgram) (at : ℕ) (v : Seen) (e : Effect) (cs : List Case) (i : ℕ) (d : Case) (x : Exit) (a b f : Walk) → IsReady p a v → i < length cs → x ≡ case_exit (get_or cs i d)
    → Moves (leads p at (known_of a.openings v) e (map case_exit (take i cs))) a b → Moves (leads p at (known_of b.openings v) e (x ∷ [])) b f
    → Moves (leads p at (known_of a.openings v) e (map case_exit (take (i + 1) cs))) a f
case_then_at p at v e cs i d x a b f h l g m n = let P : Exit → Type 0 = λ z. Moves (leads p at (known_of b.openings v) e (z ∷ [])) b f in
    case_then p at v e cs i (get_or cs i d) a b f h l (get_same cs i d l) m (subst P g n)

take_all : (cs : List Case) (i : ℕ) → length cs ≤ i → take i cs ≡ cs
take_all [] zero h = refl
take_all [] (suc i) h = refl
take_all (x ∷ xs) zero h = absurd (omega (arith, h))
take_all (x ∷ xs) (suc i) h = ap (λ z. x ∷ z) (take_all xs i (omega (arith, h)))

pub cases_all : (p : RawProgram) (at : ℕ) (k : Known) (e : Effect) (cs : List Case) (i : ℕ) (a b : Walk) → length cs ≤ i → Moves (leads p at k e (map case_exit (take i cs))) a b → Moves (leads p at k e (map case_exit cs)) a b
cases_all p at k e cs i a b h m = let P : List Case → Type 0 = λ z. Moves (leads p at k e (map case_exit z)) a b in subst P (take_all cs i h) m

-- three lists of exits, each as it was computed
pub lead_three : (p : RawProgram) (at : ℕ) (e : Effect) (v : Seen) (xs ys zs : List Exit) (a b c d : Walk) → IsReady p a v
    → Moves (leads p at (known_of a.openings v) e xs) a b → Moves (leads p at (known_of b.openings v) e ys) b c → Moves (leads p at (known_of c.openings v) e zs) c d
    → Moves (leads p at (known_of a.openings v) e (xs ++ (ys ++ zs))) a d
lead_three p at e v xs ys zs a b c d h g m n = lead_then p at e v xs (ys ++ zs) a b d h g
    (lead_then p at e v ys zs b c d (ready_then p a b v (leads p at (known_of a.openings v) e xs) h g) m n)

pub may_three : (p : RawProgram) (at : ℕ) (e : Effect) (v : Seen) (xs ys zs : List Exit) (a b c : Walk) → IsReady p a v
    → Moves (leads p at (known_of a.openings v) e xs) a b → Moves (leads p at (known_of b.openings v) e ys) b c
    → MayLead p at (known_of a.openings v) e (xs ++ (ys ++ zs)) → MayLead p at (known_of c.openings v) e zs
may_three p at e v xs ys zs a b c h g m q =
    may_right p at v e ys zs b c (leads p at (known_of b.openings v) e ys) (ready_then p a b v (leads p at (known_of a.openings v) e xs) h g) m
    (may_right p at v e xs (ys ++ zs) a b (leads p at (known_of a.openings v) e xs) h g q)

-- the exits of an instruction, as they were computed
pub as_exits : (p : RawProgram) (at : ℕ) (e : Effect) (xs ys : List Exit) (r : Option SwitchRow) → xs ≡ next_exits at e.next → ys ≡ jump_exits e.jump → r ≡ row_at p e.row → exits p at e ≡ xs ++ (ys ++ row_exits r)
as_exits p at e xs ys r f g h = ap (λ z. z ++ (jump_exits e.jump ++ row_exits (row_at p e.row))) (sym f) ∙ ap (λ z. xs ++ (z ++ row_exits (row_at p e.row))) (sym g) ∙ ap (λ z. xs ++ (ys ++ row_exits z)) (sym h)

-- a switch: where none fits, and then its labels
pub row_then : (p : RawProgram) (at : ℕ) (e : Effect) (v : Seen) (o : Option SwitchRow) (r : SwitchRow) (x : Exit) (cs : List Case) (a b c : Walk) → IsReady p a v → o ≡ Some r → x ≡ exit r.other 0 Stay → cs ≡ r.cases
    → Moves (leads p at (known_of a.openings v) e (x ∷ [])) a b → Moves (leads p at (known_of b.openings v) e (map case_exit cs)) b c → Moves (leads p at (known_of a.openings v) e (row_exits o)) a c
row_then p at e v o r x cs a b c h q f g m n =
    let P : Option SwitchRow → Type 0 = λ z. Moves (leads p at (known_of a.openings v) e (row_exits z)) a c in
    let Q : Exit → Type 0 = λ z. Moves (leads p at (known_of a.openings v) e (z ∷ map case_exit r.cases)) a c in
    let R : List Case → Type 0 = λ z. Moves (leads p at (known_of a.openings v) e (x ∷ map case_exit z)) a c in
    subst P (sym q) (subst Q f (subst R g (lead_then p at e v (x ∷ []) (map case_exit cs) a b c h m n)))
