-- Call-outs by their numbers are those that were due.
use Rattle.std.proofs.Common.{◌≡◌, ◌∙◌, ◌⊎◌, ◌∷◌, [], ℕ, ◌<◌, arith, inl, inr, Bool, true, false, ◌||◌, List, Option, Some, None, refl, ap, sym, subst, filter, map, nat_eq, nat_lt, nat_le, unwrap_or, if◌then◌else◌}
use Rattle.std.specs.Prelude.{fold}
use Rattle.std.proofs.lemmas.Bool.{eqb-true}
use Rattle.lp_timers.specs.Timers.{CallOut, due_at, first_call_out, placed_by_due, waits}
use Rattle.lp_timers.specs.Waiting.{numbered}
use Rattle.lp_language.specs.World.{World}
use Rattle.lp_language.specs.Course as course
use Rattle.lp_language.specs.Course.{Answer, Ask, Course, End, Over, Returned, State, and_then, end_of_answer}
use Rattle.lp_meaning.specs.Closing.{Ends}
use Rattle.lp_meaning.specs.EventTurns.{Done, call_end, driver_apply}
use Rattle.lp_meaning.specs.FrontEnd.{FrontEnd}
use Rattle.lp_meaning.specs.Ticks.{at_moment, calls_out, without_due}
use Rattle.lp_lasting_laws.specs.Lasting.{IsAmong, Keeps}
use Rattle.lp_lasting_laws.specs.Numbers.{NumbersAreEnough, calls_numbered}
use Rattle.lp_lasting_laws.proofs.KeptCalls.{keeps_filter}
use Rattle.lp_lasting_laws.proofs.Questions.{call_outs_last}

-- What was due at first is what waits with its number still, if something does.
record Agrees (due : List CallOut) (w : World) : Type 0 where
  same : (c d : CallOut) → IsAmong c due → IsAmong d w.call_outs → d.number ≡ c.number → d ≡ c
  below : (c : CallOut) → IsAmong c due → c.number < w.next_call_out

agrees_on : (due : List CallOut) (v w : World) → Keeps v w → Agrees due v → Agrees due w
agrees_on due v w k h = record {
  same = λ c d i j e. h.same c d i (k.same d (let b = h.below c i in omega (arith, b, e)) j) e;
  below = λ c i. (let b = h.below c i in let n = k.next in omega (arith, b, n));
}

agrees_tail : (c : CallOut) (due : List CallOut) (w : World) → Agrees (c ∷ due) w → Agrees due w
agrees_tail c due w h = record { same = λ x d i j e. h.same x d (inr i) j e; below = λ x i. h.below x (inr i) }

agrees_taken : (due : List CallOut) (w : World) (n : ℕ) → Agrees due w → Agrees due (without_due w n)
agrees_taken due w n h = agrees_on due w (without_due w n) (keeps_filter w (without_due w n) _ refl refl) h

-- by numbers
found_among : (cs : List CallOut) (n : ℕ) (c : CallOut) → numbered cs n ≡ Some c → IsAmong c cs × (c.number ≡ n) × (waits cs n ≡ true)
found_among [] n c e = cc
found_among (x ∷ xs) n c e = by (nat_eq x.number n) refl (found_among xs n c) e
  where
    by : (b : Bool) → nat_eq x.number n ≡ b → (numbered xs n ≡ Some c → IsAmong c xs × (c.number ≡ n) × (waits xs n ≡ true))
        → first_call_out (if b then x ∷ filter (λ d. nat_eq d.number n) xs else filter (λ d. nat_eq d.number n) xs) ≡ Some c → IsAmong c (x ∷ xs) × (c.number ≡ n) × ((b || waits xs n) ≡ true)
    by true q k e = let s : x ≡ c = ap (λ o. unwrap_or o x) e in (inl (sym s), ap (λ (y : CallOut). y.number) (sym s) ∙ eqb-true x.number n q, refl)
    by false q k e = let r = k e in (inr r.0, r.1, r.2)

none_waits : (cs : List CallOut) (n : ℕ) → numbered cs n ≡ None → waits cs n ≡ false
none_waits [] n e = refl
none_waits (x ∷ xs) n e = by (nat_eq x.number n) (none_waits xs n) e
  where
    by : (b : Bool) → (numbered xs n ≡ None → waits xs n ≡ false) → first_call_out (if b then x ∷ filter (λ d. nat_eq d.number n) xs else filter (λ d. nat_eq d.number n) xs) ≡ None → (b || waits xs n) ≡ false
    by true k e = cc
    by false k e = k e

-- what is called at the turn of a call-out, and what follows
calling : CallOut → (State → Course (Unit {0})) → State → Course (Unit {0})
calling c rest s = and_then (driver_apply None None c.object c.function c.arguments (record s { world = without_due s.world c.number })) (λ d s. rest s)

by_number : ℕ → (State → Course (Unit {0})) → State → Option CallOut → Course (Unit {0})
by_number n rest s None = rest s
by_number n rest s (Some c) = and_then (driver_apply None None c.object c.function c.arguments (record s { world = without_due s.world n })) (λ d s. rest s)

number_is : (n : ℕ) (ns : List ℕ) (s : State) (q : Option CallOut)
    → (elim q [ Some c ↦ and_then (driver_apply None None c.object c.function c.arguments (record s { world = without_due s.world n })) (λ d s. calls_numbered ns s) | None ↦ calls_numbered ns s ]) ≡ by_number n (calls_numbered ns) s q
unfolding by_number
number_is n ns s None = refl
number_is n ns s (Some c) = refl

by_list : CallOut → (State → Course (Unit {0})) → State → Bool → Course (Unit {0})
by_list c rest s b = if b then calling c rest s else rest s

list_is : (c : CallOut) (cs : List CallOut) (s : State) → calls_out (c ∷ cs) s ≡ by_list c (calls_out cs) s (waits s.world.call_outs c.number)
unfolding by_list calling
list_is c cs s = refl

-- behind an outcome both go on
module _ (front : FrontEnd) (e : End (Unit {0})) (first second : State → Course (Unit {0})) (cs : List CallOut) (go : (s : State) → Agrees cs s.world → Ends front (first s) e → Ends front (second s) e) where
  behind : (a : Answer) (t : State) → Agrees cs t.world → Ends front (and_then (Over (call_end None (end_of_answer a t))) (λ (d : Done) s. first s)) e → Ends front (and_then (Over (call_end None (end_of_answer a t))) (λ (d : Done) s. second s)) e
  behind (Returned r) t g h = go _ g h
  behind (course.Stopped x) t g h = go _ g h

  called_so : (c : CallOut) (s : State) → Agrees cs (without_due s.world c.number) → Ends front (calling c first s) e → Ends front (calling c second s) e
  unfolding calling
  called_so c s g ([], f, k) = absurd f
  called_so c s g (x ∷ xs, f, k) =
      let kept : Keeps x.ask.world x.outcome.world = call_outs_last front x.ask x.outcome k.0 in
      let here : Keeps (without_due s.world c.number) x.outcome.world = subst (λ (q : Ask). Keeps q.world x.outcome.world) (sym f.0) kept in
      let r = behind x.outcome.answer _ (agrees_on cs (without_due s.world c.number) x.outcome.world here g) (xs, f.2, k.1) in
      (x ∷ r.0, (f.0, f.1, r.1), (k.0, r.2))

ends_same : (front : FrontEnd) (e : End (Unit {0})) (c d : Course (Unit {0})) → c ≡ d → Ends front c e → Ends front d e
ends_same front e c d q h = subst (λ x. Ends front x e) q h

-- the list is called by its numbers
enough : (front : FrontEnd) (e : End (Unit {0})) (cs : List CallOut) (s : State) → Agrees cs s.world → Ends front (calls_numbered (map (λ c. c.number) cs) s) e → Ends front (calls_out cs s) e
unfolding by_number by_list calling
enough front e [] s g h = h
enough front e (c ∷ cs) s g h =
    ends_same front e (by_list c (calls_out cs) s (waits s.world.call_outs c.number)) (calls_out (c ∷ cs) s) (sym (list_is c cs s))
    (by (numbered s.world.call_outs c.number) refl (λ t. enough front e cs t)
    (ends_same front e (calls_numbered (map (λ c. c.number) (c ∷ cs)) s) (by_number c.number (calls_numbered (map (λ c. c.number) cs)) s (numbered s.world.call_outs c.number)) (number_is c.number (map (λ c. c.number) cs) s (numbered s.world.call_outs c.number)) h))
  where
    by : (q : Option CallOut) → numbered s.world.call_outs c.number ≡ q → ((t : State) → Agrees cs t.world → Ends front (calls_numbered (map (λ c. c.number) cs) t) e → Ends front (calls_out cs t) e)
        → Ends front (by_number c.number (calls_numbered (map (λ c. c.number) cs)) s q) e → Ends front (by_list c (calls_out cs) s (waits s.world.call_outs c.number)) e
    by None q go h = ends_same front e (calls_out cs s) (by_list c (calls_out cs) s (waits s.world.call_outs c.number)) (sym (ap (by_list c (calls_out cs) s) (none_waits s.world.call_outs c.number q))) (go s (agrees_tail c cs s.world g) h)
    by (Some d) q go h =
        let r = found_among s.world.call_outs c.number d q in
        let same : d ≡ c = g.same c d (inl refl) r.0 r.1 in
        let at : Agrees cs (without_due s.world c.number) = agrees_taken cs s.world c.number (agrees_tail c cs s.world g) in
        ends_same front e (calling c (calls_out cs) s) (by_list c (calls_out cs) s (waits s.world.call_outs c.number)) (sym (ap (by_list c (calls_out cs) s) r.2))
        (called_so front e (calls_numbered (map (λ c. c.number) cs)) (calls_out cs) cs go c s at
        (ends_same front e (by_number c.number (calls_numbered (map (λ c. c.number) cs)) s (Some d)) (calling c (calls_numbered (map (λ c. c.number) cs)) s) (ap (λ x. by_number c.number (calls_numbered (map (λ c. c.number) cs)) s (Some x)) same) h))

-- what is due waits
among_filter : (p : CallOut → Bool) (c : CallOut) (cs : List CallOut) → IsAmong c (filter p cs) → IsAmong c cs
among_filter p c [] h = h
among_filter p c (d ∷ ds) h = by (p d) (among_filter p c ds) h
  where
    by : (b : Bool) → (IsAmong c (filter p ds) → IsAmong c ds) → IsAmong c (if b then d ∷ filter p ds else filter p ds) → IsAmong c (d ∷ ds)
    by true k (inl e) = inl e
    by true k (inr i) = inr (k i)
    by false k i = inr (k i)

among_placed : (c x : CallOut) (ds : List CallOut) → IsAmong c (placed_by_due x ds) → (c ≡ x) ⊎ IsAmong c ds
among_placed c x [] (inl e) = inl e
among_placed c x [] (inr i) = absurd i
among_placed c x (d ∷ ds) h = by (nat_lt x.due d.due) (among_placed c x ds) h
  where
    by : (b : Bool) → (IsAmong c (placed_by_due x ds) → (c ≡ x) ⊎ IsAmong c ds) → IsAmong c (if b then x ∷ d ∷ ds else d ∷ placed_by_due x ds) → (c ≡ x) ⊎ IsAmong c (d ∷ ds)
    by true k (inl e) = inl e
    by true k (inr i) = inr i
    by false k (inl e) = inr (inl e)
    by false k (inr i) = elim (k i) [ inl e ↦ inl e | inr j ↦ inr (inr j) ]

among_sorted : (c : CallOut) (acc cs : List CallOut) → IsAmong c (fold (λ sorted c. placed_by_due c sorted) acc cs) → IsAmong c acc ⊎ IsAmong c cs
among_sorted c acc [] h = inl h
among_sorted c acc (x ∷ xs) h = elim (among_sorted c (placed_by_due x acc) xs h) [
  | inl i ↦ elim (among_placed c x acc i) [ inl e ↦ inr (inl e) | inr j ↦ inl j ]
  | inr i ↦ inr (inr i)
]

due_among : (t : ℕ) (c : CallOut) (cs : List CallOut) → IsAmong c (due_at t cs) → IsAmong c cs
due_among t c cs h = elim (among_sorted c [] (filter (λ c. nat_le c.due t) cs) h) [ inl i ↦ absurd i | inr i ↦ among_filter (λ c. nat_le c.due t) c cs i ]

pub numbers_are_enough : NumbersAreEnough
numbers_are_enough front t s e h z =
    enough front e (due_at t s.world.call_outs) (record s { world = at_moment s.world t })
    (record { same = λ c d i j q. h.own c d (due_among t c s.world.call_outs i) j q; below = λ c i. h.below c (due_among t c s.world.call_outs i) }) z
