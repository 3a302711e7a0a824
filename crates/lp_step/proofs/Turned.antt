-- A turn of a loop over a copy, in the state and in the world.
use Rattle.std.proofs.Common.{◌≡◌, ◌++◌, ◌∷◌, [], ◌∙◌, ℕ, ◌+◌, pos, Bool, true, false, cond, List, Option, Some, None, Result, Ok, Err, All, IfOk, arith, length, length-append, ◌≤◌, refl, ap, sym, subst, slice_get, unwrap_or, nat_eq}
use Rattle.std.proofs.lemmas.List.Elements.{All-nil, All-cons, All-head, All-tail}
use Rattle.lp_values.specs.declared.value.Value.{Value}
use Rattle.lp_values.specs.declared.value.Value.TheVariants.{Int, Str, Arr, Map, Obj}
use Rattle.lp_cells.specs.Cells as cells
use Rattle.lp_cells.specs.Cells.{IsPairThere, IsThere, Store, as_items, as_pairs, items_of, stored_pairs}
use Rattle.lp_cells.proofs.ClosedLemmas.{items_there, stored_there}
use Rattle.lp_language.specs.Course.{State, zero_value}
use Rattle.lp_language.specs.Operations.{item_row, pair_row, row_at}
use Rattle.lp_isa.specs.Machine.{Moment, Next, goes, on_one, on_two, on_top, place_in, row_next}
use Rattle.lp_world.specs.declared.frame.Frame.{Frame}
use Rattle.lp_world.specs.declared.live.Live.{Live}
use Rattle.lp_world.specs.Stands.{IsPart}
use Rattle.lp_world.specs.Matches.{Around, Matches, laid}
use Rattle.lp_world.proofs.Keeping.{items_same, pairs_same}
use Rattle.lp_step.specs.declared.fault.StepFault.{StepFault}
use Rattle.lp_step.specs.declared.next.Next.TheVariants as nexts
use Rattle.lp_step.specs.declared.turns.Turn.{Turn}
use Rattle.lp_step.specs.Steps.{IsFine, IsFit, LeadsTo}
use Rattle.lp_step.specs.Each.{TurnsOn, TurnsTo, row_in, row_of}
use Rattle.lp_step.proofs.Fits.{get_all, popped_fit, pushed_fit, split_all}
use Rattle.lp_step.proofs.Moves.{again, on_one_leads}

-- the row in the state is that in the world
row_same : (is_pair : Bool) (part : Store) (s : State) (copy : Value) (k : ℕ) → IsPart part s.world.cells → IsThere part copy → row_in is_pair part copy k ≡ row_at is_pair copy k s
unfolding row_at
row_same is_pair part s (Arr c) k h t = ap (λ o. item_row is_pair (slice_get (unwrap_or (as_items o) []) k)) (sym (items_same part s.world.cells c h t))
row_same is_pair part s (Map c) k h t = ap (λ o. pair_row is_pair (slice_get (unwrap_or (as_pairs o) []) k)) (sym (pairs_same part s.world.cells c h t))
row_same is_pair part s (Int n) k h t = refl
row_same is_pair part s (Str cs) k h t = refl
row_same is_pair part s (Obj o) k h t = refl

pub laid_on_top : (base vs ops : List Value) → laid (laid base ops) vs ≡ laid base (on_top vs ops)
laid_on_top base [] ops = refl
laid_on_top base (v ∷ vs) ops = ap (λ l. l ++ v ∷ []) (laid_on_top base vs ops)

pub turned : (a : Around) (live : Live) (stack0 stack1 : List Value) (frame : Frame) (budget : ℕ) (m : Moment) (to n at : ℕ) (goes_on : Bool)
    → Matches a live stack0 frame budget m → TurnsOn (nat_eq n 2) stack0 stack1 live.cells goes_on → at ≡ cond goes_on to (m.place + 1)
    → IsFine (on_two m.stack (λ copy k rest.
    row_next (row_at (nat_eq n 2) copy (place_in k) m.state) (goes (m.place + 1) rest m.catches m.state) (λ row. goes to (on_top row (Int (pos (place_in k + 1)) ∷ copy ∷ rest)) m.catches m.state)))
    → LeadsTo a nexts.Again live stack1 (record frame { at = at }) budget (on_two m.stack (λ copy k rest.
    row_next (row_at (nat_eq n 2) copy (place_in k) m.state) (goes (m.place + 1) rest m.catches m.state) (λ row. goes to (on_top row (Int (pos (place_in k + 1)) ∷ copy ∷ rest)) m.catches m.state)))
turned a live stack0 stack1 frame budget m to n at goes_on h (rest, copy, place, e, t, w) p fine =
    on_one_leads To (λ k st. on_one st (λ copy rest. next copy k rest)) base m.stack stack0 (rest ++ copy ∷ []) place h.sits.lies e fine
    (λ ops l f. on_one_leads To (λ copy rest. next copy place rest) base ops (rest ++ copy ∷ []) rest copy l refl f
    (λ ops l f. by goes_on (subst (λ r. TurnsTo goes_on r rest copy (place_in place) stack1) (row_same (nat_eq n 2) live.cells m.state copy (place_in place) h.stands.cells t) w) p ops l))
  where
    base : List Value
    base = a.below ++ m.state.locals

    To : Next → Type 0
    To x = LeadsTo a nexts.Again live stack1 (record frame { at = at }) budget x

    next : Value → Value → List Value → Next
    next copy k rest =
        row_next (row_at (nat_eq n 2) copy (place_in k) m.state) (goes (m.place + 1) rest m.catches m.state) (λ row. goes to (on_top row (Int (pos (place_in k + 1)) ∷ copy ∷ rest)) m.catches m.state)

    by : (b : Bool) → TurnsTo b (row_at (nat_eq n 2) copy (place_in place) m.state) rest copy (place_in place) stack1 → at ≡ cond b to (m.place + 1) → (ops : List Value) → rest ≡ laid base ops → To (next copy place ops)
    by false w p ops l =
        subst (λ r. To (row_next r (goes (m.place + 1) ops m.catches m.state) (λ row. goes to (on_top row (Int (pos (place_in place + 1)) ∷ copy ∷ ops)) m.catches m.state))) (sym w.0)
        (again a live stack0 stack1 frame budget m ops at (m.place + 1) h (w.1 ∙ l) p)
    by true (vs, r, s) p ops l =
        subst (λ r. To (row_next r (goes (m.place + 1) ops m.catches m.state) (λ row. goes to (on_top row (Int (pos (place_in place + 1)) ∷ copy ∷ ops)) m.catches m.state))) (sym r)
        (again a live stack0 stack1 frame budget m (on_top vs (Int (pos (place_in place + 1)) ∷ copy ∷ ops)) at to h
        (s ∙ ap (λ b. laid ((b ++ copy ∷ []) ++ Int (pos (place_in place + 1)) ∷ []) vs) l ∙ laid_on_top base vs (Int (pos (place_in place + 1)) ∷ copy ∷ ops)) p)

-- What lies on the stack after a turn is there

item_there : (store : Store) (is_pair : Bool) (o : Option Value) (vs : List Value) → ((v : Value) → o ≡ Some v → IsThere store v) → item_row is_pair o ≡ Some vs → All (IsThere store) vs
item_there store is_pair None vs h e = cc
item_there store true (Some v) vs h e = subst (All (IsThere store)) (ap (λ o. unwrap_or o vs) e) (All-cons (IsThere store) v (zero_value ∷ []) (h v refl) (All-cons (IsThere store) zero_value [] tt (All-nil (IsThere store))))
item_there store false (Some v) vs h e = subst (All (IsThere store)) (ap (λ o. unwrap_or o vs) e) (All-cons (IsThere store) v [] (h v refl) (All-nil (IsThere store)))

pair_there : (store : Store) (is_pair : Bool) (o : Option (Value × Value)) (vs : List Value) → ((p : Value × Value) → o ≡ Some p → IsPairThere store p) → pair_row is_pair o ≡ Some vs → All (IsThere store) vs
pair_there store is_pair None vs h e = cc
pair_there store true (Some p) vs h e = subst (All (IsThere store)) (ap (λ o. unwrap_or o vs) e) (All-cons (IsThere store) p.0 (p.1 ∷ []) (h p refl).0 (All-cons (IsThere store) p.1 [] (h p refl).1 (All-nil (IsThere store))))
pair_there store false (Some p) vs h e = subst (All (IsThere store)) (ap (λ o. unwrap_or o vs) e) (All-cons (IsThere store) p.0 [] (h p refl).0 (All-nil (IsThere store)))

row_there : (store : Store) (is_pair : Bool) (copy : Value) (k : ℕ) (vs : List Value) → cells.IsClosed store → row_in is_pair store copy k ≡ Some vs → All (IsThere store) vs
row_there store is_pair (Arr c) k vs h e = item_there store is_pair (slice_get (items_of store c) k) vs (λ v q. get_all (IsThere store) (items_of store c) k v (items_there store c h) q) e
row_there store is_pair (Map c) k vs h e = pair_there store is_pair (slice_get (stored_pairs store c) k) vs (λ p q. get_all (IsPairThere store) (stored_pairs store c) k p (stored_there store c h) q) e
row_there store is_pair (Int n) k vs h e = cc
row_there store is_pair (Str cs) k vs h e = cc
row_there store is_pair (Obj o) k vs h e = cc

pub laid_fit : (live : Live) (stack vs : List Value) → All (IsThere live.cells) vs → IsFit live stack → IsFit live (laid stack vs)
laid_fit live stack [] t f = f
laid_fit live stack (v ∷ vs) t f = pushed_fit live (laid stack vs) (laid stack vs ++ v ∷ []) v (All-head (IsThere live.cells) v vs t) refl (laid_fit live stack vs (All-tail (IsThere live.cells) v vs t) f)

pub turns_fit : (live : Live) (is_pair : Bool) (old new : List Value) (goes_on : Bool) → TurnsOn is_pair old new live.cells goes_on → IsFit live old → IsFit live new
turns_fit live is_pair old new goes_on (rest, copy, place, e, t, w) f = by goes_on w
  where
    on_copy : IsFit live (rest ++ copy ∷ [])
    on_copy = (popped_fit live old (rest ++ copy ∷ []) place e f).0

    by : (b : Bool) → TurnsTo b (row_in is_pair live.cells copy (place_in place)) rest copy (place_in place) new → IsFit live new
    by false w = subst (IsFit live) (sym w.1) (popped_fit live (rest ++ copy ∷ []) rest copy refl on_copy).0
    by true (vs, r, s) =
        subst (IsFit live) (sym s)
        (laid_fit live ((rest ++ copy ∷ []) ++ Int (pos (place_in place + 1)) ∷ []) vs (row_there live.cells is_pair copy (place_in place) vs f.closed.cells r)
        (pushed_fit live (rest ++ copy ∷ []) ((rest ++ copy ∷ []) ++ Int (pos (place_in place + 1)) ∷ []) (Int (pos (place_in place + 1))) tt refl on_copy))

-- From the calls of a turn

ends : (xs : List Value) → 1 ≤ length xs → (rest : List Value) × (x : Value) × (xs ≡ rest ++ x ∷ [])
ends [] h = absurd (omega arith)
ends (x ∷ []) h = ([], x, refl)
ends (x ∷ (y ∷ ys)) h = let t = ends (y ∷ ys) (omega arith) in (x ∷ t.0, t.1, ap (λ l. x ∷ l) t.2)

pub turns_ok : (is_pair : Bool) (old mid new : List Value) (store : Store) (place : Value) (k : ℕ) (turn : Turn) (r : Result Bool StepFault)
    → 2 ≤ length old → All (IsThere store) old → old ≡ mid ++ place ∷ [] → k ≡ place_in place
    → ((rest : List Value) (copy : Value) → mid ≡ rest ++ copy ∷ [] → row_of turn ≡ row_in is_pair store copy k)
    → IfOk r (λ goes_on. (rest : List Value) (copy : Value) → mid ≡ rest ++ copy ∷ [] → TurnsTo goes_on (row_of turn) rest copy k new)
    → IfOk r (TurnsOn is_pair old new store)
turns_ok is_pair old mid new store place k turn (Ok goes_on) n t e p row w =
    let m = ends mid (omega (arith, ap length e, length-append mid (place ∷ []))) in
    let whole : old ≡ (m.0 ++ m.1 ∷ []) ++ place ∷ [] = e ∙ ap (λ l. l ++ place ∷ []) m.2 in
    let both = split_all (IsThere store) (m.0 ++ m.1 ∷ []) (place ∷ []) (subst (All (IsThere store)) whole t) in (
      m.0,
      m.1,
      place,
      whole,
      All-head (IsThere store) m.1 [] (split_all (IsThere store) m.0 (m.1 ∷ []) both.0).1,
      subst (λ j. TurnsTo goes_on (row_in is_pair store m.1 j) m.0 m.1 j new) p (subst (λ o. TurnsTo goes_on o m.0 m.1 k new) (row m.0 m.1 m.2) (w m.0 m.1 m.2)),
    )
turns_ok is_pair old mid new store place k turn (Err f) n t e p row w = w
