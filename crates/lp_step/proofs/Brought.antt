-- A value that comes to the top of the stack.
use Rattle.std.proofs.Common.{◌≡◌, ◌++◌, ◌∷◌, [], ◌∙◌, ℕ, zero, suc, ◌+◌, ◌-◌, ◌<◌, ◌≤◌, List, Some, All, refl, ap, sym, subst, arith, slice_get, unwrap_or, length, length-append, take, drop}
use Rattle.std.specs.List.{remove}
use Rattle.std.proofs.lemmas.List.Elements.{All-append, All-cons, All-drop, All-nil, All-take}
use Rattle.lp_cells.specs.Cells.{IsThere}
use Rattle.lp_values.specs.declared.value.Value.{Value}
use Rattle.lp_isa.specs.Machine.{Moment, Next, bring, goes, rotate}
use Rattle.lp_world.specs.declared.frame.Frame.{Frame}
use Rattle.lp_world.specs.declared.live.Live.{Live}
use Rattle.lp_world.specs.Matches.{Around, Matches, laid}
use Rattle.lp_step.specs.declared.next.Next.TheVariants as nexts
use Rattle.lp_step.specs.Steps.{Brings, IsFine, IsFit, LeadsTo}
use Rattle.lp_step.proofs.Fits.{got_there}
use Rattle.lp_step.proofs.Moves.{again, get_left, get_right}

-- of a list with one item more, the last item goes
remove_last : {A : Type 0} (xs : List A) (y : A) → remove (xs ++ y ∷ []) (length xs) ≡ xs
remove_last [] y = refl
remove_last (x ∷ xs) y = ap (λ l. x ∷ l) (remove_last xs y)

-- or one before it
remove_before : {A : Type 0} (xs : List A) (y : A) (i : ℕ) → i < length xs → remove (xs ++ y ∷ []) i ≡ remove xs i ++ y ∷ []
remove_before [] y i h = absurd (omega (arith, h))
remove_before (x ∷ xs) y zero h = refl
remove_before (x ∷ xs) y (suc i) h = ap (λ l. x ∷ l) (remove_before xs y i (omega (arith, h)))

bring_leads : (P : Next → Type 0) (go : Value → List Value → Next) (base stack old : List Value) (n i : ℕ) (v : Value) → old ≡ laid base stack → i + suc n ≡ length old → slice_get old i ≡ Some v
    → IsFine (bring n stack go) → ((ops : List Value) → remove old i ≡ laid base ops → IsFine (go v ops) → P (go v ops)) → P (bring n stack go)
bring_leads P go base [] old n i v e l g fine k = absurd fine
bring_leads P go base (x ∷ xs) old zero i v e l g fine k =
    let len : length old ≡ length (laid base xs) + 1 = ap length e ∙ length-append (laid base xs) (x ∷ []) in
    let place : i ≡ length (laid base xs) = omega (arith, l, len) in
    let at : Some x ≡ Some v = sym (get_right (laid base xs) (x ∷ []) i 0 (omega (arith, place))) ∙ ap (λ l. slice_get l i) (sym e) ∙ g in
    let is : x ≡ v = ap (λ o. unwrap_or o x) at in
    let rest : remove old i ≡ laid base xs = ap (λ l. remove l i) e ∙ ap (λ j. remove (laid base xs ++ x ∷ []) j) place ∙ remove_last (laid base xs) x in
    subst (λ u. P (go u xs)) (sym is) (k xs rest (subst (λ u. IsFine (go u xs)) is fine))
bring_leads P go base (x ∷ xs) old (suc n) i v e l g fine k =
    let len : length old ≡ length (laid base xs) + 1 = ap length e ∙ length-append (laid base xs) (x ∷ []) in
    let below : i + suc n ≡ length (laid base xs) = omega (arith, l, len) in
    let before : i < length (laid base xs) = omega (arith, below) in
    let at : slice_get (laid base xs) i ≡ Some v = sym (get_left (laid base xs) (x ∷ []) i before) ∙ ap (λ l. slice_get l i) (sym e) ∙ g in
    let rest : remove old i ≡ remove (laid base xs) i ++ x ∷ [] = ap (λ l. remove l i) e ∙ remove_before (laid base xs) x i before in
    bring_leads P (λ u others. go u (x ∷ others)) base xs (laid base xs) n i v refl below at fine
    (λ ops r f. k (x ∷ ops) (rest ∙ ap (λ l. l ++ x ∷ []) r) f)

pub brought : (a : Around) (live : Live) (stack0 stack1 : List Value) (frame : Frame) (budget : ℕ) (m : Moment) (n : ℕ)
    → Matches a live stack0 frame budget m → 1 ≤ n → n ≤ length stack0 → Brings n stack0 stack1
    → IsFine (rotate n m.stack (λ x rest. goes (m.place + 1) (x ∷ rest) m.catches m.state))
    → LeadsTo a nexts.Again live stack1 (record frame { at = frame.at + 1 }) budget (rotate n m.stack (λ x rest. goes (m.place + 1) (x ∷ rest) m.catches m.state))
brought a live stack0 stack1 frame budget m zero h some enough b fine = absurd fine
brought a live stack0 stack1 frame budget m (suc n) h some enough (v, g, e) fine =
    bring_leads (LeadsTo a nexts.Again live stack1 (record frame { at = frame.at + 1 }) budget) (λ x rest. goes (m.place + 1) (x ∷ rest) m.catches m.state) (a.below ++ m.state.locals) m.stack stack0 n (length stack0 - suc n) v
    h.sits.lies (omega (arith, enough)) g fine
    (λ ops r f. again a live stack0 stack1 frame budget m (v ∷ ops) (frame.at + 1) (m.place + 1) h (e ∙ ap (λ l. l ++ v ∷ []) r) (ap (λ p. p + 1) h.sits.place))

pub brought_fit : (live : Live) (old new : List Value) (n : ℕ) → Brings n old new → IsFit live old → IsFit live new
brought_fit live old new n (v, g, e) f =
    record {
      closed = f.closed;
      there = subst (All (IsThere live.cells)) (sym e) (All-append (IsThere live.cells) (remove old (length old - n)) (v ∷ [])
          (All-append (IsThere live.cells) (take (length old - n) old) (drop (suc (length old - n)) old) (All-take (IsThere live.cells) (length old - n) old f.there) (All-drop (IsThere live.cells) (suc (length old - n)) old f.there))
          (All-cons (IsThere live.cells) v [] (got_there live old (length old - n) v g f) (All-nil (IsThere live.cells))));
    }
