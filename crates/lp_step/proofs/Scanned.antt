-- A scan in the state and in the world.
use Rattle.std.proofs.Common.{◌≡◌, ◌++◌, ◌∷◌, [], ◌∙◌, ℕ, zero, suc, ◌+◌, ◌-◌, ◌≤◌, pos, Bool, true, false, List, Option, Result, Ok, Err, All, IfOk, refl, ap, sym, subst, arith, drop, length, map, option_map, slice_get, nat_lt, if◌then◌else◌}
use Rattle.std.proofs.lemmas.List.Elements.{All-nil, All-cons, All-head}
use Rattle.lp_values.specs.declared.value.Value.{Value}
use Rattle.lp_values.specs.declared.value.Value.TheVariants.{Int}
use Rattle.lp_cells.specs.Cells.{IsThere, Store}
use Rattle.lp_text.specs.declared.scan.Scanned.{Scanned}
use Rattle.lp_text.specs.declared.scan.Scanned.TheVariants as scans
use Rattle.lp_ops.specs.Operands.{Opened, operand, size_of}
use Rattle.lp_ops.specs.Prices.{share}
use Rattle.lp_language.specs.Course.{End, Gives, Stops, State, Spent, here, zero_value}
use Rattle.lp_language.specs.Operations.{living, scan, scan_texts, scanned_value, seen}
use Rattle.lp_isa.specs.Machine.{Moment, Next, end_then, goes, marked, on_one, on_two, stopped}
use Rattle.lp_world.specs.declared.frame.Frame.{Frame}
use Rattle.lp_world.specs.declared.live.Live.{Live}
use Rattle.lp_world.specs.declared.objects.Object.{Object}
use Rattle.lp_world.specs.Rows.{live_in}
use Rattle.lp_world.specs.Matches.{Around, Matches, laid}
use Rattle.lp_world.proofs.Keeping.{live_same, operand_same}
use Rattle.lp_step.specs.declared.fault.StepFault.{StepFault}
use Rattle.lp_step.specs.declared.next.Next.{Next as Led}
use Rattle.lp_step.specs.declared.next.Next.TheVariants as nexts
use Rattle.lp_step.specs.declared.scans.Scanning.{Scanning}
use Rattle.lp_step.specs.declared.scans.Scanning.TheVariants as scanning
use Rattle.lp_step.specs.Steps.{IsFine, IsFit, LeadsTo, told}
use Rattle.lp_step.specs.Scans.{Scans, ScansBy, ScansOn, Tells, mark}
use Rattle.lp_step.proofs.Fits.{popped_fit, pushed_fit, split_all}
use Rattle.lp_step.proofs.Led.{at_world}
use Rattle.lp_step.proofs.Moves.{on_one_leads}
use Rattle.lp_step.proofs.Turned.{laid_fit}

-- Marks on the stack

laid_marks : (base : List Value) (n : ℕ) (vs ops : List Value) → laid (laid base ops) (marked n vs []) ≡ laid base (marked n vs ops)
laid_marks base zero vs ops = refl
laid_marks base (suc n) [] ops = ap (λ l. (l ++ zero_value ∷ []) ++ zero_value ∷ []) (laid_marks base n [] ops)
laid_marks base (suc n) (v ∷ vs) ops = ap (λ l. (l ++ v ∷ []) ++ Int (pos 1) ∷ []) (laid_marks base n vs ops)

-- one place more
one_mark : (base : List Value) (n : ℕ) (vs : List Value) → laid (laid base (marked n (drop 1 vs) [])) (mark (slice_get vs 0)) ≡ laid base (marked (suc n) vs [])
one_mark base n [] = refl
one_mark base n (v ∷ vs) = refl

get_drop : (vs : List Value) (i : ℕ) → slice_get (drop i vs) 0 ≡ slice_get vs i
get_drop [] zero = refl
get_drop [] (suc i) = refl
get_drop (v ∷ vs) zero = refl
get_drop (v ∷ vs) (suc i) = get_drop vs i

drop_next : (vs : List Value) (i : ℕ) → drop 1 (drop i vs) ≡ drop (suc i) vs
drop_next [] zero = refl
drop_next [] (suc i) = refl
drop_next (v ∷ vs) zero = refl
drop_next (v ∷ vs) (suc i) = drop_next vs i

get_map : (xs : List Scanned) (i : ℕ) → slice_get (map scanned_value xs) i ≡ option_map scanned_value (slice_get xs i)
get_map [] i = refl
get_map (x ∷ xs) zero = refl
get_map (x ∷ xs) (suc i) = get_map xs i

-- a turn of the loop: the places from `i + 1` on are marked, and then that of `i` is
pub mark_more : (base stack0 stack1 : List Value) (places left i : ℕ) (xs : List Scanned) (x : Option Scanned) → left ≡ suc i → left ≤ places → x ≡ slice_get xs i
    → stack0 ≡ laid base (marked (places - left) (drop left (map scanned_value xs)) []) → stack1 ≡ laid stack0 (mark (option_map scanned_value x))
    → stack1 ≡ laid base (marked (places - i) (drop i (map scanned_value xs)) [])
mark_more base stack0 stack1 places left i xs x l w g e f =
    let vs = map scanned_value xs in
    let n : places - i ≡ suc (places - left) = omega (arith, l, w) in
    let is : option_map scanned_value x ≡ slice_get (drop i vs) 0 = ap (option_map scanned_value) g ∙ sym (get_map xs i) ∙ sym (get_drop vs i) in
    let rest : drop left vs ≡ drop 1 (drop i vs) = ap (λ k. drop k vs) l ∙ sym (drop_next vs i) in
    f ∙ ap (λ s. laid s (mark (option_map scanned_value x))) (e ∙ ap (λ d. laid base (marked (places - left) d [])) rest) ∙ ap (λ o. laid (laid base (marked (places - left) (drop 1 (drop i vs)) [])) (mark o)) is
    ∙ one_mark base (places - left) (drop i vs) ∙ ap (λ k. laid base (marked k (drop i vs) [])) (sym n)

-- What was scanned

-- two values were taken
pub scans_ok : (places : ℕ) (old mid new : List Value) (objects : List (Option Object)) (cells : Store) (before after : ℕ) (x form : Value) (r : Result Scanning StepFault)
    → old ≡ mid ++ form ∷ [] → mid ≡ new ++ x ∷ [] → All (IsThere cells) old
    → IfOk r (λ d. Scans (1 + share (size_of (operand (live_in objects) cells x) + size_of (operand (live_in objects) cells form))) (scan_texts (operand (live_in objects) cells x) (operand (live_in objects) cells form) places) before d after)
    → IfOk r (λ d. ScansOn places old new objects cells before d after)
scans_ok places old mid new objects cells before after x form (Ok d) e f t w =
    let all : old ≡ (new ++ x ∷ []) ++ form ∷ [] = e ∙ ap (λ l. l ++ form ∷ []) f in
    let both = split_all (IsThere cells) (new ++ x ∷ []) (form ∷ []) (subst (All (IsThere cells)) all t) in
    let one = split_all (IsThere cells) new (x ∷ []) both.0 in
    (x, form, all, w, All-head (IsThere cells) x [] one.1, All-head (IsThere cells) form [] both.1)
scans_ok places old mid new objects cells before after x form (Err k) e f t w = w

-- after what it came to the stack and the place are so
abbrev pub IsScanned : ℕ → List Value → ℕ → Scanning → Led → List Value → ℕ → Type 0
IsScanned places stack at (scanning.Values found) n s p = (n ≡ nexts.Again) × (s ≡ laid (stack ++ Int (pos (length found.items)) ∷ []) (marked places (map scanned_value found.items) [])) × (p ≡ at + 1)
IsScanned places stack at (scanning.Error e) n s p = (n ≡ nexts.Error e) × (s ≡ stack) × (p ≡ at)
IsScanned places stack at scanning.Spent n s p = (n ≡ nexts.Spent) × (s ≡ stack) × (p ≡ at)

length_map : (xs : List Scanned) → length (map scanned_value xs) ≡ length xs
length_map [] = refl
length_map (x ∷ xs) = ap suc (length_map xs)

pub scanned_on : (a : Around) (live : Live) (stack0 stack1 stack2 : List Value) (frame : Frame) (at2 old new : ℕ) (m : Moment) (places : ℕ) (d : Scanning) (n : Led)
    → Matches a live stack0 frame old m → ScansOn places stack0 stack1 live.objects live.cells old d new → IsScanned places stack1 frame.at d n stack2 at2
    → IsFine (on_two m.stack (λ x form rest. end_then (scan places x form m.state) m.catches rest (λ vs s. goes (m.place + 1) (marked places vs (Int (pos (length vs)) ∷ rest)) m.catches s)))
    → LeadsTo a n live stack2 (record frame { at = at2 }) new
    (on_two m.stack (λ x form rest. end_then (scan places x form m.state) m.catches rest (λ vs s. goes (m.place + 1) (marked places vs (Int (pos (length vs)) ∷ rest)) m.catches s)))
unfolding scan
scanned_on a live stack0 stack1 stack2 frame at2 old new m places d n h (x, form, e, w, tx, tf) t fine =
    on_one_leads To (λ form st. on_one st (λ x rest. end_then (scan places x form m.state) m.catches rest (next rest))) base m.stack stack0 (stack1 ++ x ∷ []) form h.sits.lies e fine
    (λ ops l f. on_one_leads To (λ x rest. end_then (scan places x form m.state) m.catches rest (next rest)) base ops (stack1 ++ x ∷ []) stack1 x l refl f
    (λ ops l f. by (nat_lt m.state.budget price)
    (subst (λ k. Scans price (scan_texts (seen m.state x) (seen m.state form) places) k d new) h.left
    (subst (λ q. ScansFor (seen m.state x) q) (same form tf) (subst (λ q. ScansFor q (operand (live_in live.objects) live.cells form)) (same x tx) w))) ops l))
  where
    base : List Value
    base = a.below ++ m.state.locals

    To : Next → Type 0
    To y = LeadsTo a n live stack2 (record frame { at = at2 }) new y

    next : List Value → List Value → State → Next
    next rest vs s = goes (m.place + 1) (marked places vs (Int (pos (length vs)) ∷ rest)) m.catches s

    same : (v : Value) → IsThere live.cells v → operand (live_in live.objects) live.cells v ≡ seen m.state v
    same v t = ap (λ l. operand l live.cells v) (live_same a.told a.programs live m.state.world h.stands) ∙ operand_same (living m.state) live.cells m.state.world.cells v h.stands.cells t

    ScansFor : Opened → Opened → Type 0
    ScansFor p q = Scans (1 + share (size_of p + size_of q)) (scan_texts p q places) old d new

    price : ℕ
    price = 1 + share (size_of (seen m.state x) + size_of (seen m.state form))

    left : State
    left = record m.state { budget = m.state.budget - price }

    tells : (d : Scanning) (end : End (List Value)) → Tells end left d → new ≡ m.state.budget - price → IsScanned places stack1 frame.at d n stack2 at2
        → (ops : List Value) → stack1 ≡ laid base ops → To (end_then end m.catches ops (next ops))
    tells (scanning.Values found) (Gives vs s) w z i ops l =
        let count : length found.items ≡ length vs = sym (length_map found.items) ∙ ap length (sym w.1) in
        subst (λ s. To (next ops vs s)) (sym w.0) (record {
          m = record { place = m.place + 1; stack = marked places vs (Int (pos (length vs)) ∷ ops); catches = m.catches; state = left };
          matches = at_world a live live.cells stack0 stack2 frame old m m.state.world (marked places vs (Int (pos (length vs)) ∷ ops)) at2 (m.place + 1) new (m.state.budget - price) h h.stands
              (i.1 ∙ ap (λ b. laid (b ++ Int (pos (length found.items)) ∷ []) (marked places (map scanned_value found.items) [])) l
              ∙ ap (λ k. laid (laid base ops ++ Int (pos k) ∷ []) (marked places (map scanned_value found.items) [])) count
              ∙ ap (λ us. laid (laid base ops ++ Int (pos (length vs)) ∷ []) (marked places us [])) (sym w.1)
              ∙ laid_marks base places vs (Int (pos (length vs)) ∷ ops))
              (i.2 ∙ ap (λ j. j + 1) h.sits.place) z;
          told = ap (λ y. told y a (record { place = m.place + 1; stack = marked places vs (Int (pos (length vs)) ∷ ops); catches = m.catches; state = left })) (sym i.0);
        })
    tells (scanning.Values found) (Stops x s) w z i ops l = absurd w
    tells (scanning.Error e) (Gives vs s) w z i ops l = absurd w
    tells (scanning.Error e) (Stops x s) w z i ops l =
        subst (λ s. To (stopped x m.catches ops s)) (sym w.0) (subst (λ y. To (stopped y m.catches ops left)) (sym w.1) (record {
          m = record { place = m.place; stack = ops; catches = m.catches; state = left };
          matches = at_world a live live.cells stack0 stack2 frame old m m.state.world ops at2 m.place new (m.state.budget - price) h h.stands (i.1 ∙ l) (i.2 ∙ h.sits.place) z;
          told = ap (λ y. told y a (record { place = m.place; stack = ops; catches = m.catches; state = left })) (sym i.0);
        }))
    tells scanning.Spent (Gives vs s) w z i ops l = absurd w
    tells scanning.Spent (Stops x s) w z i ops l = absurd w

    spent : (d : Scanning) → d ≡ scanning.Spent → new ≡ 0 → IsScanned places stack1 frame.at d n stack2 at2 → (ops : List Value) → stack1 ≡ laid base ops
        → To (stopped (here Spent) m.catches ops (record m.state { budget = 0 }))
    spent d q z i ops l =
        let i : IsScanned places stack1 frame.at scanning.Spent n stack2 at2 = subst (λ y. IsScanned places stack1 frame.at y n stack2 at2) q i in
        record {
          m = record { place = m.place; stack = ops; catches = m.catches; state = record m.state { budget = 0 } };
          matches = at_world a live live.cells stack0 stack2 frame old m m.state.world ops at2 m.place new 0 h h.stands (i.1 ∙ l) (i.2 ∙ h.sits.place) z;
          told = ap (λ y. told y a (record { place = m.place; stack = ops; catches = m.catches; state = record m.state { budget = 0 } })) (sym i.0);
        }

    by : (b : Bool) → ScansBy b price (scan_texts (seen m.state x) (seen m.state form) places) m.state.budget d new → (ops : List Value) → stack1 ≡ laid base ops
        → To (end_then (if b then Stops (here Spent) (record m.state { budget = 0 }) else scan_texts (seen m.state x) (seen m.state form) places left) m.catches ops (next ops))
    by true w ops l = spent d w.0 w.1 t ops l
    by false w ops l = tells d (scan_texts (seen m.state x) (seen m.state form) places left) (w.1 left) w.0 t ops l

-- What lies on the stack after a scan is there

value_there : (store : Store) (x : Scanned) → IsThere store (scanned_value x)
value_there store (scans.Int n) = tt
value_there store (scans.Text cs) = tt

marks_there : (store : Store) (n : ℕ) (xs : List Scanned) → All (IsThere store) (marked n (map scanned_value xs) [])
marks_there store zero xs = All-nil (IsThere store)
marks_there store (suc n) [] = All-cons (IsThere store) zero_value (zero_value ∷ marked n [] []) tt (All-cons (IsThere store) zero_value (marked n [] []) tt (marks_there store n []))
marks_there store (suc n) (x ∷ xs) =
    All-cons (IsThere store) (Int (pos 1)) (scanned_value x ∷ marked n (map scanned_value xs) []) tt (All-cons (IsThere store) (scanned_value x) (marked n (map scanned_value xs) []) (value_there store x) (marks_there store n xs))

pub scans_fit : (live : Live) (places : ℕ) (old new : List Value) (budget0 budget1 : ℕ) (d : Scanning) → ScansOn places old new live.objects live.cells budget0 d budget1 → IsFit live old → IsFit live new
scans_fit live places old new budget0 budget1 d (x, form, e, w, tx, tf) f = (popped_fit live (new ++ x ∷ []) new x refl (popped_fit live old (new ++ x ∷ []) form e f).0).0

pub found_fit : (live : Live) (places : ℕ) (old new : List Value) (count : ℕ) (xs : List Scanned) → new ≡ laid (old ++ Int (pos count) ∷ []) (marked places (map scanned_value xs) []) → IsFit live old → IsFit live new
found_fit live places old new count xs e f =
    subst (IsFit live) (sym e)
    (laid_fit live (old ++ Int (pos count) ∷ []) (marked places (map scanned_value xs) []) (marks_there live.cells places xs) (pushed_fit live old (old ++ Int (pos count) ∷ []) (Int (pos count)) tt refl f))
