-- How the state follows the machine, over plain values.
use Rattle.std.proofs.Common.{◌≡◌, ◌++◌, ◌∷◌, [], ◌∙◌, ℕ, zero, suc, ◌+◌, ◌-◌, ◌<◌, ◌≤◌, List, Some, Bool, true, false, length, refl, ap, sym, subst, arith, slice_get, length-append, drop, unwrap_or, cond}
use Rattle.std.specs.Prelude.{slice_set, nat_lt, Vec}
use Rattle.std.specs.Global.{Global}
use Rattle.std.proofs.lemmas.List.{set-append_left}
use Rattle.std.proofs.Math.ListN.{length-set}
use Rattle.lp_values.specs.declared.value.Value.{Value}
use Rattle.lp_values.specs.declared.value.Value.TheVariants.{Str}
use Rattle.lp_values.specs.Read.{is_zero}
use Rattle.lp_instr.specs.Code.{Catching}
use Rattle.lp_instr.specs.declared.efun.Efun.{Efun}
use Rattle.lp_language.specs.Course.{State, OfEfun, Gives, pay, zero_value}
use Rattle.lp_isa.specs.Machine.{Moment, Next, Ended, goes, awaits, take_arguments, on_one, on_two, on_some, end_catch, end_then}
use Rattle.lp_language.specs.Operations.{is_false, local_of, with_local}
use Rattle.lp_world.specs.declared.frame.Frame.{Frame}
use Rattle.lp_world.specs.declared.frame.Catch.{Catch}
use Rattle.lp_world.specs.declared.live.Live.{Live}
use Rattle.lp_world.specs.Rows.{live_in}
use Rattle.lp_world.specs.Matches.{Around, Matches, laid, stacked, catch_of, floor}
use Rattle.lp_world.proofs.Keeping.{live_same}
use Rattle.lp_step.specs.declared.next.Next.TheVariants as nexts
use Rattle.lp_step.specs.declared.next.Target.{Target}
use Rattle.lp_step.specs.Steps.{IsFine, LeadsTo, Pays, PaysBy, asked}

abbrev IfTrue : Bool → Type 0
IfTrue true = Unit {0}
IfTrue false = ⊥

-- Stacks

pub last : {A : Type 0} (xs ys : List A) (x y : A) → xs ++ x ∷ [] ≡ ys ++ y ∷ [] → (xs ≡ ys) × (x ≡ y)
last [] [] x y e = (refl, ap (λ l. unwrap_or (slice_get l 0) x) e)
last [] (b ∷ ys) x y e = absurd (omega (arith, ap length e, length-append ys (y ∷ [])))
last (a ∷ xs) [] x y e = absurd (omega (arith, ap length e, length-append xs (x ∷ [])))
last (a ∷ xs) (b ∷ ys) x y e =
    let t = last xs ys x y (ap (drop 1) e) in
    let hd : a ≡ b = ap (λ l. unwrap_or (slice_get l 0) a) e in
    (rw (hd, t.0) refl, t.1)

pub on_one_leads : (P : Next → Type 0) (go : Value → List Value → Next) (base stack old rest : List Value) (v : Value) → old ≡ laid base stack → old ≡ rest ++ v ∷ []
    → IsFine (on_one stack go) → ((ops : List Value) → rest ≡ laid base ops → IsFine (go v ops) → P (go v ops)) → P (on_one stack go)
on_one_leads P go base [] old rest v e f fine k = absurd fine
on_one_leads P go base (x ∷ xs) old rest v e f fine k =
    let t = last (laid base xs) rest x v (sym e ∙ f) in
    subst (λ u. P (go u xs)) (sym t.1) (k xs (sym t.0) (subst (λ u. IsFine (go u xs)) t.1 fine))

pub length-laid : (ls ops : List Value) → length (laid ls ops) ≡ length ls + length ops
length-laid ls [] = omega arith
length-laid ls (x ∷ xs) = omega (arith, length-laid ls xs, length-append (laid ls xs) (x ∷ []))

pub get_left : {A : Type 0} (xs ys : List A) (i : ℕ) → i < length xs → slice_get (xs ++ ys) i ≡ slice_get xs i
get_left [] ys i h = absurd (omega arith)
get_left (x ∷ xs) ys zero h = refl
get_left (x ∷ xs) ys (suc i) h = get_left xs ys i (omega arith)

pub get_right : {A : Type 0} (xs ys : List A) (n i : ℕ) → n ≡ length xs + i → slice_get (xs ++ ys) n ≡ slice_get ys i
get_right [] ys n i e = let q : n ≡ i = omega arith in ap (λ k. slice_get ys k) q
get_right (x ∷ xs) ys zero i e = absurd (omega arith)
get_right (x ∷ xs) ys (suc n) i e = get_right xs ys n i (omega arith)

pub get-laid : (ls ops : List Value) (i : ℕ) → i < length ls → slice_get (laid ls ops) i ≡ slice_get ls i
get-laid ls [] i h = refl
get-laid ls (x ∷ xs) i h = get_left (laid ls xs) (x ∷ []) i (omega (arith, length-laid ls xs)) ∙ get-laid ls xs i h

set_right : {A : Type 0} (xs ys : List A) (n i : ℕ) (v : A) → n ≡ length xs + i → slice_set (xs ++ ys) n v ≡ xs ++ slice_set ys i v
set_right [] ys n i v e = let q : n ≡ i = omega arith in ap (λ k. slice_set ys k v) q
set_right (x ∷ xs) ys zero i v e = absurd (omega arith)
set_right (x ∷ xs) ys (suc n) i v e = ap (λ l. x ∷ l) (set_right xs ys n i v (omega arith))

pub set-laid : (ls ops : List Value) (i : ℕ) (v : Value) → i < length ls → slice_set (laid ls ops) i v ≡ laid (slice_set ls i v) ops
set-laid ls [] i v h = refl
set-laid ls (x ∷ xs) i v h = set-append_left (laid ls xs) (x ∷ []) i v (omega (arith, length-laid ls xs)) ∙ ap (λ l. l ++ x ∷ []) (set-laid ls xs i v h)

-- a local on the stack
pub local-laid : (below ls ops stack : List Value) (k : ℕ) (v : Value) → stack ≡ laid (below ++ ls) ops → k < length ls → slice_get stack (length below + k) ≡ Some v → unwrap_or (slice_get ls k) zero_value ≡ v
local-laid below ls ops stack k v e h g =
    let a : slice_get ls k ≡ Some v = sym (get_right below ls (length below + k) k refl) ∙ sym (get-laid (below ++ ls) ops (length below + k) (omega (arith, length-append below ls))) ∙ ap (λ l. slice_get l (length below + k)) (sym e) ∙ g in
    ap (λ o. unwrap_or o zero_value) a

pub set_local-laid : (below ls ops old new : List Value) (k : ℕ) (v : Value) → old ≡ laid (below ++ ls) ops → k < length ls → new ≡ slice_set old (length below + k) v → new ≡ laid (below ++ slice_set ls k v) ops
set_local-laid below ls ops old new k v e h n =
    n ∙ ap (λ l. slice_set l (length below + k) v) e ∙ set-laid (below ++ ls) ops (length below + k) v (omega (arith, length-append below ls)) ∙ ap (λ l. laid l ops) (set_right below ls (length below + k) k v refl)

-- Liveness

pub zero_same : (a : Around) (live : Live) (stack : List Value) (frame : Frame) (budget : ℕ) (m : Moment) (v : Value) → Matches a live stack frame budget m → is_zero (live_in live.objects) v ≡ is_false m.state v
unfolding is_false
zero_same a live stack frame budget m v h = ap (λ l. is_zero l v) (live_same a.told a.programs live m.state.world h.stands)

-- Moments

pub again : (a : Around) (live : Live) (stack0 stack1 : List Value) (frame : Frame) (budget : ℕ) (m : Moment) (ops : List Value) (at p : ℕ)
    → Matches a live stack0 frame budget m → stack1 ≡ laid (a.below ++ m.state.locals) ops → at ≡ p
    → LeadsTo a nexts.Again live stack1 (record frame { at = at }) budget (goes p ops m.catches m.state)
again a live stack0 stack1 frame budget m ops at p h e q = record {
  m = record { place = p; stack = ops; catches = m.catches; state = m.state };
  matches = record {
    stands = h.stands;
    sits = record { lies = e; bottom = h.sits.bottom; locals = h.sits.locals; place = q; catches = h.sits.catches; belongs = h.sits.belongs };
    left = h.left;
    outputs = h.outputs;
    player = h.player;
    commands = h.commands;
  };
  told = refl;
}

pub pushed : (a : Around) (live : Live) (stack0 stack1 : List Value) (frame : Frame) (budget : ℕ) (m : Moment) (v u : Value)
    → Matches a live stack0 frame budget m → stack1 ≡ stack0 ++ v ∷ [] → u ≡ v
    → LeadsTo a nexts.Again live stack1 (record frame { at = frame.at + 1 }) budget (goes (m.place + 1) (u ∷ m.stack) m.catches m.state)
pushed a live stack0 stack1 frame budget m v u h e q =
    again a live stack0 stack1 frame budget m (u ∷ m.stack) (frame.at + 1) (m.place + 1) h (e ∙ ap (λ l. l ++ v ∷ []) h.sits.lies ∙ ap (λ x. laid (a.below ++ m.state.locals) m.stack ++ x ∷ []) (sym q)) (ap (λ n. n + 1) h.sits.place)

pub local_pushed : (a : Around) (live : Live) (stack0 stack1 : List Value) (frame : Frame) (budget : ℕ) (m : Moment) (k : ℕ) (v : Value)
    → Matches a live stack0 frame budget m → k < a.locals → slice_get stack0 (frame.bottom + k) ≡ Some v → stack1 ≡ stack0 ++ v ∷ []
    → LeadsTo a nexts.Again live stack1 (record frame { at = frame.at + 1 }) budget (goes (m.place + 1) (local_of m.state k ∷ m.stack) m.catches m.state)
unfolding local_of
local_pushed a live stack0 stack1 frame budget m k v h l g e =
    pushed a live stack0 stack1 frame budget m v (local_of m.state k) h e
    (local-laid a.below m.state.locals m.stack stack0 k v h.sits.lies (omega (arith, h.sits.locals)) (ap (λ n. slice_get stack0 (n + k)) (sym h.sits.bottom) ∙ g))

-- the topmost value
top-laid : (base stack : List Value) (i : ℕ) (v : Value) → length base ≤ i → i + 1 ≡ length (laid base stack) → slice_get (laid base stack) i ≡ Some v → (ops : List Value) × (stack ≡ v ∷ ops)
top-laid base [] i v l e g = absurd (omega arith)
top-laid base (x ∷ xs) i v l e g =
    let n : i ≡ length (laid base xs) + 0 = omega (arith, length-append (laid base xs) (x ∷ [])) in
    let q : Some x ≡ Some v = sym (get_right (laid base xs) (x ∷ []) i 0 n) ∙ g in
    (xs, ap (λ o. unwrap_or o x ∷ xs) q)

pub local_set : (a : Around) (live : Live) (stack0 stack1 : List Value) (frame : Frame) (budget : ℕ) (m : Moment) (k : ℕ) (v : Value) (len : ℕ)
    → len ≡ length stack0 → Matches a live stack0 frame budget m → k < a.locals → IsFine (on_one m.stack (λ u rest. goes (m.place + 1) (u ∷ rest) m.catches (with_local m.state k u)))
    → slice_get stack0 (len - 1) ≡ Some v → stack1 ≡ slice_set stack0 (frame.bottom + k) v
    → LeadsTo a nexts.Again live stack1 (record frame { at = frame.at + 1 }) budget (on_one m.stack (λ u rest. goes (m.place + 1) (u ∷ rest) m.catches (with_local m.state k u)))
unfolding with_local
local_set a live stack0 stack1 frame budget m k v len ll h l fine g' e = let g : slice_get stack0 (length stack0 - 1) ≡ Some v = ap (λ n. slice_get stack0 (n - 1)) (sym ll) ∙ g' in elim m.stack as (λ st. st ≡ m.stack → IsFine (on_one st (λ u rest. goes (m.place + 1) (u ∷ rest) m.catches (with_local m.state k u)))
    → LeadsTo a nexts.Again live stack1 (record frame { at = frame.at + 1 }) budget (on_one st (λ u rest. goes (m.place + 1) (u ∷ rest) m.catches (with_local m.state k u)))) [
      | [] ↦ λ q f. absurd f
      | x ∷ xs ↦ λ q f.
          let lies : stack0 ≡ laid (a.below ++ m.state.locals) (x ∷ xs) = h.sits.lies ∙ ap (λ o. laid (a.below ++ m.state.locals) o) (sym q) in
          let n : length stack0 - 1 ≡ length (laid (a.below ++ m.state.locals) xs) + 0 = omega (arith, ap length lies, length-append (laid (a.below ++ m.state.locals) xs) (x ∷ [])) in
          let sm : Some x ≡ Some v = sym (get_right (laid (a.below ++ m.state.locals) xs) (x ∷ []) (length stack0 - 1) 0 n) ∙ ap (λ s. slice_get s (length stack0 - 1)) (sym lies) ∙ g in
          let xv : x ≡ v = ap (λ o. unwrap_or o x) sm in
          record {
            m = record { place = m.place + 1; stack = x ∷ xs; catches = m.catches; state = record m.state { locals = slice_set m.state.locals k x } };
            matches = record {
              stands = h.stands;
              sits = record {
                lies = set_local-laid a.below m.state.locals (x ∷ xs) stack0 stack1 k x lies (omega (arith, h.sits.locals)) (e ∙ ap (λ n. slice_set stack0 (n + k) v) h.sits.bottom ∙ ap (λ u. slice_set stack0 (length a.below + k) u) (sym xv));
                bottom = h.sits.bottom;
                locals = length-set m.state.locals k x ∙ h.sits.locals;
                place = ap (λ n. n + 1) h.sits.place;
                catches = h.sits.catches;
                belongs = h.sits.belongs;
              };
              left = h.left;
              outputs = h.outputs;
              player = h.player;
              commands = h.commands;
            };
            told = refl;
          }
    ] refl fine

-- a jump on what the top reads as, which is dropped
pub jumped : (a : Around) (live : Live) (stack0 stack1 : List Value) (frame : Frame) (budget : ℕ) (m : Moment) (p q at : ℕ) (v : Value) (b : Bool)
    → Matches a live stack0 frame budget m → stack0 ≡ stack1 ++ v ∷ [] → b ≡ is_zero (live_in live.objects) v → at ≡ cond b p q
    → IsFine (on_one m.stack (λ v rest. cond (is_false m.state v) (goes p rest m.catches m.state) (goes q rest m.catches m.state)))
    → LeadsTo a nexts.Again live stack1 (record frame { at = at }) budget (on_one m.stack (λ v rest. cond (is_false m.state v) (goes p rest m.catches m.state) (goes q rest m.catches m.state)))
jumped a live stack0 stack1 frame budget m p q at v b h e z w fine =
    on_one_leads P (λ v rest. cond (is_false m.state v) (goes p rest m.catches m.state) (goes q rest m.catches m.state)) (a.below ++ m.state.locals) m.stack stack0 stack1 v h.sits.lies e fine
    (λ ops l f. subst (λ x. P (cond x (goes p ops m.catches m.state) (goes q ops m.catches m.state))) (z ∙ zero_same a live stack0 frame budget m v h) (by b ops l w))
  where
    P : Next → Type 0
    P = LeadsTo a nexts.Again live stack1 (record frame { at = at }) budget

    by : (b : Bool) (ops : List Value) → stack1 ≡ laid (a.below ++ m.state.locals) ops → at ≡ cond b p q → P (cond b (goes p ops m.catches m.state) (goes q ops m.catches m.state))
    by true ops l w = again a live stack0 stack1 frame budget m ops at p h l w
    by false ops l w = again a live stack0 stack1 frame budget m ops at q h l w

-- what the top reads as decides what comes next
pub on_zero : (P : Next → Type 0) (a : Around) (live : Live) (stack : List Value) (frame : Frame) (budget : ℕ) (m : Moment) (x y : Value → List Value → Next) (b t : Bool)
    → Matches a live stack frame budget m → b ≡ t → ((rest : List Value) (v : Value) → stack ≡ rest ++ v ∷ [] → b ≡ is_zero (live_in live.objects) v)
    → IsFine (on_one m.stack (λ v rest. cond (is_false m.state v) (x v rest) (y v rest)))
    → ((v : Value) (ops : List Value) → stack ≡ laid (a.below ++ m.state.locals) (v ∷ ops) → P (cond t (x v ops) (y v ops)))
    → P (on_one m.stack (λ v rest. cond (is_false m.state v) (x v rest) (y v rest)))
on_zero P a live stack frame budget m x y b t h q z fine k = by m.stack h.sits.lies fine
  where
    by : (st : List Value) → stack ≡ laid (a.below ++ m.state.locals) st → IsFine (on_one st (λ v rest. cond (is_false m.state v) (x v rest) (y v rest)))
        → P (on_one st (λ v rest. cond (is_false m.state v) (x v rest) (y v rest)))
    by [] l f = absurd f
    by (v ∷ ops) l f =
        subst (λ w. P (cond w (x v ops) (y v ops))) (sym q ∙ z (laid (a.below ++ m.state.locals) ops) v l ∙ zero_same a live stack frame budget m v h) (k v ops l)

-- Budgets

paid_by : (b : Bool) (n old new : ℕ) → PaysBy b n old true new → (b ≡ false) × (new ≡ old - n)
paid_by true n old new h = absurd (subst IfTrue h.0 tt)
paid_by false n old new h = (refl, h.1)

spent_by : (b : Bool) (n old new : ℕ) → PaysBy b n old false new → (b ≡ true) × (new ≡ 0)
spent_by true n old new h = (refl, h.1)
spent_by false n old new h = absurd (subst IfTrue (sym h.0) tt)

-- the state stands also with another budget
with_budget : (s : State) (n : ℕ) → State
with_budget s n = record s { budget = n }

pub at_budget : (a : Around) (live : Live) (stack0 stack1 : List Value) (frame : Frame) (budget : ℕ) (m : Moment) (ops : List Value) (at p n k : ℕ)
    → Matches a live stack0 frame budget m → stack1 ≡ laid (a.below ++ m.state.locals) ops → at ≡ p → n ≡ k
    → Matches a live stack1 (record frame { at = at }) n (record { place = p; stack = ops; catches = m.catches; state = record m.state { budget = k } })
at_budget a live stack0 stack1 frame budget m ops at p n k h e q l = record {
  stands = h.stands;
  sits = record { lies = e; bottom = h.sits.bottom; locals = h.sits.locals; place = q; catches = h.sits.catches; belongs = h.sits.belongs };
  left = l;
  outputs = h.outputs;
  player = h.player;
  commands = h.commands;
}

pub turn_spent : (a : Around) (live : Live) (stack : List Value) (frame : Frame) (old new : ℕ) (m : Moment) (paid : Bool)
    → Matches a live stack frame old m → paid ≡ false → Pays 1 old paid new
    → LeadsTo a nexts.Spent live stack frame new (end_then (pay 1 m.state (Gives zero_value)) m.catches m.stack (λ x s. goes (m.place + 1) m.stack m.catches s))
turn_spent a live stack frame old new m paid h q p =
    let t = spent_by (nat_lt old 1) 1 old new (subst (λ b. Pays 1 old b new) q p) in
    let b : nat_lt m.state.budget 1 ≡ true = ap (λ n. nat_lt n 1) (sym h.left) ∙ t.0 in
    record {
      m = record { place = m.place; stack = m.stack; catches = m.catches; state = record m.state { budget = 0 } };
      matches = at_budget a live stack stack frame old m m.stack frame.at m.place new 0 h h.sits.lies h.sits.place t.1;
      told = rw b refl;
    }

pub turn_on : (a : Around) (live : Live) (stack : List Value) (frame : Frame) (old new : ℕ) (m : Moment) (paid : Bool)
    → Matches a live stack frame old m → paid ≡ true → Pays 1 old paid new
    → LeadsTo a nexts.Again live stack (record frame { at = frame.at + 1 }) new (end_then (pay 1 m.state (Gives zero_value)) m.catches m.stack (λ x s. goes (m.place + 1) m.stack m.catches s))
turn_on a live stack frame old new m paid h q p =
    let t = paid_by (nat_lt old 1) 1 old new (subst (λ b. Pays 1 old b new) q p) in
    let b : nat_lt m.state.budget 1 ≡ false = ap (λ n. nat_lt n 1) (sym h.left) ∙ t.0 in
    record {
      m = record { place = m.place + 1; stack = m.stack; catches = m.catches; state = record m.state { budget = m.state.budget - 1 } };
      matches = at_budget a live stack stack frame old m m.stack (frame.at + 1) (m.place + 1) new (m.state.budget - 1) h h.sits.lies (ap (λ n. n + 1) h.sits.place) (t.1 ∙ ap (λ n. n - 1) h.left);
      told = rw b refl;
    }

-- Catches

pub caught_on : (a : Around) (live : Live) (stack : List Value) (frame : Frame) (catches : Vec Catch Global) (budget : ℕ) (m : Moment) (to n : ℕ)
    → Matches a live stack frame budget m → catches.items ≡ frame.catches.items ++ record { to = to; height = n } ∷ [] → n ≡ length stack
    → LeadsTo a nexts.Again live stack (record frame { catches = catches; at = frame.at + 1 }) budget (goes (m.place + 1) m.stack (record { place = to; height = length m.stack } ∷ m.catches) m.state)
caught_on a live stack frame catches budget m to n h e l =
    let k : n ≡ floor a + length m.stack = omega (arith, l, ap length h.sits.lies, length-laid (a.below ++ m.state.locals) m.stack, length-append a.below m.state.locals, h.sits.locals) in
    record {
      m = record { place = m.place + 1; stack = m.stack; catches = record { place = to; height = length m.stack } ∷ m.catches; state = m.state };
      matches = record {
        stands = h.stands;
        sits = record {
          lies = h.sits.lies;
          bottom = h.sits.bottom;
          locals = h.sits.locals;
          place = ap (λ n. n + 1) h.sits.place;
          catches = e ∙ ap (λ cs. cs ++ record { to = to; height = n } ∷ []) h.sits.catches ∙ (let F : ℕ → List Catch = λ j. stacked (floor a) m.catches ++ record { to = to; height = j } ∷ [] in ap F k);
          belongs = h.sits.belongs;
        };
        left = h.left;
        outputs = h.outputs;
        player = h.player;
        commands = h.commands;
      };
      told = refl;
    }

pub caught_off : (a : Around) (live : Live) (stack : List Value) (frame : Frame) (catches : Vec Catch Global) (budget : ℕ) (m : Moment) (x : Catch)
    → Matches a live stack frame budget m → frame.catches.items ≡ catches.items ++ x ∷ []
    → IsFine (end_catch m.catches (λ rest. goes (m.place + 1) m.stack rest m.state))
    → LeadsTo a nexts.Again live stack (record frame { catches = catches; at = frame.at + 1 }) budget (end_catch m.catches (λ rest. goes (m.place + 1) m.stack rest m.state))
caught_off a live stack frame catches budget m x h e fine = by m.catches h.sits.catches fine
  where
    by : (cs : List Catching) → frame.catches.items ≡ stacked (floor a) cs → IsFine (end_catch cs (λ rest. goes (m.place + 1) m.stack rest m.state))
        → LeadsTo a nexts.Again live stack (record frame { catches = catches; at = frame.at + 1 }) budget (end_catch cs (λ rest. goes (m.place + 1) m.stack rest m.state))
    by [] q f = absurd f
    by (c ∷ cs) q f = record {
      m = record { place = m.place + 1; stack = m.stack; catches = cs; state = m.state };
      matches = record {
        stands = h.stands;
        sits = record {
          lies = h.sits.lies;
          bottom = h.sits.bottom;
          locals = h.sits.locals;
          place = ap (λ n. n + 1) h.sits.place;
          catches = (last catches.items (stacked (floor a) cs) x (catch_of (floor a) c) (sym e ∙ q)).0;
          belongs = h.sits.belongs;
        };
        left = h.left;
        outputs = h.outputs;
        player = h.player;
        commands = h.commands;
      };
      told = refl;
    }

-- Ends and calls

pub on : (a : Around) (live : Live) (stack0 stack1 : List Value) (frame : Frame) (budget : ℕ) (m : Moment) (ops : List Value) (at p : ℕ)
    → Matches a live stack0 frame budget m → stack1 ≡ laid (a.below ++ m.state.locals) ops → at ≡ p
    → Matches a live stack1 (record frame { at = at }) budget (record { place = p; stack = ops; catches = m.catches; state = m.state })
on a live stack0 stack1 frame budget m ops at p h e q = record {
  stands = h.stands;
  sits = record { lies = e; bottom = h.sits.bottom; locals = h.sits.locals; place = q; catches = h.sits.catches; belongs = h.sits.belongs };
  left = h.left;
  outputs = h.outputs;
  player = h.player;
  commands = h.commands;
}

pub done : (a : Around) (live : Live) (stack0 stack1 : List Value) (frame : Frame) (budget : ℕ) (m : Moment) (v : Value)
    → Matches a live stack0 frame budget m → stack0 ≡ stack1 ++ v ∷ [] → IsFine (on_one m.stack (λ v rest. Ended (Gives v m.state)))
    → LeadsTo a (nexts.Done v) live stack1 frame budget (on_one m.stack (λ v rest. Ended (Gives v m.state)))
done a live stack0 stack1 frame budget m v h e fine =
    on_one_leads (LeadsTo a (nexts.Done v) live stack1 frame budget) (λ v rest. Ended (Gives v m.state)) (a.below ++ m.state.locals) m.stack stack0 stack1 v h.sits.lies e fine
    (λ ops l f. record { m = record { place = m.place; stack = ops; catches = m.catches; state = m.state }; matches = on a live stack0 stack1 frame budget m ops frame.at m.place h l h.sits.place; told = refl })

pub called : (a : Around) (live : Live) (stack : List Value) (frame : Frame) (budget : ℕ) (m : Moment) (target : Target) (n : ℕ)
    → Matches a live stack frame budget m
    → LeadsTo a (nexts.Call (record { target = target; args = n })) live stack (record frame { at = frame.at + 1 }) budget (asked target n a (record { place = m.place + 1; stack = m.stack; catches = m.catches; state = m.state }))
called a live stack frame budget m target n h = record {
  m = record { place = m.place + 1; stack = m.stack; catches = m.catches; state = m.state };
  matches = on a live stack stack frame budget m m.stack (frame.at + 1) (m.place + 1) h h.sits.lies (ap (λ n. n + 1) h.sits.place);
  told = refl;
}

pub efun_called : (a : Around) (live : Live) (stack : List Value) (frame : Frame) (budget : ℕ) (m : Moment) (e : Efun) (n : ℕ)
    → Matches a live stack frame budget m
    → LeadsTo a (nexts.Back (record { efun = e; args = n })) live stack (record frame { at = frame.at + 1 }) budget
    (take_arguments n [] m.stack (λ xs rest. awaits (OfEfun e) xs a.scene m.state (m.place + 1) m.catches rest))
efun_called a live stack frame budget m e n h = record {
  m = record { place = m.place + 1; stack = m.stack; catches = m.catches; state = m.state };
  matches = on a live stack stack frame budget m m.stack (frame.at + 1) (m.place + 1) h h.sits.lies (ap (λ n. n + 1) h.sits.place);
  told = refl;
}

-- a text of the program
pub text_pushed : (a : Around) (live : Live) (stack0 stack1 : List Value) (frame : Frame) (budget : ℕ) (m : Moment) (k : ℕ) (t : List ℕ)
    → Matches a live stack0 frame budget m → slice_get frame.code.consts k ≡ Some t → stack1 ≡ stack0 ++ Str t ∷ []
    → LeadsTo a nexts.Again live stack1 (record frame { at = frame.at + 1 }) budget (on_some (slice_get a.code.texts k) (λ t. goes (m.place + 1) (Str t ∷ m.stack) m.catches m.state))
text_pushed a live stack0 stack1 frame budget m k t h e q =
    let there : slice_get a.code.texts k ≡ Some t = ap (λ c. slice_get c.texts k) (sym h.sits.belongs.code) ∙ e in
    subst (λ o. LeadsTo a nexts.Again live stack1 (record frame { at = frame.at + 1 }) budget (on_some o (λ t. goes (m.place + 1) (Str t ∷ m.stack) m.catches m.state))) (sym there)
    (pushed a live stack0 stack1 frame budget m (Str t) (Str t) h q refl)

-- the topmost value again
pub one_again : (a : Around) (live : Live) (stack0 stack1 : List Value) (frame : Frame) (budget : ℕ) (m : Moment) (v : Value) (len : ℕ)
    → len ≡ length stack0 → Matches a live stack0 frame budget m → slice_get stack0 (len - 1) ≡ Some v → stack1 ≡ stack0 ++ v ∷ []
    → IsFine (on_one m.stack (λ v rest. goes (m.place + 1) (v ∷ v ∷ rest) m.catches m.state))
    → LeadsTo a nexts.Again live stack1 (record frame { at = frame.at + 1 }) budget (on_one m.stack (λ v rest. goes (m.place + 1) (v ∷ v ∷ rest) m.catches m.state))
one_again a live stack0 stack1 frame budget m v len ll h g e fine = by m.stack h.sits.lies fine
  where
    base : List Value
    base = a.below ++ m.state.locals

    by : (st : List Value) → stack0 ≡ laid base st → IsFine (on_one st (λ v rest. goes (m.place + 1) (v ∷ v ∷ rest) m.catches m.state))
        → LeadsTo a nexts.Again live stack1 (record frame { at = frame.at + 1 }) budget (on_one st (λ v rest. goes (m.place + 1) (v ∷ v ∷ rest) m.catches m.state))
    by [] l f = absurd f
    by (x ∷ xs) l f =
        let n : len - 1 ≡ length (laid base xs) + 0 = omega (arith, ll, ap length l, length-append (laid base xs) (x ∷ [])) in
        let s : Some x ≡ Some v = sym (get_right (laid base xs) (x ∷ []) (len - 1) 0 n) ∙ ap (λ s. slice_get s (len - 1)) (sym l) ∙ g in
        let xv : x ≡ v = ap (λ o. unwrap_or o x) s in
        again a live stack0 stack1 frame budget m (x ∷ x ∷ xs) (frame.at + 1) (m.place + 1) h (e ∙ ap (λ s. s ++ v ∷ []) l ∙ ap (λ y. laid base (x ∷ xs) ++ y ∷ []) (sym xv)) (ap (λ n. n + 1) h.sits.place)

-- two values again
pub two_again : (a : Around) (live : Live) (stack0 stack1 : List Value) (frame : Frame) (budget : ℕ) (m : Moment) (x y : Value) (len : ℕ)
    → len ≡ length stack0 → Matches a live stack0 frame budget m → 2 ≤ length stack0 → slice_get stack0 (len - 2) ≡ Some x → slice_get stack0 (len - 2 + 1) ≡ Some y → stack1 ≡ (stack0 ++ x ∷ []) ++ y ∷ []
    → IsFine (on_two m.stack (λ x y rest. goes (m.place + 1) (y ∷ x ∷ y ∷ x ∷ rest) m.catches m.state))
    → LeadsTo a nexts.Again live stack1 (record frame { at = frame.at + 1 }) budget (on_two m.stack (λ x y rest. goes (m.place + 1) (y ∷ x ∷ y ∷ x ∷ rest) m.catches m.state))
two_again a live stack0 stack1 frame budget m x y len ll h two gx' gy' e fine = by m.stack h.sits.lies fine
  where
    gx : slice_get stack0 (length stack0 - 2) ≡ Some x
    gx = ap (λ n. slice_get stack0 (n - 2)) (sym ll) ∙ gx'

    gy : slice_get stack0 (length stack0 - 2 + 1) ≡ Some y
    gy = ap (λ n. slice_get stack0 (n - 2 + 1)) (sym ll) ∙ gy'

    base : List Value
    base = a.below ++ m.state.locals

    by : (st : List Value) → stack0 ≡ laid base st → IsFine (on_two st (λ x y rest. goes (m.place + 1) (y ∷ x ∷ y ∷ x ∷ rest) m.catches m.state))
        → LeadsTo a nexts.Again live stack1 (record frame { at = frame.at + 1 }) budget (on_two st (λ x y rest. goes (m.place + 1) (y ∷ x ∷ y ∷ x ∷ rest) m.catches m.state))
    by [] l f = absurd f
    by (v ∷ []) l f = absurd f
    by (v ∷ u ∷ ops) l f =
        let n2 : length stack0 - 2 ≡ length (laid base ops) + 0 = omega (arith, ap length l, length-append (laid base ops ++ u ∷ []) (v ∷ []), length-append (laid base ops) (u ∷ [])) in
        let n1 : length stack0 - 2 + 1 ≡ length (laid base ops ++ u ∷ []) + 0 = omega (arith, ap length l, length-append (laid base ops ++ u ∷ []) (v ∷ []), length-append (laid base ops) (u ∷ [])) in
        let s2 : Some u ≡ Some x = sym (get_left (laid base ops ++ u ∷ []) (v ∷ []) (length stack0 - 2) (omega (arith, n2, length-append (laid base ops) (u ∷ []))) ∙ get_right (laid base ops) (u ∷ []) (length stack0 - 2) 0 n2) ∙ ap (λ s. slice_get s (length stack0 - 2)) (sym l) ∙ gx in
        let s1 : Some v ≡ Some y = sym (get_right (laid base ops ++ u ∷ []) (v ∷ []) (length stack0 - 2 + 1) 0 n1) ∙ ap (λ s. slice_get s (length stack0 - 2 + 1)) (sym l) ∙ gy in
        let ux : u ≡ x = ap (λ o. unwrap_or o u) s2 in
        let vy : v ≡ y = ap (λ o. unwrap_or o v) s1 in
        again a live stack0 stack1 frame budget m (v ∷ u ∷ v ∷ u ∷ ops) (frame.at + 1) (m.place + 1) h
        (e ∙ ap (λ s. (s ++ x ∷ []) ++ y ∷ []) l ∙ ap (λ z. (laid base (v ∷ u ∷ ops) ++ z ∷ []) ++ y ∷ []) (sym ux) ∙ ap (λ z. (laid base (v ∷ u ∷ ops) ++ u ∷ []) ++ z ∷ []) (sym vy))
        (ap (λ n. n + 1) h.sits.place)
