-- Operators on integers, whose result is written in the place of the operands.
use Rattle.std.proofs.Common.{◌≡◌, ◌++◌, ◌∷◌, [], ◌∙◌, ℕ, ℤ, zero, suc, ◌+◌, ◌-◌, ◌≤◌, Bool, true, false, List, Some, refl, ap, sym, subst, arith, nat_lt, length, length-append, slice_get, unwrap_or, if◌then◌else◌}
use Rattle.std.specs.Prelude.{slice_set}
use Rattle.std.proofs.lemmas.Bool.{le-ltb}
use Rattle.lp_cells.specs.Cells.{Store}
use Rattle.lp_values.specs.declared.id.ObjId.{ObjId}
use Rattle.lp_values.specs.declared.value.Value.{Value}
use Rattle.lp_values.specs.declared.value.Value.TheVariants.{Int}
use Rattle.lp_ops.specs.Effects.{within}
use Rattle.lp_ops.specs.Integers.{int}
use Rattle.lp_ops.specs.Operands.{Number}
use Rattle.lp_ops.specs.Operators as operators
use Rattle.lp_ops.specs.Prices.{binary_after, binary_before, binary_has_share, share}
use Rattle.lp_ops.specs.declared.effect.Effect.{Effect}
use Rattle.lp_tree.specs.declared.operator.BinOp.{BinOp}
use Rattle.lp_tree.specs.declared.operator.Step.{Step}
use Rattle.lp_language.specs.Operations.{step_effect}
use Rattle.lp_world.specs.declared.live.Live.{Live}
use Rattle.lp_world.specs.Rows.{live_in}
use Rattle.lp_step.specs.declared.worked.Worked.TheVariants as worked
use Rattle.lp_step.specs.InPlace.{CountsInPlace, InPlace}
use Rattle.lp_step.specs.Steps.{IsFit}
use Rattle.lp_step.specs.Works.{AreSizesSame, IsWorked, Works, WorksBy}
use Rattle.lp_step.proofs.Fits.{popped_fit, pushed_fit}
use Rattle.lp_step.proofs.Moves.{get_left, get_right}

-- Lists

unsnoc : (xs : List Value) → 1 ≤ length xs → (rest : List Value) × (x : Value) × (xs ≡ rest ++ x ∷ [])
unsnoc [] h = absurd (omega arith)
unsnoc (x ∷ []) h = ([], x, refl)
unsnoc (x ∷ y ∷ ys) h =
    let t = unsnoc (y ∷ ys) (omega arith) in
    (x ∷ t.0, t.1, ap (λ l. x ∷ l) t.2)

set_last : (rest : List Value) (x v : Value) (i : ℕ) → i ≡ length rest → slice_set (rest ++ x ∷ []) i v ≡ rest ++ v ∷ []
set_last [] x v zero e = refl
set_last [] x v (suc i) e = absurd (omega (arith, e))
set_last (a ∷ rest) x v zero e = absurd (omega (arith, e))
set_last (a ∷ rest) x v (suc i) e = ap (λ l. a ∷ l) (set_last rest x v i (omega (arith, e)))

last_is : (rest : List Value) (x v : Value) (i : ℕ) → i ≡ length rest → slice_get (rest ++ x ∷ []) i ≡ Some v → x ≡ v
last_is rest x v i e g =
    let s : Some x ≡ Some v = sym (get_right rest (x ∷ []) i 0 (omega (arith, e))) ∙ g in
    ap (λ o. unwrap_or o x) s

-- A price of 1

worked_free : (b : Bool) (left : ℕ) (k : ℤ) (cells : Store) → b ≡ false → IsWorked b (Int k) cells (left - 0) (worked.Value (Int k)) cells left
worked_free b left k cells q = subst (λ b. IsWorked b (Int k) cells (left - 0) (worked.Value (Int k)) cells left) (sym q) (refl, refl, omega arith)

paid_once : (b : Bool) (old : ℕ) (k : ℤ) (cells : Store) → b ≡ false → WorksBy b 1 (int k) 0 cells old (worked.Value (Int k)) cells (old - 1)
paid_once b old k cells q =
    subst (λ b. WorksBy b 1 (int k) 0 cells old (worked.Value (Int k)) cells (old - 1)) (sym q) (worked_free (nat_lt (old - 1) 0) (old - 1) k cells (le-ltb (old - 1) 0 (omega arith)))

works_once : (old price after : ℕ) (e : Effect) (k : ℤ) (cells : Store) → 1 ≤ old → price ≡ 1 → after ≡ 0 → e ≡ int k → Works price e after cells old (worked.Value (Int k)) cells (old - 1)
works_once old price after e k cells h p a q =
    subst (λ p. Works p e after cells old (worked.Value (Int k)) cells (old - 1)) (sym p)
    (subst (λ a. Works 1 e a cells old (worked.Value (Int k)) cells (old - 1)) (sym a)
    (subst (λ e. Works 1 e 0 cells old (worked.Value (Int k)) cells (old - 1)) (sym q) (paid_once (nat_lt old 1) old k cells (le-ltb old 1 h))))

no_share_before : (b : Bool) → 1 + (if b then share 0 else 0) ≡ 1
no_share_before true = refl
no_share_before false = refl

no_share_after : (b : Bool) → (if b then share 0 else 0) ≡ 0
no_share_after true = refl
no_share_after false = refl

same_sizes : (l : ObjId → Bool) (cells : Store) (e : Effect) (k : ℤ) → e ≡ int k → AreSizesSame l cells e
same_sizes l cells e k q = subst (AreSizesSame l cells) (sym q) (λ whole p. refl)

-- In place

placed_on : (op : BinOp) (rest old new : List Value) (x y : Value) (len : ℕ) (m n k : ℤ) (before : ℕ)
    → old ≡ (rest ++ x ∷ []) ++ y ∷ [] → len ≡ length old → slice_get old (len - 2) ≡ Some (Int m) → slice_get old (len - 2 + 1) ≡ Some (Int n)
    → ((live : ObjId → Bool) → operators.result_of live op (Number m) (Number n) ≡ int k) → 1 ≤ before
    → ((left : List Value) (right : Value) → old ≡ left ++ right ∷ [] → new ≡ slice_set left (length left - 1) (Int k))
    → InPlace op old new before true (before - 1)
placed_on op rest old new x y len m n k before all ll gm gn gives h set = (
  rest,
  k,
  now,
  λ objects cells. (
    Int m,
    Int n,
    was,
    tt,
    tt,
    works_once before (binary_before op (Number m) (Number n)) (binary_after (live_in objects) op cells (effect (live_in objects))) (effect (live_in objects)) k cells h (no_share_before (binary_has_share op))
        (ap (λ e. binary_after (live_in objects) op cells e) (is (live_in objects)) ∙ no_share_after (binary_has_share op)) (is (live_in objects)),
    λ q. same_sizes (live_in objects) cells (effect (live_in objects)) k (is (live_in objects)),
  ),
)
  where
    effect : (ObjId → Bool) → Effect
    effect live = operators.binary live op (Number m) (Number n)

    is : (live : ObjId → Bool) → effect live ≡ int k
    is live = ap within (gives live)

    left_long : length (rest ++ x ∷ []) ≡ length rest + 1
    left_long = length-append rest (x ∷ [])

    long : length old ≡ length rest + 2
    long = omega (arith, ap length all, length-append (rest ++ x ∷ []) (y ∷ []), left_long)

    y_is : y ≡ Int n
    y_is = last_is (rest ++ x ∷ []) y (Int n) (len - 2 + 1) (omega (arith, ll, long, left_long)) (ap (λ l. slice_get l (len - 2 + 1)) (sym all) ∙ gn)

    below : slice_get (rest ++ x ∷ []) (len - 2) ≡ slice_get old (len - 2)
    below = sym (get_left (rest ++ x ∷ []) (y ∷ []) (len - 2) (omega (arith, ll, long, left_long))) ∙ ap (λ l. slice_get l (len - 2)) (sym all)

    x_is : x ≡ Int m
    x_is = last_is rest x (Int m) (len - 2) (omega (arith, ll, long)) (below ∙ gm)

    now : new ≡ rest ++ Int k ∷ []
    now = set (rest ++ x ∷ []) y all ∙ set_last rest x (Int k) (length (rest ++ x ∷ []) - 1) (omega (arith, left_long))

    was : old ≡ (rest ++ Int m ∷ []) ++ Int n ∷ []
    was = all ∙ ap (λ v. (rest ++ v ∷ []) ++ y ∷ []) x_is ∙ ap (λ v. (rest ++ Int m ∷ []) ++ v ∷ []) y_is

pub placed : (op : BinOp) (old new : List Value) (len : ℕ) (m n k : ℤ) (before : ℕ)
    → len ≡ length old → 2 ≤ length old → slice_get old (len - 2) ≡ Some (Int m) → slice_get old (len - 2 + 1) ≡ Some (Int n)
    → ((live : ObjId → Bool) → operators.result_of live op (Number m) (Number n) ≡ int k) → 1 ≤ before
    → ((left : List Value) (right : Value) → old ≡ left ++ right ∷ [] → new ≡ slice_set left (length left - 1) (Int k))
    → InPlace op old new before true (before - 1)
placed op old new len m n k before ll two gm gn gives h set =
    let t = unsnoc old (omega arith) in
    let u = unsnoc t.0 (omega (arith, ap length t.2, length-append t.0 (t.1 ∷ []))) in
    let all : old ≡ (u.0 ++ u.1 ∷ []) ++ t.1 ∷ [] = t.2 ∙ ap (λ l. l ++ t.1 ∷ []) u.2 in
    placed_on op u.0 old new u.1 t.1 len m n k before all ll gm gn gives h set

pub counted_in_place : (step : Step) (old new : List Value) (len : ℕ) (n k : ℤ) (before : ℕ)
    → len ≡ length old → 1 ≤ length old → slice_get old (len - 1) ≡ Some (Int n) → step_effect step (Number n) ≡ int k → 1 ≤ before
    → new ≡ slice_set old (len - 1) (Int k)
    → CountsInPlace step old new before true (before - 1)
counted_in_place step old new len n k before ll one g gives h set =
    let t = unsnoc old one in
    let long : length old ≡ length t.0 + 1 = omega (arith, ap length t.2, length-append t.0 (t.1 ∷ [])) in
    let x : t.1 ≡ Int n = last_is t.0 t.1 (Int n) (len - 1) (omega (arith, ll, long)) (ap (λ l. slice_get l (len - 1)) (sym t.2) ∙ g) in
    let now : new ≡ t.0 ++ Int k ∷ [] = set ∙ ap (λ l. slice_set l (len - 1) (Int k)) t.2 ∙ set_last t.0 t.1 (Int k) (len - 1) (omega (arith, ll, long)) in
    (t.0, k, now, λ objects cells. (Int n, t.2 ∙ ap (λ v. t.0 ++ v ∷ []) x, tt, works_once before 1 0 (step_effect step (Number n)) k cells h refl refl gives))

-- an integer in the place of two values names nothing
pub placed_fit : (live : Live) (old rest new : List Value) (x y : Value) (k : ℤ) → old ≡ (rest ++ x ∷ []) ++ y ∷ [] → new ≡ rest ++ Int k ∷ [] → IsFit live old → IsFit live new
placed_fit live old rest new x y k e q f =
    pushed_fit live rest new (Int k) tt q (popped_fit live (rest ++ x ∷ []) rest x refl (popped_fit live old (rest ++ x ∷ []) y e f).0).0
