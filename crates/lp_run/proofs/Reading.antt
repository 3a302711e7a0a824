-- Items on the stack: what comes to the top, and what is read at an index.
use Rattle.std.proofs.Common.{◌≡◌, ◌++◌, ◌∷◌, [], ◌∙◌, ℕ, zero, suc, ◌+◌, ◌-◌, ◌<◌, ◌≤◌, Bool, false, List, Some, All, refl, ap, sym, subst, arith, append_assoc, length, length-append, nat_lt, slice_get, unwrap_or}
use Rattle.std.specs.Prelude.{slice_index_or, slice_set}
use Rattle.std.specs.List.{remove, swap}
use Rattle.std.proofs.lemmas.Bool.{le-ltb}
use Rattle.lp_cells.specs.Cells.{IsThere, Store}
use Rattle.lp_values.specs.declared.id.ObjId.{ObjId}
use Rattle.lp_values.specs.declared.value.Value.{Value}
use Rattle.lp_ops.specs.Operands.{operand}
use Rattle.lp_ops.specs.Operators as operators
use Rattle.lp_ops.specs.declared.effect.Effect.{Effect}
use Rattle.lp_ops.specs.declared.effect.Effect.TheVariants as effects
use Rattle.lp_instr.specs.declared.instr.Instr.TheVariants.{Rotate}
use Rattle.lp_world.specs.declared.frame.Frame.{Frame}
use Rattle.lp_world.specs.declared.live.Live.{Live}
use Rattle.lp_world.specs.Rows.{live_in}
use Rattle.lp_step.specs.declared.worked.Worked.TheVariants as worked
use Rattle.lp_step.specs.Steps.{Brings}
use Rattle.lp_step.specs.Works.{IndexesOn, IsWorked, Works, WorksBy}
use Rattle.lp_step.proofs.Brought.{brought, brought_fit}
use Rattle.lp_step.proofs.Fits.{get_all}
use Rattle.lp_step.proofs.Moves.{get_right}
use Rattle.lp_run.specs.Takes.{Does, at_place}

-- A list around one of its places

parted : (xs : List Value) (n : ℕ) → n < length xs → (rest : List Value) × (x : Value) × (t : List Value) × (xs ≡ rest ++ x ∷ t) × (n ≡ length rest)
parted [] n h = absurd (omega (arith, h))
parted (x ∷ xs) zero h = ([], x, xs, refl, refl)
parted (x ∷ xs) (suc n) h =
    let p = parted xs n (omega (arith, h)) in
    (x ∷ p.0, p.1, p.2, ap (λ l. x ∷ l) p.3, omega (arith, p.4))

two_of : (old rest t : List Value) (x : Value) → old ≡ rest ++ x ∷ t → length t ≡ 1 → (rest : List Value) × (x : Value) × (y : Value) × (old ≡ rest ++ x ∷ y ∷ [])
two_of old rest [] x e l = absurd (omega (arith, l))
two_of old rest (y ∷ []) x e l = (rest, x, y, e)
two_of old rest (y ∷ z ∷ t) x e l = absurd (omega (arith, l))

pub two_on_top : (old : List Value) → 2 ≤ length old → (rest : List Value) × (x : Value) × (y : Value) × (old ≡ rest ++ x ∷ y ∷ [])
two_on_top old h =
    let p = parted old (length old - 2) (omega (arith, h)) in
    two_of old p.0 p.2 p.1 p.3 (omega (arith, h, p.4, ap length p.3, length-append p.0 (p.1 ∷ p.2)))

three_of : (old rest t : List Value) (x : Value) → old ≡ rest ++ x ∷ t → length t ≡ 2 → (rest : List Value) × (x : Value) × (y : Value) × (z : Value) × (old ≡ rest ++ x ∷ y ∷ z ∷ [])
three_of old rest [] x e l = absurd (omega (arith, l))
three_of old rest (y ∷ []) x e l = absurd (omega (arith, l))
three_of old rest (y ∷ z ∷ []) x e l = (rest, x, y, z, e)
three_of old rest (y ∷ z ∷ w ∷ t) x e l = absurd (omega (arith, l))

three_on_top : (old : List Value) → 3 ≤ length old → (rest : List Value) × (x : Value) × (y : Value) × (z : Value) × (old ≡ rest ++ x ∷ y ∷ z ∷ [])
three_on_top old h =
    let p = parted old (length old - 3) (omega (arith, h)) in
    three_of old p.0 p.2 p.1 p.3 (omega (arith, h, p.4, ap length p.3, length-append p.0 (p.1 ∷ p.2)))

-- Two neighbours in each other's place

turned_by : (d : Value) (rest t : List Value) (x y : Value) (n m : ℕ) → n ≡ length rest → m ≡ n + 1
    → slice_set (slice_set (rest ++ x ∷ y ∷ t) n (slice_index_or (rest ++ x ∷ y ∷ t) m d)) m (slice_index_or (rest ++ x ∷ y ∷ t) n d) ≡ rest ++ y ∷ x ∷ t
turned_by d [] t x y zero zero e f = absurd (omega (arith, f))
turned_by d [] t x y zero (suc zero) e f = refl
turned_by d [] t x y zero (suc (suc m)) e f = absurd (omega (arith, f))
turned_by d [] t x y (suc n) m e f = absurd (omega (arith, e))
turned_by d (r ∷ rest) t x y zero m e f = absurd (omega (arith, e))
turned_by d (r ∷ rest) t x y (suc n) zero e f = absurd (omega (arith, f))
turned_by d (r ∷ rest) t x y (suc n) (suc m) e f = ap (λ l. r ∷ l) (turned_by d rest t x y n m (omega (arith, e)) (omega (arith, f)))

turned : (rest t : List Value) (x y : Value) (n m : ℕ) → n ≡ length rest → m ≡ n + 1 → swap (rest ++ x ∷ y ∷ t) n m ≡ rest ++ y ∷ x ∷ t
turned [] t x y n m e f = turned_by x [] t x y n m e f
turned (r ∷ rest) t x y n m e f = turned_by r (r ∷ rest) t x y n m e f

-- What comes to the top

removed : (rest t : List Value) (x : Value) (n : ℕ) → n ≡ length rest → remove (rest ++ x ∷ t) n ≡ rest ++ t
removed [] t x zero e = refl
removed [] t x (suc n) e = absurd (omega (arith, e))
removed (r ∷ rest) t x zero e = absurd (omega (arith, e))
removed (r ∷ rest) t x (suc n) e = ap (λ l. r ∷ l) (removed rest t x n (omega (arith, e)))

brings : (k : ℕ) (old new rest t : List Value) (x : Value) → old ≡ rest ++ x ∷ t → k ≡ length t + 1 → new ≡ (rest ++ t) ++ x ∷ [] → Brings k old new
brings k old new rest t x e l q =
    let place : length old - k ≡ length rest = omega (arith, l, ap length e, length-append rest (x ∷ t)) in (
      x,
      ap (λ s. slice_get s (length old - k)) e ∙ get_right rest (x ∷ t) (length old - k) 0 (omega (arith, place)),
      q ∙ ap (λ s. s ++ x ∷ []) (sym (ap (λ s. remove s (length old - k)) e ∙ removed rest t x (length old - k) place)),
    )

pub second_brought : (old new : List Value) (n : ℕ) → n ≡ length old → 2 ≤ length old → new ≡ swap old (n - 2) (n - 1) → Brings 2 old new
second_brought old new n l h q =
    let t = two_on_top old h in
    let long : length old ≡ length t.0 + 2 = omega (arith, ap length t.3, length-append t.0 (t.1 ∷ t.2 ∷ [])) in
    brings 2 old new t.0 (t.2 ∷ []) t.1 t.3 refl
    (q ∙ ap (λ s. swap s (n - 2) (n - 1)) t.3 ∙ turned t.0 [] t.1 t.2 (n - 2) (n - 1) (omega (arith, l, long)) (omega (arith, l, long)) ∙ sym (append_assoc t.0 (t.2 ∷ []) (t.1 ∷ [])))

pub third_brought : (old mid new : List Value) (n : ℕ) → n ≡ length old → 3 ≤ length old → mid ≡ swap old (n - 3) (n - 2) → new ≡ swap mid (n - 2) (n - 1) → Brings 3 old new
third_brought old mid new n l h p q =
    let t = three_on_top old h in
    let long : length old ≡ length t.0 + 3 = omega (arith, ap length t.4, length-append t.0 (t.1 ∷ t.2 ∷ t.3 ∷ [])) in
    let on : length (t.0 ++ t.2 ∷ []) ≡ length t.0 + 1 = length-append t.0 (t.2 ∷ []) in
    let first : mid ≡ (t.0 ++ t.2 ∷ []) ++ t.1 ∷ t.3 ∷ [] =
    p ∙ ap (λ s. swap s (n - 3) (n - 2)) t.4 ∙ turned t.0 (t.3 ∷ []) t.1 t.2 (n - 3) (n - 2) (omega (arith, l, long)) (omega (arith, l, long)) ∙ sym (append_assoc t.0 (t.2 ∷ []) (t.1 ∷ t.3 ∷ [])) in
    let then : new ≡ (t.0 ++ t.2 ∷ []) ++ t.3 ∷ t.1 ∷ [] =
    q ∙ ap (λ s. swap s (n - 2) (n - 1)) first ∙ turned (t.0 ++ t.2 ∷ []) [] t.1 t.3 (n - 2) (n - 1) (omega (arith, l, long, on)) (omega (arith, l, long)) in
    brings 3 old new t.0 (t.2 ∷ t.3 ∷ []) t.1 t.4 refl
    (then ∙ sym (append_assoc (t.0 ++ t.2 ∷ []) (t.3 ∷ []) (t.1 ∷ [])) ∙ ap (λ s. s ++ t.1 ∷ []) (append_assoc t.0 (t.2 ∷ []) (t.3 ∷ [])))

-- so an instruction does its row
pub brought_up : (n : ℕ) (live : Live) (stack0 stack1 : List Value) (frame : Frame) (at0 budget : ℕ) → 1 ≤ n → n ≤ length stack0 → Brings n stack0 stack1
    → Does (Rotate n) live stack0 frame at0 budget stack1 (at0 + 1) budget
brought_up n live stack0 stack1 frame at0 budget some enough b = record {
  table = λ a m h fine named. brought a live stack0 stack1 (at_place frame at0) budget m n h some enough b fine;
  keeps = λ f. (brought_fit live stack0 stack1 n b f, tt);
}

-- A value in the place of two

pub set_last : (rest : List Value) (x v : Value) (i : ℕ) → i ≡ length rest → slice_set (rest ++ x ∷ []) i v ≡ rest ++ v ∷ []
set_last [] x v zero e = refl
set_last [] x v (suc i) e = absurd (omega (arith, e))
set_last (a ∷ rest) x v zero e = absurd (omega (arith, e))
set_last (a ∷ rest) x v (suc i) e = ap (λ l. a ∷ l) (set_last rest x v i (omega (arith, e)))

-- What is read at an index, for 1

worked_free : (b : Bool) (left : ℕ) (v : Value) (cells : Store) → b ≡ false → IsWorked b v cells (left - 0) (worked.Value v) cells left
worked_free b left v cells q = subst (λ b. IsWorked b v cells (left - 0) (worked.Value v) cells left) (sym q) (refl, refl, omega arith)

paid_once : (b : Bool) (old : ℕ) (v : Value) (cells : Store) → b ≡ false → WorksBy b 1 (effects.Gives v) 0 cells old (worked.Value v) cells (old - 1)
paid_once b old v cells q =
    subst (λ b. WorksBy b 1 (effects.Gives v) 0 cells old (worked.Value v) cells (old - 1)) (sym q) (worked_free (nat_lt (old - 1) 0) (old - 1) v cells (le-ltb (old - 1) 0 (omega arith)))

works_once : (old : ℕ) (e : Effect) (v : Value) (cells : Store) → 1 ≤ old → e ≡ effects.Gives v → Works 1 e 0 cells old (worked.Value v) cells (old - 1)
works_once old e v cells h q =
    subst (λ e. Works 1 e 0 cells old (worked.Value v) cells (old - 1)) (sym q) (paid_once (nat_lt old 1) old v cells (le-ltb old 1 h))

got_is : (rest t : List Value) (x v : Value) (old : List Value) (i : ℕ) → old ≡ rest ++ x ∷ t → i ≡ length rest → slice_get old i ≡ Some v → x ≡ v
got_is rest t x v old i e l g =
    let s : Some x ≡ Some v = sym (get_right rest (x ∷ t) i 0 (omega (arith, l))) ∙ ap (λ s. slice_get s i) (sym e) ∙ g in
    ap (λ o. unwrap_or o x) s

-- the operands go, and what was read is on top
pub record IsRead (live : Live) (old new : List Value) (v : Value) (before : ℕ) : Type 0 where
  pub rest : List Value
  pub now : new ≡ rest ++ v ∷ []
  pub on : IndexesOn false old rest live.objects live.cells before (worked.Value v) (before - 1)

pub is_read : (live : Live) (old new : List Value) (n before : ℕ) (x i v : Value) → n ≡ length old → 2 ≤ length old → slice_get old (n - 2) ≡ Some x → slice_get old (n - 1) ≡ Some i
    → All (IsThere live.cells) old → 1 ≤ before
    → ((l : ObjId → Bool) → operators.index l false (operand l live.cells x) (operand l live.cells i) ≡ effects.Gives v)
    → ((rest : List Value) (x y : Value) → old ≡ (rest ++ x ∷ []) ++ y ∷ [] → new ≡ rest ++ v ∷ [])
    → IsRead live old new v before
is_read live old new n before x i v l h gx gi there some gives put =
    let t = two_on_top old h in
    let long : length old ≡ length t.0 + 2 = omega (arith, ap length t.3, length-append t.0 (t.1 ∷ t.2 ∷ [])) in
    let all : old ≡ (t.0 ++ t.1 ∷ []) ++ t.2 ∷ [] = t.3 ∙ sym (append_assoc t.0 (t.1 ∷ []) (t.2 ∷ [])) in
    let isx : t.1 ≡ x = got_is t.0 (t.2 ∷ []) t.1 x old (n - 2) t.3 (omega (arith, l, long)) gx in
    let isi : t.2 ≡ i = got_is (t.0 ++ t.1 ∷ []) [] t.2 i old (n - 1) all (omega (arith, l, long, length-append t.0 (t.1 ∷ []))) gi in
    record {
      rest = t.0;
      now = put t.0 t.1 t.2 all;
      on = (
        x,
        i,
        all ∙ ap (λ u. (t.0 ++ u ∷ []) ++ t.2 ∷ []) isx ∙ ap (λ u. (t.0 ++ x ∷ []) ++ u ∷ []) isi,
        get_all (IsThere live.cells) old (n - 2) x there gx,
        get_all (IsThere live.cells) old (n - 1) i there gi,
        works_once before (operators.index (live_in live.objects) false (operand (live_in live.objects) live.cells x) (operand (live_in live.objects) live.cells i)) v live.cells some (gives (live_in live.objects)),
      );
    }
