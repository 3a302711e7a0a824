-- Operators change neither versions nor shadows, nor which objects live.
use Rattle.std.proofs.Common.{◌≡◌, ℕ, zero, suc, ◌+◌, ◌-◌, Bool, true, false, cond, List, [], ◌∷◌, length, Option, Some, None, refl, ◌∙◌, unwrap_or, slice_get, slice_set}
use Rattle.std.specs.Prelude.{ℤ, map, nat_lt}
use Rattle.lp_tree.specs.declared.operator.BinOp.{BinOp}
use Rattle.lp_tree.specs.declared.operator.UnOp.{UnOp}
use Rattle.lp_tree.specs.declared.operator.Step.{Step}
use Rattle.lp_tree.specs.declared.expr.Edge.{Edge}
use Rattle.lp_tree.specs.declared.expr.Edge.TheVariants.{Front}
use Rattle.lp_values.specs.declared.id.CellId.{CellId}
use Rattle.lp_values.specs.declared.value.Value.{Value}
use Rattle.lp_ops.specs.declared.effect.Effect.{Effect}
use Rattle.lp_ops.specs.declared.effect.Effect.TheVariants as effects
use Rattle.lp_ops.specs.Effects.{reference, within}
use Rattle.lp_ops.specs.Operators as operators
use Rattle.lp_ops.specs.Operators.{array, from_zero, mapping, place_of}
use Rattle.lp_ops.specs.Operands.{Opened, Number, Chars, Array, Mapping, size_of}
use Rattle.lp_ops.specs.Prices.{share, size_made, binary_before, binary_after, range_before, range_after}
use Rattle.lp_cells.specs.Mapping.{pairs_of, pairs_put}
use Rattle.lp_cells.specs.Cells.{content_set, item_set, pairs_at, with_cell}
use Rattle.lp_cells.specs.declared.content.Content.TheVariants as content
use Rattle.lp_values.specs.Errors.{plain}
use Rattle.lp_values.specs.declared.error.ErrorKind.TheVariants.{BadIndex, TooLong, TooFewArgs}
use Rattle.lp_text.specs.Scans.{scanned}
use Rattle.lp_text.specs.Forms.{parts, fault_of, count_of}
use Rattle.lp_instr.specs.declared.instr.EndKind.{EndKind}
use Rattle.lp_language.specs.World.{Object, World, no_object, object_at}
use Rattle.lp_language.specs.Course.{State, Scene, Spent, End, Gives, Stops, here, pay}
use Rattle.lp_language.specs.Operations.{unary, binary, item, range, stepped, new_array, new_mapping, put_item, scan, copied, finished, is_back, is_in, is_full_for, living, cells_of, seen, put, put_item_at, put_pair, part_between, bound_of, step_effect, total_size, paired, copy_effect, scan_faults, scan_texts, scanned_value, fails, with_store, with_variable, with_global, with_local}
use Rattle.lp_run.specs.Kept.{IsStill}

abbrev pub EndsStill : {A : Type 0} → World → End A → Type 0
EndsStill w (Gives x t) = IsStill w t.world
EndsStill w (Stops x t) = IsStill w t.world

pub still_same : (w : World) → IsStill w w
still_same w = record { versions = refl; shadows = refl; lives = λ o. refl }

pub still_trans : (u v w : World) → IsStill u v → IsStill v w → IsStill u w
still_trans u v w a b = record { versions = b.versions ∙ a.versions; shadows = b.shadows ∙ a.shadows; lives = λ o. b.lives o ∙ a.lives o }

either_still : {A : Type 0} (w : World) (b : Bool) (x y : End A) → EndsStill w x → EndsStill w y → EndsStill w (cond b x y)
either_still w true x y p q = p
either_still w false x y p q = q

module _ (w : World) where
  pub pay_still : {A : Type 0} (k : ℕ) (s : State) (f : State → End A) → IsStill w s.world → ((t : State) → IsStill w t.world → EndsStill w (f t)) → EndsStill w (pay k s f)
  pay_still k s f h g = either_still w (nat_lt s.budget k) (Stops (here Spent) (record s { budget = 0 })) (f (record s { budget = s.budget - k })) h (g (record s { budget = s.budget - k }) h)

  finished_still : (n : ℕ) (e : Effect) (s : State) → IsStill w s.world → EndsStill w (finished n e s)
  finished_still n (effects.Gives v) s h = pay_still n s (Gives v) h (λ t l. l)
  finished_still n (effects.Makes x) s h =
      pay_still n (with_store s (with_cell (cells_of s) x)) (Gives (reference x (length (cells_of s)))) (record { versions = h.versions; shadows = h.shadows; lives = h.lives }) (λ t l. l)
  finished_still n (effects.Fault e) s h = h

  effect_still : (k n : ℕ) (e : Effect) (s : State) → IsStill w s.world → EndsStill w (pay k s (finished n e))
  effect_still k n e s h = pay_still k s (finished n e) h (λ t l. finished_still n e t l)

  put_item_at_still : (k : CellId) (i : ℤ) (vs : List Value) (v : Value) (s : State) → IsStill w s.world → EndsStill w (put_item_at k i vs v s)
  put_item_at_still k i vs v s h =
      either_still w (is_in i (length vs)) (Gives v (with_store s (item_set (cells_of s) k (from_zero i) v))) (fails (plain BadIndex) s) (record { versions = h.versions; shadows = h.shadows; lives = h.lives }) h

  put_pair_still : (k : CellId) (o : Option (List (Value × Value))) (i v : Value) (s : State) → IsStill w s.world → EndsStill w (put_pair k o i v s)
  put_pair_still k None i v s h = h
  put_pair_still k (Some ps) i v s h =
      either_still w (is_full_for s ps i) (fails (plain TooLong) s) (Gives v (with_store s (content_set (cells_of s) k (content.Mapping (pairs_put (living s) ps i v))))) h
      (record { versions = h.versions; shadows = h.shadows; lives = h.lives })

  put_still : (edge : Edge) (x i : Opened) (k v : Value) (s : State) → IsStill w s.world → EndsStill w (put edge x i k v s)
  put_still edge (Array c vs) (Number n) k v s h = put_item_at_still c (place_of (is_back edge) n (length vs)) vs v s h
  put_still Front (Mapping c ps) i k v s h = put_pair_still c (pairs_at (cells_of s) c) k v s h
  put_still edge _ _ k v s h = h

  scan_faults_still : (o : Option ℕ) (m n : ℕ) (vs : List Value) (s : State) → IsStill w s.world → EndsStill w (scan_faults o m n vs s)
  scan_faults_still (Some at) m n vs s h = h
  scan_faults_still None m n vs s h = either_still w (nat_lt n m) (fails (plain TooFewArgs) s) (Gives vs s) h h

  scan_texts_still : (x y : Opened) (n : ℕ) (s : State) → IsStill w s.world → EndsStill w (scan_texts x y n s)
  scan_texts_still (Chars cs) (Chars form) n s h = scan_faults_still (fault_of (parts form)) (count_of (parts form)) n (map scanned_value (scanned (parts form) cs)) s h
  scan_texts_still _ _ n s h = h

pub unary_still : (w : World) (op : UnOp) (x : Value) (s : State) → IsStill w s.world → EndsStill w (unary op x s)
unfolding unary
unary_still w op x s h = effect_still w 1 0 (operators.unary op (seen s x)) s h

pub binary_still : (w : World) (op : BinOp) (x y : Value) (s : State) → IsStill w s.world → EndsStill w (binary op x y s)
unfolding binary
binary_still w op x y s h =
    let e = operators.binary (living s) op (seen s x) (seen s y) in
    effect_still w (binary_before op (seen s x) (seen s y)) (binary_after (living s) op (cells_of s) e) e s h

pub item_still : (w : World) (edge : Edge) (x i : Value) (s : State) → IsStill w s.world → EndsStill w (item edge x i s)
unfolding item
item_still w edge x i s h = effect_still w 1 0 (operators.index (living s) (is_back edge) (seen s x) (seen s i)) s h

pub range_still : (w : World) (a b : EndKind) (x y z : Value) (s : State) → IsStill w s.world → EndsStill w (range a b x y z s)
unfolding range
range_still w a b x y z s h =
    let e = part_between (seen s x) (bound_of a (seen s y)) (bound_of b (seen s z)) in
    effect_still w (range_before (seen s x) (seen s y) (seen s z)) (range_after (living s) (cells_of s) e) e s h

pub stepped_still : (w : World) (st : Step) (x : Value) (s : State) → IsStill w s.world → EndsStill w (stepped st x s)
unfolding stepped
stepped_still w st x s h = effect_still w 1 0 (step_effect st (seen s x)) s h

pub new_array_still : (w : World) (vs : List Value) (s : State) → IsStill w s.world → EndsStill w (new_array vs s)
unfolding new_array
new_array_still w vs s h =
    let e = within (array vs) in
    effect_still w (1 + share (total_size s vs)) (share (size_made (living s) (cells_of s) e)) e s h

pub new_mapping_still : (w : World) (vs : List Value) (s : State) → IsStill w s.world → EndsStill w (new_mapping vs s)
unfolding new_mapping
new_mapping_still w vs s h =
    let e = within (mapping (pairs_of (paired s vs))) in
    effect_still w (1 + share (total_size s vs)) (share (size_made (living s) (cells_of s) e)) e s h

pub put_item_still : (w : World) (edge : Edge) (x i v : Value) (s : State) → IsStill w s.world → EndsStill w (put_item edge x i v s)
unfolding put_item
put_item_still w edge x i v s h = pay_still w 1 s (put edge (seen s x) (seen s i) i v) h (λ t l. put_still w edge (seen s x) (seen s i) i v t l)

pub copied_still : (w : World) (v : Value) (s : State) → IsStill w s.world → EndsStill w (copied v s)
unfolding copied
copied_still w v s h = finished_still w 0 (copy_effect (seen s v)) s h

pub scan_still : (w : World) (n : ℕ) (x y : Value) (s : State) → IsStill w s.world → EndsStill w (scan n x y s)
unfolding scan
scan_still w n x y s h = pay_still w (1 + share (size_of (seen s x) + size_of (seen s y))) s (scan_texts (seen s x) (seen s y) n) h (λ t l. scan_texts_still w (seen s x) (seen s y) n t l)

pub local_still : (w : World) (s : State) (k : ℕ) (v : Value) → IsStill w s.world → IsStill w (with_local s k v).world
unfolding with_local
local_still w s k v h = h

-- an object's row with other variables lives as it did
lives_set : (xs : List Object) (i j : ℕ) (x d : Object) → x.is_live ≡ (unwrap_or (slice_get xs i) d).is_live → (unwrap_or (slice_get (slice_set xs i x) j) d).is_live ≡ (unwrap_or (slice_get xs j) d).is_live
lives_set [] i j x d e = cc
lives_set (y ∷ ys) zero zero x d e = e
lives_set (y ∷ ys) zero (suc j) x d e = refl
lives_set (y ∷ ys) (suc i) zero x d e = refl
lives_set (y ∷ ys) (suc i) (suc j) x d e = lives_set ys i j x d e

pub global_still : (w : World) (c : Scene) (s : State) (k : ℕ) (v : Value) → IsStill w s.world → IsStill w (with_global c s k v).world
unfolding with_global
global_still w c s k v h = record {
  versions = h.versions;
  shadows = h.shadows;
  lives = λ o. lives_set s.world.objects c.this.0 o.0 (with_variable (object_at s.world c.this) (c.base + k) v) no_object refl ∙ h.lives o;
}
