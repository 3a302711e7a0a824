-- The first argument of another kind, from a place on.
use Rattle.std.proofs.Common.{◌≡◌, ◌≤◌, ◌<◌, ◌+◌, ◌∷◌, [], ◌∙◌, ℕ, Bool, true, false, List, Option, Some, None, refl, ap, sym, length, map, drop, get_or, drop-cons, add-one, if◌then◌else◌}
use Rattle.std.proofs.Math.ListN.{drop_of_length-le}
use Rattle.lp_values.specs.declared.id.ObjId.{ObjId}
use Rattle.lp_values.specs.declared.value.Value.{Value}
use Rattle.lp_cells.specs.Cells.{Store}
use Rattle.lp_ops.specs.Operands.{operand}
use Rattle.lp_meaning.specs.EfunArguments.{first_bad, fits}
use Rattle.lp_value_efuns.specs.declared.fit.Kind.{Kind as Coded}
use Rattle.lp_value_efuns.specs.Kinds.{kind_of, kinds_of}

-- what is found from a place on
abbrev pub bad_from : (ObjId → Bool) → Store → ℕ → List Coded → List Value → Option ℕ
bad_from live cells i ks vs = first_bad (i + 1) (kinds_of (drop i ks)) (map (operand live cells) (drop i vs))

at : {X : Type 0} (xs : List X) (i : ℕ) (x : X) → i < length xs → x ≡ get_or xs i x → drop i xs ≡ x ∷ drop (i + 1) xs
at xs i x lt e = rw (add-one, drop-cons xs i x lt, ← e) refl

step : (live : ObjId → Bool) (cells : Store) (ks : List Coded) (vs : List Value) (i : ℕ) (k : Coded) (v : Value) → drop i ks ≡ k ∷ drop (i + 1) ks → drop i vs ≡ v ∷ drop (i + 1) vs → bad_from live cells i ks vs ≡ (if fits (kind_of k) (operand live cells v) then bad_from live cells (i + 1) ks vs else Some (i + 1))
step live cells ks vs i k v a b = ap (λ l. first_bad (i + 1) (kinds_of l) (map (operand live cells) (drop i vs))) a ∙ ap (λ l. first_bad (i + 1) (kinds_of (k ∷ drop (i + 1) ks)) (map (operand live cells) l)) b ∙ ap (λ n. if fits (kind_of k) (operand live cells v) then first_bad n (kinds_of (drop (i + 1) ks)) (map (operand live cells) (drop (i + 1) vs)) else Some (i + 1)) (sym (add-one (i + 1)))

by_test : (b : Bool) (c : Bool) (x y : Option ℕ) → b ≡ c → (if b then x else y) ≡ (if c then x else y)
by_test b c x y e = ap (λ d. if d then x else y) e

-- one that fits
pub fit_next : (live : ObjId → Bool) (cells : Store) (ks : List Coded) (vs : List Value) (i : ℕ) (k : Coded) (v : Value) (b : Bool) → i < length ks → i < length vs → k ≡ get_or ks i k → v ≡ get_or vs i v → b ≡ fits (kind_of k) (operand live cells v) → b ≡ true → bad_from live cells i ks vs ≡ bad_from live cells (i + 1) ks vs
fit_next live cells ks vs i k v b p q e f h t = step live cells ks vs i k v (at ks i k p e) (at vs i v q f) ∙ by_test (fits (kind_of k) (operand live cells v)) true (bad_from live cells (i + 1) ks vs) (Some (i + 1)) (sym h ∙ t)

-- and one that does not
pub bad_here : (live : ObjId → Bool) (cells : Store) (ks : List Coded) (vs : List Value) (i : ℕ) (k : Coded) (v : Value) (b : Bool) → i < length ks → i < length vs → k ≡ get_or ks i k → v ≡ get_or vs i v → b ≡ fits (kind_of k) (operand live cells v) → b ≡ false → bad_from live cells i ks vs ≡ Some (i + 1)
bad_here live cells ks vs i k v b p q e f h t = step live cells ks vs i k v (at ks i k p e) (at vs i v q f) ∙ by_test (fits (kind_of k) (operand live cells v)) false (bad_from live cells (i + 1) ks vs) (Some (i + 1)) (sym h ∙ t)

done : (ks : List Coded) (n : ℕ) → first_bad n (kinds_of ks) [] ≡ None
done [] n = refl
done (k ∷ ks) n = refl

-- no argument is left
pub no_more : (live : ObjId → Bool) (cells : Store) (ks : List Coded) (vs : List Value) (i : ℕ) → length vs ≤ i → bad_from live cells i ks vs ≡ None
no_more live cells ks vs i h = ap (λ l. first_bad (i + 1) (kinds_of (drop i ks)) (map (operand live cells) l)) (drop_of_length-le vs h) ∙ done (drop i ks) (i + 1)
