-- What the values on the stack name stays there.
use Rattle.std.proofs.Common.{◌≡◌, ◌++◌, ◌∷◌, [], ℕ, zero, suc, List, Some, All, ap, sym, subst, slice_get, unwrap_or}
use Rattle.std.specs.Prelude.{slice_set}
use Rattle.std.proofs.lemmas.List.Elements.{All-nil, All-cons, All-head, All-tail, All-append, All-set}
use Rattle.lp_values.specs.declared.value.Value.{Value}
use Rattle.lp_cells.specs.Cells.{IsThere}
use Rattle.lp_world.specs.declared.live.Live.{Live}
use Rattle.lp_step.specs.Steps.{IsFit}

pub get_all : {X : Type 0} (P : X → Type 0) (xs : List X) (i : ℕ) (x : X) → All P xs → slice_get xs i ≡ Some x → P x
get_all P [] i x h e = cc
get_all P (y ∷ ys) zero x h e = subst P (let s : y ≡ x = ap (λ o. unwrap_or o y) e in s) (All-head P y ys h)
get_all P (y ∷ ys) (suc i) x h e = get_all P ys i x (All-tail P y ys h) e

pub split_all : {X : Type 0} (P : X → Type 0) (xs ys : List X) → All P (xs ++ ys) → All P xs × All P ys
split_all P [] ys h = (All-nil P, h)
split_all P (x ∷ xs) ys h =
    let t = split_all P xs ys (All-tail P x (xs ++ ys) h) in
    (All-cons P x xs (All-head P x (xs ++ ys) h) t.0, t.1)

pub pushed_fit : (live : Live) (old new : List Value) (v : Value) → IsThere live.cells v → new ≡ old ++ v ∷ [] → IsFit live old → IsFit live new
pushed_fit live old new v t e f = record {
  closed = f.closed;
  there = subst (All (IsThere live.cells)) (sym e) (All-append (IsThere live.cells) old (v ∷ []) f.there (All-cons (IsThere live.cells) v [] t (All-nil (IsThere live.cells))));
}

pub popped_fit : (live : Live) (old new : List Value) (v : Value) → old ≡ new ++ v ∷ [] → IsFit live old → IsFit live new × IsThere live.cells v
popped_fit live old new v e f =
    let t = split_all (IsThere live.cells) new (v ∷ []) (subst (All (IsThere live.cells)) e f.there) in
    (record { closed = f.closed; there = t.0 }, All-head (IsThere live.cells) v [] t.1)

pub set_fit : (live : Live) (old new : List Value) (i : ℕ) (v : Value) → IsThere live.cells v → new ≡ slice_set old i v → IsFit live old → IsFit live new
set_fit live old new i v t e f = record { closed = f.closed; there = subst (All (IsThere live.cells)) (sym e) (All-set (IsThere live.cells) old i v t f.there) }

pub got_there : (live : Live) (stack : List Value) (i : ℕ) (v : Value) → slice_get stack i ≡ Some v → IsFit live stack → IsThere live.cells v
got_there live stack i v e f = get_all (IsThere live.cells) stack i v f.there e
