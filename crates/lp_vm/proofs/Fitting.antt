-- What lies on the stack is there.
use Rattle.std.proofs.Common.{◌≡◌, ◌∙◌, ◌++◌, ◌∷◌, ◌≤◌, ℕ, List, All, Result, Ok, Err, ap, sym, subst, length, take, drop}
use Rattle.std.specs.Prelude.{OnOk}
use Rattle.std.proofs.Math.Seq.{take-append_seam, drop-append_seam}
use Rattle.std.proofs.lemmas.List.{length-take-le}
use Rattle.std.proofs.lemmas.List.Elements.{All-append, All-cons, All-drop, All-take, All-weaker}
use Rattle.lp_values.specs.declared.value.Value.{Value}
use Rattle.lp_cells.specs.Cells.{IsThere, KeepsThere}
use Rattle.lp_world.specs.Closed.{IsClosed}
use Rattle.lp_world.specs.declared.live.Live.{Live}
use Rattle.lp_step.specs.Steps.{IsFit}

-- two values that are put in at a place, the second one first
pub twice_in : (xs ys zs : List Value) (low : ℕ) (x y : Value) → low ≤ length xs → ys ≡ take low xs ++ y ∷ drop low xs → zs ≡ take low ys ++ x ∷ drop low ys → zs ≡ take low xs ++ x ∷ y ∷ drop low xs
twice_in xs ys zs low x y h first second =
    let k : low ≡ length (take low xs) = sym (length-take-le low xs h) in
    let before : take low ys ≡ take low xs = ap (λ j. take j ys) k ∙ ap (λ l. take (length (take low xs)) l) first ∙ take-append_seam (take low xs) (y ∷ drop low xs) in
    let behind : drop low ys ≡ y ∷ drop low xs = ap (λ j. drop j ys) k ∙ ap (λ l. drop (length (take low xs)) l) first ∙ drop-append_seam (take low xs) (y ∷ drop low xs) in
    second ∙ ap (λ l. l ++ x ∷ drop low ys) before ∙ ap (λ l. take low xs ++ x ∷ l) behind

-- two values that are there are put in
pub put_in_fit : (live : Live) (stack0 stack1 : List Value) (low : ℕ) (x y : Value) → stack1 ≡ take low stack0 ++ x ∷ y ∷ drop low stack0 → IsThere live.cells x → IsThere live.cells y → IsFit live stack0 → IsFit live stack1
put_in_fit live stack0 stack1 low x y e there also fit = record {
  closed = fit.closed;
  there = subst (All (IsThere live.cells)) (sym e)
      (All-append (IsThere live.cells) (take low stack0) (x ∷ y ∷ drop low stack0) (All-take (IsThere live.cells) low stack0 fit.there)
      (All-cons (IsThere live.cells) x (y ∷ drop low stack0) there (All-cons (IsThere live.cells) y (drop low stack0) also (All-drop (IsThere live.cells) low stack0 fit.there))));
}

-- the lowest are there still, in a state that is closed and keeps what was there
pub kept_fit : (live0 live1 : Live) (stack0 stack1 : List Value) (low : ℕ) → stack1 ≡ take low stack0 → IsClosed live1 → KeepsThere live0.cells live1.cells → IsFit live0 stack0 → IsFit live1 stack1
kept_fit live0 live1 stack0 stack1 low e closed keeps fit = record {
  closed = closed;
  there = subst (All (IsThere live1.cells)) (sym e) (All-take (IsThere live1.cells) low stack0 (All-weaker (IsThere live0.cells) (IsThere live1.cells) keeps stack0 fit.there));
}

-- what holds whatever is answered
pub on_ok_all : {A E : Type 0} {Q : Type 0} (r : Result A E) → Q → OnOk r Q
on_ok_all (Ok x) h = h
on_ok_all (Err e) h = tt
