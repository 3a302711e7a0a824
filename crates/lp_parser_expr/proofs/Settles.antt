-- How the program ends productions.
use Rattle.std.proofs.Common.{◌≡◌, ℕ, ◌≤◌, ◌<◌, [], ◌∷◌, refl, ap, sym, ◌∙◌, arith, Bool, true, false, cond}
use Rattle.std.specs.Prelude.{Option, Some, None, option_and_then, nat_le}
use Rattle.lp_tree.specs.Trees.{Tree}
use Rattle.lp_tree.specs.TreeView.{tree_of}
use Rattle.lp_parser_expr.specs.declared.tall.Tall.{Tall}
use Rattle.std.specs.Prelude.{Result}
use Rattle.std.specs.declared.alloc.AllocError.{AllocError}
use Rattle.std.proofs.Common.{subst}
use Rattle.lp_tree.specs.declared.seen.Seen.{Seen}
use Rattle.lp_parser_expr.specs.declared.focus.Moved.{Moved}
use Rattle.lp_parser_expr.specs.Moves.{Moves, MovesOn, Settled}
use Rattle.lp_parser_expr.specs.Machine.{Frame, Stack, Have, needs, plug, settle, finished, whole_held, binds, act, act_held, step}
use Rattle.lp_parser_expr.proofs.Settle.{held, settle-stays, settle-ends}
use Rattle.std.proofs.lemmas.Bool.{lt-leb, leb-false}

pub settle_stops : (p : ℕ) (t : Tree) (f : Frame) (s old : Stack) → old ≡ f ∷ s → needs f ≤ p → settle p t old ≡ Some (held t (f ∷ s))
settle_stops p t f s old e h = ap (settle p t) e ∙ settle-stays p t (f ∷ s) h

pub settle_goes : (p : ℕ) (t u : Tree) (f : Frame) (s old : Stack) → old ≡ f ∷ s → p < needs f → plug f t ≡ Some u → settle p t old ≡ settle p u s
settle_goes p t u f s old e h w = ap (settle p t) e ∙ settle-ends p t u f s h w

pub settle_fails : (p : ℕ) (t : Tree) (f : Frame) (s old : Stack) → old ≡ f ∷ s → p < needs f → plug f t ≡ None → settle p t old ≡ None
settle_fails p t f s old e h w = ap (settle p t) e ∙ ap (λ b. cond b (Some (held t (f ∷ s))) (option_and_then (λ u. settle p u s) (plug f t))) (lt-leb (needs f) p h) ∙ ap (option_and_then (λ u. settle p u s)) w

-- what ends productions for a token leaves what is finished as it is
abbrev Done : ℕ → Tree → Stack → Type 0
Done p t s = option_and_then whole_held (settle 0 t s) ≡ option_and_then (λ h. finished (Have h.tree h.stack)) (settle p t s)

done-part : (p : ℕ) (s : Stack) (o : Option Tree) → ((u : Tree) → Done p u s) → option_and_then whole_held (option_and_then (λ u. settle 0 u s) o) ≡ option_and_then (λ h. finished (Have h.tree h.stack)) (option_and_then (λ u. settle p u s) o)
done-part p s None ih = refl
done-part p s (Some u) ih = ih u

done-if : (p : ℕ) (t : Tree) (f : Frame) (s : Stack) (b : Bool) → nat_le (needs f) p ≡ b → ((u : Tree) → Done p u s) → option_and_then whole_held (settle 0 t (f ∷ s)) ≡ option_and_then (λ h. finished (Have h.tree h.stack)) (cond b (Some (held t (f ∷ s))) (option_and_then (λ u. settle p u s) (plug f t)))
done-if p t f s true e ih = refl
done-if p t f s false e ih =
    let goes : settle 0 t (f ∷ s) ≡ option_and_then (λ u. settle 0 u s) (plug f t) = ap (λ b. cond b (Some (held t (f ∷ s))) (option_and_then (λ u. settle 0 u s) (plug f t))) (lt-leb (needs f) 0 (omega (arith, leb-false (needs f) p e))) in
    ap (option_and_then whole_held) goes ∙ done-part p s (plug f t) ih

pub settled_done : (p : ℕ) (s : Stack) (t : Tree) → Done p t s
settled_done p [] t = refl
settled_done p (f ∷ s) t = done-if p t f s (nat_le (needs f) p) refl (settled_done p s)

pub behind_moves : (x : Seen) (t u : Tree) (s s1 s' : Stack) (r : Result Moved AllocError) → settle (binds x.sort) t s ≡ Some (held u s1) → MovesOn (act x.sort u s1) (finished (Have u s1)) s' r → Moves (Have t s) x s' r
behind_moves x t u s s1 s' r e m =
    let done : finished (Have t s) ≡ finished (Have u s1) = settled_done (binds x.sort) s t ∙ ap (option_and_then (λ h. finished (Have h.tree h.stack))) e in
    subst (λ o. MovesOn o (finished (Have t s)) s' r) (sym (ap (option_and_then (act_held x.sort)) e)) (subst (λ w. MovesOn (act x.sort u s1) w s' r) (sym done) m)

pub behind_fails : (x : Seen) (t : Tree) (s : Stack) → settle (binds x.sort) t s ≡ None → (step (Have t s) x ≡ None) × (None ≡ finished (Have t s))
behind_fails x t s e = (ap (option_and_then (act_held x.sort)) e, sym (settled_done (binds x.sort) s t ∙ ap (option_and_then (λ h. finished (Have h.tree h.stack))) e))

settled_none : (p : ℕ) (t : Tree) (s s1 : Stack) (o : Option Tall) → Settled p t s s1 o → o ≡ None → settle p t s ≡ None
settled_none p t s s1 None d e = d
settled_none p t s s1 (Some w) d e = cc

settled_some : (p : ℕ) (t : Tree) (s s1 : Stack) (o : Option Tall) (w : Tall) → Settled p t s s1 o → o ≡ Some w → settle p t s ≡ Some (held (tree_of w.expr.value) s1)
settled_some p t s s1 None w d e = cc
settled_some p t s s1 (Some v) w d e = d ∙ ap (λ y. Some (held (tree_of y.expr.value) s1)) (same e)
  where
    same : {a b : Tall} → Some a ≡ Some b → a ≡ b
    same e = cc

pub behind_none : (x : Seen) (t : Tree) (s s1 : Stack) (p : ℕ) (o : Option Tall) → p ≡ binds x.sort → Settled p t s s1 o → o ≡ None → (step (Have t s) x ≡ None) × (None ≡ finished (Have t s))
behind_none x t s s1 p o e d n = behind_fails x t s (ap (λ q. settle q t s) (sym e) ∙ settled_none p t s s1 o d n)

pub behind_some : (x : Seen) (t : Tree) (s s1 s' : Stack) (p : ℕ) (o : Option Tall) (w : Tall) (r : Result Moved AllocError) → p ≡ binds x.sort → Settled p t s s1 o → o ≡ Some w → MovesOn (act x.sort (tree_of w.expr.value) s1) (finished (Have (tree_of w.expr.value) s1)) s' r → Moves (Have t s) x s' r
behind_some x t s s1 s' p o w r e d n m = behind_moves x t (tree_of w.expr.value) s s1 s' r (ap (λ q. settle q t s) (sym e) ∙ settled_some p t s s1 o w d n) m
