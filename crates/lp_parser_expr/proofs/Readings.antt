-- Where reading stops.
use Rattle.std.proofs.Common.{◌≡◌, ℕ, ◌+◌, ◌≤◌, ◌<◌, List, [], length, take, get_or, ap, sym, ◌∙◌, subst, arith}
use Rattle.std.specs.Prelude.{Option, Some, None, Ok}
use Rattle.lp_tree.specs.declared.token.Token.{Token}
use Rattle.lp_tree.specs.declared.seen.Seen.{Seen}
use Rattle.lp_tree.specs.Seen.{seen}
use Rattle.lp_tree.specs.TreeView.{tree_of}
use Rattle.lp_parser_expr.specs.declared.tall.Tall.{Tall}
use Rattle.lp_parser_expr.specs.declared.focus.Focus.{Focus}
use Rattle.lp_parser_expr.specs.declared.focus.Moved.{Moved}
use Rattle.lp_parser_expr.specs.declared.focus.Moved.TheVariants as moved
use Rattle.lp_parser_expr.specs.Capped.{capped}
use Rattle.lp_parser_expr.specs.View.{tree_in}
use Rattle.lp_parser_expr.specs.Machine.{State, Need, Stack, step, walk, finished}
use Rattle.lp_parser_expr.specs.Moves.{MovesOn, state_of}
use Rattle.lp_parser_expr.specs.Depth.{least}
use Rattle.lp_parser_expr.specs.Theorem.{sight, Stands}
use Rattle.lp_parser_expr.proofs.Main.{walk_more}

pub moved_ends : (st : State) (x : Seen) (s' : Stack) (m : Moved) (u : Option Tall) → MovesOn (step st x) (finished st) s' (Ok m) → m ≡ moved.Ends u → (step st x ≡ None) × (tree_in u ≡ finished st)
moved_ends st x s' m u d e = subst (λ y. MovesOn (step st x) (finished st) s' (Ok y)) e d

pub moved_goes : (st : State) (x : Seen) (s' : Stack) (m : Moved) (f : Focus) → MovesOn (step st x) (finished st) s' (Ok m) → m ≡ moved.Goes f → step st x ≡ Some (state_of f s')
moved_goes st x s' m f d e = subst (λ y. MovesOn (step st x) (finished st) s' (Ok y)) e d

at_token : (st : State) (x : Seen) (ts : List Token) (i : ℕ) (d : Token) (o : Option State) → x ≡ seen d → d ≡ get_or ts i d → step st x ≡ o → step st (seen (get_or ts i d)) ≡ o
at_token st x ts i d o e w h = ap (λ y. step st (seen y)) (sym w) ∙ ap (step st) (sym e) ∙ h

pub stop_ended : (limit : ℕ) (ts : List Token) (i : ℕ) (d : Token) (st : State) (x : Seen) (s' : Stack) (m : Moved) (u : Option Tall) → i < length ts → walk (Need []) (sight (take i ts)) ≡ Some st → (0 < i → least st ≤ limit) → x ≡ seen d → d ≡ get_or ts i d → MovesOn (step st x) (finished st) s' (Ok m) → m ≡ moved.Ends u
    → Stands limit ts i st × (i < length ts → walk (Need []) (sight (take (i + 1) ts)) ≡ None) × (finished st ≡ tree_in u)
stop_ended limit ts i d st x s' m u h w k e f n g =
    let r = moved_ends st x s' m u n g in
    (record { within = omega (arith, h); walked = w; shallow = k }, (λ _. walk_more ts i d st None h w (at_token st x ts i d None e f r.0)), sym r.1)

pub stop_goes : (ts : List Token) (i : ℕ) (d : Token) (st : State) (x : Seen) (s' : Stack) (m : Moved) (f : Focus) → i < length ts → walk (Need []) (sight (take i ts)) ≡ Some st → x ≡ seen d → d ≡ get_or ts i d → MovesOn (step st x) (finished st) s' (Ok m) → m ≡ moved.Goes f
    → walk (Need []) (sight (take (i + 1) ts)) ≡ Some (state_of f s')
stop_goes ts i d st x s' m f h w e k n g = walk_more ts i d st (Some (state_of f s')) h w (at_token st x ts i d (Some (state_of f s')) e k (moved_goes st x s' m f n g))

pub more_than : (limit n k : ℕ) → n ≡ capped k → limit < n → limit < k
more_than limit n k e h = omega arith

pub no_more_than : (limit n k : ℕ) → n ≡ capped k → limit ≤ 201 → n ≤ limit → k ≤ limit
no_more_than limit n k e w h = omega arith

pub at_end : (limit : ℕ) (ts : List Token) (i : ℕ) (st : State) → i ≡ length ts → walk (Need []) (sight (take i ts)) ≡ Some st → (0 < i → least st ≤ limit) → Stands limit ts (length ts) st × (length ts < length ts → walk (Need []) (sight (take (length ts + 1) ts)) ≡ None)
at_end limit ts i st e w k =
    (record { within = omega arith; walked = ap (λ n. walk (Need []) (sight (take n ts))) (sym e) ∙ w; shallow = λ h. k (omega arith) }, λ h. absurd (omega arith))

pub same_tree : (a b : Tall) → a ≡ b → Some (tree_of a.expr.value) ≡ Some (tree_of b.expr.value)
same_tree a b e = ap (λ t. Some (tree_of t.expr.value)) e
