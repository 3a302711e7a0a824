-- What is clear is refused for want of memory or room alone: where a part is refused as unclear, the whole is not clear.
use Rattle.std.proofs.Common.{◌≡◌, ℕ, zero, suc, ◌<◌, List, [], ◌∷◌, length, get_or, refl, sym, ◌∙◌, ap, subst, arith, Result, map, Bool, true, false, Option, IsTrue}
use Rattle.std.specs.Prelude.{Box, MatchResult, IsErrAnd, nat_eq}
use Rattle.std.proofs.lemmas.Bool.{eqb-true}
use Rattle.std.proofs.lemmas.Result.{err_from_is_err_and}
use Rattle.std.specs.declared.alloc.Global.{Global}
use Rattle.lp_tree.specs.declared.expr.Expr.{Expr}
use Rattle.lp_tree.specs.declared.expr.Edge.{Edge}
use Rattle.lp_tree.specs.declared.expr.Expr.TheVariants as variants
use Rattle.lp_tree.specs.declared.expr.Expr.TheVariants.{rolls-Int, rolls-Text, rolls-Name, rolls-Paren, rolls-Array, rolls-Mapping, rolls-Call, rolls-EfunCall, rolls-ParentCall, rolls-NamedParentCall, rolls-Catch, rolls-Sscanf, rolls-Index, rolls-Range, rolls-CallOther, rolls-PostStep, rolls-PreStep, rolls-Unary, rolls-Cast, rolls-Binary, rolls-AndThen, rolls-OrElse, rolls-Cond, rolls-Assign, rolls-Sequence}
use Rattle.lp_tree.specs.declared.expr.Expr.TheOpen as layer
use Rattle.lp_tree.specs.declared.expr.Expr.TheViews.{out-Expr, roll-Expr, roll-out-Expr}
use Rattle.lp_tree.specs.Trees.{Tree, NoTree, trees, is_place}
use Rattle.lp_tree.proofs.ExprNodes.{array_tree, call_tree, efun_tree, parent_tree, named_tree, other_tree, sscanf_tree, range_tree, mapping_tree, sequence_tree, int_tree, text_tree, paren_tree, catch_tree, post_step_tree, pre_step_tree, unary_tree, cast_tree, binary_tree, and_then_tree, or_else_tree, cond_tree, assign_tree}
use Rattle.lp_tree.specs.TreeView.{tree_of}
use Rattle.lp_language.specs.Scope.{Names}
use Rattle.lp_codegen_expr.specs.Names.{Plan}
use Rattle.lp_codegen_expr.specs.Clear.{IsClear, IsExprClear, IsPlaceClear, AreAllClear, AreEachPairClear, ArePlacesClear, IsParentCalled, Spares}
use Rattle.lp_codegen_expr.specs.declared.code.GenFault.{GenFault}

-- the exit of a `?`, whose fault is the callee's
pub at_exit : {T : Type 0} (M : T → Type 0) (A : Type 0) (r : Result T GenFault) (f : GenFault) → IsErrAnd r (λ g. g ≡ f) → Spares A f → MatchResult r M (Spares A)
at_exit M A r f e s = let p = err_from_is_err_and r e in subst (λ x. MatchResult x M (Spares A)) (sym p.1) (subst (Spares A) (sym p.2) s)

-- an expression whose tree is known
pub whole : {f : GenFault} (l : Plan) (ns : Names) (e : Expr) (t : Tree) → tree_of e ≡ t → Spares (IsClear l ns t) f → Spares (IsExprClear l ns e) f
whole l ns e t h r = λ u q. r u (subst (IsClear l ns) h q)

pub whole_place : {f : GenFault} (l : Plan) (ns : Names) (e : Expr) (t : Tree) → tree_of e ≡ t → Spares (IsClear l ns t) f → Spares (IsPlaceClear l ns e) f
whole_place l ns e t h r = λ u q. r u (subst (IsClear l ns) h q.1)

-- an expression by another name
pub named : (l : Plan) (ns : Names) {a b : Expr} → a ≡ b → IsExprClear l ns b → IsExprClear l ns a
named l ns {a} {b} e q = subst (IsExprClear l ns) (sym e) q

pub named_place : (l : Plan) (ns : Names) {a b : Expr} → a ≡ b → IsPlaceClear l ns b → IsPlaceClear l ns a
named_place l ns {a} {b} e q = subst (IsPlaceClear l ns) (sym e) q

-- one of a list
pub one_clear : (l : Plan) (ns : Names) (es : List Expr) (i : ℕ) (x : Expr) → i < length es → get_or es i x ≡ x → AreAllClear l ns es → IsExprClear l ns x
one_clear l ns [] i x h e q = absurd (omega (arith, h))
one_clear l ns (y ∷ ys) zero x h e q = subst (IsExprClear l ns) e q.0
one_clear l ns (y ∷ ys) (suc i) x h e q = one_clear l ns ys i x (omega (arith, h)) e q.1

pub one_place : (l : Plan) (ns : Names) (es : List Expr) (i : ℕ) (x : Expr) → i < length es → get_or es i x ≡ x → ArePlacesClear l ns es → IsPlaceClear l ns x
one_place l ns [] i x h e q = absurd (omega (arith, h))
one_place l ns (y ∷ ys) zero x h e q = subst (IsPlaceClear l ns) e (q.0, q.1)
one_place l ns (y ∷ ys) (suc i) x h e q = one_place l ns ys i x (omega (arith, h)) e q.2

pub one_pair : (l : Plan) (ns : Names) (ps : List (Expr × Expr)) (i : ℕ) (x : Expr × Expr) → i < length ps → get_or ps i x ≡ x → AreEachPairClear l ns ps → IsExprClear l ns x.0 × IsExprClear l ns x.1
one_pair l ns [] i x h e q = absurd (omega (arith, h))
one_pair l ns (y ∷ ys) zero x h e q = subst (λ z. IsExprClear l ns z.0 × IsExprClear l ns z.1) e (q.0, q.1)
one_pair l ns (y ∷ ys) (suc i) x h e q = one_pair l ns ys i x (omega (arith, h)) e q.2

not_true : (t u : Tree) → t ≡ u → is_place u ≡ false → IsTrue (is_place t) → ⊥
not_true t u e f q = let p : true ≡ false = sym (subst (λ x. IsTrue (is_place x)) e q) ∙ f in absurd cc

abbrev NoName : Expr → Type 0
NoName e = (line : ℕ) (w : List ℕ) → e ≡ variants.Name line w → ⊥

abbrev NoIndex : Expr → Type 0
NoIndex e = (line : ℕ) (x : Box Expr Global) (d : Edge) (y : Box Expr Global) → e ≡ variants.Index line x d y → ⊥

no_place_form : (o : layer.Expr-F Expr) (e : Expr) → e ≡ roll-Expr o → NoName e → NoIndex e → IsTrue (is_place (tree_of e)) → ⊥
no_place_form (layer.Int line n) e r h g q = not_true _ _ (ap tree_of (r ∙ rolls-Int line n) ∙ int_tree line n) refl q
no_place_form (layer.Text line w) e r h g q = not_true _ _ (ap tree_of (r ∙ rolls-Text line w) ∙ text_tree line w) refl q
no_place_form (layer.Name line w) e r h g q = h line w (r ∙ rolls-Name line w)
no_place_form (layer.Paren line x) e r h g q = not_true _ _ (ap tree_of (r ∙ rolls-Paren line x) ∙ paren_tree line x) refl q
no_place_form (layer.Array line v) e r h g q = not_true _ _ (ap tree_of (r ∙ rolls-Array line v) ∙ array_tree line v) refl q
no_place_form (layer.Mapping line v) e r h g q = not_true _ _ (ap tree_of (r ∙ rolls-Mapping line v) ∙ mapping_tree line v) refl q
no_place_form (layer.Call line w v) e r h g q = not_true _ _ (ap tree_of (r ∙ rolls-Call line w v) ∙ call_tree line w v) refl q
no_place_form (layer.EfunCall line w v) e r h g q = not_true _ _ (ap tree_of (r ∙ rolls-EfunCall line w v) ∙ efun_tree line w v) refl q
no_place_form (layer.ParentCall line w v) e r h g q = not_true _ _ (ap tree_of (r ∙ rolls-ParentCall line w v) ∙ parent_tree line w v) refl q
no_place_form (layer.NamedParentCall line p w v) e r h g q = not_true _ _ (ap tree_of (r ∙ rolls-NamedParentCall line p w v) ∙ named_tree line p w v) refl q
no_place_form (layer.Catch line x) e r h g q = not_true _ _ (ap tree_of (r ∙ rolls-Catch line x) ∙ catch_tree line x) refl q
no_place_form (layer.Sscanf line t f v) e r h g q = not_true _ _ (ap tree_of (r ∙ rolls-Sscanf line t f v) ∙ sscanf_tree line t f v) refl q
no_place_form (layer.Index line x d y) e r h g q = g line x d y (r ∙ rolls-Index line x d y)
no_place_form (layer.Range line o a b) e r h g q = not_true _ _ (ap tree_of (r ∙ rolls-Range line o a b) ∙ range_tree line o a b) refl q
no_place_form (layer.CallOther line o w v) e r h g q = not_true _ _ (ap tree_of (r ∙ rolls-CallOther line o w v) ∙ other_tree line o w v) refl q
no_place_form (layer.PostStep line s x) e r h g q = not_true _ _ (ap tree_of (r ∙ rolls-PostStep line s x) ∙ post_step_tree line s x) refl q
no_place_form (layer.PreStep line s x) e r h g q = not_true _ _ (ap tree_of (r ∙ rolls-PreStep line s x) ∙ pre_step_tree line s x) refl q
no_place_form (layer.Unary line o x) e r h g q = not_true _ _ (ap tree_of (r ∙ rolls-Unary line o x) ∙ unary_tree line o x) refl q
no_place_form (layer.Cast line o x) e r h g q = not_true _ _ (ap tree_of (r ∙ rolls-Cast line o x) ∙ cast_tree line o x) refl q
no_place_form (layer.Binary line o x y) e r h g q = not_true _ _ (ap tree_of (r ∙ rolls-Binary line o x y) ∙ binary_tree line o x y) refl q
no_place_form (layer.AndThen line x y) e r h g q = not_true _ _ (ap tree_of (r ∙ rolls-AndThen line x y) ∙ and_then_tree line x y) refl q
no_place_form (layer.OrElse line x y) e r h g q = not_true _ _ (ap tree_of (r ∙ rolls-OrElse line x y) ∙ or_else_tree line x y) refl q
no_place_form (layer.Cond line x y z) e r h g q = not_true _ _ (ap tree_of (r ∙ rolls-Cond line x y z) ∙ cond_tree line x y z) refl q
no_place_form (layer.Assign line o x y) e r h g q = not_true _ _ (ap tree_of (r ∙ rolls-Assign line o x y) ∙ assign_tree line o x y) refl q
no_place_form (layer.Sequence line v) e r h g q = not_true _ _ (ap tree_of (r ∙ rolls-Sequence line v) ∙ sequence_tree line v) refl q

-- what is neither a name nor an index is no place
pub no_place : (e : Expr) → NoName e → NoIndex e → IsTrue (is_place (tree_of e)) → ⊥
no_place e h g q = no_place_form (out-Expr e) e (sym (roll-out-Expr e)) h g q

-- a parent by another name
pub by_parent : (l : Plan) (w : List ℕ) {p r : Option ℕ} → p ≡ r → IsParentCalled l r w → IsParentCalled l p w
by_parent l w {p} {r} e q = subst (λ o. IsParentCalled l o w) (sym e) q

-- a list that is empty
pub no_trees : {n : ℕ} {b : Bool} (xs : List Expr) → n ≡ length xs → b ≡ nat_eq n 0 → b ≡ true → trees (map tree_of xs) ≡ NoTree
no_trees [] e f g = refl
no_trees {n} {b} (x ∷ xs) e f g = let h : n ≡ 0 = eqb-true n 0 (sym f ∙ g) in absurd (omega (arith, e, h))
