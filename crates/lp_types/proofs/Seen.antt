-- What is seen in a block that was only begun for a look.
use Rattle.std.proofs.Common.{◌≡◌, List, [], ◌∷◌, ◌++◌, Option, refl, sym, ap, ◌∙◌, append_assoc}
use Rattle.std.proofs.lemmas.List.{append-nil}
use Rattle.lp_tree.specs.declared.keyword.Base.{Base}
use Rattle.lp_tree.specs.Trees.{Tree}
use Rattle.lp_tree.specs.Statements.{DeclaratorTree, InitTree, Nothing, DeclaresFirst, RunsFirst}
use Rattle.lp_types_expr.specs.declared.local.Local.{Local}
use Rattle.lp_types_expr.specs.Known.{Around}
use Rattle.lp_types_expr.specs.ExprFaults.{assignments, assignments_if}
use Rattle.lp_types_expr.specs.Scopes.{Scope, visible, inside, declaring}
use Rattle.lp_types.specs.Pieces.{head_misfits}
use Rattle.lp_types.specs.TypeFaults.{declarators_assignments, declares_first, init_assignments, local_of, locals_of}

-- a declaration shows what it declares behind what was seen
pub visible_more : (sc : Scope) (ls : List Local) → visible (declaring sc ls) ≡ visible sc ++ ls
visible_more sc ls = sym (append_assoc sc.outer sc.block ls)

pub visible_inside : (sc : Scope) → visible (inside sc) ≡ visible sc
visible_inside sc = append-nil (visible sc)

pub declaring_twice : (sc : Scope) (xs ys : List Local) → declaring (declaring sc xs) ys ≡ declaring sc (xs ++ ys)
declaring_twice sc xs ys = ap (λ b. record sc { block = b }) (append_assoc sc.block xs ys)

pub declaring_none : (sc : Scope) → declaring sc [] ≡ sc
declaring_none sc = ap (λ b. record sc { block = b }) (append-nil sc.block)

seen_more : (sc tc : Scope) (ls : List Local) → visible sc ≡ visible tc → visible (declaring sc ls) ≡ visible (declaring tc ls)
seen_more sc tc ls e = visible_more sc ls ∙ ap (λ v. v ++ ls) e ∙ sym (visible_more tc ls)

-- two scopes that show the same
pub same_misfits : (a : Around) (b : Base) (ds : List DeclaratorTree) (sc tc : Scope) → visible sc ≡ visible tc → declarators_assignments a sc b ds ≡ declarators_assignments a tc b ds
same_misfits a b [] sc tc e = refl
same_misfits a b (d ∷ ds) sc tc e =
    ap (λ v. assignments_if a v d.value ++ declarators_assignments a (declaring sc (local_of b d ∷ [])) b ds) e
    ∙ ap (λ x. assignments_if a (visible tc) d.value ++ x) (same_misfits a b ds (declaring sc (local_of b d ∷ [])) (declaring tc (local_of b d ∷ [])) (seen_more sc tc (local_of b d ∷ []) e))

-- one name more of a declaration
pub declared_more : (sc tc : Scope) (b : Base) (d : DeclaratorTree) (ds : List DeclaratorTree) → tc ≡ declaring sc (local_of b d ∷ []) → declaring sc (locals_of b (d ∷ ds)) ≡ declaring tc (locals_of b ds)
declared_more sc tc b d ds e = sym (declaring_twice sc (local_of b d ∷ []) (locals_of b ds)) ∙ ap (λ x. declaring x (locals_of b ds)) (sym e)

same_first : (a : Around) (i : InitTree) (sc tc : Scope) → visible sc ≡ visible tc → init_assignments a sc i ≡ init_assignments a tc i
same_first a Nothing sc tc e = refl
same_first a (DeclaresFirst d) sc tc e = same_misfits a d.base d.ones sc tc e
same_first a (RunsFirst t) sc tc e = ap (λ v. assignments a v t) e

-- the head of a `for`, looked at in a block of its own
pub same_head : (a : Around) (sc : Scope) (i : InitTree) (t st : Option Tree) → head_misfits a (inside sc) i t st ≡ head_misfits a sc i t st
same_head a sc i t st =
    ap (λ ks. (ks ++ assignments_if a (visible (declaring (inside sc) (declares_first i))) t) ++ assignments_if a (visible (declaring (inside sc) (declares_first i))) st) (same_first a i (inside sc) sc (visible_inside sc))
    ∙ ap (λ v. (init_assignments a sc i ++ assignments_if a v t) ++ assignments_if a v st) (seen_more (inside sc) sc (declares_first i) (visible_inside sc))
