-- Expressions with several parts: what is added for the parts behind the first token is what belongs to the expression.
use Rattle.std.proofs.Common.{◌≡◌, ℕ, sym, ap, ◌∙◌, List, ◌++◌, append_assoc, map}
use Rattle.std.specs.Prelude.{OnOk}
use Rattle.std.specs.declared.result.Result.{Result}
use Rattle.std.specs.declared.result.Result.TheVariants.{Ok, Err}
use Rattle.lp_tree.specs.declared.expr.Expr.{Expr}
use Rattle.lp_tree.specs.Trees.{Tree, trees}
use Rattle.lp_tree.specs.TreeView.{tree_of}
use Rattle.lp_types_expr.specs.Visits.{behinds, visits, visits_all}

-- lists that are added one behind another
pub two_lists : {E : Type 0} (r : Result (Unit {0}) E) (e : Expr) (t : Tree) (o m n x y : List (ℕ × Tree)) → tree_of e ≡ t → behinds t ≡ x ++ y
    → m ≡ o ++ x → OnOk r (n ≡ m ++ y) → OnOk r (n ≡ o ++ behinds (tree_of e))
two_lists (Ok u) e t o m n x y p q h k = k ∙ ap (λ z. z ++ y) h ∙ append_assoc o x y ∙ ap (λ z. o ++ z) (sym q) ∙ ap (λ z. o ++ behinds z) (sym p)
two_lists (Err f) e t o m n x y p q h k = k

pub three_lists : {E : Type 0} (r : Result (Unit {0}) E) (e : Expr) (t : Tree) (o l m n x y z : List (ℕ × Tree)) → tree_of e ≡ t → behinds t ≡ x ++ (y ++ z)
    → l ≡ o ++ x → m ≡ l ++ y → OnOk r (n ≡ m ++ z) → OnOk r (n ≡ o ++ behinds (tree_of e))
three_lists r e t o l m n x y z p q h k s = two_lists r e t o m n (x ++ y) z p (q ∙ sym (append_assoc x y z)) (k ∙ ap (λ w. w ++ y) h ∙ append_assoc o x y) s

-- an expression that begins with its first part
pub two_parts : {E : Type 0} (r : Result (Unit {0}) E) (e : Expr) (t : Tree) (o m n : List (ℕ × Tree)) (a b f g : Expr) → tree_of e ≡ t → behinds t ≡ behinds (tree_of f) ++ visits (tree_of g) → a ≡ f → b ≡ g
    → m ≡ o ++ behinds (tree_of a) → OnOk r (n ≡ m ++ visits (tree_of b)) → OnOk r (n ≡ o ++ behinds (tree_of e))
two_parts r e t o m n a b f g p q i j h k = two_lists r e t o m n (behinds (tree_of a)) (visits (tree_of b)) p (q ∙ ap (λ z. behinds (tree_of z) ++ visits (tree_of g)) (sym i) ∙ ap (λ z. behinds (tree_of a) ++ visits (tree_of z)) (sym j)) h k

pub three_parts : {E : Type 0} (r : Result (Unit {0}) E) (e : Expr) (t : Tree) (o l m n : List (ℕ × Tree)) (a b c f g u : Expr) → tree_of e ≡ t → behinds t ≡ behinds (tree_of f) ++ (visits (tree_of g) ++ visits (tree_of u)) → a ≡ f → b ≡ g → c ≡ u
    → l ≡ o ++ behinds (tree_of a) → m ≡ l ++ visits (tree_of b) → OnOk r (n ≡ m ++ visits (tree_of c)) → OnOk r (n ≡ o ++ behinds (tree_of e))
three_parts r e t o l m n a b c f g u p q i j v h k s =
    three_lists r e t o l m n (behinds (tree_of a)) (visits (tree_of b)) (visits (tree_of c)) p
    (q ∙ ap (λ z. behinds (tree_of z) ++ (visits (tree_of g) ++ visits (tree_of u))) (sym i) ∙ ap (λ z. behinds (tree_of a) ++ (visits (tree_of z) ++ visits (tree_of u))) (sym j) ∙ ap (λ z. behinds (tree_of a) ++ (visits (tree_of b) ++ visits (tree_of z))) (sym v)) h k s

pub part_and_list : {E : Type 0} (r : Result (Unit {0}) E) (e : Expr) (t : Tree) (o m n : List (ℕ × Tree)) (a f : Expr) (bs gs : List Expr) → tree_of e ≡ t → behinds t ≡ behinds (tree_of f) ++ visits_all (trees (map tree_of gs)) → a ≡ f → bs ≡ gs
    → m ≡ o ++ behinds (tree_of a) → OnOk r (n ≡ m ++ visits_all (trees (map tree_of bs))) → OnOk r (n ≡ o ++ behinds (tree_of e))
part_and_list r e t o m n a f bs gs p q i j h k = two_lists r e t o m n (behinds (tree_of a)) (visits_all (trees (map tree_of bs))) p (q ∙ ap (λ z. behinds (tree_of z) ++ visits_all (trees (map tree_of gs))) (sym i) ∙ ap (λ z. behinds (tree_of a) ++ visits_all (trees (map tree_of z))) (sym j)) h k
