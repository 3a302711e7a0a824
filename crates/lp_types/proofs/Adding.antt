-- Faults behind others.
use Rattle.std.proofs.Common.{◌≡◌, ℕ, suc, ◌+◌, ◌<◌, List, [], ◌∷◌, ◌++◌, length, get_or, drop, refl, sym, ap, ◌∙◌, append_assoc, add-one, drop-cons, ◌≤◌, arith}
use Rattle.std.proofs.lemmas.Grind.{common_steps}
use Rattle.lp_tree.specs.declared.fault.FaultKind.{FaultKind}
use Rattle.lp_types_expr.specs.declared.fault.FaultAt.{FaultAt}
use Rattle.lp_types_expr.specs.Walk.{all_at, fault_at}

-- one part, and the next
pub then : {A : Type 0} {m n : List A} (o x y : List A) → m ≡ o ++ x → n ≡ m ++ y → n ≡ o ++ (x ++ y)
then o x y f g = g ∙ ap (λ l. l ++ y) f ∙ append_assoc o x y

pub all_at_both : (line : ℕ) (xs ys : List FaultKind) → all_at line (xs ++ ys) ≡ all_at line xs ++ all_at line ys
all_at_both line [] ys = refl
all_at_both line (x ∷ xs) ys = ap (λ l. fault_at line x ∷ l) (all_at_both line xs ys)

-- the same at one line
pub at_line : (line : ℕ) {m n : List FaultAt} (o : List FaultAt) (xs ys : List FaultKind) → m ≡ o ++ all_at line xs → n ≡ m ++ all_at line ys → n ≡ o ++ all_at line (xs ++ ys)
at_line line o xs ys f g = then o _ _ f g ∙ ap (λ l. o ++ l) (sym (all_at_both line xs ys))

-- what was to come, after its first part
pub consumed : {A : Type 0} (f x y g : List A) → g ≡ f ++ x → f ++ (x ++ y) ≡ g ++ y
consumed f x y g e = sym (append_assoc f x y) ∙ ap (λ l. l ++ y) (sym e)

pub consumed_at : (line : ℕ) (f : List FaultAt) (xs ys : List FaultKind) (g : List FaultAt) → g ≡ f ++ all_at line xs → f ++ all_at line (xs ++ ys) ≡ g ++ all_at line ys
consumed_at line f xs ys g e = ap (λ l. f ++ l) (all_at_both line xs ys) ∙ consumed f (all_at line xs) (all_at line ys) g e

-- what is left of a list is its next item and the rest
pub rest_more : {A : Type 0} (xs : List A) (i : ℕ) (x : A) → i < length xs → get_or xs i x ≡ x → drop i xs ≡ x ∷ drop (i + 1) xs
rest_more xs i x l e = rw add-one (drop-cons xs i x l ∙ ap (λ y. y ∷ drop (suc i) xs) e)

-- and nothing behind its end
pub rest_none : {A : Type 0} (xs : List A) (i : ℕ) → length xs ≤ i → drop i xs ≡ []
rest_none xs i h = grind (arith, common_steps)
