-- Faults that are added one after another.
use Rattle.std.proofs.Common.{◌≡◌, ℕ, refl, sym, ap, ◌∙◌, List, [], ◌∷◌, ◌++◌, append_assoc}
use Rattle.std.specs.Prelude.{OnOk}
use Rattle.std.specs.declared.result.Result.{Result}
use Rattle.std.specs.declared.result.Result.TheVariants.{Ok, Err}
use Rattle.lp_tree.specs.declared.fault.FaultKind.{FaultKind}
use Rattle.lp_types_expr.specs.declared.fault.FaultAt.{FaultAt}
use Rattle.lp_types_expr.specs.Walk.{all_at, fault_at}

pub all_at_both : (line : ℕ) (xs ys : List FaultKind) → all_at line (xs ++ ys) ≡ all_at line xs ++ all_at line ys
all_at_both line [] ys = refl
all_at_both line (x ∷ xs) ys = ap (λ l. fault_at line x ∷ l) (all_at_both line xs ys)

-- faults behind others
pub joined : (o m n x y : List FaultAt) → m ≡ o ++ x → n ≡ m ++ y → n ≡ o ++ (x ++ y)
joined o m n x y h k = k ∙ ap (λ l. l ++ y) h ∙ append_assoc o x y

-- the same where the last call may have failed
pub joined_if : {E : Type 0} (r : Result (Unit {0}) E) (o m n x y : List FaultAt) → m ≡ o ++ x → OnOk r (n ≡ m ++ y) → OnOk r (n ≡ o ++ (x ++ y))
joined_if (Ok u) o m n x y h k = joined o m n x y h k
joined_if (Err e) o m n x y h k = k

-- kinds at one line
pub more : (o m n : List FaultAt) (line : ℕ) (x y : List FaultKind) → m ≡ o ++ all_at line x → n ≡ m ++ all_at line y → n ≡ o ++ all_at line (x ++ y)
more o m n line x y h k = joined o m n (all_at line x) (all_at line y) h k ∙ ap (λ l. o ++ l) (sym (all_at_both line x y))

pub more_if : {E : Type 0} (r : Result (Unit {0}) E) (o m n : List FaultAt) (line : ℕ) (x y : List FaultKind) → m ≡ o ++ all_at line x → OnOk r (n ≡ m ++ all_at line y) → OnOk r (n ≡ o ++ all_at line (x ++ y))
more_if (Ok u) o m n line x y h k = more o m n line x y h k
more_if (Err e) o m n line x y h k = k
