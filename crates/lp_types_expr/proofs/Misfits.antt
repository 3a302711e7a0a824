-- Arguments that do not fit their parameters, one after another.
use Rattle.std.proofs.Common.{◌≡◌, ℕ, zero, suc, ◌+◌, ◌<◌, ◌≤◌, refl, sym, ap, ◌∙◌, arith, Bool, not, List, [], ◌∷◌, ◌++◌, append_assoc, length, drop, get_or, map}
use Rattle.lp_tree.specs.declared.expr.Expr.{Expr}
use Rattle.lp_tree.specs.declared.fault.FaultKind.{FaultKind}
use Rattle.lp_tree.specs.declared.fault.FaultKind.TheVariants.{WrongType}
use Rattle.lp_tree.specs.declared.types.TypeName.{TypeName}
use Rattle.lp_tree.specs.Trees.{trees}
use Rattle.lp_tree.specs.TreeView.{tree_of}
use Rattle.lp_types_expr.specs.ExprFaults.{misfits, types_of, when}
use Rattle.lp_types_expr.specs.Kinds.{fits}
use Rattle.lp_types_expr.specs.Known.{Around, Local, type_of}
use Rattle.lp_types_expr.specs.declared.kind.ExprType.{ExprType}
use Rattle.lp_types_expr.specs.Walk.{FaultAt, all_at, fault_at}

drop_one : {A : Type 0} (xs : List A) (i : ℕ) (x : A) → i < length xs → x ≡ get_or xs i x → drop i xs ≡ x ∷ drop (suc i) xs
drop_one [] i x h e = absurd (omega (arith, h))
drop_one (y ∷ ys) zero x h e = ap (λ z. z ∷ ys) (sym e)
drop_one (y ∷ ys) (suc i) x h e = drop_one ys i x (omega (arith, h)) e

drop_all : {A : Type 0} (xs : List A) (i : ℕ) → length xs ≤ i → drop i xs ≡ []
drop_all [] zero h = refl
drop_all [] (suc i) h = refl
drop_all (x ∷ xs) zero h = absurd (omega (arith, h))
drop_all (x ∷ xs) (suc i) h = drop_all xs i (omega (arith, h))

no_types : (ps : List TypeName) → misfits ps [] ≡ []
no_types [] = refl
no_types (p ∷ ps) = refl

no_more : (f : List FaultAt) → f ++ [] ≡ f
no_more [] = refl
no_more (x ∷ f) = ap (λ z. x ∷ z) (no_more f)

rest : Around → List Local → List TypeName → List Expr → List FaultKind
rest a ls ps es = misfits ps (types_of a ls (trees (map tree_of es)))

-- no argument is left
pub closing : (a : Around) (ls : List Local) (line : ℕ) (ps : List TypeName) (es : List Expr) (i : ℕ) (f : List FaultAt) → length es ≤ i
    → f ++ all_at line (misfits (drop i ps) (types_of a ls (trees (map tree_of (drop i es))))) ≡ f
closing a ls line ps es i f h =
    ap (λ z. f ++ all_at line (misfits (drop i ps) (types_of a ls (trees (map tree_of z))))) (drop_all es i h)
    ∙ ap (λ z. f ++ all_at line z) (no_types (drop i ps)) ∙ no_more f

all_at_both : (line : ℕ) (xs ys : List FaultKind) → all_at line (xs ++ ys) ≡ all_at line xs ++ all_at line ys
all_at_both line [] ys = refl
all_at_both line (x ∷ xs) ys = ap (λ l. fault_at line x ∷ l) (all_at_both line xs ys)

-- one argument more
pub next : (a : Around) (ls : List Local) (line : ℕ) (ps : List TypeName) (es : List Expr) (i : ℕ) (old f g : List FaultAt) (p : TypeName) (e : Expr) (b : Bool)
    → i < length ps → i < length es → p ≡ get_or ps i p → e ≡ get_or es i e → b ≡ not (fits p (type_of a ls (tree_of e))) → g ≡ f ++ all_at line (when b WrongType)
    → old ≡ f ++ all_at line (misfits (drop i ps) (types_of a ls (trees (map tree_of (drop i es)))))
    → old ≡ g ++ all_at line (misfits (drop (i + 1) ps) (types_of a ls (trees (map tree_of (drop (i + 1) es)))))
next a ls line ps es i old f g p e b hp he vp ve vb vg inv = let s : suc i ≡ i + 1 = omega arith in
    inv
    ∙ ap (λ z. f ++ all_at line (misfits z (types_of a ls (trees (map tree_of (drop i es)))))) (drop_one ps i p hp vp)
    ∙ ap (λ z. f ++ all_at line (misfits (p ∷ drop (suc i) ps) (types_of a ls (trees (map tree_of z))))) (drop_one es i e he ve)
    ∙ ap (λ z. f ++ all_at line (when z WrongType ++ misfits (drop (suc i) ps) (types_of a ls (trees (map tree_of (drop (suc i) es)))))) (sym vb)
    ∙ ap (λ z. f ++ z) (all_at_both line (when b WrongType) (misfits (drop (suc i) ps) (types_of a ls (trees (map tree_of (drop (suc i) es))))))
    ∙ sym (append_assoc f (all_at line (when b WrongType)) (all_at line (misfits (drop (suc i) ps) (types_of a ls (trees (map tree_of (drop (suc i) es)))))))
    ∙ ap (λ z. z ++ all_at line (misfits (drop (suc i) ps) (types_of a ls (trees (map tree_of (drop (suc i) es)))))) (sym vg)
    ∙ ap (λ k. g ++ all_at line (misfits (drop k ps) (types_of a ls (trees (map tree_of (drop k es)))))) s

-- the same by what was found of the argument
pub found : (a : Around) (ls : List Local) (line : ℕ) (ps : List TypeName) (es : List Expr) (i : ℕ) (old f g : List FaultAt) (p : TypeName) (e : Expr) (t : ExprType) (r : Bool)
    → i < length ps → i < length es → e ≡ get_or es i e → t ≡ type_of a ls (tree_of e) → r ≡ fits p t → p ≡ get_or ps i p → g ≡ f ++ all_at line (when (not r) WrongType)
    → old ≡ f ++ all_at line (misfits (drop i ps) (types_of a ls (trees (map tree_of (drop i es)))))
    → old ≡ g ++ all_at line (misfits (drop (i + 1) ps) (types_of a ls (trees (map tree_of (drop (i + 1) es)))))
found a ls line ps es i old f g p e t r hp he ve vt vr vp vg inv = next a ls line ps es i old f g p e (not r) hp he vp ve (ap not (vr ∙ ap (fits p) vt)) vg inv

-- what stands within a list is read, whatever else would be
pub read_any : (ps : List TypeName) (i : ℕ) (d x : TypeName) → i < length ps → get_or ps i d ≡ get_or ps i x
read_any [] i d x h = absurd (omega (arith, h))
read_any (p ∷ ps) zero d x h = refl
read_any (p ∷ ps) (suc i) d x h = read_any ps i d x (omega (arith, h))

-- there are as many types as arguments
pub count_types : (a : Around) (ls : List Local) (es : List Expr) → length (types_of a ls (trees (map tree_of es))) ≡ length es
count_types a ls [] = refl
count_types a ls (e ∷ es) = ap suc (count_types a ls es)
