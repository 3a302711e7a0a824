-- Pairs of a mapping, parts of a sequence, and places that are read, changed and written.
use Rattle.std.proofs.Common.{◌≡◌, ℕ, zero, suc, ◌<◌, List, [], ◌∷◌, ◌++◌, length, take, Bool, true, false, refl, sym, ap, ◌∙◌, subst, arith, map}
use Rattle.std.specs.Prelude.{nat_eq}
use Rattle.std.proofs.lemmas.Bool.{eqb-true}
use Rattle.lp_tree.specs.declared.expr.Expr.{Expr}
use Rattle.lp_tree.specs.Trees.{Tree, trees, pairs, Int, Text, Name, Paren, Array, Mapping, Call, EfunCall, ParentCall, NamedParentCall, Catch, Sscanf, Index as IndexTree, Range, CallOther, PostStep, PreStep, Unary, Cast, Binary, AndThen, OrElse, Cond, Assign, Sequence}
use Rattle.lp_tree.specs.TreeView.{tree_of}
use Rattle.lp_language.specs.Resolve.{Heritage}
use Rattle.lp_language.specs.Scope.{Names}
use Rattle.lp_language.specs.Eval.{pair_count}
use Rattle.lp_instr.specs.Code.{Code}
use Rattle.lp_instr.specs.declared.instr.Instr.TheVariants.{Pop}
use Rattle.lp_isa.specs.Translates.{Piece, Then, Nothing, MakesChange, MakesFirst, MakesMore}
use Rattle.lp_codegen_expr.specs.Names.{Plan}
use Rattle.lp_codegen_expr.specs.Drafts.{Sketch, Around, Form, Adds, Opens, Closes, after, line, of_expr, of_pairs, of_part, of_parts, of_open, of_right, of_close, of_logic}
use Rattle.lp_tree.specs.Pieces.{pair_of}
use Rattle.lp_codegen_expr.proofs.Compose.{adds_then, reform, line_none}

pub counted_pairs : (ps : List (Expr × Expr)) → length ps ≡ pair_count (pairs (map pair_of ps))
counted_pairs [] = refl
counted_pairs (p ∷ ps) = ap suc (counted_pairs ps)

pub none_pairs : (ns : Names) (l : Plan) (old : Sketch) → Adds l (of_pairs ns []) old old
none_pairs ns l old = line_none l old

pairs_more : (ns : Names) (ps : List (Expr × Expr)) (x : Expr × Expr) (a : Around) (from mid to : ℕ) → of_pairs ns ps a from mid → after (of_expr ns x.0) (of_expr ns x.1) a mid to → of_pairs ns (ps ++ x ∷ []) a from to
pairs_more ns [] x a from mid to p q = let r = subst (λ n. after (of_expr ns x.0) (of_expr ns x.1) a n to) p q in (r.0, r.1, (to, r.2, refl))
pairs_more ns (d ∷ ps) x a from mid to p q = (p.0, p.1, (p.2.0, p.2.1, pairs_more ns ps x a p.2.0 mid to p.2.2 q))

pub one_more_pair : {l : Plan} {old mid new : Sketch} (ns : Names) (ps : List (Expr × Expr)) (x : Expr × Expr) → Adds l (of_pairs ns ps) old mid → Adds l (after (of_expr ns x.0) (of_expr ns x.1)) mid new → Adds l (of_pairs ns (ps ++ x ∷ [])) old new
one_more_pair {l} {old} {mid} {new} ns ps x v w =
    adds_then l (of_pairs ns ps) (after (of_expr ns x.0) (of_expr ns x.1)) (of_pairs ns (ps ++ x ∷ [])) old mid new v w (λ a p q. pairs_more ns ps x a (length old.code) (length mid.code) (length new.code) p q)

pub at_pairs : {l : Plan} {old new : Sketch} (ns : Names) {a b : List (Expr × Expr)} → a ≡ b → Adds l (of_pairs ns a) old new → Adds l (of_pairs ns b) old new
at_pairs {l} {old} {new} ns {a} {b} e w = subst (λ x. Adds l (of_pairs ns x) old new) e w

-- sequences
pub none_parts : (ns : Names) (l : Plan) (old : Sketch) → Adds l (of_parts ns []) old old
none_parts ns l old = line_none l old

abbrev of_more : Names → List Expr → Form
of_more ns es a from to = MakesMore a.heritage ns (trees (map tree_of es)) a.code from to

more_more : (ns : Names) (es : List Expr) (e : Expr) (a : Around) (from mid to : ℕ) → of_more ns es a from mid → of_part ns false e a mid to → of_more ns (es ++ e ∷ []) a from to
more_more ns [] e a from mid to p q = let r = subst (λ n. of_part ns false e a n to) p q in (r.0, r.1, (to, r.2, refl))
more_more ns (d ∷ es) e a from mid to p q = (p.0, p.1, (p.2.0, p.2.1, more_more ns es e a p.2.0 mid to p.2.2 q))

abbrev is_nil : List Expr → Bool
is_nil [] = true
is_nil (e ∷ es) = false

parts_more : (ns : Names) (es : List Expr) (e : Expr) (a : Around) (from mid to : ℕ) → of_parts ns es a from mid → of_part ns (is_nil es) e a mid to → of_parts ns (es ++ e ∷ []) a from to
parts_more ns [] e a from mid to p q = (to, subst (λ n. of_expr ns e a n to) p q, refl)
parts_more ns (d ∷ es) e a from mid to p q = (p.0, p.1, more_more ns es e a p.0 mid to p.2 q)

not_zero : (i : ℕ) (b : Bool) → nat_eq (suc i) 0 ≡ b → b ≡ false
not_zero i true e = let q : suc i ≡ 0 = eqb-true (suc i) 0 e in absurd (omega (arith, q))
not_zero i false e = refl

starts : (all : List Expr) (i : ℕ) → i < length all → nat_eq i 0 ≡ is_nil (take i all)
starts [] i h = absurd (omega (arith, h))
starts (e ∷ es) zero h = refl
starts (e ∷ es) (suc i) h = not_zero i (nat_eq (suc i) 0) refl

pub one_more_part : {l : Plan} {old mid new : Sketch} (ns : Names) (all : List Expr) (i : ℕ) (e : Expr) (first : Bool) → i < length all → first ≡ nat_eq i 0 → Adds l (of_parts ns (take i all)) old mid → Adds l (of_part ns first e) mid new → Adds l (of_parts ns (take i all ++ e ∷ [])) old new
one_more_part {l} {old} {mid} {new} ns all i e first lt is v w =
    let es = take i all in
    adds_then l (of_parts ns es) (of_part ns (is_nil es) e) (of_parts ns (es ++ e ∷ [])) old mid new v (subst (λ b. Adds l (of_part ns b e) mid new) (is ∙ starts all i lt) w) (λ a p q. parts_more ns es e a (length old.code) (length mid.code) (length new.code) p q)

-- a part that is not the first
pub part_later : {l : Plan} {old new : Sketch} (ns : Names) (e : Expr) {b : Bool} → b ≡ false → Adds l (after (line (Pop ∷ [])) (of_expr ns e)) old new → Adds l (of_part ns b e) old new
part_later {l} {old} {new} ns e {b} h w = subst (λ x. Adds l (of_part ns x e) old new) (sym h) w

pub at_parts : {l : Plan} {old new : Sketch} (ns : Names) {a b : List Expr} → a ≡ b → Adds l (of_parts ns a) old new → Adds l (of_parts ns b) old new
at_parts {l} {old} {new} ns {a} {b} e w = subst (λ x. Adds l (of_parts ns x) old new) e w

abbrev of_first : Names → List Expr → Form
of_first ns es a from to = MakesFirst a.heritage ns (trees (map tree_of es)) a.code from to

-- where there is a part, it is a sequence
pub some_parts : {l : Plan} {old new : Sketch} (ns : Names) (es : List Expr) → 0 < length es → Adds l (of_parts ns es) old new → Adds l (of_first ns es) old new
some_parts ns [] h w = absurd (omega (arith, h))
some_parts ns (e ∷ es) h w = w

-- places
logic_made : (h : Heritage) (ns : Names) (t : Tree) (code : Code) (R : Piece) (from to : ℕ) → Then (Opens h ns t code) (Then R (Closes h ns t code)) from to → MakesChange h ns t code R Nothing R Nothing from to
logic_made h ns (Name line w) code R from to p = (p.0, p.1, (p.2.0, p.2.1, (to, p.2.2, refl)))
logic_made h ns (IndexTree line e edge i) code R from to p = let o = p.1 in (o.0, o.1, (o.2.0, o.2.1, (p.0, o.2.2, (p.2.0, p.2.1, (to, p.2.2, refl)))))
logic_made h ns (Int line n) code R from to p = absurd p.1
logic_made h ns (Text line n) code R from to p = absurd p.1
logic_made h ns (Paren line n) code R from to p = absurd p.1
logic_made h ns (Array line n) code R from to p = absurd p.1
logic_made h ns (Mapping line n) code R from to p = absurd p.1
logic_made h ns (Call line n m) code R from to p = absurd p.1
logic_made h ns (EfunCall line n m) code R from to p = absurd p.1
logic_made h ns (ParentCall line n m) code R from to p = absurd p.1
logic_made h ns (NamedParentCall line n m o) code R from to p = absurd p.1
logic_made h ns (Catch line n) code R from to p = absurd p.1
logic_made h ns (Sscanf line n m o) code R from to p = absurd p.1
logic_made h ns (Range line n m o) code R from to p = absurd p.1
logic_made h ns (CallOther line n m o) code R from to p = absurd p.1
logic_made h ns (PostStep line n m) code R from to p = absurd p.1
logic_made h ns (PreStep line n m) code R from to p = absurd p.1
logic_made h ns (Unary line n m) code R from to p = absurd p.1
logic_made h ns (Cast line n m) code R from to p = absurd p.1
logic_made h ns (Binary line n m o) code R from to p = absurd p.1
logic_made h ns (AndThen line n m) code R from to p = absurd p.1
logic_made h ns (OrElse line n m) code R from to p = absurd p.1
logic_made h ns (Cond line n m o) code R from to p = absurd p.1
logic_made h ns (Assign line n m o) code R from to p = absurd p.1
logic_made h ns (Sequence line n) code R from to p = absurd p.1

pub logic_adds : {l : Plan} {old new : Sketch} (ns : Names) (place e : Expr) (is_and : Bool) → Adds l (after (of_open ns place) (after (of_right ns e is_and) (of_close ns place))) old new → Adds l (of_logic ns place e is_and) old new
logic_adds ns place e is_and w =
    reform (after (of_open ns place) (after (of_right ns e is_and) (of_close ns place))) (of_logic ns place e is_and) (λ a from to p. logic_made a.heritage ns (tree_of place) a.code (of_right ns e is_and a) from to p) w

abbrev tree_open : Names → Tree → Form
tree_open ns t a from to = Opens a.heritage ns t a.code from to

abbrev tree_close : Names → Tree → Form
tree_close ns t a from to = Closes a.heritage ns t a.code from to

pub made_open : {l : Plan} {old new : Sketch} (ns : Names) (e : Expr) (t : Tree) → tree_of e ≡ t → Adds l (tree_open ns t) old new → Adds l (of_open ns e) old new
made_open {l} {old} {new} ns e t h w = subst (λ x. Adds l (tree_open ns x) old new) (sym h) w

pub made_close : {l : Plan} {old new : Sketch} (ns : Names) (e : Expr) (t : Tree) → tree_of e ≡ t → Adds l (tree_close ns t) old new → Adds l (of_close ns e) old new
made_close {l} {old} {new} ns e t h w = subst (λ x. Adds l (tree_close ns x) old new) (sym h) w

-- a list that is not empty
pub not_empty : {n : ℕ} {b : Bool} (xs : List Expr) → n ≡ length xs → b ≡ nat_eq n 0 → b ≡ false → 0 < length xs
not_empty {n} {b} [] e f g =
    let h : nat_eq n 0 ≡ true = ap (λ k. nat_eq k 0) e in
    let q : true ≡ false = sym h ∙ sym f ∙ g in
    absurd cc
not_empty (x ∷ xs) e f g = omega arith
