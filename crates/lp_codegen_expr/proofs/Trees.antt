-- Trees of expressions, and their lists.
use Rattle.std.proofs.Common.{◌≡◌, ℕ, suc, List, [], ◌∷◌, ◌++◌, length, refl, sym, ap, subst, map}
use Rattle.std.specs.Prelude.{Box}
use Rattle.std.specs.declared.alloc.Global.{Global}
use Rattle.lp_tree.specs.declared.expr.Expr.{Expr}
use Rattle.lp_tree.specs.declared.expr.Bound.{Bound}
use Rattle.lp_tree.specs.Trees.{Tree, trees, Assign}
use Rattle.lp_tree.specs.TreeView.{tree_of}
use Rattle.lp_language.specs.Scope.{Names}
use Rattle.lp_language.specs.Eval.{tree_count}
use Rattle.lp_isa.specs.Translates.{Then, Line, Makes, MakesWrite, MakesChange}
use Rattle.lp_tree.specs.declared.operator.AssignOp.{AssignOp}
use Rattle.lp_tree.specs.declared.operator.AssignOp.TheVariants as sets
use Rattle.lp_instr.specs.declared.instr.Instr.{Instr}
use Rattle.lp_instr.specs.declared.instr.Instr.TheVariants.{Rotate, Binary, JumpIfZero, Pop}
use Rattle.lp_codegen_expr.specs.declared.kinds.AssignKind.{AssignKind}
use Rattle.lp_codegen_expr.specs.declared.kinds.AssignKind.TheVariants as kinds
use Rattle.lp_codegen_expr.specs.Names.{Plan}
use Rattle.lp_codegen_expr.specs.Drafts.{Sketch, Around, Form, Adds, of_expr, of_all, of_scanned, of_scanned_one, of_write, of_logic, of_change, of_end, line, after, kind_of}
use Rattle.lp_codegen_expr.proofs.Compose.{adds_then, reform, line_none}

abbrev pub of_tree : Names → Tree → Form
of_tree ns t a from to = Makes a.heritage ns t a.code from to

pub made : {l : Plan} {old new : Sketch} (ns : Names) (e : Expr) (t : Tree) → tree_of e ≡ t → Adds l (of_tree ns t) old new → Adds l (of_expr ns e) old new
made {l} {old} {new} ns e t h w = subst (λ x. Adds l (of_tree ns x) old new) (sym h) w

pub at_expr : {l : Plan} {old new : Sketch} (ns : Names) {a b : Expr} → a ≡ b → Adds l (of_expr ns a) old new → Adds l (of_expr ns b) old new
at_expr {l} {old} {new} ns {a} {b} e w = subst (λ x. Adds l (of_expr ns x) old new) e w

pub counted_trees : (es : List Expr) → length es ≡ tree_count (trees (map tree_of es))
counted_trees [] = refl
counted_trees (e ∷ es) = ap suc (counted_trees es)

all_more : (ns : Names) (es : List Expr) (e : Expr) (a : Around) (from mid to : ℕ) → of_all ns es a from mid → of_expr ns e a mid to → of_all ns (es ++ e ∷ []) a from to
all_more ns [] e a from mid to p q = (to, subst (λ n. of_expr ns e a n to) p q, refl)
all_more ns (d ∷ es) e a from mid to p q = (p.0, p.1, all_more ns es e a p.0 mid to p.2 q)

pub one_more : {l : Plan} {old mid new : Sketch} (ns : Names) (es : List Expr) (e : Expr) → Adds l (of_all ns es) old mid → Adds l (of_expr ns e) mid new → Adds l (of_all ns (es ++ e ∷ [])) old new
one_more {l} {old} {mid} {new} ns es e v w = adds_then l (of_all ns es) (of_expr ns e) (of_all ns (es ++ e ∷ [])) old mid new v w (λ a p q. all_more ns es e a (length old.code) (length mid.code) (length new.code) p q)

scanned_more : (ns : Names) (es : List Expr) (e : Expr) (a : Around) (from mid to : ℕ) → of_scanned ns es a from mid → of_scanned_one ns e a mid to → of_scanned ns (es ++ e ∷ []) a from to
scanned_more ns [] e a from mid to p q = let r = subst (λ n. of_scanned_one ns e a n to) p q in (r.0, r.1, (to, r.2, refl))
scanned_more ns (d ∷ es) e a from mid to p q = (p.0, p.1, (p.2.0, p.2.1, scanned_more ns es e a p.2.0 mid to p.2.2 q))

pub one_more_scanned : {l : Plan} {old mid new : Sketch} (ns : Names) (es : List Expr) (e : Expr) → Adds l (of_scanned ns es) old mid → Adds l (of_scanned_one ns e) mid new → Adds l (of_scanned ns (es ++ e ∷ [])) old new
one_more_scanned {l} {old} {mid} {new} ns es e v w = adds_then l (of_scanned ns es) (of_scanned_one ns e) (of_scanned ns (es ++ e ∷ [])) old mid new v w (λ a p q. scanned_more ns es e a (length old.code) (length mid.code) (length new.code) p q)

-- what an assignment is by its kind
abbrev pub of_kind : Names → AssignKind → Expr → Expr → Form
of_kind ns kinds.Set place e = after (of_expr ns e) (of_write ns place)
of_kind ns (kinds.Logic is_and) place e = of_logic ns place e is_and
of_kind ns (kinds.Compound b) place e = after (of_expr ns e) (of_change ns place (Rotate 2 ∷ Binary b ∷ []) [] (Rotate 4 ∷ Binary b ∷ []) [])

abbrev pub of_assign : ℕ → Names → AssignOp → Expr → Expr → Form
of_assign line ns op place e a from to = of_tree ns (Assign line op (tree_of place) (tree_of e)) a from to

assigned : (line : ℕ) (ns : Names) (op : AssignOp) (place e : Expr) (a : Around) (from to : ℕ) → of_kind ns (kind_of op) place e a from to → of_assign line ns op place e a from to
assigned line ns sets.Set place e a from to h = h
assigned line ns sets.Add place e a from to h = h
assigned line ns sets.Sub place e a from to h = h
assigned line ns sets.Mul place e a from to h = h
assigned line ns sets.Div place e a from to h = h
assigned line ns sets.Rem place e a from to h = h
assigned line ns sets.And place e a from to h = h
assigned line ns sets.Or place e a from to h = h
assigned line ns sets.Xor place e a from to h = h
assigned line ns sets.Shl place e a from to h = h
assigned line ns sets.Shr place e a from to h = h
assigned line ns sets.AndThen place e a from to h = h
assigned line ns sets.OrElse place e a from to h = h

pub assign_adds : {l : Plan} {old new : Sketch} (line : ℕ) (ns : Names) (op : AssignOp) (place e : Expr) (k : AssignKind) → k ≡ kind_of op → Adds l (of_kind ns k place e) old new → Adds l (of_tree ns (Assign line op (tree_of place) (tree_of e))) old new
assign_adds {l} {old} {new} line ns op place e k f h =
    reform (of_kind ns (kind_of op) place e) (of_assign line ns op place e) (λ a from to p. assigned line ns op place e a from to p) (subst (λ x. Adds l (of_kind ns x place e) old new) f h)

pub at_place : {l : Plan} {old new : Sketch} (F : Expr → Form) {a b : Expr} → a ≡ b → Adds l (F a) old new → Adds l (F b) old new
at_place {l} {old} {new} F {a} {b} e w = subst (λ x. Adds l (F x) old new) e w

pub at_list : {l : Plan} {old new : Sketch} (F : List Expr → Form) {a b : List Expr} → a ≡ b → Adds l (F a) old new → Adds l (F b) old new
at_list {l} {old} {new} F {a} {b} e w = subst (λ x. Adds l (F x) old new) e w

pub at_end : {l : Plan} {old new : Sketch} (ns : Names) {a b : Bound (Box Expr Global)} → a ≡ b → Adds l (of_end ns a) old new → Adds l (of_end ns b) old new
at_end {l} {old} {new} ns {a} {b} e w = subst (λ x. Adds l (of_end ns x) old new) e w

pub none_all : (ns : Names) (l : Plan) (old : Sketch) → Adds l (of_all ns []) old old
none_all ns l old = line_none l old

pub none_scanned : (ns : Names) (l : Plan) (old : Sketch) → Adds l (of_scanned ns []) old old
none_scanned ns l old = line_none l old

pub scanned_one : {l : Plan} {old mid new : Sketch} (ns : Names) (e : Expr) → Adds l (λ a from to. Then (Line a.code (JumpIfZero to ∷ [])) (of_write ns e a) from to) old mid → Adds l (line (Pop ∷ [])) mid new → Adds l (of_scanned_one ns e) old new
scanned_one {l} {old} {mid} {new} ns e v w =
    adds_then l (λ a from to. Then (Line a.code (JumpIfZero to ∷ [])) (of_write ns e a) from to) (line (Pop ∷ [])) (of_scanned_one ns e) old mid new v w (λ a p q. (length mid.code, p, q))

abbrev pub tree_write : Names → Tree → Form
tree_write ns t a from to = MakesWrite a.heritage ns t a.code from to

abbrev pub tree_change : Names → List Instr → List Instr → List Instr → List Instr → Tree → Form
tree_change ns alters ends alters_item ends_item t a from to =
    MakesChange a.heritage ns t a.code (Line a.code alters) (Line a.code ends) (Line a.code alters_item) (Line a.code ends_item) from to

pub made_write : {l : Plan} {old new : Sketch} (ns : Names) (e : Expr) (t : Tree) → tree_of e ≡ t → Adds l (tree_write ns t) old new → Adds l (of_write ns e) old new
made_write {l} {old} {new} ns e t h w = subst (λ x. Adds l (tree_write ns x) old new) (sym h) w

pub made_change : {l : Plan} {old new : Sketch} (ns : Names) (i j k m : List Instr) (e : Expr) (t : Tree) → tree_of e ≡ t → Adds l (tree_change ns i j k m t) old new → Adds l (of_change ns e i j k m) old new
made_change {l} {old} {new} ns i j k m e t h w = subst (λ x. Adds l (tree_change ns i j k m x) old new) (sym h) w
