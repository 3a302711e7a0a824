-- The faults of statements, one after another.
use Rattle.std.proofs.Common.{◌≡◌, ℕ, List, [], ◌∷◌, ◌++◌, ◌||◌, refl, sym, ap, ◌∙◌}
use Rattle.std.proofs.lemmas.List.{append-nil}
use Rattle.lp_tree.specs.declared.fault.FaultKind.TheVariants.{DoubleCase}
use Rattle.lp_tree.specs.declared.stmt.Label.{Label}
use Rattle.lp_tree.specs.Trees.{Tree}
use Rattle.lp_tree.specs.Statements.{StmtTree, StmtTrees, NoStmt, MoreStmts, PartTrees, NoPart, LabelPart, StmtPart, If, NoElse, Else, DoWhile}
use Rattle.lp_types_expr.specs.declared.fault.FaultAt.{FaultAt}
use Rattle.lp_types_expr.specs.declared.local.Local.{Local}
use Rattle.lp_types_expr.specs.ExprFaults.{when, assignments, expr_faults}
use Rattle.lp_types_expr.specs.Known.{Around}
use Rattle.lp_types_expr.specs.Scopes.{Scope, visible, inside, declaring}
use Rattle.lp_types_expr.specs.Walk.{all_at}
use Rattle.lp_types.specs.declared.labels.Labels.{Labels}
use Rattle.lp_types.specs.Labels.{Knows, TellsLabel}
use Rattle.lp_types.specs.Loops.{InStmts, InParts}
use Rattle.lp_types.specs.Pieces.{IsWithin, test_faults}
use Rattle.lp_types.specs.TypeFaults.{behind, declares, stmt_faults, stmts_faults, parts_faults, label_faults, label_line, overlap}
use Rattle.lp_types.proofs.Adding.{then, consumed}
use Rattle.lp_types.proofs.Seen.{declaring_twice, declaring_none}

-- the tree of a statement, in what is told of it
pub told_as : (a : Around) (sc : Scope) (o n : List FaultAt) {s t : StmtTree} → s ≡ t → n ≡ o ++ stmt_faults a sc t → n ≡ o ++ stmt_faults a sc s
told_as a sc o n e h = h ∙ ap (λ x. o ++ stmt_faults a sc x) (sym e)

pub behind_as : (sc tc : Scope) {s t : StmtTree} → s ≡ t → tc ≡ behind sc t → tc ≡ behind sc s
behind_as sc tc e h = h ∙ ap (behind sc) (sym e)

-- a statement that declares nothing
pub stays : (sc tc : Scope) → tc ≡ sc → tc ≡ declaring sc []
stays sc tc e = e ∙ sym (declaring_none sc)

within_more : (sc mid now : Scope) (ls : List Local) → IsWithin sc mid → now ≡ declaring mid ls → IsWithin sc now
within_more sc mid now ls w e = record { more = w.more ++ ls; scope = e ∙ ap (λ s. declaring s ls) w.scope ∙ declaring_twice sc w.more ls }

pub in_none : (a : Around) (sc : Scope) (f : List FaultAt) (all : StmtTrees) → InStmts a sc sc f f all all
in_none a sc f all = record { within = record { more = []; scope = sym (declaring_none sc) }; faults = refl }

pub in_more : (a : Around) (first now next : Scope) (before told new : List FaultAt) (all ss : StmtTrees) (s : StmtTree)
    → InStmts a first now before told all (MoreStmts s ss) → new ≡ told ++ stmt_faults a now s → next ≡ behind now s → InStmts a first next before new all ss
in_more a first now next before told new all ss s w f e = record {
  within = within_more first now next (declares s) w.within e;
  faults = w.faults ∙ consumed told (stmt_faults a now s) (stmts_faults a (behind now s) ss) new f ∙ ap (λ x. new ++ stmts_faults a x ss) (sym e);
}

pub in_all : (a : Around) (first now : Scope) (before told : List FaultAt) (all : StmtTrees) → InStmts a first now before told all NoStmt → told ≡ before ++ stmts_faults a first all
in_all a first now before told all w = sym (w.faults ∙ append-nil told)

pub parts_none : (a : Around) (sc : Scope) (f : List FaultAt) (all : PartTrees) (ls : Labels) → Knows ls [] → InParts a sc sc f f all all ls
parts_none a sc f all ls k = record { within = record { more = []; scope = sym (declaring_none sc) }; earlier = []; knows = k; faults = refl }

pub parts_stmt : (a : Around) (first now next : Scope) (before told new : List FaultAt) (all ps : PartTrees) (s : StmtTree) (ls : Labels)
    → InParts a first now before told all (StmtPart s ps) ls → new ≡ told ++ stmt_faults a now s → next ≡ behind now s → InParts a first next before new all ps ls
parts_stmt a first now next before told new all ps s ls w f e = record {
  within = within_more first now next (declares s) w.within e;
  earlier = w.earlier;
  knows = w.knows;
  faults = w.faults ∙ consumed told (stmt_faults a now s) (parts_faults a (behind now s) w.earlier ps) new f ∙ ap (λ x. new ++ parts_faults a x w.earlier ps) (sym e);
}

pub parts_label : (a : Around) (first now : Scope) (before told new : List FaultAt) (all ps : PartTrees) (k : Label) (ls ms : Labels)
    → InParts a first now before told all (LabelPart k ps) ls → TellsLabel k ls ms told new → InParts a first now before new all ps ms
parts_label a first now before told new all ps k ls ms w t = record {
  within = w.within;
  earlier = k ∷ w.earlier;
  knows = record { summed = t.summed; met = λ j. t.met j ∙ ap (λ b. overlap j k || b) (w.knows.met j) };
  faults = w.faults ∙ consumed told (label_faults w.earlier k) (parts_faults a now (k ∷ w.earlier) ps) new (t.faults ∙ ap (λ b. told ++ all_at (label_line k) (when b DoubleCase)) (w.knows.met k));
}

pub parts_all : (a : Around) (first now : Scope) (before told : List FaultAt) (all : PartTrees) (ls : Labels) → InParts a first now before told all NoPart ls → told ≡ before ++ parts_faults a first [] all
parts_all a first now before told all ls w = sym (w.faults ∙ append-nil told) ∙ refl

-- `if`, with its other branch and without
pub if_told : (a : Around) (sc mid : Scope) (line : ℕ) (e : Tree) (y : StmtTree) (o m n : List FaultAt)
    → m ≡ o ++ test_faults a sc line e → n ≡ m ++ stmt_faults a sc y → n ≡ o ++ stmt_faults a sc (If line e y NoElse)
if_told a sc mid line e y o m n f g = then _ _ _ f g ∙ ap (λ l. o ++ l) (sym (append-nil (test_faults a sc line e ++ stmt_faults a sc y)))

pub if_behind : (sc tc : Scope) (line : ℕ) (e : Tree) (y : StmtTree) → tc ≡ behind sc y → tc ≡ behind sc (If line e y NoElse)
if_behind sc tc line e y h = h ∙ ap (declaring sc) (sym (append-nil (declares y)))

pub else_told : (a : Around) (sc mid : Scope) (line : ℕ) (e : Tree) (y z : StmtTree) (o m n p : List FaultAt)
    → m ≡ o ++ test_faults a sc line e → n ≡ m ++ stmt_faults a sc y → mid ≡ behind sc y → p ≡ n ++ stmt_faults a mid z → p ≡ o ++ stmt_faults a sc (If line e y (Else z))
else_told a sc mid line e y z o m n p f g s h = then _ _ _ (then _ _ _ f g) (h ∙ ap (λ x. n ++ stmt_faults a x z) s)

pub else_behind : (sc mid tc : Scope) (line : ℕ) (e : Tree) (y z : StmtTree) → mid ≡ behind sc y → tc ≡ behind mid z → tc ≡ behind sc (If line e y (Else z))
else_behind sc mid tc line e y z s h = h ∙ ap (λ x. behind x z) s ∙ declaring_twice sc (declares y) (declares z)

-- `do`
pub do_told : (a : Around) (sc tc : Scope) (line : ℕ) (b : StmtTree) (e : Tree) (o m n p inner : List FaultAt)
    → inner ≡ stmt_faults a sc b → tc ≡ behind sc b → m ≡ o ++ all_at line (assignments a (visible tc) e) → n ≡ m ++ inner → p ≡ n ++ expr_faults a (visible tc) e → p ≡ o ++ stmt_faults a sc (DoWhile line b e)
do_told a sc tc line b e o m n p inner i s f g h =
    then _ _ _ (then _ _ _ (f ∙ ap (λ x. o ++ all_at line (assignments a (visible x) e)) s) (g ∙ ap (λ l. m ++ l) i)) (h ∙ ap (λ x. n ++ expr_faults a (visible x) e) s)

-- a block, a `for`, a `foreach` and a `switch`, whose scopes begin and end with them
pub inside_left : (before now : Scope) (ls : List Local) (s : StmtTree) (mid : Scope) → mid ≡ declaring (inside before) ls → now ≡ behind mid s → now ≡ declaring (inside before) (ls ++ declares s)
inside_left before now ls s mid e h = h ∙ ap (λ x. behind x s) e ∙ declaring_twice (inside before) ls (declares s)
