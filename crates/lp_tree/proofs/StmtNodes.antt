-- The tree of each form of a statement.
use Rattle.std.proofs.Common.{◌≡◌, ℕ, List, [], ◌∷◌, map, Option, Some, None, Vec, Box, refl, sym, ap, ◌∙◌, option_map}
use Rattle.std.specs.declared.alloc.Global.{Global}
use Rattle.lp_tree.specs.declared.expr.Expr.{Expr}
use Rattle.lp_tree.specs.declared.stmt.Each.{Each}
use Rattle.lp_tree.specs.declared.stmt.Init.{Init}
use Rattle.lp_tree.specs.declared.stmt.Label.{Label}
use Rattle.lp_tree.specs.declared.stmt.Local.{Local}
use Rattle.lp_tree.specs.declared.stmt.Part.{Part}
use Rattle.lp_tree.specs.declared.stmt.Part.TheVariants as parts
use Rattle.lp_tree.specs.declared.stmt.Stmt.{Stmt}
use Rattle.lp_tree.specs.declared.stmt.Stmt.TheVariants as variants
use Rattle.lp_tree.specs.declared.stmt.Stmt.TheVariants.{rolls-Block, rolls-Empty, rolls-Run, rolls-Declares, rolls-If, rolls-While, rolls-DoWhile, rolls-For, rolls-Foreach, rolls-Switch, rolls-Break, rolls-Continue, rolls-Return}
use Rattle.lp_tree.specs.declared.stmt.Stmt.TheOpen as layer
use Rattle.lp_tree.specs.declared.stmt.Stmt.TheFolds.{fold-roll-Stmt}
use Rattle.lp_tree.specs.Statements.{StmtTree, Block, Empty, Run, Declares, If, While, DoWhile, For, Foreach, Switch, Break, Continue, Return, NoElse, Else, LabelPart, StmtPart}
use Rattle.lp_tree.specs.TreeView.{tree_of}
use Rattle.lp_tree.specs.StatementView.{stmt_of, layer_stmt, stmt_trees, local_of, init_of, part_of, part_trees}
use Rattle.lp_tree.specs.Pieces.{parts_of}

pub block_tree : (line : ℕ) (ss : Vec Stmt Global) → stmt_of (variants.Block line ss) ≡ Block line (stmt_trees (map stmt_of ss.items))
block_tree line ss = ap stmt_of (sym (rolls-Block line ss)) ∙ fold-roll-Stmt StmtTree layer_stmt (layer.Block line ss)

pub empty_tree : (line : ℕ) → stmt_of (variants.Empty line) ≡ Empty line
empty_tree line = ap stmt_of (sym (rolls-Empty line)) ∙ fold-roll-Stmt StmtTree layer_stmt (layer.Empty line)

pub run_tree : (line : ℕ) (e : Expr) → stmt_of (variants.Run line e) ≡ Run line (tree_of e)
run_tree line e = ap stmt_of (sym (rolls-Run line e)) ∙ fold-roll-Stmt StmtTree layer_stmt (layer.Run line e)

pub declares_tree : (line : ℕ) (d : Local) → stmt_of (variants.Declares line d) ≡ Declares line (local_of d)
declares_tree line d = ap stmt_of (sym (rolls-Declares line d)) ∙ fold-roll-Stmt StmtTree layer_stmt (layer.Declares line d)

pub else_tree : (line : ℕ) (e : Expr) (y n : Box Stmt Global) → stmt_of (variants.If line e y (Some n)) ≡ If line (tree_of e) (stmt_of y.value) (Else (stmt_of n.value))
else_tree line e y n = ap stmt_of (sym (rolls-If line e y (Some n))) ∙ fold-roll-Stmt StmtTree layer_stmt (layer.If line e y (Some n))

pub if_tree : (line : ℕ) (e : Expr) (y : Box Stmt Global) → stmt_of (variants.If line e y None) ≡ If line (tree_of e) (stmt_of y.value) NoElse
if_tree line e y = ap stmt_of (sym (rolls-If line e y None)) ∙ fold-roll-Stmt StmtTree layer_stmt (layer.If line e y None)

pub while_tree : (line : ℕ) (e : Expr) (b : Box Stmt Global) → stmt_of (variants.While line e b) ≡ While line (tree_of e) (stmt_of b.value)
while_tree line e b = ap stmt_of (sym (rolls-While line e b)) ∙ fold-roll-Stmt StmtTree layer_stmt (layer.While line e b)

pub do_tree : (line : ℕ) (b : Box Stmt Global) (e : Expr) → stmt_of (variants.DoWhile line b e) ≡ DoWhile line (stmt_of b.value) (tree_of e)
do_tree line b e = ap stmt_of (sym (rolls-DoWhile line b e)) ∙ fold-roll-Stmt StmtTree layer_stmt (layer.DoWhile line b e)

pub for_tree : (line : ℕ) (i : Init) (t s : Option Expr) (b : Box Stmt Global) → stmt_of (variants.For line i t s b) ≡ For line (init_of i) (option_map tree_of t) (option_map tree_of s) (stmt_of b.value)
for_tree line i t s b = ap stmt_of (sym (rolls-For line i t s b)) ∙ fold-roll-Stmt StmtTree layer_stmt (layer.For line i t s b)

pub foreach_tree : (line : ℕ) (f : Each) (s : Option Each) (e : Expr) (b : Box Stmt Global) → stmt_of (variants.Foreach line f s e b) ≡ Foreach line f s (tree_of e) (stmt_of b.value)
foreach_tree line f s e b = ap stmt_of (sym (rolls-Foreach line f s e b)) ∙ fold-roll-Stmt StmtTree layer_stmt (layer.Foreach line f s e b)

pub break_tree : (line : ℕ) → stmt_of (variants.Break line) ≡ Break line
break_tree line = ap stmt_of (sym (rolls-Break line)) ∙ fold-roll-Stmt StmtTree layer_stmt (layer.Break line)

pub continue_tree : (line : ℕ) → stmt_of (variants.Continue line) ≡ Continue line
continue_tree line = ap stmt_of (sym (rolls-Continue line)) ∙ fold-roll-Stmt StmtTree layer_stmt (layer.Continue line)

pub return_tree : (line : ℕ) (e : Option Expr) → stmt_of (variants.Return line e) ≡ Return line (option_map tree_of e)
return_tree line e = ap stmt_of (sym (rolls-Return line e)) ∙ fold-roll-Stmt StmtTree layer_stmt (layer.Return line e)

-- the trees of parts, by what takes each part to its tree
parts_as : (F : Part Stmt → Part StmtTree) → ((k : Label) → F (parts.Label k) ≡ parts.Label k) → ((s : Stmt) → F (parts.Stmt s) ≡ parts.Stmt (stmt_of s)) → (ps : List (Part Stmt)) → part_trees (map F ps) ≡ parts_of ps
parts_as F f g [] = refl
parts_as F f g (parts.Label k ∷ ps) = ap (λ p. part_of p (part_trees (map F ps))) (f k) ∙ ap (LabelPart k) (parts_as F f g ps)
parts_as F f g (parts.Stmt s ∷ ps) = ap (λ p. part_of p (part_trees (map F ps))) (g s) ∙ ap (StmtPart (stmt_of s)) (parts_as F f g ps)

pub switch_tree : (line : ℕ) (e : Expr) (ps : Vec (Part Stmt) Global) → stmt_of (variants.Switch line e ps) ≡ Switch line (tree_of e) (parts_of ps.items)
switch_tree line e ps = ap stmt_of (sym (rolls-Switch line e ps)) ∙ fold-roll-Stmt StmtTree layer_stmt (layer.Switch line e ps) ∙ ap (Switch line (tree_of e)) (parts_as _ (λ k. refl) (λ s. refl) ps.items)
