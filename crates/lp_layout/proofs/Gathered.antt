-- The faults and the locals of statements are those of their pieces.
use Rattle.std.proofs.Common.{◌≡◌, ℕ, ◌+◌, refl, sym, ap, ◌∙◌, arith, List, [], ◌∷◌, ◌++◌, append_assoc, length, Option, Some, None}
use Rattle.lp_tree.specs.Statements.{DeclaratorTree, LocalTree, InitTree, Nothing, DeclaresFirst, RunsFirst, StmtTree, Block, Empty, Run, Declares, If, While, DoWhile, For, Foreach, Switch, Break, Continue, Return, StmtTrees, NoStmt, MoreStmts, ElseTree, NoElse, Else, PartTrees, NoPart, LabelPart, StmtPart}
use Rattle.lp_tree.specs.Trees.{Tree}
use Rattle.lp_types_expr.specs.declared.fault.FaultAt.{FaultAt}
use Rattle.lp_types_expr.specs.Walk.{Guilt, in_tree, in_optional}
use Rattle.lp_layout.specs.LayoutFaults.{declarators_calls, init_calls, stmt_calls, stmts_calls, else_calls, parts_calls, init_locals, stmt_locals, stmts_locals, else_locals, parts_locals}
use Rattle.lp_layout.specs.Pieces.{PieceTree, Locals, Runs, value_pieces, ones_pieces, local_pieces, init_pieces, stmt_pieces, stmts_pieces, else_pieces, parts_pieces, calls_in, locals_in}

no_more : {A : Type 0} (xs : List A) → xs ++ [] ≡ xs
no_more [] = refl
no_more (x ∷ xs) = ap (λ z. x ∷ z) (no_more xs)

pub calls_both : (f : Guilt) (ps qs : List PieceTree) → calls_in f (ps ++ qs) ≡ calls_in f ps ++ calls_in f qs
calls_both f [] qs = refl
calls_both f (Locals n ∷ ps) qs = calls_both f ps qs
calls_both f (Runs t ∷ ps) qs = ap (λ z. in_tree f t ++ z) (calls_both f ps qs) ∙ sym (append_assoc (in_tree f t) (calls_in f ps) (calls_in f qs))

-- pieces whose faults are known, one after another
both : (f : Guilt) (ps qs : List PieceTree) (a b : List FaultAt) → a ≡ calls_in f ps → b ≡ calls_in f qs → a ++ b ≡ calls_in f (ps ++ qs)
both f ps qs a b h k = ap (λ z. z ++ b) h ∙ ap (λ z. calls_in f ps ++ z) k ∙ sym (calls_both f ps qs)

value_calls : (f : Guilt) (v : Option Tree) → in_optional f v ≡ calls_in f (value_pieces v)
value_calls f None = refl
value_calls f (Some t) = sym (no_more (in_tree f t))

pub ones_calls : (f : Guilt) (ds : List DeclaratorTree) → declarators_calls f ds ≡ calls_in f (ones_pieces ds)
ones_calls f [] = refl
ones_calls f (d ∷ ds) = both f (value_pieces d.value) (ones_pieces ds) (in_optional f d.value) (declarators_calls f ds) (value_calls f d.value) (ones_calls f ds)

first_calls : (f : Guilt) (i : InitTree) → init_calls f i ≡ calls_in f (init_pieces i)
first_calls f Nothing = refl
first_calls f (DeclaresFirst d) = ones_calls f d.ones
first_calls f (RunsFirst e) = sym (no_more (in_tree f e))

if_calls : (f : Guilt) (e : Tree) (ps qs : List PieceTree) (a b : List FaultAt) → a ≡ calls_in f ps → b ≡ calls_in f qs → in_tree f e ++ a ++ b ≡ calls_in f (Runs e ∷ (ps ++ qs))
if_calls f e ps qs a b h k = ap (λ z. in_tree f e ++ z ++ b) h ∙ ap (λ z. in_tree f e ++ calls_in f ps ++ z) k ∙ append_assoc (in_tree f e) (calls_in f ps) (calls_in f qs) ∙ ap (λ z. in_tree f e ++ z) (sym (calls_both f ps qs))

for_calls : (f : Guilt) (ps qs rs ss : List PieceTree) (a b c d : List FaultAt) → a ≡ calls_in f ps → b ≡ calls_in f qs → c ≡ calls_in f rs → d ≡ calls_in f ss → a ++ b ++ c ++ d ≡ calls_in f ((ps ++ (qs ++ rs)) ++ ss)
for_calls f ps qs rs ss a b c d ha hb hc hd =
    ap (λ z. z ++ d) (append_assoc a b c) ∙ both f (ps ++ (qs ++ rs)) ss (a ++ (b ++ c)) d (both f ps (qs ++ rs) a (b ++ c) ha (both f qs rs b c hb hc)) hd

mutual
  of_stmt : (f : Guilt) (s : StmtTree) → stmt_calls f s ≡ calls_in f (stmt_pieces s)
  of_stmt f (Block line ss) = of_stmts f ss
  of_stmt f (Empty line) = refl
  of_stmt f (Run line e) = sym (no_more (in_tree f e))
  of_stmt f (Declares line d) = ones_calls f d.ones
  of_stmt f (If line e y n) = if_calls f e (stmt_pieces y) (else_pieces n) (stmt_calls f y) (else_calls f n) (of_stmt f y) (of_else f n)
  of_stmt f (While line e b) = ap (λ z. in_tree f e ++ z) (of_stmt f b)
  of_stmt f (DoWhile line b e) = both f (stmt_pieces b) (Runs e ∷ []) (stmt_calls f b) (in_tree f e) (of_stmt f b) (sym (no_more (in_tree f e)))
  of_stmt f (For line i t st b) = for_calls f (init_pieces i) (value_pieces t) (value_pieces st) (stmt_pieces b) (init_calls f i) (in_optional f t) (in_optional f st) (stmt_calls f b) (first_calls f i) (value_calls f t) (value_calls f st) (of_stmt f b)
  of_stmt f (Foreach line x y e b) = ap (λ z. in_tree f e ++ z) (of_stmt f b)
  of_stmt f (Switch line e ps) = ap (λ z. in_tree f e ++ z) (of_parts f ps)
  of_stmt f (Break line) = refl
  of_stmt f (Continue line) = refl
  of_stmt f (Return line e) = value_calls f e

  pub of_stmts : (f : Guilt) (ss : StmtTrees) → stmts_calls f ss ≡ calls_in f (stmts_pieces ss)
  of_stmts f NoStmt = refl
  of_stmts f (MoreStmts s ss) = both f (stmt_pieces s) (stmts_pieces ss) (stmt_calls f s) (stmts_calls f ss) (of_stmt f s) (of_stmts f ss)

  of_else : (f : Guilt) (n : ElseTree) → else_calls f n ≡ calls_in f (else_pieces n)
  of_else f NoElse = refl
  of_else f (Else s) = of_stmt f s

  of_parts : (f : Guilt) (ps : PartTrees) → parts_calls f ps ≡ calls_in f (parts_pieces ps)
  of_parts f NoPart = refl
  of_parts f (LabelPart k ps) = of_parts f ps
  of_parts f (StmtPart s ps) = both f (stmt_pieces s) (parts_pieces ps) (stmt_calls f s) (parts_calls f ps) (of_stmt f s) (of_parts f ps)

-- Locals

locals_both : (ps qs : List PieceTree) → locals_in (ps ++ qs) ≡ locals_in ps + locals_in qs
locals_both [] qs = let e : locals_in qs ≡ 0 + locals_in qs = omega arith in e
locals_both (Locals n ∷ ps) qs = let h : locals_in (ps ++ qs) ≡ locals_in ps + locals_in qs = locals_both ps qs in omega (arith, h)
locals_both (Runs t ∷ ps) qs = locals_both ps qs

sum : (ps qs : List PieceTree) (a b : ℕ) → a ≡ locals_in ps → b ≡ locals_in qs → a + b ≡ locals_in (ps ++ qs)
sum ps qs a b h k = let e : locals_in (ps ++ qs) ≡ locals_in ps + locals_in qs = locals_both ps qs in omega (arith, h, k, e)

value_locals : (v : Option Tree) → locals_in (value_pieces v) ≡ 0
value_locals None = refl
value_locals (Some t) = refl

ones_locals : (ds : List DeclaratorTree) → locals_in (ones_pieces ds) ≡ 0
ones_locals [] = refl
ones_locals (d ∷ ds) =
    let h : locals_in (value_pieces d.value) ≡ 0 = value_locals d.value in
    let k : locals_in (ones_pieces ds) ≡ 0 = ones_locals ds in
    let e : locals_in (value_pieces d.value ++ ones_pieces ds) ≡ locals_in (value_pieces d.value) + locals_in (ones_pieces ds) = locals_both (value_pieces d.value) (ones_pieces ds) in
    omega (arith, h, k, e)

local_count : (d : LocalTree) → length d.ones ≡ locals_in (local_pieces d)
local_count d = let h : locals_in (ones_pieces d.ones) ≡ 0 = ones_locals d.ones in omega (arith, h)

init_count : (i : InitTree) → init_locals i ≡ locals_in (init_pieces i)
init_count Nothing = refl
init_count (DeclaresFirst d) = local_count d
init_count (RunsFirst e) = refl

head_count : (i : InitTree) (t st : Option Tree) → init_locals i ≡ locals_in (init_pieces i ++ (value_pieces t ++ value_pieces st))
head_count i t st =
    let h : init_locals i ≡ locals_in (init_pieces i) = init_count i in
    let k : locals_in (value_pieces t) ≡ 0 = value_locals t in
    let l : locals_in (value_pieces st) ≡ 0 = value_locals st in
    let e : locals_in (value_pieces t ++ value_pieces st) ≡ locals_in (value_pieces t) + locals_in (value_pieces st) = locals_both (value_pieces t) (value_pieces st) in
    let g : locals_in (init_pieces i ++ (value_pieces t ++ value_pieces st)) ≡ locals_in (init_pieces i) + locals_in (value_pieces t ++ value_pieces st) = locals_both (init_pieces i) (value_pieces t ++ value_pieces st) in
    omega (arith, h, k, l, e, g)

mutual
  stmt_count : (s : StmtTree) → stmt_locals s ≡ locals_in (stmt_pieces s)
  stmt_count (Block line ss) = stmts_count ss
  stmt_count (Empty line) = refl
  stmt_count (Run line e) = refl
  stmt_count (Declares line d) = local_count d
  stmt_count (If line e y n) = sum (stmt_pieces y) (else_pieces n) (stmt_locals y) (else_locals n) (stmt_count y) (else_count n)
  stmt_count (While line e b) = stmt_count b
  stmt_count (DoWhile line b e) =
      let h : stmt_locals b ≡ locals_in (stmt_pieces b) = stmt_count b in
      let k : locals_in (stmt_pieces b ++ Runs e ∷ []) ≡ locals_in (stmt_pieces b) + 0 = locals_both (stmt_pieces b) (Runs e ∷ []) in
      omega (arith, h, k)
  stmt_count (For line i t st b) = sum (init_pieces i ++ (value_pieces t ++ value_pieces st)) (stmt_pieces b) (init_locals i) (stmt_locals b) (head_count i t st) (stmt_count b)
  stmt_count (Foreach line f st e b) = let h : stmt_locals b ≡ locals_in (stmt_pieces b) = stmt_count b in omega (arith, h)
  stmt_count (Switch line e ps) = parts_count ps
  stmt_count (Break line) = refl
  stmt_count (Continue line) = refl
  stmt_count (Return line e) = sym (value_locals e)

  pub stmts_count : (ss : StmtTrees) → stmts_locals ss ≡ locals_in (stmts_pieces ss)
  stmts_count NoStmt = refl
  stmts_count (MoreStmts s ss) = sum (stmt_pieces s) (stmts_pieces ss) (stmt_locals s) (stmts_locals ss) (stmt_count s) (stmts_count ss)

  else_count : (n : ElseTree) → else_locals n ≡ locals_in (else_pieces n)
  else_count NoElse = refl
  else_count (Else s) = stmt_count s

  parts_count : (ps : PartTrees) → parts_locals ps ≡ locals_in (parts_pieces ps)
  parts_count NoPart = refl
  parts_count (LabelPart k ps) = parts_count ps
  parts_count (StmtPart s ps) = sum (stmt_pieces s) (parts_pieces ps) (stmt_locals s) (parts_locals ps) (stmt_count s) (parts_count ps)
