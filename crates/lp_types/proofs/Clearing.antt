-- A unit without faults is clear.
use Rattle.std.proofs.Common.{◌≡◌, ℕ, refl, List, [], ◌∷◌, ◌++◌, ◌&&◌, ◌||◌, Bool, true, false, not}
use Rattle.std.specs.Prelude.{IsSome, Option, Some, None, is_some, if◌then◌else◌}
use Rattle.std.specs.List.{list_any}
use Rattle.lp_instr.specs.EfunList.{is_name}
use Rattle.lp_tree.specs.declared.fault.FaultKind.{FaultKind}
use Rattle.lp_tree.specs.declared.fault.FaultKind.TheVariants.{UnknownName, DoubleName, DoubleCase, BadReturn}
use Rattle.lp_tree.specs.declared.keyword.Base.{Base}
use Rattle.lp_tree.specs.declared.stmt.Each.{Each}
use Rattle.lp_tree.specs.declared.stmt.Label.{Label}
use Rattle.lp_tree.specs.declared.types.TypeName.{TypeName}
use Rattle.lp_tree.specs.Trees.{Tree}
use Rattle.lp_tree.specs.Statements.{DeclaratorTree, InitTree, Nothing, DeclaresFirst, RunsFirst, StmtTree, Block, Empty, Run, Declares, If, While, DoWhile, For, Foreach, Switch, Break, Continue, Return, StmtTrees, NoStmt, MoreStmts, ElseTree, NoElse, Else, PartTrees, NoPart, LabelPart, StmtPart}
use Rattle.lp_tree.specs.Units.{ItemTree, Inherit, Proto, Fun, Var}
use Rattle.lp_types_expr.specs.declared.local.Local.{Local}
use Rattle.lp_types_expr.specs.Clear.{IsClear}
use Rattle.lp_types_expr.specs.ExprFaults.{when, guilt, assignments, assignments_if, expr_faults, expr_faults_if}
use Rattle.lp_types_expr.specs.Known.{Around, is_strong, variable_kind}
use Rattle.lp_types_expr.specs.Scopes.{Scope, visible, inside, declaring, is_double}
use Rattle.lp_types_expr.specs.Signatures.{inherited_kind}
use Rattle.lp_types_expr.specs.Walk.{all_at, at_first, behind_first}
use Rattle.lp_types_expr.proofs.Clearing.{clear, faultless}
use Rattle.lp_types.specs.Clear.{IsClearIf, AreClearOnes, IsClearInit, IsClearEach, IsClearSecond, IsApart, IsClearStmt, AreClearStmts, IsClearElse, AreClearParts, AreClearGlobals, AreClearItems}
use Rattle.lp_types.specs.TypeFaults.{kind_with, local_of, initialiser_kinds, declarators_assignments, declarators_faults, behind, declares_first, declares_each, declares_second, each_faults, second_faults, init_assignments, init_faults, overlap, label_line, label_faults, is_bad_return, type_if, stmt_faults, stmts_faults, else_faults, parts_faults, missing_type, params_faults, body_scope, global_faults, globals_faults, names_of, items_faults}

-- two lists that are nothing together
split : {A : Type 0} (xs ys : List A) → xs ++ ys ≡ [] → (xs ≡ []) × (ys ≡ [])
split [] ys h = (refl, h)
split (x ∷ xs) ys h = absurd (cc)

no_kinds : (line : ℕ) (ks : List FaultKind) → all_at line ks ≡ [] → ks ≡ []
no_kinds line [] h = refl
no_kinds line (k ∷ ks) h = absurd (cc)

-- expressions
one_if : (a : Around) (ls : List Local) (t : Option Tree) → expr_faults_if a ls t ≡ [] → IsClearIf a ls t
one_if a ls None h = tt
one_if a ls (Some t) h = faultless a ls t h

run : (a : Around) (ls : List Local) (line : ℕ) (e : Tree) → all_at line (at_first (guilt a ls) e ++ assignments a ls e) ++ behind_first (guilt a ls) e ≡ [] → IsClear a ls e
run a ls line e h =
    let p = split (all_at line (at_first (guilt a ls) e ++ assignments a ls e)) (behind_first (guilt a ls) e) h in
    let q = split (at_first (guilt a ls) e) (assignments a ls e) (no_kinds line (at_first (guilt a ls) e ++ assignments a ls e) p.0) in
    clear a ls e q.0 p.1

test : (a : Around) (ls : List Local) (line : ℕ) (e : Tree) → all_at line (assignments a ls e) ++ expr_faults a ls e ≡ [] → IsClear a ls e
test a ls line e h = faultless a ls e (split (all_at line (assignments a ls e)) (expr_faults a ls e) h).1

-- declarations
ones : (a : Around) (sc : Scope) (base : Base) (ds : List DeclaratorTree) → declarators_faults a sc base ds ≡ [] → AreClearOnes a sc base ds
ones a sc base [] h = tt
ones a sc base (d ∷ ds) h =
    let next = declaring sc (local_of base d ∷ []) in
    let own = all_at d.line (initialiser_kinds a (visible sc) (kind_with base d) d.value ++ when (is_double sc d.name) DoubleName) in
    let p = split (own ++ expr_faults_if a (visible sc) d.value) (declarators_faults a next base ds) h in
    (one_if a (visible sc) d.value (split own (expr_faults_if a (visible sc) d.value) p.0).1, ones a next base ds p.1)

init : (a : Around) (sc : Scope) (i : InitTree) → init_faults a sc i ≡ [] → IsClearInit a sc i
init a sc Nothing h = tt
init a sc (DeclaresFirst d) h = ones a sc d.base d.ones h
init a sc (RunsFirst e) h = faultless a (visible sc) e h

-- variables of a `foreach`
each_kinds : (ty : Option TypeName) (b : Bool) (o : Option TypeName) → (if is_some ty then when b DoubleName else when (not (is_some o)) UnknownName) ≡ [] → ty ≡ None → IsSome o
each_kinds None b None h n = absurd (cc)
each_kinds None b (Some x) h n = refl
each_kinds (Some ty) b o h n = absurd (cc)

each : (a : Around) (sc : Scope) (e : Each) → each_faults a sc e ≡ [] → IsClearEach a sc e
each a sc e h =
    each_kinds e.type_name (is_double sc e.name) (variable_kind a (visible sc) e.name)
    (no_kinds e.line (if is_some e.type_name then when (is_double sc e.name) DoubleName else when (not (is_some (variable_kind a (visible sc) e.name))) UnknownName) h)

second : (a : Around) (sc : Scope) (e : Option Each) → second_faults a sc e ≡ [] → IsClearSecond a sc e
second a sc None h = tt
second a sc (Some e) h = each a sc e h

-- labels
not_told : (b : Bool) → when b DoubleCase ≡ [] → b ≡ false
not_told true h = absurd (cc)
not_told false h = refl

label : (earlier : List Label) (k : Label) → label_faults earlier k ≡ [] → IsApart earlier k
label earlier k h = not_told (list_any (overlap k) earlier) (no_kinds (label_line k) (when (list_any (overlap k) earlier) DoubleCase) h)

-- statements
mutual
  pub stmt : (a : Around) (sc : Scope) (s : StmtTree) → stmt_faults a sc s ≡ [] → IsClearStmt a sc s
  stmt a sc (Block line ss) h = stmts a (inside sc) ss h
  stmt a sc (Empty line) h = tt
  stmt a sc (Run line e) h = run a (visible sc) line e h
  stmt a sc (Declares line d) h = ones a sc d.base d.ones (split (all_at line (declarators_assignments a sc d.base d.ones)) (declarators_faults a sc d.base d.ones) h).1
  stmt a sc (If line e y n) h =
      let first = all_at line (assignments a (visible sc) e) ++ expr_faults a (visible sc) e in
      let p = split (first ++ stmt_faults a sc y) (else_faults a (behind sc y) n) h in
      let q = split first (stmt_faults a sc y) p.0 in
      (test a (visible sc) line e q.0, (stmt a sc y q.1, other a (behind sc y) n p.1))
  stmt a sc (While line e b) h =
      let p = split (all_at line (assignments a (visible sc) e) ++ expr_faults a (visible sc) e) (stmt_faults a sc b) h in
      (test a (visible sc) line e p.0, stmt a sc b p.1)
  stmt a sc (DoWhile line b e) h =
      let ls = visible (behind sc b) in
      let own = all_at line (assignments a ls e) in
      let p = split (own ++ stmt_faults a sc b) (expr_faults a ls e) h in
      (stmt a sc b (split own (stmt_faults a sc b) p.0).1, faultless a ls e p.1)
  stmt a sc (For line i t st b) h =
      let next = declaring (inside sc) (declares_first i) in
      let ls = visible next in
      let own = all_at line (init_assignments a (inside sc) i ++ assignments_if a ls t ++ assignments_if a ls st) in
      let s = split (own ++ init_faults a (inside sc) i ++ expr_faults_if a ls t ++ expr_faults_if a ls st) (stmt_faults a next b) h in
      let r = split (own ++ init_faults a (inside sc) i ++ expr_faults_if a ls t) (expr_faults_if a ls st) s.0 in
      let q = split (own ++ init_faults a (inside sc) i) (expr_faults_if a ls t) r.0 in
      let p = split own (init_faults a (inside sc) i) q.0 in
      (init a (inside sc) i p.1, (one_if a ls t q.1, (one_if a ls st r.1, stmt a next b s.1)))
  stmt a sc (Foreach line f st e b) h =
      let one = declaring (inside sc) (declares_each f) in
      let next = declaring (inside sc) (declares_each f ++ declares_second st) in
      let own = all_at line (assignments a (visible sc) e) in
      let s = split (own ++ each_faults a (inside sc) f ++ second_faults a one st ++ expr_faults a (visible sc) e) (stmt_faults a next b) h in
      let r = split (own ++ each_faults a (inside sc) f ++ second_faults a one st) (expr_faults a (visible sc) e) s.0 in
      let q = split (own ++ each_faults a (inside sc) f) (second_faults a one st) r.0 in
      let p = split own (each_faults a (inside sc) f) q.0 in
      (each a (inside sc) f p.1, (second a one st q.1, (faultless a (visible sc) e r.1, stmt a next b s.1)))
  stmt a sc (Switch line e ps) h =
      let p = split (all_at line (assignments a (visible sc) e) ++ expr_faults a (visible sc) e) (parts_faults a (inside sc) [] ps) h in
      (test a (visible sc) line e p.0, parts a (inside sc) [] ps p.1)
  stmt a sc (Break line) h = tt
  stmt a sc (Continue line) h = tt
  stmt a sc (Return line e) h =
      one_if a (visible sc) e (split (all_at line (assignments_if a (visible sc) e ++ when (is_strong a.mode && is_bad_return sc.answer (type_if a (visible sc) e)) BadReturn)) (expr_faults_if a (visible sc) e) h).1

  pub stmts : (a : Around) (sc : Scope) (ss : StmtTrees) → stmts_faults a sc ss ≡ [] → AreClearStmts a sc ss
  stmts a sc NoStmt h = tt
  stmts a sc (MoreStmts s ss) h = let p = split (stmt_faults a sc s) (stmts_faults a (behind sc s) ss) h in (stmt a sc s p.0, stmts a (behind sc s) ss p.1)

  other : (a : Around) (sc : Scope) (n : ElseTree) → else_faults a sc n ≡ [] → IsClearElse a sc n
  other a sc NoElse h = tt
  other a sc (Else s) h = stmt a sc s h

  parts : (a : Around) (sc : Scope) (earlier : List Label) (ps : PartTrees) → parts_faults a sc earlier ps ≡ [] → AreClearParts a sc earlier ps
  parts a sc earlier NoPart h = tt
  parts a sc earlier (LabelPart k ps) h = let p = split (label_faults earlier k) (parts_faults a sc (k ∷ earlier) ps) h in (label earlier k p.0, parts a sc (k ∷ earlier) ps p.1)
  parts a sc earlier (StmtPart s ps) h = let p = split (stmt_faults a sc s) (parts_faults a (behind sc s) earlier ps) h in (stmt a sc s p.0, parts a (behind sc s) earlier ps p.1)

-- globals and items
globals : (a : Around) (earlier : List (List ℕ)) (base : Base) (ds : List DeclaratorTree) → globals_faults a earlier base ds ≡ [] → AreClearGlobals a ds
globals a earlier base [] h = tt
globals a earlier base (d ∷ ds) h =
    let own = all_at d.line (initialiser_kinds a [] (kind_with base d) d.value ++ assignments_if a [] d.value ++ when (list_any (is_name d.name) earlier || is_some (inherited_kind a.parents d.name)) DoubleName) in
    let p = split (global_faults a earlier base d) (globals_faults a (d.name ∷ earlier) base ds) h in
    (one_if a [] d.value (split own (expr_faults_if a [] d.value) p.0).1, globals a (d.name ∷ earlier) base ds p.1)

pub items : (a : Around) (funs vars : List (List ℕ)) (is : List ItemTree) → items_faults a funs vars is ≡ [] → AreClearItems a is
items a funs vars [] h = tt
items a funs vars (Inherit line path ∷ is) h = items a funs vars is h
items a funs vars (Proto line ms ty w ps ∷ is) h = items a funs vars is (split (all_at line (missing_type a ty) ++ params_faults a [] ps) (items_faults a funs vars is) h).1
items a funs vars (Fun line ms ty w ps b ∷ is) h =
    let rest = items_faults a (w ∷ funs) vars is in
    let body = stmts_faults a (body_scope ty ps) b.stmts in
    let head = all_at line (missing_type a ty ++ when (list_any (is_name w) funs) DoubleName) ++ params_faults a [] ps in
    let p = split (head ++ body) rest h in
    (stmts a (body_scope ty ps) b.stmts (split head body p.0).1, items a (w ∷ funs) vars is p.1)
items a funs vars (Var line ms base ds ∷ is) h =
    let p = split (globals_faults a vars base ds) (items_faults a funs (names_of ds ++ vars) is) h in
    (globals a vars base ds p.0, items a funs (names_of ds ++ vars) is p.1)
