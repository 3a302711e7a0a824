-- In a unit without faults each call of an efun has a number of arguments that it allows.
use Rattle.std.proofs.Common.{◌≡◌, ℕ, suc, refl, ap, ◌∙◌, subst, List, [], ◌∷◌, ◌++◌, length, map, ◌&&◌, ◌||◌, Bool, true, false, not, Option, Some, None}
use Rattle.std.specs.Prelude.{is_some, nat_le}
use Rattle.std.specs.List.{list_any}
use Rattle.std.proofs.lemmas.Bool.{leb-true}
use Rattle.lp_instr.specs.declared.efun.Efun.{Efun}
use Rattle.lp_instr.specs.EfunList.{Allows, IsAtMost, arity, efun_named, is_name}
use Rattle.lp_tree.specs.declared.fault.FaultKind.{FaultKind}
use Rattle.lp_tree.specs.declared.fault.FaultKind.TheVariants.{DoubleName, BadReturn, WrongCount}
use Rattle.lp_tree.specs.declared.keyword.Base.{Base}
use Rattle.lp_tree.specs.declared.keyword.Modifier.{Modifier}
use Rattle.lp_tree.specs.declared.stmt.Label.{Label}
use Rattle.lp_tree.specs.Trees.{Tree, Int, Text, Name, Paren, Array, Mapping, Call, EfunCall, ParentCall, NamedParentCall, Catch, Sscanf, Index, Range, CallOther, PostStep, PreStep, Unary, Cast, Binary, AndThen, OrElse, Cond, Assign, Sequence, Trees, NoTree, OneMore, Pairs, NoPair, OnePair, End, Open, At, line_of}
use Rattle.lp_tree.specs.Statements.{DeclaratorTree, InitTree, Nothing, DeclaresFirst, RunsFirst, StmtTree, Block, Empty, Run, Declares, If, While, DoWhile, For, Foreach, Switch, Break, Continue, Return, StmtTrees, NoStmt, MoreStmts, ElseTree, NoElse, Else, PartTrees, NoPart, LabelPart, StmtPart}
use Rattle.lp_tree.specs.Units.{ItemTree, Inherit, Proto, Fun, Var}
use Rattle.lp_language.specs.Eval.{tree_count}
use Rattle.lp_language.specs.Resolve.{Variable, own_variables}
use Rattle.lp_language.specs.Scope.{Callee, AFunction, ASimul, AnEfun, Nobody, as_efun}
use Rattle.lp_isa.specs.Programs.{own_functions}
use Rattle.lp_types_expr.specs.declared.local.Local.{Local}
use Rattle.lp_types_expr.specs.ExprFaults.{when, guilt, call_kinds, types_of, assignments, assignments_if, expr_faults, expr_faults_if}
use Rattle.lp_types_expr.specs.Known.{Around, allows, is_at_most, is_strong, plain_callee}
use Rattle.lp_types_expr.specs.Known as kinds
use Rattle.lp_types_expr.specs.Scopes.{Scope, visible, inside, declaring, is_double}
use Rattle.lp_types_expr.specs.Signatures.{inherited_kind}
use Rattle.lp_types_expr.specs.Walk.{all_at, at_first, behind_first}
use Rattle.lp_types.specs.TypeFaults.{kind_with, local_of, initialiser_kinds, declarators_assignments, declarators_faults, behind, declares_first, declares_each, declares_second, each_faults, second_faults, init_assignments, init_faults, label_faults, is_bad_return, type_if, stmt_faults, stmts_faults, else_faults, parts_faults, missing_type, params_faults, body_scope, global_faults, globals_faults, names_of, items_faults}
use Rattle.lp_sound_laws.specs.Counted.{AllCounted, Counted, CountedIf, ElseCounted, EndCounted, FunctionsCounted, InitCounted, IsAllowed, OnesCounted, PairsCounted, PartsCounted, StmtCounted, StmtsCounted, VariablesCounted}
use Rattle.lp_codegen_layout.specs.Each.{Each, EachOf, EachOfEnd, EachOfPairs}
use Rattle.lp_unit_laws.specs.Arguments.{KnowsEfuns, WellTypedIsCounted}
use Rattle.lp_codegen_layout.proofs.Each.{Innocent, innocent}

-- two lists that are nothing together
split : {A : Type 0} (xs ys : List A) → xs ++ ys ≡ [] → (xs ≡ []) × (ys ≡ [])
split [] ys h = (refl, h)
split (x ∷ xs) ys h = absurd cc

no_kinds : (line : ℕ) (ks : List FaultKind) → all_at line ks ≡ [] → ks ≡ []
no_kinds line [] h = refl
no_kinds line (k ∷ ks) h = absurd cc

-- A number of arguments that is no fault.
not_told : (b : Bool) → when (not b) WrongCount ≡ [] → b ≡ true
not_told true h = refl
not_told false h = absurd cc

both_true : (a b : Bool) → (a && b) ≡ true → (a ≡ true) × (b ≡ true)
both_true true true e = (refl, refl)
both_true true false e = absurd cc
both_true false b e = absurd cc

at_most : (n : ℕ) (o : Option ℕ) → is_at_most n o ≡ true → IsAtMost n o
at_most n None h = tt
at_most n (Some m) h = leb-true n m h

allowed : (e : Efun) (n : ℕ) → allows e n ≡ true → Allows e n
allowed e n h = let q = both_true (nat_le (arity e).least n) (is_at_most n (arity e).most) h in (leb-true (arity e).least n q.0, at_most n (arity e).most q.1)

count_types : (a : Around) (ls : List Local) (ts : Trees) → length (types_of a ls ts) ≡ tree_count ts
count_types a ls NoTree = refl
count_types a ls (OneMore t ts) = ap suc (count_types a ls ts)

efun_allowed : (strong : Bool) (e : Efun) (a : Around) (ls : List Local) (ts : Trees) → call_kinds strong (kinds.AnEfun e) (types_of a ls ts) ≡ [] → Allows e (tree_count ts)
efun_allowed strong e a ls ts h = subst (Allows e) (count_types a ls ts) (allowed e (length (types_of a ls ts)) (not_told (allows e (length (types_of a ls ts))) h))

module _ (c : List ℕ → Callee) (a : Around) (knows : KnowsEfuns c a) where
  call_allowed : (ls : List Local) (w : List ℕ) (ts : Trees) → call_kinds (is_strong a.mode) (plain_callee a w) (types_of a ls ts) ≡ [] → (x : Callee) → c w ≡ x → IsAllowed x (tree_count ts)
  call_allowed ls w ts h AFunction e = tt
  call_allowed ls w ts h ASimul e = tt
  call_allowed ls w ts h Nobody e = tt
  call_allowed ls w ts h (AnEfun f) e =
      efun_allowed (is_strong a.mode) f a ls ts (subst (λ k. call_kinds (is_strong a.mode) k (types_of a ls ts) ≡ []) (knows w f e) h)

  efun_call_allowed : (ls : List Local) (ts : Trees) (o : Option Efun) → call_kinds (is_strong a.mode) (kinds.as_efun o) (types_of a ls ts) ≡ [] → IsAllowed (as_efun o) (tree_count ts)
  efun_call_allowed ls ts None h = tt
  efun_call_allowed ls ts (Some e) h = efun_allowed (is_strong a.mode) e a ls ts h

  mutual
    counted : (ls : List Local) (t : Tree) → Each (Innocent (guilt a ls)) t → Counted c t
    counted ls (Int line n) h = tt
    counted ls (Text line w) h = tt
    counted ls (Name line w) h = tt
    counted ls (Paren line t) h = counted ls t h.1
    counted ls (Array line ts) h = all_counted ls ts h.1
    counted ls (Mapping line ps) h = pairs_counted ls ps h.1
    counted ls (Call line w ts) h = (call_allowed ls w ts h.0 (c w) refl, all_counted ls ts h.1)
    counted ls (EfunCall line w ts) h = (efun_call_allowed ls ts (efun_named w) h.0, all_counted ls ts h.1)
    counted ls (ParentCall line w ts) h = all_counted ls ts h.1
    counted ls (NamedParentCall line p w ts) h = all_counted ls ts h.1
    counted ls (Catch line t) h = counted ls t h.1
    counted ls (Sscanf line t f ps) h = (counted ls t h.1, counted ls f h.2, all_counted ls ps h.3)
    counted ls (Index line t e i) h = (counted ls t h.1, counted ls i h.2)
    counted ls (Range line t x y) h = (counted ls t h.1, end_counted ls x h.2, end_counted ls y h.3)
    counted ls (CallOther line t w ts) h = (counted ls t h.1, all_counted ls ts h.2)
    counted ls (PostStep line s t) h = counted ls t h.1
    counted ls (PreStep line s t) h = counted ls t h.1
    counted ls (Unary line op t) h = counted ls t h.1
    counted ls (Cast line ty t) h = counted ls t h.1
    counted ls (Binary line op x y) h = (counted ls x h.1, counted ls y h.2)
    counted ls (AndThen line x y) h = (counted ls x h.1, counted ls y h.2)
    counted ls (OrElse line x y) h = (counted ls x h.1, counted ls y h.2)
    counted ls (Cond line t y n) h = (counted ls t h.1, counted ls y h.2, counted ls n h.3)
    counted ls (Assign line op p v) h = (counted ls p h.1, counted ls v h.2)
    counted ls (Sequence line ts) h = all_counted ls ts h.1

    all_counted : (ls : List Local) (ts : Trees) → EachOf (Innocent (guilt a ls)) ts → AllCounted c ts
    all_counted ls NoTree h = tt
    all_counted ls (OneMore t ts) h = (counted ls t h.0, all_counted ls ts h.1)

    pairs_counted : (ls : List Local) (ps : Pairs) → EachOfPairs (Innocent (guilt a ls)) ps → PairsCounted c ps
    pairs_counted ls NoPair h = tt
    pairs_counted ls (OnePair k v ps) h = (counted ls k h.0, counted ls v h.1, pairs_counted ls ps h.2)

    end_counted : (ls : List Local) (e : End) → EachOfEnd (Innocent (guilt a ls)) e → EndCounted c e
    end_counted ls Open h = tt
    end_counted ls (At d t) h = counted ls t h

  tree : (ls : List Local) (t : Tree) → expr_faults a ls t ≡ [] → Counted c t
  tree ls t h = counted ls t (innocent (guilt a ls) t h)

  one_if : (ls : List Local) (t : Option Tree) → expr_faults_if a ls t ≡ [] → CountedIf c t
  one_if ls None h = tt
  one_if ls (Some t) h = tree ls t h

  told : (line : ℕ) (ks : List FaultKind) → ks ≡ [] → all_at line ks ≡ []
  told line ks h = ap (all_at line) h

  both_none : {A : Type 0} (xs ys : List A) → xs ≡ [] → ys ≡ [] → xs ++ ys ≡ []
  both_none xs ys h g = ap (λ x. x ++ ys) h ∙ g

  run : (ls : List Local) (line : ℕ) (e : Tree) → all_at line (at_first (guilt a ls) e ++ assignments a ls e) ++ behind_first (guilt a ls) e ≡ [] → Counted c e
  run ls line e h =
      let p = split (all_at line (at_first (guilt a ls) e ++ assignments a ls e)) (behind_first (guilt a ls) e) h in
      let q = split (at_first (guilt a ls) e) (assignments a ls e) (no_kinds line (at_first (guilt a ls) e ++ assignments a ls e) p.0) in
      tree ls e (both_none (all_at (line_of e) (at_first (guilt a ls) e)) (behind_first (guilt a ls) e) (told (line_of e) (at_first (guilt a ls) e) q.0) p.1)

  test : (ls : List Local) (line : ℕ) (e : Tree) → all_at line (assignments a ls e) ++ expr_faults a ls e ≡ [] → Counted c e
  test ls line e h = tree ls e (split (all_at line (assignments a ls e)) (expr_faults a ls e) h).1

  ones : (sc : Scope) (base : Base) (ds : List DeclaratorTree) → declarators_faults a sc base ds ≡ [] → OnesCounted c ds
  ones sc base [] h = tt
  ones sc base (d ∷ ds) h =
      let next = declaring sc (local_of base d ∷ []) in
      let own = all_at d.line (initialiser_kinds a (visible sc) (kind_with base d) d.value ++ when (is_double sc d.name) DoubleName) in
      let p = split (own ++ expr_faults_if a (visible sc) d.value) (declarators_faults a next base ds) h in
      (one_if (visible sc) d.value (split own (expr_faults_if a (visible sc) d.value) p.0).1, ones next base ds p.1)

  init : (sc : Scope) (i : InitTree) → init_faults a sc i ≡ [] → InitCounted c i
  init sc Nothing h = tt
  init sc (DeclaresFirst d) h = ones sc d.base d.ones h
  init sc (RunsFirst e) h = tree (visible sc) e h

  mutual
    stmt : (sc : Scope) (s : StmtTree) → stmt_faults a sc s ≡ [] → StmtCounted c s
    stmt sc (Block line ss) h = stmts (inside sc) ss h
    stmt sc (Empty line) h = tt
    stmt sc (Run line e) h = run (visible sc) line e h
    stmt sc (Declares line d) h = ones sc d.base d.ones (split (all_at line (declarators_assignments a sc d.base d.ones)) (declarators_faults a sc d.base d.ones) h).1
    stmt sc (If line e y n) h =
        let first = all_at line (assignments a (visible sc) e) ++ expr_faults a (visible sc) e in
        let p = split (first ++ stmt_faults a sc y) (else_faults a (behind sc y) n) h in
        let q = split first (stmt_faults a sc y) p.0 in
        (test (visible sc) line e q.0, stmt sc y q.1, other (behind sc y) n p.1)
    stmt sc (While line e b) h =
        let p = split (all_at line (assignments a (visible sc) e) ++ expr_faults a (visible sc) e) (stmt_faults a sc b) h in
        (test (visible sc) line e p.0, stmt sc b p.1)
    stmt sc (DoWhile line b e) h =
        let ls = visible (behind sc b) in
        let own = all_at line (assignments a ls e) in
        let p = split (own ++ stmt_faults a sc b) (expr_faults a ls e) h in
        (stmt sc b (split own (stmt_faults a sc b) p.0).1, tree ls e p.1)
    stmt sc (For line i t st b) h =
        let next = declaring (inside sc) (declares_first i) in
        let ls = visible next in
        let own = all_at line (init_assignments a (inside sc) i ++ assignments_if a ls t ++ assignments_if a ls st) in
        let s = split (own ++ init_faults a (inside sc) i ++ expr_faults_if a ls t ++ expr_faults_if a ls st) (stmt_faults a next b) h in
        let r = split (own ++ init_faults a (inside sc) i ++ expr_faults_if a ls t) (expr_faults_if a ls st) s.0 in
        let q = split (own ++ init_faults a (inside sc) i) (expr_faults_if a ls t) r.0 in
        let p = split own (init_faults a (inside sc) i) q.0 in
        (init (inside sc) i p.1, one_if ls t q.1, one_if ls st r.1, stmt next b s.1)
    stmt sc (Foreach line f st e b) h =
        let one = declaring (inside sc) (declares_each f) in
        let next = declaring (inside sc) (declares_each f ++ declares_second st) in
        let own = all_at line (assignments a (visible sc) e) in
        let s = split (own ++ each_faults a (inside sc) f ++ second_faults a one st ++ expr_faults a (visible sc) e) (stmt_faults a next b) h in
        let r = split (own ++ each_faults a (inside sc) f ++ second_faults a one st) (expr_faults a (visible sc) e) s.0 in
        (tree (visible sc) e r.1, stmt next b s.1)
    stmt sc (Switch line e ps) h =
        let p = split (all_at line (assignments a (visible sc) e) ++ expr_faults a (visible sc) e) (parts_faults a (inside sc) [] ps) h in
        (test (visible sc) line e p.0, parts (inside sc) [] ps p.1)
    stmt sc (Break line) h = tt
    stmt sc (Continue line) h = tt
    stmt sc (Return line e) h =
        one_if (visible sc) e (split (all_at line (assignments_if a (visible sc) e ++ when (is_strong a.mode && is_bad_return sc.answer (type_if a (visible sc) e)) BadReturn)) (expr_faults_if a (visible sc) e) h).1

    stmts : (sc : Scope) (ss : StmtTrees) → stmts_faults a sc ss ≡ [] → StmtsCounted c ss
    stmts sc NoStmt h = tt
    stmts sc (MoreStmts s ss) h = let p = split (stmt_faults a sc s) (stmts_faults a (behind sc s) ss) h in (stmt sc s p.0, stmts (behind sc s) ss p.1)

    other : (sc : Scope) (n : ElseTree) → else_faults a sc n ≡ [] → ElseCounted c n
    other sc NoElse h = tt
    other sc (Else s) h = stmt sc s h

    parts : (sc : Scope) (earlier : List Label) (ps : PartTrees) → parts_faults a sc earlier ps ≡ [] → PartsCounted c ps
    parts sc earlier NoPart h = tt
    parts sc earlier (LabelPart k ps) h = parts sc (k ∷ earlier) ps (split (label_faults earlier k) (parts_faults a sc (k ∷ earlier) ps) h).1
    parts sc earlier (StmtPart s ps) h = let p = split (stmt_faults a sc s) (parts_faults a (behind sc s) earlier ps) h in (stmt sc s p.0, parts (behind sc s) earlier ps p.1)

  globals : (earlier : List (List ℕ)) (ms : List Modifier) (base : Base) (ds : List DeclaratorTree) (vs : List Variable) → globals_faults a earlier base ds ≡ [] → VariablesCounted c vs → VariablesCounted c (map (λ d. record { modifiers = ms; declared = d }) ds ++ vs)
  globals earlier ms base [] vs h g = g
  globals earlier ms base (d ∷ ds) vs h g =
      let own = all_at d.line (initialiser_kinds a [] (kind_with base d) d.value ++ assignments_if a [] d.value ++ when (list_any (is_name d.name) earlier || is_some (inherited_kind a.parents d.name)) DoubleName) in
      let p = split (global_faults a earlier base d) (globals_faults a (d.name ∷ earlier) base ds) h in
      (one_if [] d.value (split own (expr_faults_if a [] d.value) p.0).1, globals (d.name ∷ earlier) ms base ds vs p.1 g)

  items : (funs vars : List (List ℕ)) (is : List ItemTree) → items_faults a funs vars is ≡ [] → FunctionsCounted c (own_functions is) × VariablesCounted c (own_variables is)
  items funs vars [] h = (tt, tt)
  items funs vars (Inherit line path ∷ is) h = items funs vars is h
  items funs vars (Proto line ms ty w ps ∷ is) h = items funs vars is (split (all_at line (missing_type a ty) ++ params_faults a [] ps) (items_faults a funs vars is) h).1
  items funs vars (Fun line ms ty w ps b ∷ is) h =
      let rest = items_faults a (w ∷ funs) vars is in
      let body = stmts_faults a (body_scope ty ps) b.stmts in
      let head = all_at line (missing_type a ty ++ when (list_any (is_name w) funs) DoubleName) ++ params_faults a [] ps in
      let p = split (head ++ body) rest h in
      let r = items (w ∷ funs) vars is p.1 in
      ((stmts (body_scope ty ps) b.stmts (split head body p.0).1, r.0), r.1)
  items funs vars (Var line ms base ds ∷ is) h =
      let p = split (globals_faults a vars base ds) (items_faults a funs (names_of ds ++ vars) is) h in
      let r = items funs (names_of ds ++ vars) is p.1 in
      (r.0, globals vars ms base ds (own_variables is) p.0 r.1)

pub well_typed : WellTypedIsCounted
well_typed c a is knows h = items c a knows [] [] is h
