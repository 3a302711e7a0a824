-- A unit without faults is clear.
use Rattle.std.proofs.Common.{◌≡◌, List, [], ◌∷◌, ◌++◌, length, map, None, Bool, true, false, ◌&&◌, refl, sym, ap, ◌∙◌, subst, arith, append_assoc, append-nil}
use Rattle.lp_tree.specs.declared.fault.FaultKind.{FaultKind}
use Rattle.lp_tree.specs.declared.fault.FaultKind.TheVariants.{TooManyNames}
use Rattle.lp_tree.specs.declared.keyword.Modifier.{Modifier}
use Rattle.lp_tree.specs.declared.seen.Seen.{Seen}
use Rattle.lp_tree.specs.declared.unit.Param.{Param}
use Rattle.lp_tree.specs.Statements.{DeclaratorTree, StmtTree, StmtTrees, PartTrees, SpellsStmt, SpellsStmts, SpellsParts}
use Rattle.lp_tree.specs.Statements as forms
use Rattle.lp_tree.specs.Units.{ItemTree, Inherit, Proto, Fun, Var, Phase, Definitions, SpellsItems}
use Rattle.lp_tree.specs.Units as units
use Rattle.lp_code.specs.declared.tables.Tables.{Tables}
use Rattle.lp_language.specs.Resolve.{Variable, own_variables}
use Rattle.lp_language.specs.Scope.{Names}
use Rattle.lp_types_expr.specs.ExprFaults.{when}
use Rattle.lp_types_expr.specs.Known.{Around}
use Rattle.lp_types_expr.specs.declared.fault.FaultAt.{FaultAt}
use Rattle.lp_types_expr.specs.Walk.{Guilt, all_at, in_optional}
use Rattle.lp_types.specs.Clear as types
use Rattle.lp_types.specs.Clear.{HavePlacesItems, HavePlacesOnes, WellTypedIsMeant}
use Rattle.lp_types.specs.TypeFaults.{body_scope, params_locals}
use Rattle.lp_layout.specs.Layout.{inherits}
use Rattle.lp_layout.specs.LayoutFaults.{first_fault, Limits, call_guilt, declarators_calls, function_kinds, inherit_kinds, items_layout, limits, stmts_calls, stmts_locals, too_many, is_too_large}
use Rattle.lp_codegen_expr.specs.Names.{Plan}
use Rattle.lp_codegen_layout.specs.Laid.{plan_of}
use Rattle.lp_codegen_layout.specs.Meant.{Knows, TellsAmbiguous}
use Rattle.lp_codegen_flow.specs.Clear.{AreClearVariables}
use Rattle.lp_codegen_flow.specs.Closed.{is_closed, are_closed, parts_closed}
use Rattle.lp_codegen_flow.specs.Initialisers.{variables_of}
use Rattle.lp_codegen_laws.specs.Units.{AreFunctionsClear, FaultlessUnitIsClear, KnownUnitIsClear, around}
use Rattle.lp_codegen_laws.proofs.Expressions.{tells_ambiguous}
use Rattle.lp_codegen_laws.proofs.Known.{names}
use Rattle.lp_codegen_laws.proofs.Layouts.{own_knows}
use Rattle.lp_codegen_laws.proofs.Statements.{Known, SeenIn, split, stmts, tree_if}

-- what is spelled is closed
and_true : (x y : Bool) → x ≡ true → y ≡ true → (x && y) ≡ true
and_true true y e f = f
and_true false y e f = absurd cc

mutual
  stmt_closed : {g : forms.Around} {s : StmtTree} {ts rest : List Seen} → SpellsStmt g s ts rest → is_closed g s ≡ true
  stmt_closed (forms.block ss) = stmts_closed ss
  stmt_closed forms.empty = refl
  stmt_closed (forms.run s) = refl
  stmt_closed (forms.local d) = refl
  stmt_closed (forms.if_only s y q) = and_true _ _ (stmt_closed y) refl
  stmt_closed (forms.if_else s y n) = and_true _ _ (stmt_closed y) (stmt_closed n)
  stmt_closed (forms.while s b) = stmt_closed b
  stmt_closed (forms.do_while b s) = stmt_closed b
  stmt_closed (forms.for i t s b) = stmt_closed b
  stmt_closed (forms.foreach f x s b) = stmt_closed b
  stmt_closed (forms.switch s ps) = part_closed ps
  stmt_closed (forms.break q) = q
  stmt_closed (forms.continue q) = q
  stmt_closed (forms.return e) = refl

  stmts_closed : {g : forms.Around} {ss : StmtTrees} {ts rest : List Seen} → SpellsStmts g ss ts rest → are_closed g ss ≡ true
  stmts_closed forms.no_more = refl
  stmts_closed (forms.stmt s ss) = and_true _ _ (stmt_closed s) (stmts_closed ss)

  part_closed : {g : forms.Around} {ps : PartTrees} {ts rest : List Seen} → SpellsParts g ps ts rest → parts_closed g ps ≡ true
  part_closed forms.no_part = refl
  part_closed (forms.label_part k ps) = part_closed ps
  part_closed (forms.stmt_part s ps) = and_true _ _ (stmt_closed s) (part_closed ps)

-- behind the first definition nothing is inherited
no_inherits : {p : Phase} {is : List ItemTree} {ts : List Seen} → p ≡ Definitions → SpellsItems p is ts → inherits is ≡ 0
no_inherits e units.no_item = refl
no_inherits e (units.item units.inherit units.by_inherit is) = absurd cc
no_inherits e (units.item (units.proto m y p) units.by_proto is) = no_inherits e is
no_inherits e (units.item (units.fun m y p b) units.by_fun is) = no_inherits refl is
no_inherits e (units.item (units.var m ds) units.by_var is) = no_inherits refl is

-- the parameters of a function
params_named : (ps : List Param) → map (λ p. p.name) ps ≡ names (params_locals ps)
params_named [] = refl
params_named (p ∷ ps) = ap (λ n. p.name ∷ n) (params_named ps)

-- what variables are set to
globals : (l : Plan) (a : Around) (f : Guilt) → Known l a f → (ms : List Modifier) (ds : List DeclaratorTree) → types.AreClearGlobals a ds → HavePlacesOnes ds → declarators_calls f ds ≡ [] → AreClearVariables l [] (variables_of ms ds)
globals l a f k ms [] h p q = tt
globals l a f k ms (d ∷ ds) h p q =
    let s = split (in_optional f d.value) (declarators_calls f ds) q in
    (tree_if l a f k [] [] refl d.value h.0 p.0 s.0, globals l a f k ms ds h.1 p.1 s.1)

both : (l : Plan) (ns : Names) (vs ws : List Variable) → AreClearVariables l ns vs → AreClearVariables l ns ws → AreClearVariables l ns (vs ++ ws)
both l ns [] ws v w = w
both l ns (x ∷ vs) ws v w = (v.0, both l ns vs ws v.1 w)

-- the parents that were inherited so far are all
known_of : (l : Plan) (a : Around) (m : Limits) (earlier : List Tables) → Knows l [] a [] → earlier ++ [] ≡ a.parents → Known l a (call_guilt m earlier)
known_of l a m earlier k e = record {
  knows = k;
  tells = subst (TellsAmbiguous (call_guilt m earlier)) (sym (append-nil earlier) ∙ e) (tells_ambiguous m earlier);
}

abbrev Both : Plan → List ItemTree → Type 0
Both l is = AreFunctionsClear l is × AreClearVariables l [] (own_variables is)

items : (l : Plan) (a : Around) (m : Limits) → Knows l [] a [] → {p : Phase} (is : List ItemTree) {ts : List Seen} → SpellsItems p is ts → (first : List FaultKind) (earlier others : List Tables) → earlier ++ others ≡ a.parents → inherits is ≡ length others → types.AreClearItems a is → HavePlacesItems is → items_layout m first earlier others is ≡ [] → Both l is
items l a m k [] units.no_item first earlier others e n h p q = (tt, tt)
items l a m k (Inherit line path ∷ is) (units.item t turn s) first earlier [] e n h p q = absurd (omega (arith, n))
items l a m k (Inherit line path ∷ is) (units.item t turn s) first earlier (x ∷ xs) e n h p q =
    items l a m k is s [] (earlier ++ x ∷ []) xs (append_assoc earlier (x ∷ []) xs ∙ e) (omega (arith, n)) h p (split (all_at line (inherit_kinds earlier x ++ first)) (items_layout m [] (earlier ++ x ∷ []) xs is) q).1
items l a m k (Proto line ms ty w ps ∷ is) (units.item t turn s) first earlier [] e n h p q =
    items l a m k is s [] earlier [] e n h p (split (all_at line (too_many m.arguments (length ps) ++ first)) (items_layout m [] earlier [] is) q).1
items l a m k (Proto line ms ty w ps ∷ is) (units.item t turn s) first earlier (x ∷ xs) e n h p q =
    items l a m k is s [] earlier (x ∷ xs) e n h p (split (all_at line (too_many m.arguments (length ps) ++ first)) (items_layout m [] earlier (x ∷ xs) is) q).1
items l a m k (Fun line ms ty w ps b ∷ is) (units.item (units.fun u y v (units.block ss)) units.by_fun s) first earlier [] e n h p q =
    let f = call_guilt m earlier in
    let head = all_at line (function_kinds m earlier w (length ps) (stmts_locals b.stmts) ++ first) in
    let r = split (head ++ stmts_calls f b.stmts) (items_layout m [] earlier [] is) q in
    let c = split head (stmts_calls f b.stmts) r.0 in
    let rest = items l a m k is s [] earlier [] e n h.1 p.1 r.1 in
    let ns = map (λ (x : Param). x.name) ps in
    let en : SeenIn ns (body_scope ty ps) = params_named ps ∙ ap names (sym (append-nil (params_locals ps))) in
    (((stmts l a f (known_of l a m earlier k e) ns (body_scope ty ps) en b.stmts h.0 p.0 c.1, stmts_closed ss), rest.0), rest.1)
items l a m k (Fun line ms ty w ps b ∷ is) (units.item t units.by_fun s) first earlier (x ∷ xs) e n h p q = let z = no_inherits refl s in absurd (omega (arith, n, z))
items l a m k (Var line ms base ds ∷ is) (units.item t units.by_var s) first earlier [] e n h p q =
    let f = call_guilt m earlier in
    let r = split (all_at line first ++ declarators_calls f ds) (items_layout m [] earlier [] is) q in
    let c = split (all_at line first) (declarators_calls f ds) r.0 in
    let rest = items l a m k is s [] earlier [] e n h.1 p.1 r.1 in
    (rest.0, both l [] (variables_of ms ds) (own_variables is) (globals l a f (known_of l a m earlier k e) ms ds h.0 p.0 c.1) rest.1)
items l a m k (Var line ms base ds ∷ is) (units.item t units.by_var s) first earlier (x ∷ xs) e n h p q = let z = no_inherits refl s in absurd (omega (arith, n, z))

no_fault : (fs : List FaultAt) → first_fault fs ≡ None → fs ≡ []
no_fault [] h = refl
no_fault (f ∷ fs) h = absurd cc

pub known_unit : WellTypedIsMeant → KnownUnitIsClear
known_unit law l its pragmas parents simuls tokens sp g k =
    let a = around its pragmas parents simuls in
    let h = law its pragmas parents simuls tokens sp g.types in
    let first = when (is_too_large limits its parents) TooManyNames in
    let r = items l a limits k its sp first [] parents refl (sym g.parents_are) h.clear h.places (no_fault (items_layout limits first [] parents its) g.layout) in
    record { functions = r.0; variables = r.1 }

pub faultless_unit : WellTypedIsMeant → FaultlessUnitIsClear
faultless_unit law own its pragmas parents simuls tokens sp g o =
    known_unit law (plan_of own parents simuls) its pragmas parents simuls tokens sp g (own_knows (around its pragmas parents simuls) own o)
