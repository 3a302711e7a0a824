-- Statements and declarations, with the locals that are seen behind them.
use Rattle.std.proofs.Common.{◌≡◌, ℕ, ◌+◌, List, [], ◌∷◌, ◌++◌, length, take, map, Option, Some, None, refl, sym, ap, ◌∙◌, subst, arith, append_assoc, append-nil}
use Rattle.std.proofs.lemmas.List.{take_all, take-append-le}
use Rattle.lp_tree.specs.declared.stmt.Each.{Each}
use Rattle.lp_tree.specs.declared.types.TypeName.{TypeName}
use Rattle.lp_tree.specs.Trees.{Tree}
use Rattle.lp_tree.specs.Statements.{DeclaratorTree, LocalTree, InitTree, Nothing, DeclaresFirst, RunsFirst, StmtTree, StmtTrees, NoStmt, MoreStmts, Block, Declares}
use Rattle.lp_tree.specs.StatementView.{stmt_trees}
use Rattle.lp_instr.specs.Code.{Code}
use Rattle.lp_instr.specs.declared.instr.Instr.TheVariants.{SetLocal, Pop}
use Rattle.lp_language.specs.Resolve.{Heritage}
use Rattle.lp_language.specs.Scope.{Names, behind, declared, declared_each, declared_second, loose, names_of}
use Rattle.lp_isa.specs.Translates.{MakesOnes}
use Rattle.lp_codegen_expr.specs.declared.code.Draft.TheVariants.{Done}
use Rattle.lp_codegen_expr.specs.declared.scope.Scope.{Scope}
use Rattle.lp_codegen_expr.specs.Names.{Plan, layout_of}
use Rattle.lp_codegen_expr.specs.Drafts.{Sketch, Around, Form, Adds, grown, line, of_write_slot}
use Rattle.lp_codegen_expr.proofs.Compose.{adds_then, reform, line_none, line_adds}
use Rattle.lp_codegen_flow.specs.Cleared.{of_clears}
use Rattle.lp_codegen_flow.specs.Flows.{Stands, AllStand, OnesStand, InitStands, EachStands, SecondStands, EachesStand, behind_all, of_stmt, of_stmts, of_value_if, of_ones, of_run, of_each, of_second, of_eaches}

-- where another scope stands that is the same
pub there : {old new : Sketch} (s0 s1 : Scope) (F : Names → Form) (ns : Names) → s1.layout ≡ s0.layout → s1.locals.items ≡ ns → Adds (layout_of s1.layout) (F s1.locals.items) old new → Adds (layout_of s0.layout) (F ns) old new
there {old} {new} s0 s1 F ns e f w = subst (λ n. Adds (layout_of s0.layout) (F n) old new) f (subst (λ l. Adds (layout_of l) (F s1.locals.items) old new) e w)

pub stays : {s : Scope} {old new : Sketch} (t : StmtTree) → declared t ≡ [] → Adds (layout_of s.layout) (of_stmt t s.locals.items) old new → Stands t s s old new
stays {s} t e w = record { code = w; layout = refl; names = sym (ap (λ d. s.locals.items ++ d) e ∙ append-nil s.locals.items) }

pub as_tree : {was is : Scope} {old new : Sketch} (t u : StmtTree) → t ≡ u → Stands u was is old new → Stands t was is old new
as_tree {was} {is} {old} {new} t u e w = subst (λ x. Stands x was is old new) (sym e) w

-- locals that stand behind others are forgotten
pub forgets : (n : ℕ) (ns ms xs : Names) → n ≡ length ns → xs ≡ ns ++ ms → take n xs ≡ ns
forgets n ns ms xs e f = ap (take n) f ∙ take-append-le n ns ms (omega (arith, e)) ∙ take_all n ns (omega (arith, e))

-- declarations
ones_then : (h : Heritage) (ns : Names) (ds es : List DeclaratorTree) (code : Code) (from mid to : ℕ) → MakesOnes h ns ds code from mid → MakesOnes h (ns ++ names_of ds) es code mid to → MakesOnes h ns (ds ++ es) code from to
ones_then h ns [] es code from mid to p q = subst (λ n. MakesOnes h ns es code n to) p (subst (λ ms. MakesOnes h ms es code mid to) (append-nil ns) q)
ones_then h ns (d ∷ ds) es code from mid to p q =
    (p.0, p.1, (p.2.0, p.2.1, ones_then h (ns ++ d.name ∷ []) ds es code p.2.0 mid to p.2.2 (subst (λ ms. MakesOnes h ms es code mid to) (sym (append_assoc ns (d.name ∷ []) (names_of ds))) q)))

names_both : (ds es : List DeclaratorTree) → names_of (ds ++ es) ≡ names_of ds ++ names_of es
names_both [] es = refl
names_both (d ∷ ds) es = ap (λ l. d.name ∷ l) (names_both ds es)

pub ones_none : {s : Scope} {old : Sketch} → OnesStand [] s s old old
ones_none {s} {old} = record { code = line_none (layout_of s.layout) old; layout = refl; names = sym (append-nil s.locals.items) }

pub ones_both : {s0 s1 s2 : Scope} {old mid new : Sketch} (ds es : List DeclaratorTree) → OnesStand ds s0 s1 old mid → OnesStand es s1 s2 mid new → OnesStand (ds ++ es) s0 s2 old new
ones_both {s0} {s1} {s2} {old} {mid} {new} ds es v w =
    let ns = s0.locals.items in
    record {
      code = adds_then (layout_of s0.layout) (of_ones ds ns) (of_ones es (ns ++ names_of ds)) (of_ones (ds ++ es) ns) old mid new v.code (there s0 s1 (of_ones es) (ns ++ names_of ds) v.layout v.names w.code) (λ a p q. ones_then a.heritage ns ds es a.code (length old.code) (length mid.code) (length new.code) p q);
      layout = w.layout ∙ v.layout;
      names = w.names ∙ ap (λ l. l ++ names_of es) v.names ∙ append_assoc ns (names_of ds) (names_of es) ∙ ap (λ l. ns ++ l) (sym (names_both ds es));
    }

pub ones_as : {s0 s1 : Scope} {old new : Sketch} {ds es : List DeclaratorTree} → ds ≡ es → OnesStand ds s0 s1 old new → OnesStand es s0 s1 old new
ones_as {s0} {s1} {old} {new} {ds} {es} e w = subst (λ x. OnesStand x s0 s1 old new) e w

pub one_stands : {s0 s1 : Scope} {old mid new : Sketch} (d : DeclaratorTree) (k : ℕ) → Adds (layout_of s0.layout) (of_value_if d.value s0.locals.items) old mid → k ≡ length s0.locals.items → new ≡ grown mid (map Done (SetLocal k ∷ Pop ∷ [])) → s1.layout ≡ s0.layout → s1.locals.items ≡ s0.locals.items ++ d.name ∷ [] → OnesStand (d ∷ []) s0 s1 old new
one_stands {s0} {s1} {old} {mid} {new} d k v e f g h =
    let ns = s0.locals.items in
    let is = SetLocal (length ns) ∷ Pop ∷ [] in
    let f' : new ≡ grown mid (map Done is) = f ∙ ap (λ j. grown mid (map Done (SetLocal j ∷ Pop ∷ []))) e in
    record {
      code = adds_then (layout_of s0.layout) (of_value_if d.value ns) (line is) (of_ones (d ∷ []) ns) old mid new v (line_adds is f') (λ a p q. (length mid.code, p, (length new.code, q, refl)));
      layout = g;
      names = h;
    }

pub declares_stands : {s0 s1 : Scope} {old new : Sketch} (line : ℕ) (d : LocalTree) → OnesStand d.ones s0 s1 old new → Stands (Declares line d) s0 s1 old new
declares_stands line d w = record { code = w.code; layout = w.layout; names = w.names }

-- the first part of a `for`
pub init_none : {s : Scope} {old : Sketch} → InitStands Nothing s s old old
init_none {s} {old} = record { code = line_none (layout_of s.layout) old; layout = refl; names = sym (append-nil s.locals.items) }

pub init_declares : {s0 s1 : Scope} {old new : Sketch} (d : LocalTree) → OnesStand d.ones s0 s1 old new → InitStands (DeclaresFirst d) s0 s1 old new
init_declares d w = record { code = w.code; layout = w.layout; names = w.names }

pub init_runs : {s : Scope} {old new : Sketch} (e : Tree) → Adds (layout_of s.layout) (of_run e s.locals.items) old new → InitStands (RunsFirst e) s s old new
init_runs {s} e w = record { code = w; layout = refl; names = sym (append-nil s.locals.items) }

pub init_as : {s0 s1 : Scope} {old new : Sketch} {i j : InitTree} → i ≡ j → InitStands i s0 s1 old new → InitStands j s0 s1 old new
init_as {s0} {s1} {old} {new} {i} {j} e w = subst (λ x. InitStands x s0 s1 old new) e w

-- statements one after another
stmts_then : (ns : Names) (xs : List StmtTree) (t : StmtTree) (a : Around) (from mid to : ℕ) → of_stmts (stmt_trees xs) ns a from mid → of_stmts (MoreStmts t NoStmt) (behind_all ns (stmt_trees xs)) a mid to → of_stmts (stmt_trees (xs ++ t ∷ [])) ns a from to
stmts_then ns [] t a from mid to p q = subst (λ n. of_stmts (MoreStmts t NoStmt) ns a n to) p q
stmts_then ns (x ∷ xs) t a from mid to p q = (p.0, p.1, (p.2.0, p.2.1, stmts_then (behind ns x) xs t a p.2.0 mid to p.2.2 q))

behind_more : (ns : Names) (xs : List StmtTree) (t : StmtTree) → behind (behind_all ns (stmt_trees xs)) t ≡ behind_all ns (stmt_trees (xs ++ t ∷ []))
behind_more ns [] t = refl
behind_more ns (x ∷ xs) t = behind_more (behind ns x) xs t

pub all_none : {s : Scope} {old : Sketch} → AllStand NoStmt s s old old
all_none {s} {old} = record { code = line_none (layout_of s.layout) old; layout = refl; names = refl }

pub all_more : {s0 s1 s2 : Scope} {old mid new : Sketch} (xs : List StmtTree) (t : StmtTree) → AllStand (stmt_trees xs) s0 s1 old mid → AllStand (MoreStmts t NoStmt) s1 s2 mid new → AllStand (stmt_trees (xs ++ t ∷ [])) s0 s2 old new
all_more {s0} {s1} {s2} {old} {mid} {new} xs t v w =
    let ns = s0.locals.items in
    let ms = behind_all ns (stmt_trees xs) in
    record {
      code = adds_then (layout_of s0.layout) (of_stmts (stmt_trees xs) ns) (of_stmts (MoreStmts t NoStmt) ms) (of_stmts (stmt_trees (xs ++ t ∷ [])) ns) old mid new v.code (there s0 s1 (of_stmts (MoreStmts t NoStmt)) ms v.layout v.names w.code) (λ a p q. stmts_then ns xs t a (length old.code) (length mid.code) (length new.code) p q);
      layout = w.layout ∙ v.layout;
      names = w.names ∙ ap (λ l. behind l t) v.names ∙ behind_more ns xs t;
    }

pub all_as : {s0 s1 : Scope} {old new : Sketch} {ss ts : StmtTrees} → ss ≡ ts → AllStand ss s0 s1 old new → AllStand ts s0 s1 old new
all_as {s0} {s1} {old} {new} {ss} {ts} e w = subst (λ x. AllStand x s0 s1 old new) e w

-- a statement of a block, before which the locals become 0 whose declaration it may pass over
pub next_stands : {s0 s1 : Scope} {old mid new : Sketch} (t : StmtTree) (n : ℕ) → n ≡ length s0.locals.items → ((l : Plan) → Adds l (of_clears (loose t n)) old mid) → Stands t s0 s1 mid new → AllStand (MoreStmts t NoStmt) s0 s1 old new
next_stands {s0} {s1} {old} {mid} {new} t n e v w =
    let ns = s0.locals.items in
    let ks = loose t (length ns) in
    record {
      code = adds_then (layout_of s0.layout) (of_clears ks) (of_stmt t ns) (of_stmts (MoreStmts t NoStmt) ns) old mid new (subst (λ j. Adds (layout_of s0.layout) (of_clears (loose t j)) old mid) e (v (layout_of s0.layout))) w.code (λ a p q. (length mid.code, p, (length new.code, q, refl)));
      layout = w.layout;
      names = w.names;
    }

-- more names
pub later_names : (ns : Names) (ss : StmtTrees) → (ms : Names) × (behind_all ns ss ≡ ns ++ ms)
later_names ns NoStmt = ([], sym (append-nil ns))
later_names ns (MoreStmts s ss) = let h = later_names (behind ns s) ss in (declared s ++ h.0, h.1 ∙ append_assoc ns (declared s) h.0)

pub block_stands : {s0 s1 s2 : Scope} {old new : Sketch} (line : ℕ) (ss : StmtTrees) (n : ℕ) → n ≡ length s0.locals.items → AllStand ss s0 s1 old new → s2.layout ≡ s1.layout → s2.locals.items ≡ take n s1.locals.items → Stands (Block line ss) s0 s2 old new
block_stands {s0} {s1} {s2} line ss n e w f g =
    let ns = s0.locals.items in
    let h = later_names ns ss in
    record {
      code = w.code;
      layout = f ∙ w.layout;
      names = g ∙ forgets n ns h.0 s1.locals.items e (w.names ∙ h.1) ∙ sym (append-nil ns);
    }

-- what may be missing
pub option_as : {l : Plan} {old new : Sketch} (F : Option Tree → Form) {d e : Option Tree} → d ≡ e → Adds l (F d) old new → Adds l (F e) old new
option_as {l} {old} {new} F {d} {e} h w = subst (λ x. Adds l (F x) old new) h w

-- variables of a `foreach`
abbrev each_of : Option TypeName → ℕ → List ℕ → Each
each_of ty line w = record { line = line; type_name = ty; name = w }

pub each_local : {s0 s1 : Scope} {old new : Sketch} (e : Each) (ty : TypeName) (k : ℕ) → e.type_name ≡ Some ty → k ≡ length s0.locals.items → new ≡ grown old (map Done (SetLocal k ∷ Pop ∷ [])) → s1.layout ≡ s0.layout → s1.locals.items ≡ s0.locals.items ++ e.name ∷ [] → EachStands e s0 s1 old new
each_local {s0} {s1} {old} {new} e ty k f g h i j =
    let ns = s0.locals.items in
    let d = each_of (Some ty) e.line e.name in
    let same : d ≡ e = ap (λ o. each_of o e.line e.name) (sym f) in
    let is = SetLocal (length ns) ∷ Pop ∷ [] in
    let w : Adds (layout_of s0.layout) (line is) old new = line_adds is (h ∙ ap (λ n. grown old (map Done (SetLocal n ∷ Pop ∷ []))) g) in
    let made : EachStands d s0 s1 old new = record {
      code = reform (line is) (of_each d ns) (λ a from to p. (to, (from + 1, (p.0, refl), p.1), refl)) w;
      layout = i;
      names = j;
    } in
    subst (λ x. EachStands x s0 s1 old new) same made

pub each_there : {s : Scope} {old mid new : Sketch} (e : Each) → e.type_name ≡ None → Adds (layout_of s.layout) (of_write_slot s.locals.items e.name) old mid → Adds (layout_of s.layout) (line (Pop ∷ [])) mid new → EachStands e s s old new
each_there {s} {old} {mid} {new} e f v w =
    let ns = s.locals.items in
    let d = each_of None e.line e.name in
    let same : d ≡ e = ap (λ o. each_of o e.line e.name) (sym f) in
    let made : EachStands d s s old new = record {
      code = adds_then (layout_of s.layout) (of_write_slot ns e.name) (line (Pop ∷ [])) (of_each d ns) old mid new v w (λ a p q. (length new.code, (length mid.code, p, q), refl));
      layout = refl;
      names = sym (append-nil ns);
    } in
    subst (λ x. EachStands x s s old new) same made

pub second_none : {s : Scope} {old : Sketch} → SecondStands None s s old old
second_none {s} {old} = record { code = line_none (layout_of s.layout) old; layout = refl; names = sym (append-nil s.locals.items) }

pub second_some : {s0 s1 : Scope} {old new : Sketch} (e : Each) → EachStands e s0 s1 old new → SecondStands (Some e) s0 s1 old new
second_some e w = record { code = w.code; layout = w.layout; names = w.names }

pub second_as : {s0 s1 : Scope} {old new : Sketch} {i j : Option Each} → i ≡ j → SecondStands i s0 s1 old new → SecondStands j s0 s1 old new
second_as {s0} {s1} {old} {new} {i} {j} e w = subst (λ x. SecondStands x s0 s1 old new) e w

pub eaches_both : {s0 s1 s2 : Scope} {old mid new : Sketch} (f : Each) (g : Option Each) → EachStands f s0 s1 old mid → SecondStands g s1 s2 mid new → EachesStand f g s0 s2 old new
eaches_both {s0} {s1} {s2} {old} {mid} {new} f g v w =
    let ns = s0.locals.items in
    let inner = ns ++ declared_each f in
    record {
      code = adds_then (layout_of s0.layout) (of_each f ns) (of_second g inner) (of_eaches f g ns) old mid new v.code (there s0 s1 (of_second g) inner v.layout v.names w.code) (λ a p q. (p.0, p.1, subst (λ n. of_second g inner a n (length new.code)) p.2 q));
      layout = w.layout ∙ v.layout;
      names = w.names ∙ ap (λ l. l ++ declared_second g) v.names;
    }
