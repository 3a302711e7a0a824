-- Statements in which no break and no continue is left open.
use Rattle.std.proofs.Common.{◌≡◌, Bool, true, false, ◌&&◌, IsTrue, ℕ, ◌<◌, List, [], ◌∷◌, length, get_or, take, Option, Some, None, refl, sym, ap, ◌∙◌, subst, arith}
use Rattle.std.proofs.lemmas.Option.{slice_get-get_or}
use Rattle.lp_tree.specs.declared.stmt.Label.TheVariants as kinds
use Rattle.lp_tree.specs.Statements.{StmtTree, Block, Empty, Run, Declares, If, While, DoWhile, For, Foreach, Switch, Break, Continue, Return, StmtTrees, NoStmt, MoreStmts, ElseTree, NoElse, Else, PartTrees, NoPart, LabelPart, StmtPart, Around as Round, in_function, in_switch}
use Rattle.lp_instr.specs.declared.instr.Case.{Case}
use Rattle.lp_instr.specs.declared.instr.Instr.TheVariants as instrs
use Rattle.lp_instr.specs.Code.{Code}
use Rattle.lp_language.specs.Resolve.{Heritage}
use Rattle.lp_language.specs.Scope.{Names, behind}
use Rattle.lp_isa.specs.Translates.{Jumps, MakesElse, MakesParts, MakesStmt, MakesStmts}
use Rattle.lp_codegen_expr.specs.declared.code.Draft.{Draft}
use Rattle.lp_codegen_expr.specs.declared.code.Draft.TheVariants as drafts
use Rattle.lp_codegen_expr.specs.Names.{Plan, layout_of}
use Rattle.lp_codegen_expr.specs.Drafts.{Sketch, Adds, grown, line}
use Rattle.lp_codegen_expr.specs.declared.scope.Scope.{Scope}
use Rattle.lp_codegen_expr.proofs.Compose.{adds_then, one_adds, reform}
use Rattle.lp_codegen_flow.specs.Closed.{is_closed, are_closed, else_closed, parts_closed}
use Rattle.lp_codegen_flow.specs.Flows.{AllStand, of_stmts}
use Rattle.lp_codegen_flow.specs.Functions.{AreDone, FunStands, IsDone, of_body, of_fun}
use Rattle.lp_codegen_flow.specs.Led.{Led, leads_to}
use Rattle.lp_codegen_flow.proofs.Loops.{led_adds, recoded}
use Rattle.lp_codegen_flow.proofs.Scopes.{forgets, later_names}

-- jumps to one place are jumps to another
abbrev pub Leading : Code → Option ℕ → Option ℕ → Type 0
Leading code o p = (from to : ℕ) → Jumps code o from to → Jumps code p from to

-- where such jumps may stand
abbrev pub LeadingIf : Bool → Code → Option ℕ → Option ℕ → Type 0
LeadingIf b code o p = IsTrue b → Leading code o p

and_both : (x y : Bool) → IsTrue (x && y) → IsTrue x × IsTrue y
and_both true y h = (refl, h)
and_both false y h = absurd cc

mutual
  stmt_leads : (h : Heritage) (ns : Names) (s : StmtTree) (r : Round) (o p g q : Option ℕ) (code : Code) → IsTrue (is_closed r s) → LeadingIf r.may_break code o p → LeadingIf r.may_continue code g q → (from to : ℕ) → MakesStmt h ns s o g code from to → MakesStmt h ns s p q code from to
  stmt_leads h ns (Block line ss) r o p g q code c f e from to w = stmts_lead h ns ss r o p g q code c f e from to w
  stmt_leads h ns (Empty line) r o p g q code c f e from to w = w
  stmt_leads h ns (Run line x) r o p g q code c f e from to w = w
  stmt_leads h ns (Declares line d) r o p g q code c f e from to w = w
  stmt_leads h ns (If line x y z) r o p g q code c f e from to w =
      let b = and_both (is_closed r y) (else_closed r z) c in
      (w.0, (w.1.0, w.1.1, (w.1.2.0, w.1.2.1, (w.1.2.2.0, stmt_leads h ns y r o p g q code b.0 f e w.1.2.0 w.1.2.2.0 w.1.2.2.1, w.1.2.2.2))), else_leads h (behind ns y) z r o p g q code b.1 f e w.0 to w.2)
  stmt_leads h ns (While line x b) r o p g q code c f e from to w = w
  stmt_leads h ns (DoWhile line b x) r o p g q code c f e from to w = w
  stmt_leads h ns (For line i t st b) r o p g q code c f e from to w = w
  stmt_leads h ns (Foreach line a d x b) r o p g q code c f e from to w = w
  stmt_leads h ns (Switch line x ps) r o p g q code c f e from to w =
      (w.0, w.1, w.2, w.3, (w.4.0, w.4.1, (w.4.2.0, w.4.2.1, (w.4.2.2.0, w.4.2.2.1, parts_lead h ns ps r (w.1).cases (w.1).other to g q code c e w.4.2.2.0 to w.4.2.2.2))))
  stmt_leads h ns (Break line) r o p g q code c f e from to w = f c from to w
  stmt_leads h ns (Continue line) r o p g q code c f e from to w = e c from to w
  stmt_leads h ns (Return line None) r o p g q code c f e from to w = w
  stmt_leads h ns (Return line (Some x)) r o p g q code c f e from to w = w

  pub stmts_lead : (h : Heritage) (ns : Names) (ss : StmtTrees) (r : Round) (o p g q : Option ℕ) (code : Code) → IsTrue (are_closed r ss) → LeadingIf r.may_break code o p → LeadingIf r.may_continue code g q → (from to : ℕ) → MakesStmts h ns ss o g code from to → MakesStmts h ns ss p q code from to
  stmts_lead h ns NoStmt r o p g q code c f e from to w = w
  stmts_lead h ns (MoreStmts s ss) r o p g q code c f e from to w =
      let b = and_both (is_closed r s) (are_closed r ss) c in
      (w.0, w.1, (w.2.0, stmt_leads h ns s r o p g q code b.0 f e w.0 w.2.0 w.2.1, stmts_lead h (behind ns s) ss r o p g q code b.1 f e w.2.0 to w.2.2))

  else_leads : (h : Heritage) (ns : Names) (x : ElseTree) (r : Round) (o p g q : Option ℕ) (code : Code) → IsTrue (else_closed r x) → LeadingIf r.may_break code o p → LeadingIf r.may_continue code g q → (from to : ℕ) → MakesElse h ns x o g code from to → MakesElse h ns x p q code from to
  else_leads h ns NoElse r o p g q code c f e from to w = w
  else_leads h ns (Else s) r o p g q code c f e from to w = stmt_leads h ns s r o p g q code c f e from to w

  parts_lead : (h : Heritage) (ns : Names) (ps : PartTrees) (r : Round) (ks : List Case) (other out : ℕ) (g q : Option ℕ) (code : Code) → IsTrue (parts_closed (in_switch r) ps) → LeadingIf r.may_continue code g q → (from to : ℕ) → MakesParts h ns ps ks other out g code from to → MakesParts h ns ps ks other out q code from to
  parts_lead h ns NoPart r ks other out g q code c e from to w = w
  parts_lead h ns (LabelPart (kinds.Case line k) ps) r ks other out g q code c e from to w = (w.0, w.1, w.2, w.3, parts_lead h ns ps r w.1 other out g q code c e from to w.4)
  parts_lead h ns (LabelPart (kinds.Range line a b) ps) r ks other out g q code c e from to w = (w.0, w.1, parts_lead h ns ps r w.0 other out g q code c e from to w.2)
  parts_lead h ns (LabelPart (kinds.Default line) ps) r ks other out g q code c e from to w = (w.0, parts_lead h ns ps r ks other out g q code c e from to w.1)
  parts_lead h ns (StmtPart s ps) r ks other out g q code c e from to w =
      let b = and_both (is_closed (in_switch r) s) (parts_closed (in_switch r) ps) c in
      (w.0, w.1, (w.2.0, stmt_leads h ns s (in_switch r) (Some out) (Some out) g q code b.0 (λ t x y z. z) e w.0 w.2.0 w.2.1, parts_lead h (behind ns s) ps r ks other out g q code b.1 e w.2.0 to w.2.2))

-- closed statements stand alone
pub closed_adds : {l : Plan} {old new : Sketch} (ss : StmtTrees) (ns : Names) → IsTrue (are_closed in_function ss) → Adds l (of_stmts ss ns) old new → Adds l (of_body ss ns) old new
closed_adds ss ns c w = reform (of_stmts ss ns) (of_body ss ns) (λ a from to p. stmts_lead a.heritage ns ss in_function (Some a.out) None (Some a.again) None a.code c (λ t. absurd cc) (λ t. absurd cc) from to p) w

-- where breaks and continues became jumps, none is open
done_so : (out again : ℕ) (d : Draft) → IsDone (leads_to out (Some again) (Some d))
done_so out again (drafts.Done i) = tt
done_so out again drafts.Break = tt
done_so out again drafts.Continue = tt

pub led_done : (from out again : ℕ) (old new : List Draft) → Led from out (Some again) old new → AreDone new from
led_done from out again old new led p le lt =
    let lt' : p < length old = let e = led.as_long in omega (arith, lt, e) in
    subst (λ o. IsDone o) (sym (led.led p le ∙ ap (leads_to out (Some again)) (slice_get-get_or old p drafts.Break lt'))) (done_so out again (get_or old p drafts.Break))

-- a function
pub fun_stands : {s0 s1 s2 : Scope} {old mid new : Sketch} (ss : StmtTrees) (seen from : ℕ) (led : List Draft) → IsTrue (are_closed in_function ss) → seen ≡ length s0.locals.items → from ≡ length old.code → AllStand ss s0 s1 old mid → new ≡ grown mid (drafts.Done instrs.ReturnZero ∷ []) → Led from from (Some from) new.code led → s2.layout ≡ s1.layout → s2.locals.items ≡ take seen s1.locals.items → FunStands ss s0 s2 old (recoded new led)
fun_stands {s0} {s1} {s2} {old} {mid} {new} ss seen from led c se ef w e leads la na =
    let ns = s0.locals.items in
    let h = later_names ns ss in
    let whole : Adds (layout_of s0.layout) (of_fun ss ns) old new = adds_then (layout_of s0.layout) (of_body ss ns) (line (instrs.ReturnZero ∷ [])) (of_fun ss ns) old mid new (closed_adds ss ns c w.code) (one_adds instrs.ReturnZero e) (λ a p q. (length mid.code, p, q)) in
    record {
      code = led_adds (of_fun ss ns) from from (Some from) led ef leads whole;
      done = subst (λ n. AreDone led n) ef (led_done from from from new.code led leads);
      layout = la ∙ w.layout;
      names = na ∙ forgets seen ns h.0 s1.locals.items se (w.names ∙ h.1);
    }
