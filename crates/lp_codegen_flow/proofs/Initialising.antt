-- Initialisers, one after another.
use Rattle.std.proofs.Common.{◌≡◌, ℕ, suc, ◌+◌, List, [], ◌∷◌, ◌++◌, length, map, Option, Some, None, refl, ap, ◌∙◌, subst, arith, length-append, append_assoc}
use Rattle.lp_tree.specs.declared.expr.Expr.{Expr}
use Rattle.lp_tree.specs.declared.keyword.Modifier.{Modifier}
use Rattle.lp_tree.specs.Trees.{Tree}
use Rattle.lp_tree.specs.TreeView.{tree_of}
use Rattle.lp_tree.specs.Statements.{DeclaratorTree}
use Rattle.lp_tree.specs.Units.{ItemTree, Inherit, Proto, Fun, Var}
use Rattle.lp_instr.specs.declared.instr.Instr.TheVariants.{SetGlobal, Pop, ReturnZero}
use Rattle.lp_instr.specs.Code.{Code}
use Rattle.lp_language.specs.Resolve.{Heritage, Variable, own_variables}
use Rattle.lp_isa.specs.Translates.{MakesInitialisers}
use Rattle.lp_codegen_expr.specs.declared.code.Draft.{Draft}
use Rattle.lp_codegen_expr.specs.declared.code.Draft.TheVariants.{Done}
use Rattle.lp_codegen_expr.specs.declared.scope.Scope.{Scope}
use Rattle.lp_codegen_expr.specs.Names.{layout_of}
use Rattle.lp_codegen_expr.specs.Drafts.{Sketch, Adds, grown, line, of_expr}
use Rattle.lp_codegen_expr.proofs.Compose.{adds_then, reform, line_none, line_adds, one_adds}
use Rattle.lp_codegen_flow.specs.Functions.{AreDone}
use Rattle.lp_codegen_flow.specs.Initialisers.{AddsBare, Initialises, InitialisersStand, of_init_fun, of_initialiser, of_initialisers, variables_of}
use Rattle.lp_codegen_flow.specs.Led.{Led}
use Rattle.lp_codegen_flow.proofs.Closing.{led_done}
use Rattle.lp_codegen_flow.proofs.Loops.{led_adds, recoded}

both : (h : Heritage) (k : ℕ) (vs ws : List Variable) (code : Code) (from mid to : ℕ) → MakesInitialisers h k vs code from mid → MakesInitialisers h (k + length vs) ws code mid to → MakesInitialisers h k (vs ++ ws) code from to
both h k [] ws code from mid to p q = let e : k + 0 ≡ k = omega arith in subst (λ n. MakesInitialisers h k ws code n to) p (subst (λ j. MakesInitialisers h j ws code mid to) e q)
both h k (v ∷ vs) ws code from mid to p q = let e : k + suc (length vs) ≡ suc k + length vs = omega arith in
    (p.0, p.1, both h (suc k) vs ws code p.0 mid to p.2 (subst (λ j. MakesInitialisers h j ws code mid to) e q))

pub init_none : (n : ℕ) (s : Scope) (d : Sketch) → Initialises [] n n s d d
init_none n s d = record { code = λ e. line_none (layout_of s.layout) d; place = omega arith }

pub init_as : (s : Scope) {old new : Sketch} {first next : ℕ} {vs ws : List Variable} → vs ≡ ws → Initialises vs first next s old new → Initialises ws first next s old new
init_as s {old} {new} {first} {next} {vs} {ws} e w = subst (λ x. Initialises x first next s old new) e w

pub init_both : (s : Scope) {old mid new : Sketch} {first k n : ℕ} (vs ws : List Variable) → Initialises vs first k s old mid → Initialises ws k n s mid new → Initialises (vs ++ ws) first n s old new
init_both s {old} {mid} {new} {first} {k} {n} vs ws v w = record {
  code = λ e. adds_then (layout_of s.layout) (of_initialisers first vs) (of_initialisers (first + length vs) ws) (of_initialisers first (vs ++ ws)) old mid new (v.code e) (subst (λ j. Adds (layout_of s.layout) (of_initialisers j ws) mid new) v.place (w.code e)) (λ a p q. both a.heritage first vs ws a.code (length old.code) (length mid.code) (length new.code) p q);
  place = let a = v.place in let b = w.place in let c = length-append vs ws in omega (arith, a, b, c);
}

-- a variable with an initialiser, and one with any
pub some_bare : (s : Scope) {old mid new : Sketch} (e : Expr) (k : ℕ) → Adds (layout_of s.layout) (of_expr s.locals.items e) old mid → new ≡ grown mid (map Done (SetGlobal k ∷ Pop ∷ [])) → AddsBare s (of_initialiser k (Some (tree_of e))) old new
some_bare s {old} {mid} {new} e k v f n =
    let is = SetGlobal k ∷ Pop ∷ [] in
    adds_then (layout_of s.layout) (of_expr [] e) (line is) (of_initialiser k (Some (tree_of e))) old mid new (subst (λ ns. Adds (layout_of s.layout) (of_expr ns e) old mid) n v) (line_adds is f) (λ a p q. (length mid.code, p, q))

pub none_bare : (s : Scope) (d : Sketch) (k : ℕ) → AddsBare s (of_initialiser k None) d d
none_bare s d k n = line_none (layout_of s.layout) d

pub value_as : (s : Scope) {old new : Sketch} (k : ℕ) {u v : Option Tree} → u ≡ v → AddsBare s (of_initialiser k u) old new → AddsBare s (of_initialiser k v) old new
value_as s {old} {new} k {u} {v} e w = subst (λ x. AddsBare s (of_initialiser k x) old new) e w

pub one_init : (s : Scope) {old new : Sketch} (ms : List Modifier) (d : DeclaratorTree) (k next : ℕ) → next ≡ k + 1 → AddsBare s (of_initialiser k d.value) old new → Initialises (variables_of ms (d ∷ [])) k next s old new
one_init s ms d k next f w = record {
  code = λ e. reform (of_initialiser k d.value) (of_initialisers k (variables_of ms (d ∷ []))) (λ a from to p. (to, p, refl)) (w e);
  place = f;
}

abbrev made : List Modifier → DeclaratorTree → Variable
made ms d = record { modifiers = ms; declared = d }

variables_both : (ms : List Modifier) (ds es : List DeclaratorTree) → variables_of ms ds ++ variables_of ms es ≡ variables_of ms (ds ++ es)
variables_both ms [] es = refl
variables_both ms (d ∷ ds) es = ap (λ l. made ms d ∷ l) (variables_both ms ds es)

-- one more of what is declared together
pub declared_more : (s : Scope) {old mid new : Sketch} {first k next : ℕ} (ms : List Modifier) (ds : List DeclaratorTree) (d : DeclaratorTree) → Initialises (variables_of ms ds) first k s old mid → next ≡ k + 1 → AddsBare s (of_initialiser k d.value) mid new → Initialises (variables_of ms (ds ++ d ∷ [])) first next s old new
declared_more s {old} {mid} {new} {first} {k} {next} ms ds d v f w =
    init_as s (variables_both ms ds (d ∷ [])) (init_both s (variables_of ms ds) (variables_of ms (d ∷ [])) v (one_init s ms d k next f w))

-- the variables of items
own_both : (is js : List ItemTree) → own_variables is ++ own_variables js ≡ own_variables (is ++ js)
own_both [] js = refl
own_both (Inherit line path ∷ is) js = own_both is js
own_both (Proto line ms ty w ps ∷ is) js = own_both is js
own_both (Fun line ms ty w ps b ∷ is) js = own_both is js
own_both (Var line ms b ds ∷ is) js = append_assoc (variables_of ms ds) (own_variables is) (own_variables js) ∙ ap (λ l. variables_of ms ds ++ l) (own_both is js)

pub items_more : (s : Scope) {old mid new : Sketch} {first k next : ℕ} (is : List ItemTree) (i : ItemTree) → Initialises (own_variables is) first k s old mid → Initialises (own_variables (i ∷ [])) k next s mid new → Initialises (own_variables (is ++ i ∷ [])) first next s old new
items_more s is i v w = init_as s (own_both is (i ∷ [])) (init_both s (own_variables is) (own_variables (i ∷ [])) v w)

-- as a function
pub init_stands : (s : Scope) {old mid new : Sketch} {first next from : ℕ} (vs : List Variable) (led : List Draft) → from ≡ length old.code → Initialises vs first next s old mid → new ≡ grown mid (Done ReturnZero ∷ []) → Led from from (Some from) new.code led → InitialisersStand vs first s old (recoded new led)
init_stands s {old} {mid} {new} {first} {next} {from} vs led ef w e leads = record {
  code = λ n. led_adds (of_init_fun first vs) from from (Some from) led ef leads (adds_then (layout_of s.layout) (of_initialisers first vs) (line (ReturnZero ∷ [])) (of_init_fun first vs) old mid new (w.code n) (one_adds ReturnZero e) (λ a p q. (length mid.code, p, q)));
  done = subst (λ n. AreDone led n) ef (led_done from from from new.code led leads);
}
