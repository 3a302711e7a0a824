-- What is clear is refused for want of memory or room alone: where a part of a statement is refused as unclear, the
-- statement is not clear.
use Rattle.std.proofs.Common.{◌≡◌, ℕ, zero, suc, ◌<◌, List, [], ◌∷◌, ◌++◌, length, take, map, get_or, Bool, true, false, ◌||◌, cond, Option, Some, None, is_some, refl, sym, subst, arith, append_assoc, append-nil}
use Rattle.std.specs.Prelude.{option_map}
use Rattle.lp_tree.specs.declared.keyword.Modifier.{Modifier}
use Rattle.lp_tree.specs.declared.stmt.Declarator.{Declarator}
use Rattle.lp_tree.specs.declared.stmt.Label.{Label}
use Rattle.lp_tree.specs.declared.stmt.Part.{Part}
use Rattle.lp_tree.specs.declared.stmt.Part.TheVariants as parts
use Rattle.lp_tree.specs.declared.stmt.Stmt.{Stmt}
use Rattle.lp_tree.specs.declared.unit.Item.{Item}
use Rattle.lp_tree.specs.Pieces.{parts_of}
use Rattle.lp_tree.specs.TreeView.{tree_of}
use Rattle.lp_tree.specs.Statements.{DeclaratorTree, StmtTree}
use Rattle.lp_tree.specs.StatementView.{declarator_of, stmt_of, stmt_trees}
use Rattle.lp_tree.specs.Units.{ItemTree, Inherit, Proto, Fun, Var}
use Rattle.lp_tree.specs.UnitView.{item_of}
use Rattle.lp_language.specs.Exec.{first_label, is_default}
use Rattle.lp_language.specs.Resolve.{Variable, counted, own_variables}
use Rattle.lp_language.specs.Scope.{Names, behind, names_of}
use Rattle.lp_codegen_expr.specs.Names.{Plan, layout_of}
use Rattle.lp_codegen_expr.specs.Clear.{Spares}
use Rattle.lp_codegen_expr.specs.declared.code.GenFault.{GenFault}
use Rattle.lp_codegen_expr.specs.declared.scope.Scope.{Scope}
use Rattle.lp_codegen_flow.specs.Clear.{AreClearOnes, AreClearParts, AreClearStmts, AreClearVariables, IsClearIf, IsClearStmt, IsNew}
use Rattle.lp_codegen_flow.specs.Flows.{behind_all}
use Rattle.lp_codegen_flow.specs.Initialisers.{variables_of}
use Rattle.lp_codegen_flow.specs.Switches.{behind_parts}
use Rattle.lp_codegen_flow.proofs.Scopes.{forgets}

-- where another scope stands that is the same
pub there : (P : Plan → Names → Type 0) (s0 s1 : Scope) (ns : Names) → s1.layout ≡ s0.layout → s1.locals.items ≡ ns → P (layout_of s0.layout) ns → P (layout_of s1.layout) s1.locals.items
there P s0 s1 ns e f q = subst (λ l. P (layout_of l) s1.locals.items) (sym e) (subst (P (layout_of s0.layout)) (sym f) q)

-- where the locals behind the first are forgotten again
pub forgot : (P : Plan → Names → Type 0) (s0 s1 : Scope) (seen : ℕ) (ms : Names) → seen ≡ length s0.locals.items → s1.layout ≡ s0.layout → s1.locals.items ≡ s0.locals.items ++ ms → P (layout_of s0.layout) s0.locals.items → P (layout_of s1.layout) (take seen s1.locals.items)
forgot P s0 s1 seen ms se e f q = subst (λ l. P (layout_of l) (take seen s1.locals.items)) (sym e) (subst (P (layout_of s0.layout)) (sym (forgets seen s0.locals.items ms s1.locals.items se f)) q)

pub cut : (P : Plan → Names → Type 0) (s0 s1 : Scope) (seen : ℕ) (ms xs : Names) → seen ≡ length s0.locals.items → s1.layout ≡ s0.layout → s1.locals.items ≡ s0.locals.items ++ ms → xs ≡ take seen s1.locals.items → P (layout_of s0.layout) s0.locals.items → P (layout_of s1.layout) xs
cut P s0 s1 seen ms xs se e f g q = subst (P (layout_of s1.layout)) (sym g) (forgot P s0 s1 seen ms se e f q)

-- a statement whose tree is known, and one by another name
pub whole : {f : GenFault} (l : Plan) (ns : Names) (s : Stmt) (t : StmtTree) → stmt_of s ≡ t → Spares (IsClearStmt l ns t) f → Spares (IsClearStmt l ns (stmt_of s)) f
whole l ns s t h r = λ u q. r u (subst (IsClearStmt l ns) h q)

pub named : (l : Plan) (ns : Names) {a b : Stmt} → a ≡ b → IsClearStmt l ns (stmt_of b) → IsClearStmt l ns (stmt_of a)
named l ns {a} {b} e q = subst (λ s. IsClearStmt l ns (stmt_of s)) (sym e) q

-- one of what is declared together
pub one_of : (l : Plan) (ns : Names) (ds : List Declarator) (i : ℕ) (x : Declarator) → i < length ds → get_or ds i x ≡ x → AreClearOnes l ns (map declarator_of ds) → IsClearIf l (ns ++ names_of (map declarator_of (take i ds))) (option_map tree_of x.value)
one_of l ns [] i x h e q = absurd (omega (arith, h))
one_of l ns (y ∷ ys) zero x h e q = subst (λ ms. IsClearIf l ms (option_map tree_of x.value)) (sym (append-nil ns)) (subst (λ d. IsClearIf l ns (option_map tree_of d.value)) e q.0)
one_of l ns (y ∷ ys) (suc i) x h e q =
    subst (λ ms. IsClearIf l ms (option_map tree_of x.value)) (append_assoc ns (y.name ∷ []) (names_of (map declarator_of (take i ys)))) (one_of l (ns ++ y.name ∷ []) ys i x (omega (arith, h)) e q.1)

-- one of the statements of a block
pub stmt_of_all : (l : Plan) (ns : Names) (ss : List Stmt) (i : ℕ) (x : Stmt) → i < length ss → get_or ss i x ≡ x → AreClearStmts l ns (stmt_trees (map stmt_of ss)) → IsClearStmt l (behind_all ns (stmt_trees (map stmt_of (take i ss)))) (stmt_of x)
stmt_of_all l ns [] i x h e q = absurd (omega (arith, h))
stmt_of_all l ns (y ∷ ys) zero x h e q = subst (λ s. IsClearStmt l ns (stmt_of s)) e q.0
stmt_of_all l ns (y ∷ ys) (suc i) x h e q = stmt_of_all l (behind ns (stmt_of y)) ys i x (omega (arith, h)) e q.1

-- one of the parts of a switch
abbrev pub IsClearPart : Plan → Names → Bool → Part Stmt → Type 0
IsClearPart l ns met (parts.Label k) = IsNew met k
IsClearPart l ns met (parts.Stmt s) = IsClearStmt l ns (stmt_of s)

abbrev pub met_in : List (Part Stmt) → Bool
met_in ps = is_some (first_label is_default (parts_of ps))

met_or : (a b : Bool) (o : Option ℕ) → ((a || b) || is_some o) ≡ (a || is_some (cond b (Some 0) (counted o)))
met_or true b o = refl
met_or false true o = refl
met_or false false None = refl
met_or false false (Some n) = refl

met_later : (a : Bool) (o : Option ℕ) → (a || is_some o) ≡ (a || is_some (counted o))
met_later a None = refl
met_later a (Some n) = refl

nothing_met : (a : Bool) → a ≡ (a || false)
nothing_met true = refl
nothing_met false = refl

as_met : (l : Plan) (ns : Names) (x : Part Stmt) {a b : Bool} → a ≡ b → IsClearPart l ns a x → IsClearPart l ns b x
as_met l ns x {a} {b} e q = subst (λ m. IsClearPart l ns m x) e q

first_part : (l : Plan) (ns : Names) (met : Bool) (y : Part Stmt) (ys : List (Part Stmt)) → AreClearParts l ns met (parts_of (y ∷ ys)) → IsClearPart l ns met y
first_part l ns met (parts.Label k) ys q = q.0
first_part l ns met (parts.Stmt s) ys q = q.0

pub part_of_all : (l : Plan) (ns : Names) (met : Bool) (ps : List (Part Stmt)) (i : ℕ) (x : Part Stmt) → i < length ps → get_or ps i x ≡ x → AreClearParts l ns met (parts_of ps) → IsClearPart l (behind_parts ns (take i ps)) (met || met_in (take i ps)) x
part_of_all l ns met [] i x h e q = absurd (omega (arith, h))
part_of_all l ns met (y ∷ ys) zero x h e q = as_met l ns x (nothing_met met) (subst (IsClearPart l ns met) e (first_part l ns met y ys q))
part_of_all l ns met (parts.Label k ∷ ys) (suc i) x h e q =
    as_met l (behind_parts ns (take i ys)) x (met_or met (is_default k) (first_label is_default (parts_of (take i ys)))) (part_of_all l ns (met || is_default k) ys i x (omega (arith, h)) e q.1)
part_of_all l ns met (parts.Stmt s ∷ ys) (suc i) x h e q =
    as_met l (behind_parts (behind ns (stmt_of s)) (take i ys)) x (met_later met (first_label is_default (parts_of (take i ys)))) (part_of_all l (behind ns (stmt_of s)) met ys i x (omega (arith, h)) e q.1)

pub label_of_all : (l : Plan) (ns : Names) (ps : List (Part Stmt)) (i : ℕ) (x : Part Stmt) (k : Label) (o : Option ℕ) → i < length ps → get_or ps i x ≡ x → x ≡ parts.Label k → is_some o ≡ met_in (take i ps) → AreClearParts l ns false (parts_of ps) → IsNew (is_some o) k
label_of_all l ns ps i x k o lt is e d q =
    subst (λ m. IsNew m k) (sym d) (subst (IsClearPart l (behind_parts ns (take i ps)) (met_in (take i ps))) e (part_of_all l ns false ps i x lt is q))

pub stmt_of_parts : (l : Plan) (ns : Names) (ps : List (Part Stmt)) (i : ℕ) (x : Part Stmt) (s : Stmt) → i < length ps → get_or ps i x ≡ x → x ≡ parts.Stmt s → AreClearParts l ns false (parts_of ps) → IsClearStmt l (behind_parts ns (take i ps)) (stmt_of s)
stmt_of_parts l ns ps i x s lt is e q = subst (IsClearPart l (behind_parts ns (take i ps)) (met_in (take i ps))) e (part_of_all l ns false ps i x lt is q)

-- variables of a file, whatever their modifiers
pub with_any : (l : Plan) (ns : Names) (ms ls : List Modifier) (ds : List DeclaratorTree) → AreClearVariables l ns (variables_of ms ds) → AreClearVariables l ns (variables_of ls ds)
with_any l ns ms ls [] q = tt
with_any l ns ms ls (d ∷ ds) q = (q.0, with_any l ns ms ls ds q.1)

pub value_of_all : (l : Plan) (ns : Names) (ms : List Modifier) (ds : List Declarator) (i : ℕ) (x : Declarator) → i < length ds → get_or ds i x ≡ x → AreClearVariables l ns (variables_of ms (map declarator_of ds)) → IsClearIf l ns (option_map tree_of x.value)
value_of_all l ns ms [] i x h e q = absurd (omega (arith, h))
value_of_all l ns ms (y ∷ ys) zero x h e q = subst (λ d. IsClearIf l ns (option_map tree_of d.value)) e q.0
value_of_all l ns ms (y ∷ ys) (suc i) x h e q = value_of_all l ns ms ys i x (omega (arith, h)) e q.1

front : (l : Plan) (ns : Names) (vs ws : List Variable) → AreClearVariables l ns (vs ++ ws) → AreClearVariables l ns vs
front l ns [] ws q = tt
front l ns (v ∷ vs) ws q = (q.0, front l ns vs ws q.1)

back : (l : Plan) (ns : Names) (vs ws : List Variable) → AreClearVariables l ns (vs ++ ws) → AreClearVariables l ns ws
back l ns [] ws q = q
back l ns (v ∷ vs) ws q = back l ns vs ws q.1

item_first : (l : Plan) (ns : Names) (i : ItemTree) (is : List ItemTree) → AreClearVariables l ns (own_variables (i ∷ is)) → AreClearVariables l ns (own_variables (i ∷ [])) × AreClearVariables l ns (own_variables is)
item_first l ns (Inherit line path) is q = (tt, q)
item_first l ns (Proto line ms ty w ps) is q = (tt, q)
item_first l ns (Fun line ms ty w ps b) is q = (tt, q)
item_first l ns (Var line ms b ds) is q =
    (subst (AreClearVariables l ns) (sym (append-nil (variables_of ms ds))) (front l ns (variables_of ms ds) (own_variables is) q), back l ns (variables_of ms ds) (own_variables is) q)

pub item_of_all : (l : Plan) (ns : Names) (is : List Item) (i : ℕ) (x : Item) → i < length is → get_or is i x ≡ x → AreClearVariables l ns (own_variables (map item_of is)) → AreClearVariables l ns (own_variables (item_of x ∷ []))
item_of_all l ns [] i x h e q = absurd (omega (arith, h))
item_of_all l ns (y ∷ ys) zero x h e q = subst (λ z. AreClearVariables l ns (own_variables (item_of z ∷ []))) e (item_first l ns (item_of y) (map item_of ys) q).0
item_of_all l ns (y ∷ ys) (suc i) x h e q = item_of_all l ns ys i x (omega (arith, h)) e (item_first l ns (item_of y) (map item_of ys) q).1
