-- Statements with a meaning are clear.
use Rattle.std.proofs.Common.{◌≡◌, ℕ, List, [], ◌∷◌, ◌++◌, Bool, true, false, not, ◌&&◌, ◌||◌, Option, Some, None, refl, sym, ap, ◌∙◌, append_assoc, append-nil}
use Rattle.std.proofs.lemmas.List.{map-append}
use Rattle.std.specs.List.{list_any}
use Rattle.lp_tree.specs.declared.keyword.Base.{Base}
use Rattle.lp_tree.specs.declared.stmt.Each.{Each}
use Rattle.lp_tree.specs.declared.stmt.Label.{Label}
use Rattle.lp_tree.specs.declared.stmt.Label.TheVariants as kinds
use Rattle.lp_tree.specs.declared.types.TypeName.{TypeName}
use Rattle.lp_tree.specs.Trees.{Tree}
use Rattle.lp_tree.specs.Statements.{DeclaratorTree, InitTree, Nothing, DeclaresFirst, RunsFirst, StmtTree, Block, Empty, Run, Declares, If, While, DoWhile, For, Foreach, Switch, Break, Continue, Return, StmtTrees, NoStmt, MoreStmts, ElseTree, NoElse, Else, PartTrees, NoPart, LabelPart, StmtPart}
use Rattle.lp_language.specs.Exec.{is_default}
use Rattle.lp_language.specs.Scope.{Names, behind, declared, declared_each, declared_else, declared_first, declared_second, names_of}
use Rattle.lp_types_expr.specs.declared.local.Local.{Local}
use Rattle.lp_types_expr.specs.Known.{Around}
use Rattle.lp_types_expr.specs.Scopes.{Scope, visible, inside, declaring}
use Rattle.lp_types_expr.specs.Walk.{Guilt, in_tree, in_optional}
use Rattle.lp_types_expr.specs.Clear.{IsClear as IsMeant}
use Rattle.lp_types_expr.specs.Meant.{HasPlaces}
use Rattle.lp_types.specs.Clear as types
use Rattle.lp_types.specs.Clear.{HasPlacesIf, HasPlacesInit, HasPlacesStmt, HavePlacesOnes, HavePlacesStmts, HasPlacesElse, HavePlacesParts}
use Rattle.lp_types.specs.TypeFaults.{declares, declares_each, declares_else, declares_first, declares_second, declares_typed, local_of, locals_of, overlap}
use Rattle.lp_types.specs.TypeFaults as scopes
use Rattle.lp_layout.specs.LayoutFaults.{declarators_calls, else_calls, init_calls, parts_calls, stmt_calls, stmts_calls}
use Rattle.lp_codegen_expr.specs.Names.{Plan}
use Rattle.lp_codegen_expr.specs.Clear.{IsClear}
use Rattle.lp_codegen_layout.specs.Meant.{Knows, TellsAmbiguous}
use Rattle.lp_codegen_layout.proofs.Each.{innocent}
use Rattle.lp_codegen_flow.specs.Clear.{AreClearOnes, AreClearParts, AreClearStmts, IsClearEach, IsClearElse, IsClearIf, IsClearInit, IsClearSecond, IsClearStmt, IsNew}
use Rattle.lp_codegen_laws.proofs.Expressions.{meant}
use Rattle.lp_codegen_laws.proofs.Known.{knows_in, names}

-- two lists that are nothing together
pub split : {A : Type 0} (xs ys : List A) → xs ++ ys ≡ [] → (xs ≡ []) × (ys ≡ [])
split [] ys h = (refl, h)
split (x ∷ xs) ys h = absurd (cc)

-- The names of the locals that are seen are those of the check of types.
abbrev pub SeenIn : Names → Scope → Type 0
SeenIn ns sc = ns ≡ names (visible sc)

both_names : (xs ys : List Local) → names (xs ++ ys) ≡ names xs ++ names ys
both_names xs ys = map-append (λ x. x.name) xs ys

grown : (ns ms : Names) (sc : Scope) (ls : List Local) → SeenIn ns sc → ms ≡ names ls → SeenIn (ns ++ ms) (declaring sc ls)
grown ns ms sc ls e f =
    ap (λ n. n ++ ms) e ∙ ap (λ m. names (visible sc) ++ m) f ∙ sym (both_names (visible sc) ls) ∙ ap names (append_assoc sc.outer sc.block ls)

within : (ns : Names) (sc : Scope) → SeenIn ns sc → SeenIn ns (inside sc)
within ns sc e = e ∙ ap names (sym (append-nil (visible sc)))

ones_named : (base : Base) (ds : List DeclaratorTree) → names_of ds ≡ names (locals_of base ds)
ones_named base [] = refl
ones_named base (d ∷ ds) = ap (λ n. d.name ∷ n) (ones_named base ds)

mutual
  stmt_named : (s : StmtTree) → declared s ≡ names (declares s)
  stmt_named (Block line ss) = refl
  stmt_named (Empty line) = refl
  stmt_named (Run line e) = refl
  stmt_named (Declares line d) = ones_named d.base d.ones
  stmt_named (If line e y n) = ap (λ m. m ++ declared_else n) (stmt_named y) ∙ ap (λ m. names (declares y) ++ m) (else_named n) ∙ sym (both_names (declares y) (declares_else n))
  stmt_named (While line e b) = stmt_named b
  stmt_named (DoWhile line b e) = stmt_named b
  stmt_named (For line i t st b) = refl
  stmt_named (Foreach line f g e b) = refl
  stmt_named (Switch line e ps) = refl
  stmt_named (Break line) = refl
  stmt_named (Continue line) = refl
  stmt_named (Return line e) = refl

  else_named : (n : ElseTree) → declared_else n ≡ names (declares_else n)
  else_named NoElse = refl
  else_named (Else s) = stmt_named s

first_named : (i : InitTree) → declared_first i ≡ names (declares_first i)
first_named Nothing = refl
first_named (DeclaresFirst d) = ones_named d.base d.ones
first_named (RunsFirst e) = refl

abbrev each_with : Option TypeName → ℕ → List ℕ → Each
each_with ty line w = record { line = line; type_name = ty; name = w }

typed_named : (ty : Option TypeName) (line : ℕ) (w : List ℕ) → declared_each (each_with ty line w) ≡ names (declares_typed w ty)
typed_named None line w = refl
typed_named (Some ty) line w = refl

each_named : (e : Each) → declared_each e ≡ names (declares_each e)
each_named e = typed_named e.type_name e.line e.name

second_named : (e : Option Each) → declared_second e ≡ names (declares_second e)
second_named None = refl
second_named (Some e) = each_named e

-- What is known while a unit is looked at: a layout, what is round the unit's parts, and what is told of calls.
pub record Known (l : Plan) (a : Around) (f : Guilt) : Type 0 where
  pub knows : Knows l [] a []
  pub tells : TellsAmbiguous f a.parents

tree : (l : Plan) (a : Around) (f : Guilt) → Known l a f → (ns : Names) (ls : List Local) → ns ≡ names ls → (t : Tree) → IsMeant a ls t → HasPlaces t → in_tree f t ≡ [] → IsClear l ns t
tree l a f k ns ls e t h p q = meant l ns a ls f (knows_in l a k.knows ns ls e) k.tells t h p (innocent f t q)

pub tree_if : (l : Plan) (a : Around) (f : Guilt) → Known l a f → (ns : Names) (ls : List Local) → ns ≡ names ls → (t : Option Tree) → types.IsClearIf a ls t → HasPlacesIf t → in_optional f t ≡ [] → IsClearIf l ns t
tree_if l a f k ns ls e None h p q = tt
tree_if l a f k ns ls e (Some t) h p q = tree l a f k ns ls e t h p q

ones : (l : Plan) (a : Around) (f : Guilt) → Known l a f → (ns : Names) (sc : Scope) → SeenIn ns sc → (base : Base) (ds : List DeclaratorTree) → types.AreClearOnes a sc base ds → HavePlacesOnes ds → declarators_calls f ds ≡ [] → AreClearOnes l ns ds
ones l a f k ns sc e base [] h p q = tt
ones l a f k ns sc e base (d ∷ ds) h p q =
    let s = split (in_optional f d.value) (declarators_calls f ds) q in
    (tree_if l a f k ns (visible sc) e d.value h.0 p.0 s.0, ones l a f k (ns ++ d.name ∷ []) (declaring sc (local_of base d ∷ [])) (grown ns (d.name ∷ []) sc (local_of base d ∷ []) e refl) base ds h.1 p.1 s.1)

init : (l : Plan) (a : Around) (f : Guilt) → Known l a f → (ns : Names) (sc : Scope) → SeenIn ns sc → (i : InitTree) → types.IsClearInit a sc i → HasPlacesInit i → init_calls f i ≡ [] → IsClearInit l ns i
init l a f k ns sc e Nothing h p q = tt
init l a f k ns sc e (DeclaresFirst d) h p q = ones l a f k ns sc e d.base d.ones h p q
init l a f k ns sc e (RunsFirst t) h p q = tree l a f k ns (visible sc) e t h p q

each : (l : Plan) (a : Around) (f : Guilt) → Known l a f → (ns : Names) (sc : Scope) → SeenIn ns sc → (x : Each) → types.IsClearEach a sc x → IsClearEach l ns x
each l a f k ns sc e x h = λ n. (knows_in l a k.knows ns (visible sc) e).variables x.name (h n)

second : (l : Plan) (a : Around) (f : Guilt) → Known l a f → (ns : Names) (sc : Scope) → SeenIn ns sc → (x : Option Each) → types.IsClearSecond a sc x → IsClearSecond l ns x
second l a f k ns sc e None h = tt
second l a f k ns sc e (Some x) h = each l a f k ns sc e x h

-- A label that meets no earlier one is no second `default`.
abbrev MetIn : Bool → List Label → Type 0
MetIn met earlier = (line : ℕ) → list_any (overlap (kinds.Default line)) earlier ≡ met

none_but : (m : Bool) → not (m && false) ≡ true
none_but true = refl
none_but false = refl

new : (met : Bool) (earlier : List Label) (k : Label) → MetIn met earlier → types.IsApart earlier k → IsNew met k
new met earlier (kinds.Case line c) m h = none_but met
new met earlier (kinds.Range line x y) m h = none_but met
new met earlier (kinds.Default line) m h = ap (λ b. not (b && true)) (sym (m line) ∙ h)

still : (b : Bool) → b ≡ (b || false)
still true = refl
still false = refl

now : (b : Bool) → true ≡ (b || true)
now true = refl
now false = refl

met_more : (met : Bool) (earlier : List Label) (k : Label) → MetIn met earlier → MetIn (met || is_default k) (k ∷ earlier)
met_more met earlier (kinds.Case line c) m = λ n. m n ∙ still met
met_more met earlier (kinds.Range line x y) m = λ n. m n ∙ still met
met_more met earlier (kinds.Default line) m = λ n. now met

mutual
  pub stmt : (l : Plan) (a : Around) (f : Guilt) → Known l a f → (ns : Names) (sc : Scope) → SeenIn ns sc → (s : StmtTree) → types.IsClearStmt a sc s → HasPlacesStmt s → stmt_calls f s ≡ [] → IsClearStmt l ns s
  stmt l a f k ns sc e (Block line ss) h p q = stmts l a f k ns (inside sc) (within ns sc e) ss h p q
  stmt l a f k ns sc e (Empty line) h p q = tt
  stmt l a f k ns sc e (Run line t) h p q = tree l a f k ns (visible sc) e t h p q
  stmt l a f k ns sc e (Declares line d) h p q = ones l a f k ns sc e d.base d.ones h p q
  stmt l a f k ns sc e (If line t y n) h p q =
      let s = split (in_tree f t ++ stmt_calls f y) (else_calls f n) q in
      let r = split (in_tree f t) (stmt_calls f y) s.0 in
      (tree l a f k ns (visible sc) e t h.0 p.0 r.0, stmt l a f k ns sc e y h.1.0 p.1.0 r.1, other l a f k (behind ns y) (scopes.behind sc y) (grown ns (declared y) sc (declares y) e (stmt_named y)) n h.1.1 p.1.1 s.1)
  stmt l a f k ns sc e (While line t b) h p q =
      let s = split (in_tree f t) (stmt_calls f b) q in
      (tree l a f k ns (visible sc) e t h.0 p.0 s.0, stmt l a f k ns sc e b h.1 p.1 s.1)
  stmt l a f k ns sc e (DoWhile line b t) h p q =
      let s = split (stmt_calls f b) (in_tree f t) q in
      (stmt l a f k ns sc e b h.0 p.0 s.0, tree l a f k (behind ns b) (visible (scopes.behind sc b)) (grown ns (declared b) sc (declares b) e (stmt_named b)) t h.1 p.1 s.1)
  stmt l a f k ns sc e (For line i t st b) h p q =
      let inner = ns ++ declared_first i in
      let next = declaring (inside sc) (declares_first i) in
      let en : SeenIn inner next = grown ns (declared_first i) (inside sc) (declares_first i) (within ns sc e) (first_named i) in
      let s = split (init_calls f i ++ in_optional f t ++ in_optional f st) (stmt_calls f b) q in
      let r = split (init_calls f i ++ in_optional f t) (in_optional f st) s.0 in
      let v = split (init_calls f i) (in_optional f t) r.0 in
      (init l a f k ns (inside sc) (within ns sc e) i h.0 p.0 v.0, tree_if l a f k inner (visible next) en t h.1.0 p.1.0 v.1, tree_if l a f k inner (visible next) en st h.1.1.0 p.1.1.0 r.1, stmt l a f k inner next en b h.1.1.1 p.1.1.1 s.1)
  stmt l a f k ns sc e (Foreach line x y t b) h p q =
      let mid = ns ++ declared_each x in
      let inner = ns ++ declared_each x ++ declared_second y in
      let one = declaring (inside sc) (declares_each x) in
      let next = declaring (inside sc) (declares_each x ++ declares_second y) in
      let ei : SeenIn ns (inside sc) = within ns sc e in
      let eo : SeenIn mid one = grown ns (declared_each x) (inside sc) (declares_each x) ei (each_named x) in
      let both : declared_each x ++ declared_second y ≡ names (declares_each x ++ declares_second y) =
      ap (λ m. m ++ declared_second y) (each_named x) ∙ ap (λ m. names (declares_each x) ++ m) (second_named y) ∙ sym (both_names (declares_each x) (declares_second y)) in
      let en : SeenIn inner next = append_assoc ns (declared_each x) (declared_second y) ∙ grown ns (declared_each x ++ declared_second y) (inside sc) (declares_each x ++ declares_second y) ei both in
      let s = split (in_tree f t) (stmt_calls f b) q in
      (tree l a f k ns (visible sc) e t h.1.1.0 p.0 s.0, each l a f k ns (inside sc) ei x h.0, second l a f k mid one eo y h.1.0, stmt l a f k inner next en b h.1.1.1 p.1 s.1)
  stmt l a f k ns sc e (Switch line t ps) h p q =
      let s = split (in_tree f t) (parts_calls f ps) q in
      (tree l a f k ns (visible sc) e t h.0 p.0 s.0, parts l a f k ns (inside sc) (within ns sc e) false [] (λ n. refl) ps h.1 p.1 s.1)
  stmt l a f k ns sc e (Break line) h p q = tt
  stmt l a f k ns sc e (Continue line) h p q = tt
  stmt l a f k ns sc e (Return line t) h p q = tree_if l a f k ns (visible sc) e t h p q

  pub stmts : (l : Plan) (a : Around) (f : Guilt) → Known l a f → (ns : Names) (sc : Scope) → SeenIn ns sc → (ss : StmtTrees) → types.AreClearStmts a sc ss → HavePlacesStmts ss → stmts_calls f ss ≡ [] → AreClearStmts l ns ss
  stmts l a f k ns sc e NoStmt h p q = tt
  stmts l a f k ns sc e (MoreStmts s ss) h p q =
      let r = split (stmt_calls f s) (stmts_calls f ss) q in
      (stmt l a f k ns sc e s h.0 p.0 r.0, stmts l a f k (behind ns s) (scopes.behind sc s) (grown ns (declared s) sc (declares s) e (stmt_named s)) ss h.1 p.1 r.1)

  other : (l : Plan) (a : Around) (f : Guilt) → Known l a f → (ns : Names) (sc : Scope) → SeenIn ns sc → (x : ElseTree) → types.IsClearElse a sc x → HasPlacesElse x → else_calls f x ≡ [] → IsClearElse l ns x
  other l a f k ns sc e NoElse h p q = tt
  other l a f k ns sc e (Else s) h p q = stmt l a f k ns sc e s h p q

  parts : (l : Plan) (a : Around) (f : Guilt) → Known l a f → (ns : Names) (sc : Scope) → SeenIn ns sc → (met : Bool) (earlier : List Label) → MetIn met earlier → (ps : PartTrees) → types.AreClearParts a sc earlier ps → HavePlacesParts ps → parts_calls f ps ≡ [] → AreClearParts l ns met ps
  parts l a f k ns sc e met earlier m NoPart h p q = tt
  parts l a f k ns sc e met earlier m (LabelPart x ps) h p q = (new met earlier x m h.0, parts l a f k ns sc e (met || is_default x) (x ∷ earlier) (met_more met earlier x m) ps h.1 p q)
  parts l a f k ns sc e met earlier m (StmtPart s ps) h p q =
      let r = split (stmt_calls f s) (parts_calls f ps) q in
      (stmt l a f k ns sc e s h.0 p.0 r.0, parts l a f k (behind ns s) (scopes.behind sc s) (grown ns (declared s) sc (declares s) e (stmt_named s)) met earlier m ps h.1 p.1 r.1)
