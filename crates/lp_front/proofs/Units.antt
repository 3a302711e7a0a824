-- The names that a unit declares are among those of its tokens.
use Rattle.std.proofs.Common.{ℕ, List, [], ◌∷◌, ◌++◌, Option, Some, None, map}
use Rattle.std.specs.Prelude.{⊤}
use Rattle.std.specs.Str.{IsAscii}
use Rattle.std.proofs.lemmas.List.Elements.{All-head, All-tail}
use Rattle.lp_tree.specs.declared.keyword.Keyword.{Keyword}
use Rattle.lp_tree.specs.declared.seen.Seen.{Seen}
use Rattle.lp_tree.specs.declared.seen.Sort.{Sort}
use Rattle.lp_tree.specs.declared.seen.Sort.TheVariants as sorts
use Rattle.lp_tree.specs.declared.token.Mark.{Mark as AnyMark}
use Rattle.lp_tree.specs.declared.token.Token.{Token}
use Rattle.lp_tree.specs.declared.token.TokenKind.{TokenKind}
use Rattle.lp_tree.specs.declared.token.TokenKind.TheVariants.{Name, Text, Int, Mark, Bad}
use Rattle.lp_tree.specs.declared.types.TypeName.{TypeName}
use Rattle.lp_tree.specs.declared.keyword.Modifier.{Modifier as ModifierWord}
use Rattle.lp_tree.specs.declared.unit.Param.{Param}
use Rattle.lp_tree.specs.declared.stmt.Constant.{Constant}
use Rattle.lp_tree.specs.declared.stmt.Each.{Each}
use Rattle.lp_tree.specs.declared.stmt.Label.{Label}
use Rattle.lp_tree.specs.declared.expr.Edge.{Edge}
use Rattle.lp_tree.specs.Keywords.{keyword_of}
use Rattle.lp_tree.specs.Seen.{sort_of, named_as}
use Rattle.lp_tree.specs.Types.{SpellsStars, none as no_star, one_more as one_star, SpellsType, typed as type_of}
use Rattle.lp_tree.specs.Trees.{Tree, Trees, Pairs, End}
use Rattle.lp_tree.specs.Expressions as exprs
use Rattle.lp_tree.specs.Expressions.{Spells, SpellsEdge, SpellsParts as SpellsSequence, SpellsItems as SpellsList, SpellsPairs, SpellsPlaces, SpellsEnd, from_front, from_back, final, further, last, more, no_pair, last_pair, more_pairs, no_place, comma_last, one_place}
use Rattle.lp_tree.specs.Statements as stmts
use Rattle.lp_tree.specs.Statements.{Around, DeclaratorTree, LocalTree, InitTree, StmtTree, StmtTrees, PartTrees, SpellsDeclarator, SpellsDeclarators, SpellsLocal, SpellsEach, SpellsEaches, SpellsConstant, SpellsLabel, SpellsInit, SpellsOptional, SpellsStmt, SpellsStmts, SpellsParts, plain, set_to, one, another, declares, one_each, two_eaches, case_value, case_range, default_case}
use Rattle.lp_tree.specs.Units.{ItemTree, BlockTree, Phase, SpellsMods, no_mod, mod_word, SpellsTypeIf, no_type, type_given, SpellsParam, param, SpellsParams, one_param, more_params, SpellsParamsIf, no_params, params, SpellsBlock, block, SpellsItem, inherit, proto, fun, var, SpellsItems, no_item, item, SpellsUnit}
use Rattle.lp_parser.specs.Theorem.{sight}
use Rattle.lp_layout.specs.Layout.{AreSpelled, IsSpelled, variable_names}
use Rattle.lp_preproc_laws.specs.Names.{IsName, IsNamed, AreNamed}
use Rattle.lp_preproc_laws.proofs.Spelling.{name_ascii}

-- ---- Tokens as parsers see them

abbrev IsNamedSort : Sort → Type 0
IsNamedSort (sorts.Name w) = IsName w
IsNamedSort (sorts.Text w) = ⊤
IsNamedSort (sorts.Int n) = ⊤
IsNamedSort (sorts.Mark m) = ⊤
IsNamedSort (sorts.Reserved k) = ⊤
IsNamedSort sorts.Wrong = ⊤

abbrev Names : List Seen → Type 0
Names [] = ⊤
Names (x ∷ xs) = IsNamedSort x.sort × Names xs

named-as : (w : List ℕ) (k : Option Keyword) → IsName w → IsNamedSort (named_as w k)
named-as w None h = h
named-as w (Some k) h = tt

named-sort : (k : TokenKind) → IsNamed k → IsNamedSort (sort_of k)
named-sort (Name w) h = named-as w (keyword_of w) h
named-sort (Text w) h = tt
named-sort (Int n) h = tt
named-sort (Mark m) h = tt
named-sort (Bad k) h = tt

names-seen : (ts : List Token) → AreNamed ts → Names (sight ts)
names-seen [] h = tt
names-seen (t ∷ ts) h = (named-sort t.kind (All-head (λ (t : Token). IsNamed t.kind) t ts h), names-seen ts (All-tail (λ (t : Token). IsNamed t.kind) t ts h))

-- ---- What is left behind what was spelled

stars-left : {n : ℕ} {ts rest : List Seen} → SpellsStars n ts rest → Names ts → Names rest
stars-left no_star h = h
stars-left (one_star s) h = stars-left s h.1

type-left : {ty : TypeName} {ts rest : List Seen} → SpellsType ty ts rest → Names ts → Names rest
type-left (type_of s) h = stars-left s h.1

edge-left : {e : Edge} {ts rest : List Seen} → SpellsEdge e ts rest → Names ts → Names rest
edge-left from_front h = h
edge-left from_back h = h.1

mutual
  tree-left : {t : Tree} {ts rest : List Seen} → Spells t ts rest → Names ts → Names rest
  tree-left exprs.int h = h.1
  tree-left exprs.string h = h.1
  tree-left exprs.name h = h.1
  tree-left (exprs.paren s) h = (tree-left s h.1).1
  tree-left (exprs.array s) h = (list-left s h.1.1).1
  tree-left (exprs.mapping s) h = (pairs-left s h.1.1).1
  tree-left (exprs.call s) h = list-left s h.1.1
  tree-left (exprs.efun_call s) h = list-left s h.1.1.1.1
  tree-left (exprs.parent_call s) h = list-left s h.1.1.1
  tree-left (exprs.named_parent_call s) h = list-left s h.1.1.1.1
  tree-left (exprs.catch s) h = (tree-left s h.1.1).1
  tree-left (exprs.sscanf s r f q p) h = places-left p (tree-left f (tree-left s h.1.1).1)
  tree-left (exprs.index s r e i) h = (tree-left i (edge-left e (tree-left s h).1)).1
  tree-left (exprs.range s r a b) h = (end-left b (end-left a (tree-left s h).1).1).1
  tree-left (exprs.call_other s r a) h = list-left a (tree-left s h).1.1.1
  tree-left (exprs.post_step s p) h = (tree-left s h).1
  tree-left (exprs.pre_step s p) h = tree-left s h.1
  tree-left (exprs.unary u s r) h = tree-left s h.1
  tree-left (exprs.cast ty s r) h = tree-left s (type-left ty h.1).1
  tree-left (exprs.binary s q r p) h = tree-left r (tree-left s h).1
  tree-left (exprs.and_then s q r p) h = tree-left r (tree-left s h).1
  tree-left (exprs.or_else s q r p) h = tree-left r (tree-left s h).1
  tree-left (exprs.cond s q y n p) h = tree-left n (tree-left y (tree-left s h).1).1
  tree-left (exprs.assign s q v p) h = tree-left v (tree-left s h).1
  tree-left (exprs.sequence s q r) h = sequence-left r (tree-left s h).1

  sequence-left : {ts' : Trees} {ts rest : List Seen} → SpellsSequence ts' ts rest → Names ts → Names rest
  sequence-left (final s r) h = tree-left s h
  sequence-left (further s r p) h = sequence-left p (tree-left s h).1

  list-left : {m : AnyMark} {ts' : Trees} {ts rest : List Seen} → SpellsList m ts' ts rest → Names ts → Names rest
  list-left exprs.none h = h.1
  list-left (last s r) h = (tree-left s h).1
  list-left (more s r p) h = list-left p (tree-left s h).1

  pairs-left : {ps : Pairs} {ts rest : List Seen} → SpellsPairs ps ts rest → Names ts → Names rest
  pairs-left no_pair h = h.1
  pairs-left (last_pair k q v r) h = (tree-left v (tree-left k h).1).1
  pairs-left (more_pairs k q v r p) h = pairs-left p (tree-left v (tree-left k h).1).1

  places-left : {ps : Trees} {ts rest : List Seen} → SpellsPlaces ps ts rest → Names ts → Names rest
  places-left no_place h = h.1
  places-left comma_last h = h.1.1
  places-left (one_place s q p) h = places-left p (tree-left s h.1)

  end-left : {e : End} {ts rest : List Seen} → SpellsEnd e ts rest → Names ts → Names rest
  end-left exprs.missing h = h
  end-left (exprs.given e s) h = tree-left s (edge-left e h)

declarator-left : {d : DeclaratorTree} {ts rest : List Seen} → SpellsDeclarator d ts rest → Names ts → Names rest
declarator-left (plain s) h = (stars-left s h).1
declarator-left (set_to s e r) h = tree-left e (stars-left s h).1.1

declarators-left : {ds : List DeclaratorTree} {ts rest : List Seen} → SpellsDeclarators ds ts rest → Names ts → Names rest
declarators-left (one d) h = declarator-left d h
declarators-left (another d ds) h = declarators-left ds (declarator-left d h).1

local-left : {d : LocalTree} {ts rest : List Seen} → SpellsLocal d ts rest → Names ts → Names rest
local-left (declares ds) h = declarators-left ds h.1

each-left : {e : Each} {ts rest : List Seen} → SpellsEach e ts rest → Names ts → Names rest
each-left stmts.untyped h = h.1
each-left (stmts.typed ty) h = (type-left ty h).1

eaches-left : {e : Each} {f : Option Each} {ts rest : List Seen} → SpellsEaches e f ts rest → Names ts → Names rest
eaches-left (one_each e) h = each-left e h
eaches-left (two_eaches e f) h = each-left f (each-left e h).1

constant-left : {k : Constant} {ts rest : List Seen} → SpellsConstant k ts rest → Names ts → Names rest
constant-left stmts.int h = h.1
constant-left stmts.negative h = h.1.1
constant-left stmts.string h = h.1

label-left : {k : Label} {ts rest : List Seen} → SpellsLabel k ts rest → Names ts → Names rest
label-left (case_value k) h = (constant-left k h.1).1
label-left (case_range a b) h = (constant-left b (constant-left a h.1).1).1
label-left default_case h = h.1.1

init-left : {i : InitTree} {ts rest : List Seen} → SpellsInit i ts rest → Names ts → Names rest
init-left stmts.no_init h = h
init-left (stmts.init_local d) h = local-left d h
init-left (stmts.init_expr s) h = tree-left s h

optional-left : {e : Option Tree} {ts rest : List Seen} → SpellsOptional e ts rest → Names ts → Names rest
optional-left stmts.missing h = h
optional-left (stmts.given s) h = tree-left s h

mutual
  stmt-left : {a : Around} {s : StmtTree} {ts rest : List Seen} → SpellsStmt a s ts rest → Names ts → Names rest
  stmt-left (stmts.block s) h = stmts-left s h.1
  stmt-left stmts.empty h = h.1
  stmt-left (stmts.run e) h = (tree-left e h).1
  stmt-left (stmts.local d) h = (local-left d h).1
  stmt-left (stmts.if_only e y n) h = stmt-left y (tree-left e h.1.1).1
  stmt-left (stmts.if_else e y n) h = stmt-left n (stmt-left y (tree-left e h.1.1).1).1
  stmt-left (stmts.while e b) h = stmt-left b (tree-left e h.1.1).1
  stmt-left (stmts.do_while b e) h = (tree-left e (stmt-left b h.1).1.1).1.1
  stmt-left (stmts.for i t s b) h = stmt-left b (optional-left s (optional-left t (init-left i h.1.1).1).1).1
  stmt-left (stmts.foreach f i e b) h = stmt-left b (tree-left e (eaches-left f h.1.1).1).1
  stmt-left (stmts.switch e p) h = parts-left p (tree-left e h.1.1).1.1
  stmt-left (stmts.break m) h = h.1.1
  stmt-left (stmts.continue m) h = h.1.1
  stmt-left (stmts.return e) h = (optional-left e h.1).1

  stmts-left : {a : Around} {ss : StmtTrees} {ts rest : List Seen} → SpellsStmts a ss ts rest → Names ts → Names rest
  stmts-left stmts.no_more h = h.1
  stmts-left (stmts.stmt s ss) h = stmts-left ss (stmt-left s h)

  parts-left : {a : Around} {ps : PartTrees} {ts rest : List Seen} → SpellsParts a ps ts rest → Names ts → Names rest
  parts-left stmts.no_part h = h.1
  parts-left (stmts.label_part k p) h = parts-left p (label-left k h)
  parts-left (stmts.stmt_part s p) h = parts-left p (stmt-left s h)

mods-left : {ms : List ModifierWord} {ts rest : List Seen} → SpellsMods ms ts rest → Names ts → Names rest
mods-left no_mod h = h
mods-left (mod_word m) h = mods-left m h.1

type-if-left : {ty : Option TypeName} {ts rest : List Seen} → SpellsTypeIf ty ts rest → Names ts → Names rest
type-if-left no_type h = h
type-if-left (type_given ty) h = type-left ty h

param-left : {p : Param} {ts rest : List Seen} → SpellsParam p ts rest → Names ts → Names rest
param-left (param ty) h = (type-if-left ty h).1

params-left : {ps : List Param} {ts rest : List Seen} → SpellsParams ps ts rest → Names ts → Names rest
params-left (one_param p) h = param-left p h
params-left (more_params p ps) h = params-left ps (param-left p h).1

params-if-left : {ps : List Param} {ts rest : List Seen} → SpellsParamsIf ps ts rest → Names ts → Names rest
params-if-left no_params h = h
params-if-left (params ps) h = params-left ps h

block-left : {b : BlockTree} {ts rest : List Seen} → SpellsBlock b ts rest → Names ts → Names rest
block-left (block ss) h = stmts-left ss h.1

item-left : {i : ItemTree} {ts rest : List Seen} → SpellsItem i ts rest → Names ts → Names rest
item-left inherit h = h.1.1.1
item-left (proto m ty ps) h = (params-if-left ps (type-if-left ty (mods-left m h)).1.1).1.1
item-left (fun m ty ps b) h = block-left b (params-if-left ps (type-if-left ty (mods-left m h)).1.1).1
item-left (var m ds) h = (declarators-left ds (mods-left m h).1).1

-- ---- What is declared

spelled-append : (a b : List (List ℕ)) → AreSpelled a → AreSpelled b → AreSpelled (a ++ b)
spelled-append [] b h k = k
spelled-append (w ∷ a) b h k = (h.0, spelled-append a b h.1 k)

declarator-spelled : {d : DeclaratorTree} {ts rest : List Seen} → SpellsDeclarator d ts rest → Names ts → IsAscii d.name
declarator-spelled (plain {w} s) h = name_ascii w (stars-left s h).0
declarator-spelled (set_to {w} s e r) h = name_ascii w (stars-left s h).0

declarators-spelled : {ds : List DeclaratorTree} {ts rest : List Seen} → SpellsDeclarators ds ts rest → Names ts → AreSpelled (map (λ d. d.name) ds)
declarators-spelled (one d) h = (declarator-spelled d h, tt)
declarators-spelled (another d ds) h = (declarator-spelled d h, declarators-spelled ds (declarator-left d h).1)

item-spelled : {i : ItemTree} {is : List ItemTree} {ts rest : List Seen} → SpellsItem i ts rest → Names ts → IsSpelled is → IsSpelled (i ∷ is)
item-spelled inherit h k = record { functions = k.functions; variables = k.variables }
item-spelled (proto {w} m ty ps) h k = record { functions = (name_ascii w (type-if-left ty (mods-left m h)).0, k.functions); variables = k.variables }
item-spelled (fun {w} m ty ps b) h k = record { functions = (name_ascii w (type-if-left ty (mods-left m h)).0, k.functions); variables = k.variables }
item-spelled {is} (var {ds} m d) h k = record {
  functions = k.functions;
  variables = spelled-append (map (λ d. d.name) ds) (variable_names is) (declarators-spelled d (mods-left m h).1) k.variables;
}

items-spelled : {p : Phase} {is : List ItemTree} {ts : List Seen} → SpellsItems p is ts → Names ts → IsSpelled is
items-spelled no_item h = record { functions = tt; variables = tt }
items-spelled (item i t is) h = item-spelled i h (items-spelled is (item-left i h))

-- what is declared in tokens whose names are spelled as names are
pub unit_spelled : {is : List ItemTree} (ts : List Token) → AreNamed ts → SpellsUnit is (sight ts) → IsSpelled is
unit_spelled ts h s = items-spelled s (names-seen ts h)
