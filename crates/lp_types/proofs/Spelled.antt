-- Units that are spelled have places where places must be.
use Rattle.std.proofs.Common.{List}
use Rattle.std.specs.Prelude.{Option}
use Rattle.lp_tree.specs.declared.seen.Seen.{Seen}
use Rattle.lp_tree.specs.Trees.{Tree}
use Rattle.lp_tree.specs.Statements.{DeclaratorTree, LocalTree, InitTree, StmtTree, StmtTrees, PartTrees, SpellsDeclarator, plain, set_to, SpellsDeclarators, one, another, SpellsLocal, declares, SpellsInit, no_init, init_local, init_expr, SpellsOptional, missing, given, SpellsStmt, SpellsStmts, SpellsParts}
use Rattle.lp_tree.specs.Statements as forms
use Rattle.lp_tree.specs.Units.{ItemTree, Phase, SpellsBlock, SpellsItems}
use Rattle.lp_tree.specs.Units as units
use Rattle.lp_types_expr.proofs.Spelled.{spelled}
use Rattle.lp_types.specs.Clear.{HasPlacesIf, HavePlacesOnes, HasPlacesInit, HasPlacesStmt, HavePlacesStmts, HavePlacesParts, HavePlacesItems}

optional : {t : Option Tree} {ts rest : List Seen} → SpellsOptional t ts rest → HasPlacesIf t
optional missing = tt
optional (given s) = spelled s

declarator : {d : DeclaratorTree} {ts rest : List Seen} → SpellsDeclarator d ts rest → HasPlacesIf d.value
declarator (plain s) = tt
declarator (set_to s e q) = spelled e

declarators : {ds : List DeclaratorTree} {ts rest : List Seen} → SpellsDeclarators ds ts rest → HavePlacesOnes ds
declarators (one d) = (declarator d, tt)
declarators (another d ds) = (declarator d, declarators ds)

declared : {d : LocalTree} {ts rest : List Seen} → SpellsLocal d ts rest → HavePlacesOnes d.ones
declared (declares ds) = declarators ds

init : {i : InitTree} {ts rest : List Seen} → SpellsInit i ts rest → HasPlacesInit i
init no_init = tt
init (init_local d) = declared d
init (init_expr s) = spelled s

mutual
  pub stmt : {g : forms.Around} {s : StmtTree} {ts rest : List Seen} → SpellsStmt g s ts rest → HasPlacesStmt s
  stmt (forms.block ss) = stmts ss
  stmt forms.empty = tt
  stmt (forms.run s) = spelled s
  stmt (forms.local d) = declared d
  stmt (forms.if_only s y q) = (spelled s, (stmt y, tt))
  stmt (forms.if_else s y n) = (spelled s, (stmt y, stmt n))
  stmt (forms.while s b) = (spelled s, stmt b)
  stmt (forms.do_while b s) = (stmt b, spelled s)
  stmt (forms.for i t s b) = (init i, (optional t, (optional s, stmt b)))
  stmt (forms.foreach f x s b) = (spelled s, stmt b)
  stmt (forms.switch s ps) = (spelled s, parts ps)
  stmt (forms.break q) = tt
  stmt (forms.continue q) = tt
  stmt (forms.return e) = optional e

  stmts : {g : forms.Around} {ss : StmtTrees} {ts rest : List Seen} → SpellsStmts g ss ts rest → HavePlacesStmts ss
  stmts forms.no_more = tt
  stmts (forms.stmt s ss) = (stmt s, stmts ss)

  parts : {g : forms.Around} {ps : PartTrees} {ts rest : List Seen} → SpellsParts g ps ts rest → HavePlacesParts ps
  parts forms.no_part = tt
  parts (forms.label_part k ps) = parts ps
  parts (forms.stmt_part s ps) = (stmt s, parts ps)

body : {b : units.BlockTree} {ts rest : List Seen} → SpellsBlock b ts rest → HavePlacesStmts b.stmts
body (units.block ss) = stmts ss

pub items : {p : Phase} {is : List ItemTree} {ts : List Seen} → SpellsItems p is ts → HavePlacesItems is
items units.no_item = tt
items (units.item units.inherit t is) = items is
items (units.item (units.proto m y p) t is) = items is
items (units.item (units.fun m y p b) t is) = (body b, items is)
items (units.item (units.var m ds) t is) = (declarators ds, items is)
