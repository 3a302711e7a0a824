-- What the layout looks at in statements, in the order of tokens: their expressions, and how many locals they declare.
use Rattle.std.specs.Prelude.{ℕ, ◌+◌, List, [], ◌∷◌, ◌++◌, length, map, Option, Some, None}
use Rattle.lp_tree.specs.Trees.{Tree}
use Rattle.lp_tree.specs.TreeView.{tree_of}
use Rattle.lp_tree.specs.Statements.{DeclaratorTree, LocalTree, InitTree, Nothing, DeclaresFirst, RunsFirst, StmtTree, Block, Empty, Run, Declares, If, While, DoWhile, For, Foreach, Switch, Break, Continue, Return, StmtTrees, NoStmt, MoreStmts, ElseTree, NoElse, Else, PartTrees, NoPart, LabelPart, StmtPart}
use Rattle.lp_types_expr.specs.declared.fault.FaultAt.{FaultAt}
use Rattle.lp_types_expr.specs.Walk.{Guilt, in_tree}
use Rattle.lp_layout.specs.declared.piece.Piece.{Piece}
use Rattle.lp_layout.specs.declared.piece.Piece.TheVariants as pieces
use Rattle.lp_layout.specs.LayoutFaults.{each_locals, second_locals}

pub data PieceTree : Type 0 where
  Locals : (count : ℕ) → PieceTree
  Runs : (of : Tree) → PieceTree

-- what the program lists
abbrev pub piece_of : Piece → PieceTree
piece_of (pieces.Locals n) = Locals n
piece_of (pieces.Runs e) = Runs (tree_of e.now)

abbrev pub seen : List Piece → List PieceTree
seen ps = map piece_of ps

abbrev pub value_pieces : Option Tree → List PieceTree
value_pieces None = []
value_pieces (Some t) = Runs t ∷ []

abbrev pub ones_pieces : List DeclaratorTree → List PieceTree
ones_pieces [] = []
ones_pieces (d ∷ ds) = value_pieces d.value ++ ones_pieces ds

abbrev pub local_pieces : LocalTree → List PieceTree
local_pieces d = Locals (length d.ones) ∷ ones_pieces d.ones

abbrev pub init_pieces : InitTree → List PieceTree
init_pieces Nothing = []
init_pieces (DeclaresFirst d) = local_pieces d
init_pieces (RunsFirst e) = Runs e ∷ []

abbrev mutual
  pub stmt_pieces : StmtTree → List PieceTree
  stmt_pieces (Block line ss) = stmts_pieces ss
  stmt_pieces (Empty line) = []
  stmt_pieces (Run line e) = Runs e ∷ []
  stmt_pieces (Declares line d) = local_pieces d
  stmt_pieces (If line e y n) = Runs e ∷ (stmt_pieces y ++ else_pieces n)
  stmt_pieces (While line e b) = Runs e ∷ stmt_pieces b
  stmt_pieces (DoWhile line b e) = stmt_pieces b ++ Runs e ∷ []
  stmt_pieces (For line i t st b) = (init_pieces i ++ (value_pieces t ++ value_pieces st)) ++ stmt_pieces b
  stmt_pieces (Foreach line f st e b) = (Locals (each_locals f + second_locals st) ∷ Runs e ∷ []) ++ stmt_pieces b
  stmt_pieces (Switch line e ps) = Runs e ∷ parts_pieces ps
  stmt_pieces (Break line) = []
  stmt_pieces (Continue line) = []
  stmt_pieces (Return line e) = value_pieces e

  pub stmts_pieces : StmtTrees → List PieceTree
  stmts_pieces NoStmt = []
  stmts_pieces (MoreStmts st ss) = stmt_pieces st ++ stmts_pieces ss

  pub else_pieces : ElseTree → List PieceTree
  else_pieces NoElse = []
  else_pieces (Else st) = stmt_pieces st

  pub parts_pieces : PartTrees → List PieceTree
  parts_pieces NoPart = []
  parts_pieces (LabelPart k ps) = parts_pieces ps
  parts_pieces (StmtPart st ps) = stmt_pieces st ++ parts_pieces ps

-- the faults of the expressions
abbrev pub calls_in : Guilt → List PieceTree → List FaultAt
calls_in f [] = []
calls_in f (Locals n ∷ ps) = calls_in f ps
calls_in f (Runs t ∷ ps) = in_tree f t ++ calls_in f ps

abbrev pub locals_in : List PieceTree → ℕ
locals_in [] = 0
locals_in (Locals n ∷ ps) = n + locals_in ps
locals_in (Runs t ∷ ps) = locals_in ps
