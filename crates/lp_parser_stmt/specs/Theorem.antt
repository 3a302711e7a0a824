-- What the machines of names and of statements promise those who build on them.
use Rattle.std.specs.Prelude.{◌≡◌, ℕ, ◌≤◌, suc, max, List, [], ◌∷◌, ◌++◌, Some}
use Rattle.lp_tree.specs.declared.token.Mark.TheVariants.{Semicolon}
use Rattle.lp_tree.specs.declared.seen.Seen.{Seen}
use Rattle.lp_tree.specs.Seen.{mark}
use Rattle.lp_tree.specs.Statements.{DeclaratorTree, StmtTrees, in_function, SpellsDeclarators, SpellsStmts, declarator_heights, stmt_heights}
use Rattle.lp_parser_stmt.specs.Machine.{Names, AtOne, names_step, names_finished, names_run, names_walk, State, step, start, run, walk}
use Rattle.lp_parser_stmt.specs.Depth.{names_height, names_here, here, least}

-- The machine of names reads, before a semicolon, exactly what is spelled; each front of it can be ended as shallow as
-- it says; and a token adds exactly the levels of what has to come.
pub record ReadsNames : Type 0 where
  pub read : (ds : List DeclaratorTree) (l : ℕ) (ts rest : List Seen) → names_run (AtOne []) ts ≡ Some (record { ones = ds; rest = mark Semicolon l ∷ rest }) → SpellsDeclarators ds ts (mark Semicolon l ∷ rest)
  pub spelled : (ds : List DeclaratorTree) (l : ℕ) (ts rest : List Seen) → SpellsDeclarators ds ts (mark Semicolon l ∷ rest) → names_run (AtOne []) ts ≡ Some (record { ones = ds; rest = mark Semicolon l ∷ rest })
  pub begun : (front : List Seen) (d : Names) → names_walk (AtOne []) front ≡ Some d
      → (others : List Seen) × (ds : List DeclaratorTree) × ((ys : List Seen) → names_run d (others ++ mark Semicolon 0 ∷ ys) ≡ Some (record { ones = ds; rest = mark Semicolon 0 ∷ ys })) × (declarator_heights ds ≤ names_height d)
  pub levels : (d next : Names) (x : Seen) → names_step d x ≡ Some next → names_height next ≡ max (names_height d) (names_here next)
  pub whole : (d : Names) (ds : List DeclaratorTree) → names_finished d ≡ Some ds → declarator_heights ds ≡ names_height d

-- The machine of statements reads exactly what is spelled; each front of it can be ended as shallow as it says; and a
-- token adds exactly the depth of what has to come.
pub record ReadsBlocks : Type 0 where
  pub read : (ss : StmtTrees) (ts rest : List Seen) → run start ts ≡ Some (record { stmts = ss; rest = rest }) → SpellsStmts in_function ss ts rest
  pub spelled : (ss : StmtTrees) (ts rest : List Seen) → SpellsStmts in_function ss ts rest → run start ts ≡ Some (record { stmts = ss; rest = rest })
  pub begun : (front : List Seen) (st : State) → walk start front ≡ Some st
      → (others : List Seen) × (ss : StmtTrees) × (run st others ≡ Some (record { stmts = ss; rest = [] })) × (suc (stmt_heights ss) ≤ least st)
  pub levels : (st next : State) (x : Seen) → step st x ≡ Some next → least next ≡ max (least st) (here next)
  pub positive : (st : State) → 1 ≤ least st
