-- Laws of the grammar.
use Rattle.std.specs.Prelude.{◌≡◌, pos, neg_ℤ, List, [], ◌∷◌, Some, None, codes}
use Rattle.lp_tree.specs.declared.keyword.Base.{Base}
use Rattle.lp_tree.specs.declared.keyword.Base.TheVariants as bases
use Rattle.lp_tree.specs.declared.keyword.Keyword.TheVariants as words
use Rattle.lp_tree.specs.declared.keyword.Modifier.TheVariants as modifiers
use Rattle.lp_tree.specs.declared.operator.AssignOp.TheVariants.{Set}
use Rattle.lp_tree.specs.declared.operator.BinOp.TheVariants as ops
use Rattle.lp_tree.specs.declared.token.Mark.TheVariants.{OpenParen, CloseParen, OpenBrace, CloseBrace, Comma, Semicolon, Colon, DotDot, Binary as BinaryMark, Assign as AssignMark}
use Rattle.lp_tree.specs.declared.seen.Seen.{Seen}
use Rattle.lp_tree.specs.declared.stmt.Constant.TheVariants as constants
use Rattle.lp_tree.specs.declared.stmt.Label.TheVariants as labels
use Rattle.lp_tree.specs.declared.types.TypeName.{TypeName}
use Rattle.lp_tree.specs.Seen.{word, text, integer, mark, reserved, first_line}
use Rattle.lp_tree.specs.Trees.{Tree, line_of, Int, Name}
use Rattle.lp_tree.specs.Expressions.{Spells}
use Rattle.lp_tree.specs.Statements.{Around, StmtTree, Block, Empty, Run, Declares, If, Else, NoElse, While, DoWhile, For, Nothing, DeclaresFirst, RunsFirst, Foreach, Switch, Break, Continue, Return, NoStmt, MoreStmts, NoPart, LabelPart, StmtPart, stmt_line, SpellsStmt}
use Rattle.lp_tree.specs.Units.{ItemTree, Inherit, Proto, Fun, Var, item_line, SpellsItem, SpellsUnit, unit_height}

-- the line of each tree is that of its first token
pub record HaveFirstLines : Type 0 where
  pub expressions : (t : Tree) (ts rest : List Seen) → Spells t ts rest → line_of t ≡ first_line ts
  pub statements : (a : Around) (s : StmtTree) (ts rest : List Seen) → SpellsStmt a s ts rest → stmt_line s ≡ first_line ts
  pub items : (i : ItemTree) (ts rest : List Seen) → SpellsItem i ts rest → item_line i ≡ first_line ts

-- `inherit "/p"; private int *v = 5; f(int n);`
abbrev pub declarations : List Seen
declarations =
    reserved words.Inherit 1 ∷ text (codes "/p") 1 ∷ mark Semicolon 1
    ∷ reserved (words.Modifier modifiers.Private) 2 ∷ reserved (words.Base bases.Int) 2 ∷ mark (BinaryMark ops.Mul) 2 ∷ word (codes "v") 2 ∷ mark (AssignMark Set) 2 ∷ integer (pos 5) 2 ∷ mark Semicolon 2
    ∷ word (codes "f") 3 ∷ mark OpenParen 3 ∷ reserved (words.Base bases.Int) 3 ∷ word (codes "n") 3 ∷ mark CloseParen 3 ∷ mark Semicolon 3 ∷ []

abbrev pub declaration_trees : List ItemTree
declaration_trees =
    Inherit 1 (codes "/p")
    ∷ Var 2 (modifiers.Private ∷ []) bases.Int (record { line = 2; stars = 1; name = codes "v"; value = Some (Int 2 (pos 5)) } ∷ [])
    ∷ Proto 3 [] None (codes "f") (record { line = 3; type_name = Some (record { base = bases.Int; stars = 0 }); name = codes "n" } ∷ []) ∷ []

-- `if (a) if (b) ; else ;`: the `else` goes with the nearest `if`
abbrev pub nearest_if : List Seen
nearest_if =
    reserved words.If 1 ∷ mark OpenParen 1 ∷ word (codes "a") 1 ∷ mark CloseParen 1 ∷ reserved words.If 1 ∷ mark OpenParen 1 ∷ word (codes "b") 1 ∷ mark CloseParen 1
    ∷ mark Semicolon 1 ∷ reserved words.Else 1 ∷ mark Semicolon 1 ∷ []

abbrev pub nearest_tree : StmtTree
nearest_tree = If 1 (Name 1 (codes "a")) (If 1 (Name 1 (codes "b")) (Empty 1) (Else (Empty 1))) NoElse

-- `void g(x) { foreach (y in x) switch (y) { case -1 .. 2: break; default: return y; } }`
abbrev pub function : List Seen
function =
    reserved (words.Base bases.Void) 1 ∷ word (codes "g") 1 ∷ mark OpenParen 1 ∷ word (codes "x") 1 ∷ mark CloseParen 1 ∷ mark OpenBrace 1
    ∷ reserved words.Foreach 2 ∷ mark OpenParen 2 ∷ word (codes "y") 2 ∷ word (codes "in") 2 ∷ word (codes "x") 2 ∷ mark CloseParen 2
    ∷ reserved words.Switch 2 ∷ mark OpenParen 2 ∷ word (codes "y") 2 ∷ mark CloseParen 2 ∷ mark OpenBrace 2
    ∷ reserved words.Case 3 ∷ mark (BinaryMark ops.Sub) 3 ∷ integer (pos 1) 3 ∷ mark DotDot 3 ∷ integer (pos 2) 3 ∷ mark Colon 3
    ∷ reserved words.Break 3 ∷ mark Semicolon 3
    ∷ reserved words.Default 4 ∷ mark Colon 4 ∷ reserved words.Return 4 ∷ word (codes "y") 4 ∷ mark Semicolon 4
    ∷ mark CloseBrace 5 ∷ mark CloseBrace 5 ∷ []

abbrev pub function_trees : List ItemTree
function_trees =
    Fun 1 [] (Some (record { base = bases.Void; stars = 0 })) (codes "g") (record { line = 1; type_name = None; name = codes "x" } ∷ []) (record {
      line = 1;
      stmts =
          MoreStmts (Foreach 2 (record { line = 2; type_name = None; name = codes "y" }) None (Name 2 (codes "x")) (Switch 2 (Name 2 (codes "y"))
          (LabelPart (labels.Range 3 (neg_ℤ (pos 1)) (pos 2)) (StmtPart (Break 3) (LabelPart (labels.Default 4) (StmtPart (Return 4 (Some (Name 4 (codes "y")))) NoPart)))))) NoStmt;
    }) ∷ []

-- the other statements, each once:
-- `{ int *a, b = 1; while (a) continue; do ; while (b); for (int i = 0; i; ) break; for (a; ; b) { } for (;;) ;`
-- `foreach (int k, mixed v : a) ; switch (a) { case "t": case 3: b; } if (a) return; else ; }`
abbrev pub statements : List Seen
statements =
    mark OpenBrace 1
    ∷ reserved (words.Base bases.Int) 2 ∷ mark (BinaryMark ops.Mul) 2 ∷ word (codes "a") 2 ∷ mark Comma 2 ∷ word (codes "b") 2 ∷ mark (AssignMark Set) 2 ∷ integer (pos 1) 2 ∷ mark Semicolon 2
    ∷ reserved words.While 3 ∷ mark OpenParen 3 ∷ word (codes "a") 3 ∷ mark CloseParen 3 ∷ reserved words.Continue 3 ∷ mark Semicolon 3
    ∷ reserved words.Do 4 ∷ mark Semicolon 4 ∷ reserved words.While 4 ∷ mark OpenParen 4 ∷ word (codes "b") 4 ∷ mark CloseParen 4 ∷ mark Semicolon 4
    ∷ reserved words.For 5 ∷ mark OpenParen 5 ∷ reserved (words.Base bases.Int) 5 ∷ word (codes "i") 5 ∷ mark (AssignMark Set) 5 ∷ integer (pos 0) 5 ∷ mark Semicolon 5 ∷ word (codes "i") 5
    ∷ mark Semicolon 5 ∷ mark CloseParen 5 ∷ reserved words.Break 5 ∷ mark Semicolon 5
    ∷ reserved words.For 6 ∷ mark OpenParen 6 ∷ word (codes "a") 6 ∷ mark Semicolon 6 ∷ mark Semicolon 6 ∷ word (codes "b") 6 ∷ mark CloseParen 6 ∷ mark OpenBrace 6 ∷ mark CloseBrace 6
    ∷ reserved words.For 7 ∷ mark OpenParen 7 ∷ mark Semicolon 7 ∷ mark Semicolon 7 ∷ mark CloseParen 7 ∷ mark Semicolon 7
    ∷ reserved words.Foreach 8 ∷ mark OpenParen 8 ∷ reserved (words.Base bases.Int) 8 ∷ word (codes "k") 8 ∷ mark Comma 8 ∷ reserved (words.Base bases.Mixed) 8 ∷ word (codes "v") 8 ∷ mark Colon 8
    ∷ word (codes "a") 8 ∷ mark CloseParen 8 ∷ mark Semicolon 8
    ∷ reserved words.Switch 9 ∷ mark OpenParen 9 ∷ word (codes "a") 9 ∷ mark CloseParen 9 ∷ mark OpenBrace 9 ∷ reserved words.Case 9 ∷ text (codes "t") 9 ∷ mark Colon 9
    ∷ reserved words.Case 9 ∷ integer (pos 3) 9 ∷ mark Colon 9 ∷ word (codes "b") 9 ∷ mark Semicolon 9 ∷ mark CloseBrace 9
    ∷ reserved words.If 10 ∷ mark OpenParen 10 ∷ word (codes "a") 10 ∷ mark CloseParen 10 ∷ reserved words.Return 10 ∷ mark Semicolon 10 ∷ reserved words.Else 10 ∷ mark Semicolon 10
    ∷ mark CloseBrace 11 ∷ []

-- a type without stars
abbrev plain_type : Base → TypeName
plain_type b = record { base = b; stars = 0 }

abbrev pub statement_tree : StmtTree
statement_tree =
    Block 1
    (MoreStmts (Declares 2 (record { line = 2; base = bases.Int; ones = record { line = 2; stars = 1; name = codes "a"; value = None } ∷ record { line = 2; stars = 0; name = codes "b"; value = Some (Int 2 (pos 1)) } ∷ [] }))
    (MoreStmts (While 3 (Name 3 (codes "a")) (Continue 3))
    (MoreStmts (DoWhile 4 (Empty 4) (Name 4 (codes "b")))
    (MoreStmts (For 5 (DeclaresFirst (record { line = 5; base = bases.Int; ones = record { line = 5; stars = 0; name = codes "i"; value = Some (Int 5 (pos 0)) } ∷ [] })) (Some (Name 5 (codes "i"))) None (Break 5))
    (MoreStmts (For 6 (RunsFirst (Name 6 (codes "a"))) None (Some (Name 6 (codes "b"))) (Block 6 NoStmt))
    (MoreStmts (For 7 Nothing None None (Empty 7))
    (MoreStmts
    (Foreach 8 (record { line = 8; type_name = Some (plain_type bases.Int); name = codes "k" }) (Some (record { line = 8; type_name = Some (plain_type bases.Mixed); name = codes "v" })) (Name 8 (codes "a")) (Empty 8))
    (MoreStmts
    (Switch 9 (Name 9 (codes "a")) (LabelPart (labels.Case 9 (constants.Text (codes "t"))) (LabelPart (labels.Case 9 (constants.Int (pos 3))) (StmtPart (Run 9 (Name 9 (codes "b"))) NoPart))))
    (MoreStmts (If 10 (Name 10 (codes "a")) (Return 10 None) (Else (Empty 10))) NoStmt)))))))))

-- small sources spell the trees that they should
pub record AreSpelled (a : Around) : Type 0 where
  pub declared : SpellsUnit declaration_trees declarations
  pub nearest : SpellsStmt a nearest_tree nearest_if []
  pub in_function : SpellsUnit function_trees function
  pub in_block : SpellsStmt a statement_tree statements []
  pub levels : unit_height function_trees ≡ 5
