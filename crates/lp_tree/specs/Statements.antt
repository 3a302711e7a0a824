-- Statements without where they lie in memory, and which tokens spell which.
use Rattle.std.specs.Prelude.{◌≡◌, ℕ, ℤ, neg_ℤ, ◌≤◌, List, [], ◌∷◌, Bool, true, false, IsTrue, Option, Some, None, max, suc, codes}
use Rattle.lp_tree.specs.declared.keyword.Base.{Base as BaseWord}
use Rattle.lp_tree.specs.declared.keyword.Keyword.TheVariants as words
use Rattle.lp_tree.specs.declared.operator.BinOp.TheVariants.{Sub}
use Rattle.lp_tree.specs.declared.operator.AssignOp.TheVariants.{Set}
use Rattle.lp_tree.specs.declared.token.Mark.TheVariants as marks
use Rattle.lp_tree.specs.declared.token.Mark.TheVariants.{OpenParen, CloseParen, OpenBrace, CloseBrace, Comma, Semicolon, Colon, DotDot}
use Rattle.lp_tree.specs.declared.types.TypeName.{TypeName}
use Rattle.lp_tree.specs.declared.seen.Seen.{Seen}
use Rattle.lp_tree.specs.declared.seen.Sort.{Sort}
use Rattle.lp_tree.specs.declared.seen.Sort.TheVariants as sorts
use Rattle.lp_tree.specs.declared.stmt.Each.{Each}
use Rattle.lp_tree.specs.declared.stmt.Constant.{Constant}
use Rattle.lp_tree.specs.declared.stmt.Constant.TheVariants.{Int, Text}
use Rattle.lp_tree.specs.declared.stmt.Label.{Label}
use Rattle.lp_tree.specs.declared.stmt.Label.TheVariants as labels
use Rattle.lp_tree.specs.Seen.{word, text, integer, mark, reserved, first_line}
use Rattle.lp_tree.specs.Types.{SpellsStars, SpellsType}
use Rattle.lp_tree.specs.Trees.{Tree, rank, line_of, height}
use Rattle.lp_tree.specs.Expressions.{Spells}

-- a name that is declared, with its stars and what it is set to
pub record DeclaratorTree : Type 0 where
  pub line : ℕ
  pub stars : ℕ
  pub name : List ℕ
  pub value : Option Tree

pub record LocalTree : Type 0 where
  pub line : ℕ
  pub base : BaseWord
  pub ones : List DeclaratorTree

-- the first part of a `for`
pub data InitTree : Type 0 where
  Nothing : InitTree
  DeclaresFirst : (local : LocalTree) → InitTree
  RunsFirst : (of : Tree) → InitTree

-- one case per production, as in the program's statements
mutual
  pub data StmtTree : Type 0 where
    Block : (line : ℕ) (stmts : StmtTrees) → StmtTree
    Empty : (line : ℕ) → StmtTree
    Run : (line : ℕ) (of : Tree) → StmtTree
    Declares : (line : ℕ) (local : LocalTree) → StmtTree
    If : (line : ℕ) (test : Tree) (yes : StmtTree) (no : ElseTree) → StmtTree
    While : (line : ℕ) (test : Tree) (body : StmtTree) → StmtTree
    DoWhile : (line : ℕ) (body : StmtTree) (test : Tree) → StmtTree
    For : (line : ℕ) (init : InitTree) (test step : Option Tree) (body : StmtTree) → StmtTree
    Foreach : (line : ℕ) (first : Each) (second : Option Each) (over : Tree) (body : StmtTree) → StmtTree
    Switch : (line : ℕ) (on : Tree) (parts : PartTrees) → StmtTree
    Break : (line : ℕ) → StmtTree
    Continue : (line : ℕ) → StmtTree
    Return : (line : ℕ) (value : Option Tree) → StmtTree

  pub data StmtTrees : Type 0 where
    NoStmt : StmtTrees
    MoreStmts : (first : StmtTree) (others : StmtTrees) → StmtTrees

  pub data ElseTree : Type 0 where
    NoElse : ElseTree
    Else : (no : StmtTree) → ElseTree

  -- the parts of a `switch`
  pub data PartTrees : Type 0 where
    NoPart : PartTrees
    LabelPart : (label : Label) (others : PartTrees) → PartTrees
    StmtPart : (stmt : StmtTree) (others : PartTrees) → PartTrees

-- the line of a statement's first token
abbrev pub stmt_line : StmtTree → ℕ
stmt_line (Block line ss) = line
stmt_line (Empty line) = line
stmt_line (Run line e) = line
stmt_line (Declares line d) = line
stmt_line (If line e y n) = line
stmt_line (While line e b) = line
stmt_line (DoWhile line b e) = line
stmt_line (For line i t s b) = line
stmt_line (Foreach line f s e b) = line
stmt_line (Switch line e ps) = line
stmt_line (Break line) = line
stmt_line (Continue line) = line
stmt_line (Return line e) = line

-- What stands round a statement: whether a `break` and a `continue` have what they leave.
pub record Around : Type 0 where
  pub may_break : Bool
  pub may_continue : Bool

-- in a function's block
abbrev pub in_function : Around
in_function = record { may_break = false; may_continue = false }

-- in a loop
abbrev pub in_loop : Around
in_loop = record { may_break = true; may_continue = true }

-- in a `switch`, which a `continue` leaves with the loop round it
abbrev pub in_switch : Around → Around
in_switch a = record a { may_break = true }

-- one = {"*"} NAME ["=" assign]
pub data SpellsDeclarator : DeclaratorTree → List Seen → List Seen → Type 0 where
  plain : {n l : ℕ} {w : List ℕ} {ts rest : List Seen}
      → SpellsStars n ts (word w l ∷ rest)
      → SpellsDeclarator (record { line = first_line ts; stars = n; name = w; value = None }) ts rest
  set_to : {n l l' : ℕ} {w : List ℕ} {e : Tree} {ts us rest : List Seen}
      → SpellsStars n ts (word w l ∷ mark (marks.Assign Set) l' ∷ us) → Spells e us rest → 2 ≤ rank e
      → SpellsDeclarator (record { line = first_line ts; stars = n; name = w; value = Some e }) ts rest

-- one {"," one}
pub data SpellsDeclarators : List DeclaratorTree → List Seen → List Seen → Type 0 where
  one : {d : DeclaratorTree} {ts rest : List Seen} → SpellsDeclarator d ts rest → SpellsDeclarators (d ∷ []) ts rest
  another : {d : DeclaratorTree} {ds : List DeclaratorTree} {l : ℕ} {ts us rest : List Seen}
      → SpellsDeclarator d ts (mark Comma l ∷ us) → SpellsDeclarators ds us rest → SpellsDeclarators (d ∷ ds) ts rest

-- local = base one {"," one}
pub data SpellsLocal : LocalTree → List Seen → List Seen → Type 0 where
  declares : {b : BaseWord} {ds : List DeclaratorTree} {line : ℕ} {ts rest : List Seen}
      → SpellsDeclarators ds ts rest → SpellsLocal (record { line = line; base = b; ones = ds }) (reserved (words.Base b) line ∷ ts) rest

-- each = [type] NAME
pub data SpellsEach : Each → List Seen → List Seen → Type 0 where
  untyped : {w : List ℕ} {line : ℕ} {rest : List Seen}
      → SpellsEach (record { line = line; type_name = None; name = w }) (word w line ∷ rest) rest
  typed : {ty : TypeName} {w : List ℕ} {l : ℕ} {ts rest : List Seen}
      → SpellsType ty ts (word w l ∷ rest) → SpellsEach (record { line = first_line ts; type_name = Some ty; name = w }) ts rest

-- each ["," each]
pub data SpellsEaches : Each → Option Each → List Seen → List Seen → Type 0 where
  one_each : {e : Each} {ts rest : List Seen} → SpellsEach e ts rest → SpellsEaches e None ts rest
  two_eaches : {e f : Each} {l : ℕ} {ts us rest : List Seen}
      → SpellsEach e ts (mark Comma l ∷ us) → SpellsEach f us rest → SpellsEaches e (Some f) ts rest

-- ":" / "in"
pub data IsIn : Seen → Type 0 where
  colon : {l : ℕ} → IsIn (mark Colon l)
  word_in : {l : ℕ} → IsIn (word (codes "in") l)

-- const = ["-"] INTEGER / TEXT
pub data SpellsConstant : Constant → List Seen → List Seen → Type 0 where
  int : {n : ℤ} {l : ℕ} {rest : List Seen} → SpellsConstant (Int n) (integer n l ∷ rest) rest
  negative : {n : ℤ} {l l' : ℕ} {rest : List Seen} → SpellsConstant (Int (neg_ℤ n)) (mark (marks.Binary Sub) l ∷ integer n l' ∷ rest) rest
  string : {w : List ℕ} {l : ℕ} {rest : List Seen} → SpellsConstant (Text w) (text w l ∷ rest) rest

-- label = "case" const [".." const] ":" / "default" ":"
pub data SpellsLabel : Label → List Seen → List Seen → Type 0 where
  case_value : {k : Constant} {line l : ℕ} {ts rest : List Seen}
      → SpellsConstant k ts (mark Colon l ∷ rest) → SpellsLabel (labels.Case line k) (reserved words.Case line ∷ ts) rest
  -- a range has two integers
  case_range : {a b : ℤ} {line l l' : ℕ} {ts us rest : List Seen}
      → SpellsConstant (Int a) ts (mark DotDot l ∷ us) → SpellsConstant (Int b) us (mark Colon l' ∷ rest)
      → SpellsLabel (labels.Range line a b) (reserved words.Case line ∷ ts) rest
  default_case : {line l : ℕ} {rest : List Seen} → SpellsLabel (labels.Default line) (reserved words.Default line ∷ mark Colon l ∷ rest) rest

-- [local / expr]
pub data SpellsInit : InitTree → List Seen → List Seen → Type 0 where
  no_init : {rest : List Seen} → SpellsInit Nothing rest rest
  init_local : {d : LocalTree} {ts rest : List Seen} → SpellsLocal d ts rest → SpellsInit (DeclaresFirst d) ts rest
  init_expr : {e : Tree} {ts rest : List Seen} → Spells e ts rest → SpellsInit (RunsFirst e) ts rest

-- [expr]
pub data SpellsOptional : Option Tree → List Seen → List Seen → Type 0 where
  missing : {rest : List Seen} → SpellsOptional None rest rest
  given : {e : Tree} {ts rest : List Seen} → Spells e ts rest → SpellsOptional (Some e) ts rest

abbrev pub is_else : Sort → Bool
is_else (sorts.Reserved words.Else) = true
is_else _ = false

-- the next token is an `else`
abbrev pub else_follows : List Seen → Bool
else_follows [] = false
else_follows (x ∷ xs) = is_else x.sort

-- SpellsStmt a s ts rest: with this round it, the tokens of ts before rest spell s. One case per production.
mutual
  pub data SpellsStmt : Around → StmtTree → List Seen → List Seen → Type 0 where
    -- "{" {stmt} "}"
    block : {a : Around} {ss : StmtTrees} {line : ℕ} {ts rest : List Seen}
        → SpellsStmts a ss ts rest → SpellsStmt a (Block line ss) (mark OpenBrace line ∷ ts) rest
    -- ";"
    empty : {a : Around} {line : ℕ} {rest : List Seen} → SpellsStmt a (Empty line) (mark Semicolon line ∷ rest) rest
    -- expr ";"
    run : {a : Around} {e : Tree} {l : ℕ} {ts rest : List Seen}
        → Spells e ts (mark Semicolon l ∷ rest) → SpellsStmt a (Run (line_of e) e) ts rest
    -- local ";"
    local : {a : Around} {d : LocalTree} {l : ℕ} {ts rest : List Seen}
        → SpellsLocal d ts (mark Semicolon l ∷ rest) → SpellsStmt a (Declares d.line d) ts rest
    -- "if" "(" expr ")" stmt; an `else` goes with the nearest `if`, so none follows here
    if_only : {a : Around} {e : Tree} {y : StmtTree} {line l l' : ℕ} {ts us rest : List Seen}
        → Spells e ts (mark CloseParen l' ∷ us) → SpellsStmt a y us rest → else_follows rest ≡ false
        → SpellsStmt a (If line e y NoElse) (reserved words.If line ∷ mark OpenParen l ∷ ts) rest
    -- "if" "(" expr ")" stmt "else" stmt
    if_else : {a : Around} {e : Tree} {y n : StmtTree} {line l l' l'' : ℕ} {ts us vs rest : List Seen}
        → Spells e ts (mark CloseParen l' ∷ us) → SpellsStmt a y us (reserved words.Else l'' ∷ vs) → SpellsStmt a n vs rest
        → SpellsStmt a (If line e y (Else n)) (reserved words.If line ∷ mark OpenParen l ∷ ts) rest
    -- "while" "(" expr ")" stmt
    while : {a : Around} {e : Tree} {b : StmtTree} {line l l' : ℕ} {ts us rest : List Seen}
        → Spells e ts (mark CloseParen l' ∷ us) → SpellsStmt in_loop b us rest
        → SpellsStmt a (While line e b) (reserved words.While line ∷ mark OpenParen l ∷ ts) rest
    -- "do" stmt "while" "(" expr ")" ";"
    do_while : {a : Around} {b : StmtTree} {e : Tree} {line l l' l'' l''' : ℕ} {ts us rest : List Seen}
        → SpellsStmt in_loop b ts (reserved words.While l ∷ mark OpenParen l' ∷ us)
        → Spells e us (mark CloseParen l'' ∷ mark Semicolon l''' ∷ rest)
        → SpellsStmt a (DoWhile line b e) (reserved words.Do line ∷ ts) rest
    -- "for" "(" [local / expr] ";" [expr] ";" [expr] ")" stmt
    for : {a : Around} {i : InitTree} {t s : Option Tree} {b : StmtTree} {line l l' l'' l''' : ℕ} {ts us vs ws rest : List Seen}
        → SpellsInit i ts (mark Semicolon l' ∷ us) → SpellsOptional t us (mark Semicolon l'' ∷ vs)
        → SpellsOptional s vs (mark CloseParen l''' ∷ ws) → SpellsStmt in_loop b ws rest
        → SpellsStmt a (For line i t s b) (reserved words.For line ∷ mark OpenParen l ∷ ts) rest
    -- "foreach" "(" each ["," each] (":" / "in") expr ")" stmt
    foreach : {a : Around} {f : Each} {s : Option Each} {x : Seen} {e : Tree} {b : StmtTree} {line l l' : ℕ} {ts us vs rest : List Seen}
        → SpellsEaches f s ts (x ∷ us) → IsIn x → Spells e us (mark CloseParen l' ∷ vs) → SpellsStmt in_loop b vs rest
        → SpellsStmt a (Foreach line f s e b) (reserved words.Foreach line ∷ mark OpenParen l ∷ ts) rest
    -- "switch" "(" expr ")" "{" { label / stmt } "}"
    switch : {a : Around} {e : Tree} {ps : PartTrees} {line l l' l'' : ℕ} {ts us rest : List Seen}
        → Spells e ts (mark CloseParen l' ∷ mark OpenBrace l'' ∷ us) → SpellsParts (in_switch a) ps us rest
        → SpellsStmt a (Switch line e ps) (reserved words.Switch line ∷ mark OpenParen l ∷ ts) rest
    -- "break" ";", in a loop or a `switch`
    break : {a : Around} {line l : ℕ} {rest : List Seen}
        → IsTrue a.may_break → SpellsStmt a (Break line) (reserved words.Break line ∷ mark Semicolon l ∷ rest) rest
    -- "continue" ";", in a loop
    continue : {a : Around} {line l : ℕ} {rest : List Seen}
        → IsTrue a.may_continue → SpellsStmt a (Continue line) (reserved words.Continue line ∷ mark Semicolon l ∷ rest) rest
    -- "return" [expr] ";"
    return : {a : Around} {e : Option Tree} {line l : ℕ} {ts rest : List Seen}
        → SpellsOptional e ts (mark Semicolon l ∷ rest) → SpellsStmt a (Return line e) (reserved words.Return line ∷ ts) rest

  -- {stmt} "}", with that mark
  pub data SpellsStmts : Around → StmtTrees → List Seen → List Seen → Type 0 where
    no_more : {a : Around} {l : ℕ} {rest : List Seen} → SpellsStmts a NoStmt (mark CloseBrace l ∷ rest) rest
    stmt : {a : Around} {s : StmtTree} {ss : StmtTrees} {ts us rest : List Seen}
        → SpellsStmt a s ts us → SpellsStmts a ss us rest → SpellsStmts a (MoreStmts s ss) ts rest

  -- { label / stmt } "}", with that mark
  pub data SpellsParts : Around → PartTrees → List Seen → List Seen → Type 0 where
    no_part : {a : Around} {l : ℕ} {rest : List Seen} → SpellsParts a NoPart (mark CloseBrace l ∷ rest) rest
    label_part : {a : Around} {k : Label} {ps : PartTrees} {ts us rest : List Seen}
        → SpellsLabel k ts us → SpellsParts a ps us rest → SpellsParts a (LabelPart k ps) ts rest
    stmt_part : {a : Around} {s : StmtTree} {ps : PartTrees} {ts us rest : List Seen}
        → SpellsStmt a s ts us → SpellsParts a ps us rest → SpellsParts a (StmtPart s ps) ts rest

-- The levels of what may be missing: 0 where it is.
abbrev pub height_if : Option Tree → ℕ
height_if None = 0
height_if (Some e) = height e

abbrev pub declarator_heights : List DeclaratorTree → ℕ
declarator_heights [] = 0
declarator_heights (d ∷ ds) = max (height_if d.value) (declarator_heights ds)

abbrev pub init_height : InitTree → ℕ
init_height Nothing = 0
init_height (DeclaresFirst d) = declarator_heights d.ones
init_height (RunsFirst e) = height e

-- The levels of nesting: each statement and each expression is one below the statement of which it is a part, what a
-- local is set to too. Labels and the variables of a `foreach` have no level.
abbrev mutual
  pub stmt_height : StmtTree → ℕ
  stmt_height (Block line ss) = suc (stmt_heights ss)
  stmt_height (Empty line) = 1
  stmt_height (Run line e) = suc (height e)
  stmt_height (Declares line d) = suc (declarator_heights d.ones)
  stmt_height (If line e y n) = suc (max (height e) (max (stmt_height y) (else_height n)))
  stmt_height (While line e b) = suc (max (height e) (stmt_height b))
  stmt_height (DoWhile line b e) = suc (max (stmt_height b) (height e))
  stmt_height (For line i t s b) = suc (max (init_height i) (max (height_if t) (max (height_if s) (stmt_height b))))
  stmt_height (Foreach line f s e b) = suc (max (height e) (stmt_height b))
  stmt_height (Switch line e ps) = suc (max (height e) (part_heights ps))
  stmt_height (Break line) = 1
  stmt_height (Continue line) = 1
  stmt_height (Return line e) = suc (height_if e)

  pub stmt_heights : StmtTrees → ℕ
  stmt_heights NoStmt = 0
  stmt_heights (MoreStmts s ss) = max (stmt_height s) (stmt_heights ss)

  pub else_height : ElseTree → ℕ
  else_height NoElse = 0
  else_height (Else n) = stmt_height n

  pub part_heights : PartTrees → ℕ
  part_heights NoPart = 0
  part_heights (LabelPart k ps) = part_heights ps
  part_heights (StmtPart s ps) = max (stmt_height s) (part_heights ps)
