-- Names, macros and the table of macros.
use Rattle.std.specs.Prelude.{ℕ, pos, List, [], ◌∷◌, Bool, true, false, Option, Some, None, ◌+◌, ◌==◌, ◌&&◌, is_some, if◌then◌else◌, codes}
use Rattle.std.specs.Cmp.Lexicographic.{pointwise}
pub use Rattle.lp_preproc.specs.Names.{same_name, among, with_name, with_names}
use Rattle.std.specs.Ordering.{int_eq}
use Rattle.lp_tree.specs.declared.token.TokenKind.{TokenKind}
use Rattle.lp_tree.specs.declared.token.TokenKind.TheVariants.{Name, Text, Int, Mark}
use Rattle.lp_tree.specs.declared.token.Mark.{Mark as AnyMark}
use Rattle.lp_tree.specs.declared.token.Mark.TheVariants.{OpenParen, CloseParen, OpenBrace, CloseBrace, OpenBracket, CloseBracket, Comma, Semicolon, Colon, ColonColon, Dot, DotDot, Arrow, Question, Hash, Not, Flip, AndThen, OrElse, Binary, Step, Assign}
use Rattle.lp_tree.specs.declared.operator.BinOp.{BinOp}
use Rattle.lp_tree.specs.declared.operator.BinOp.TheVariants as ops
use Rattle.lp_tree.specs.declared.operator.Step.TheVariants as steps
use Rattle.lp_tree.specs.declared.operator.AssignOp.{AssignOp}
use Rattle.lp_tree.specs.declared.operator.AssignOp.TheVariants as assigns
use Rattle.lp_preproc.specs.declared.macros.Macro.{Macro}
use Rattle.lp_preproc.specs.declared.macros.Body.{Body}
use Rattle.lp_preproc.specs.declared.macros.Body.TheVariants.{Tokens, File, Line, Folder}

-- marks by number, to compare them
abbrev pub op_number : BinOp → ℕ
op_number ops.Add = 0
op_number ops.Sub = 1
op_number ops.Mul = 2
op_number ops.Div = 3
op_number ops.Rem = 4
op_number ops.And = 5
op_number ops.Or = 6
op_number ops.Xor = 7
op_number ops.Shl = 8
op_number ops.Shr = 9
op_number ops.Lt = 10
op_number ops.Le = 11
op_number ops.Gt = 12
op_number ops.Ge = 13
op_number ops.Eq = 14
op_number ops.Ne = 15

abbrev pub assign_number : AssignOp → ℕ
assign_number assigns.Set = 0
assign_number assigns.Add = 1
assign_number assigns.Sub = 2
assign_number assigns.Mul = 3
assign_number assigns.Div = 4
assign_number assigns.Rem = 5
assign_number assigns.And = 6
assign_number assigns.Or = 7
assign_number assigns.Xor = 8
assign_number assigns.Shl = 9
assign_number assigns.Shr = 10
assign_number assigns.AndThen = 11
assign_number assigns.OrElse = 12

abbrev pub mark_number : AnyMark → ℕ
mark_number OpenParen = 0
mark_number CloseParen = 1
mark_number OpenBrace = 2
mark_number CloseBrace = 3
mark_number OpenBracket = 4
mark_number CloseBracket = 5
mark_number Comma = 6
mark_number Semicolon = 7
mark_number Colon = 8
mark_number ColonColon = 9
mark_number Dot = 10
mark_number DotDot = 11
mark_number Arrow = 12
mark_number Question = 13
mark_number Hash = 14
mark_number Not = 15
mark_number Flip = 16
mark_number AndThen = 17
mark_number OrElse = 18
mark_number (Step steps.Up) = 19
mark_number (Step steps.Down) = 20
mark_number (Binary op) = 30 + op_number op
mark_number (Assign op) = 50 + assign_number op

-- two tokens are one, wherever they stand; what is no token is never in a body
abbrev pub same_kind : TokenKind → TokenKind → Bool
same_kind (Name a) (Name b) = same_name a b
same_kind (Text a) (Text b) = same_name a b
same_kind (Int a) (Int b) = int_eq a b
same_kind (Mark a) (Mark b) = mark_number a == mark_number b
same_kind _ _ = false

-- Two definitions are one where their parameters and their tokens are. What is defined from the beginning without tokens is no other definition.
abbrev pub same_params : Option (List (List ℕ)) → Option (List (List ℕ)) → Bool
same_params None None = true
same_params (Some a) (Some b) = pointwise same_name a b
same_params _ _ = false

abbrev pub same_body : Body → Body → Bool
same_body (Tokens a) (Tokens b) = pointwise same_kind a b
same_body _ _ = false

abbrev pub same_macro : Macro → Macro → Bool
same_macro a b = same_params a.params b.params && same_body a.body b.body

-- The table of macros: what each name stands for.
abbrev pub Table : Type 0
Table = List ℕ → Option Macro

abbrev pub no_macros : Table
no_macros n = None

abbrev pub macro_of : List ℕ → Table → Option Macro
macro_of n ms = ms n

abbrev pub is_defined : List ℕ → Table → Bool
is_defined n ms = is_some (macro_of n ms)

-- one name stands for this, and each other for what it did
abbrev pub with_macro : List ℕ → Macro → Table → Table
with_macro n m ms = λ q. if same_name n q then Some m else ms q

abbrev pub without : List ℕ → Table → Table
without n ms = λ q. if same_name n q then None else ms q

-- a macro without parameters
abbrev pub plain : Body → Macro
plain b = record { params = None; body = b }

-- What is defined before the first line.
abbrev pub predefined : Table
predefined =
    with_macro (codes "__LDMUD__") (plain (Tokens (Int (pos 1) ∷ [])))
    (with_macro (codes "LPC3") (plain (Tokens (Int (pos 1) ∷ [])))
    (with_macro (codes "__VERSION__") (plain (Tokens (Text (codes "3.6") ∷ [])))
    (with_macro (codes "__DIR__") (plain Folder)
    (with_macro (codes "__LINE__") (plain Line)
    (with_macro (codes "__FILE__") (plain File)
    no_macros)))))
