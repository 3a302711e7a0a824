-- The value of an `#if`.
use Rattle.std.specs.Prelude.{◌≡◌, ℤ, pos, ◌≤◌, List, [], map, Bool, true, false, Option, Some, None, ◌&&◌, if◌then◌else◌}
use Rattle.std.specs.Ordering.{int_eq}
use Rattle.lp_tree.specs.declared.operator.UnOp.{UnOp}
use Rattle.lp_tree.specs.declared.operator.BinOp.{BinOp}
use Rattle.lp_tree.specs.declared.seen.Seen.{Seen}
use Rattle.lp_tree.specs.declared.token.TokenKind.{TokenKind}
use Rattle.lp_tree.specs.declared.token.TokenKind.TheVariants as kinds
use Rattle.lp_tree.specs.Seen.{sort_of}
use Rattle.lp_tree.specs.Trees.{Tree, Int, Paren, Unary, Binary, AndThen, OrElse, Cond, height}
use Rattle.lp_tree.specs.Expressions.{Spells}
use Rattle.lp_values.specs.declared.value.Value.{Value}
use Rattle.lp_values.specs.declared.value.Value.TheVariants as values
use Rattle.lp_ops.specs.declared.effect.Effect.{Effect}
use Rattle.lp_ops.specs.declared.effect.Effect.TheVariants.{Gives}
use Rattle.lp_ops.specs.Operands.{Number}
use Rattle.lp_ops.specs.Operators.{result_of, unary}
use Rattle.lp_preproc.specs.declared.word.Word.{Word}

-- names that are no macros are 0
abbrev pub as_operand : TokenKind → TokenKind
as_operand (kinds.Name n) = kinds.Int (pos 0)
as_operand k = k

-- words as the grammar of expressions sees them
abbrev pub sight : Word → Seen
sight w = record { sort = sort_of (as_operand w.kind); line = w.line }

-- what a condition is made of: integers, parentheses and the operators that take integers
abbrev pub is_condition : Tree → Bool
is_condition (Int line n) = true
is_condition (Paren line t) = is_condition t
is_condition (Unary line op t) = is_condition t
is_condition (Binary line op l r) = is_condition l && is_condition r
is_condition (AndThen line l r) = is_condition l && is_condition r
is_condition (OrElse line l r) = is_condition l && is_condition r
is_condition (Cond line t y n) = is_condition t && (is_condition y && is_condition n)
is_condition _ = false

-- the integer that an operator gives, unless it is an error
abbrev pub integer_of : Value → Option ℤ
integer_of (values.Int n) = Some n
integer_of _ = None

abbrev pub integer_given : Effect → Option ℤ
integer_given (Gives v) = integer_of v
integer_given _ = None

abbrev pub of_two : BinOp → Option ℤ → Option ℤ → Option ℤ
of_two op (Some m) (Some n) = integer_given (result_of (λ _. true) op (Number m) (Number n))
of_two op _ _ = None

abbrev pub of_one : UnOp → Option ℤ → Option ℤ
of_one op (Some n) = integer_given (unary op (Number n))
of_one op None = None

-- by whether a value is 0; without one there is no choice
abbrev pub choose : Option ℤ → Option ℤ → (ℤ → Option ℤ) → Option ℤ
choose None zero_case other_case = None
choose (Some n) zero_case other_case = chosen (int_eq n (pos 0))
  where
    chosen : Bool → Option ℤ
    chosen true = zero_case
    chosen false = other_case n

-- The value of a condition: operands from left to right, and of `&&`, `||` and `?:` only what is needed.
abbrev pub value : Tree → Option ℤ
value (Int line n) = Some n
value (Paren line t) = value t
value (Unary line op t) = of_one op (value t)
value (Binary line op l r) = of_two op (value l) (value r)
value (AndThen line l r) = choose (value l) (Some (pos 0)) (λ _. value r)
value (OrElse line l r) = choose (value l) (value r) (λ n. Some n)
value (Cond line t y n) = choose (value t) (value n) (λ _. value y)
value _ = None

-- The words spell an expression of integers, nothing in it deeper than 200, and this is its value.
abbrev pub HasValue : List Word → ℤ → Type 0
HasValue ws z = (t : Tree) × Spells t (map sight ws) [] × (height t ≤ 200) × (is_condition t ≡ true) × (value t ≡ Some z)

-- What a program found: the value, or that there is none.
abbrev pub IsValue : List Word → Option ℤ → Type 0
IsValue ws (Some z) = HasValue ws z
IsValue ws None = (z : ℤ) → HasValue ws z → ⊥

-- the value of an expression that is a condition
abbrev pub condition_value : Tree → Option ℤ
condition_value t = if is_condition t then value t else None
