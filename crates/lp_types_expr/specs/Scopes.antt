-- The locals that a statement sees.
use Rattle.std.specs.Prelude.{ℕ, List, [], ◌++◌, length, take, drop, Bool, Option}
use Rattle.std.specs.List.{list_any}
use Rattle.lp_tree.specs.declared.types.TypeName.{TypeName}
use Rattle.lp_instr.specs.EfunList.{is_name}
pub use Rattle.lp_types_expr.specs.declared.local.Local.{Local}
pub use Rattle.lp_types_expr.specs.declared.mark.Mark.{Mark}

-- The type of the answer of the function that is looked at, where it has one; the locals of the blocks round this one;
-- and those that this block declared so far.
pub record Scope : Type 0 where
  pub answer : Option TypeName
  pub outer : List Local
  pub block : List Local

abbrev pub visible : Scope → List Local
visible sc = sc.outer ++ sc.block

-- a new block
abbrev pub inside : Scope → Scope
inside sc = record sc { outer = visible sc; block = [] }

abbrev pub declaring : Scope → List Local → Scope
declaring sc ls = record sc { block = sc.block ++ ls }

-- two equal names in one block
abbrev pub is_double : Scope → List ℕ → Bool
is_double sc w = list_any (λ l. is_name w l.name) sc.block

-- how many locals are seen, and how many of them belong to the blocks round this one
abbrev pub mark_of : Scope → Mark
mark_of sc = record { locals = length (visible sc); outer = length sc.outer }

-- so many locals are seen again, of which so many belong to the blocks round this one
abbrev pub left : Mark → Scope → Scope
left m sc = record { answer = sc.answer; outer = take m.outer (take m.locals (visible sc)); block = drop m.outer (take m.locals (visible sc)) }
