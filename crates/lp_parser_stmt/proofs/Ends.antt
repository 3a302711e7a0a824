-- How the program ends expressions.
use Rattle.std.proofs.Common.{◌≡◌, refl, Bool, true, false, not}
use Rattle.std.specs.Prelude.{Option, Some, None, if◌then◌else◌}
use Rattle.lp_tree.specs.declared.token.Mark.{Mark}
use Rattle.lp_tree.specs.declared.token.Mark.TheVariants.{Semicolon, CloseParen}
use Rattle.lp_tree.specs.Trees.{Tree}
use Rattle.lp_parser_stmt.specs.Endings.{is_end}
use Rattle.lp_parser_stmt.specs.Machine.{Stack, Role, OneOf, Optional, Value, First, Test, Step, by_paren, used, filled, after_some, semicolon_skips, paren_skips}

pub after-is : (m : Option Mark) (role : Role) (t : Tree) (s : Stack) → after_some m role (Some t) s ≡ (if is_end m role then Some (used role t s) else None)
after-is None role t s = refl
after-is (Some Semicolon) role t s = flip (by_paren role)
  where
    flip : (b : Bool) → (if b then None else Some (used role t s)) ≡ (if not b then Some (used role t s) else None)
    flip true = refl
    flip false = refl
after-is (Some CloseParen) role t s = refl
after-is (Some _) role t s = refl

pub semicolon-is : (part : Optional) (s : Stack) → semicolon_skips part s ≡ (if not (by_paren (OneOf part)) then Some (filled part None s) else None)
semicolon-is (Value line) s = refl
semicolon-is (First line) s = refl
semicolon-is (Test line i) s = refl
semicolon-is (Step line i t) s = refl

pub paren-is : (part : Optional) (s : Stack) → paren_skips part s ≡ (if by_paren (OneOf part) then Some (filled part None s) else None)
paren-is (Value line) s = refl
paren-is (First line) s = refl
paren-is (Test line i) s = refl
paren-is (Step line i t) s = refl
