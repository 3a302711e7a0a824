-- What stands round a statement, kept beside each open one.
use Rattle.std.specs.Prelude.{◌≡◌, List, [], ◌∷◌, ⊤}
use Rattle.std.specs.Coded.{×_prop, Unit-prop}
use Rattle.std.proofs.Math.Bool.{Bool-set}
use Rattle.lp_tree.specs.Statements.{Around, in_loop, in_switch}
use Rattle.lp_parser_stmt.specs.declared.frame.Open.{Open}
use Rattle.lp_parser_stmt.specs.Machine.{Frame, InBlock, InSwitch, IfYes, IfNo, WhileBody, DoBody, ForBody, EachBody}
use Rattle.lp_parser_stmt.specs.View.{frame_of}

-- what stands round a statement in an open one, by what stands round that
abbrev pub around_in : Frame → Around → Around
around_in (InBlock line done) a = a
around_in (InSwitch w) a = in_switch a
around_in (IfYes line e) a = a
around_in (IfNo line e y) a = a
around_in (WhileBody line e) a = in_loop
around_in (DoBody line) a = in_loop
around_in (ForBody line i t p) a = in_loop
around_in (EachBody line f g e) a = in_loop

-- what is kept is what stands round
abbrev pub IsRight : Around → Open → Type 0
IsRight a o = (o.may_break ≡ a.may_break) × (o.may_continue ≡ a.may_continue)

-- so for each open statement, the outermost first
abbrev pub AllRight : Around → List Open → Type 0
AllRight a [] = ⊤
AllRight a (o ∷ os) = IsRight (around_in (frame_of o.frame) a) o × AllRight (around_in (frame_of o.frame) a) os

-- there is one proof of it at most
pub AllRight-prop : (a : Around) (os : List Open) → IsProp (AllRight a os)
AllRight-prop a [] = Unit-prop
AllRight-prop a (o ∷ os) = ×_prop (×_prop (Bool-set _ _) (Bool-set _ _)) (AllRight-prop (around_in (frame_of o.frame) a) os)
