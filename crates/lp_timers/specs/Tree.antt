-- The tree that the lines are kept in.
use Rattle.std.specs.Prelude.{◌≡◌, List, [], ◌∷◌, ◌++◌, ⊤}
use Rattle.lp_timers.specs.declared.line.Line.{Line}
use Rattle.lp_timers.specs.declared.tree.Tree.{Tree, Leaf, Fork'}
use Rattle.lp_timers.specs.declared.tree.Opened.{Opened}
use Rattle.lp_timers.specs.Lines.{AreFrom}

-- the lines of a tree in order
abbrev pub lines_of : Tree → List Line
lines_of Leaf = []
lines_of (Fork' p left line soonest rank right) = lines_of left ++ line ∷ lines_of right

-- each branch knows a moment before which none of its lines is due
abbrev pub KnowsSoonest : Tree → Type 0
KnowsSoonest Leaf = ⊤
KnowsSoonest (Fork' p left line soonest rank right) = AreFrom soonest (lines_of left ++ line ∷ lines_of right) × KnowsSoonest left × KnowsSoonest right

-- The lines of a tree are those of a branch: what is before its line, the line, and what is behind.
pub record IsOpened (all : List Line) (o : Opened) : Type 0 where
  pub lines : all ≡ lines_of o.left ++ o.line ∷ lines_of o.right
  pub left : KnowsSoonest o.left
  pub right : KnowsSoonest o.right
