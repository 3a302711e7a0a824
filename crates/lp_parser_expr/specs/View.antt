-- What the program's frames stand for.
use Rattle.std.specs.Prelude.{map, Option, option_map}
use Rattle.lp_tree.specs.TreeView.{tree_of}
use Rattle.lp_tree.specs.Trees.{Tree}
use Rattle.lp_parser_expr.specs.declared.tall.Tall.{Tall}
use Rattle.lp_parser_expr.specs.declared.frame.Callee.{Callee as CodeCallee}
use Rattle.lp_parser_expr.specs.declared.frame.Callee.TheVariants as callees
use Rattle.lp_parser_expr.specs.declared.frame.Frame.{Frame as CodeFrame}
use Rattle.lp_parser_expr.specs.declared.frame.Frame.TheVariants as frames
use Rattle.lp_parser_expr.specs.Capped.{pair_of, end_of}
use Rattle.lp_parser_expr.specs.Machine.{Callee, Function, Efun, Parent, NamedParent, Other, Frame, Alone, InParen, InArray, AtKey, AtValue, InArgs, InCatch, ScanText, ScanForm, ScanPlaces, InIndex, InRange, Stepping, UnaryOf, Casting, LeftOf, Testing, Choosing, Assigning, InSequence}

abbrev pub callee_of : CodeCallee → Callee
callee_of (callees.Function line) = Function line
callee_of (callees.Efun line) = Efun line
callee_of (callees.Parent line) = Parent line
callee_of (callees.NamedParent line p) = NamedParent line p
callee_of (callees.Other t) = Other (tree_of t.expr.value)

abbrev pub frame_of : CodeFrame → Frame
frame_of frames.Alone = Alone
frame_of (frames.InParen line) = InParen line
frame_of (frames.InArray line done) = InArray line (map tree_of done.items.items)
frame_of (frames.AtKey line done) = AtKey line (map pair_of done.pairs.items)
frame_of (frames.AtValue line done k) = AtValue line (map pair_of done.pairs.items) (tree_of k.expr.value)
frame_of (frames.InArgs c w done) = InArgs (callee_of c) w (map tree_of done.items.items)
frame_of (frames.InCatch line) = InCatch line
frame_of (frames.ScanText line) = ScanText line
frame_of (frames.ScanForm line t) = ScanForm line (tree_of t.expr.value)
frame_of (frames.ScanPlaces line t f done) = ScanPlaces line (tree_of t.expr.value) (tree_of f.expr.value) (map tree_of done.items.items)
frame_of (frames.InIndex t e) = InIndex (tree_of t.expr.value) e
frame_of (frames.InRange t a e) = InRange (tree_of t.expr.value) (end_of a.bound) e
frame_of (frames.Stepping line s) = Stepping line s
frame_of (frames.UnaryOf line op) = UnaryOf line op
frame_of (frames.Casting line ty) = Casting line ty
frame_of (frames.LeftOf op t) = LeftOf op (tree_of t.expr.value)
frame_of (frames.Testing t) = Testing (tree_of t.expr.value)
frame_of (frames.Choosing t y) = Choosing (tree_of t.expr.value) (tree_of y.expr.value)
frame_of (frames.Assigning op p) = Assigning op (tree_of p.expr.value)
frame_of (frames.InSequence line done) = InSequence line (map tree_of done.items.items)

-- the tree of an expression, where there is one
abbrev pub tree_in : Option Tall → Option Tree
tree_in o = option_map (λ t. tree_of t.expr.value) o
