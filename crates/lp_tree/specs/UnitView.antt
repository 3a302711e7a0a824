-- The tree that a unit stands for.
use Rattle.std.specs.Prelude.{List, map}
use Rattle.lp_tree.specs.declared.unit.Item.{Item}
use Rattle.lp_tree.specs.declared.unit.Item.TheVariants as items
use Rattle.lp_tree.specs.declared.unit.Unit.{Unit as UnitOf}
use Rattle.lp_tree.specs.StatementView.{stmt_of, stmt_trees, declarator_of}
use Rattle.lp_tree.specs.Units.{ItemTree, Inherit, Proto, Fun, Var}

-- the tree of an item, without where it lies in memory
abbrev pub item_of : Item → ItemTree
item_of (items.Inherit line w) = Inherit line w
item_of (items.Proto line ms ty w ps) = Proto line ms.items ty w ps.items
item_of (items.Fun line ms ty w ps b) = Fun line ms.items ty w ps.items (record { line = b.line; stmts = stmt_trees (map stmt_of b.stmts.items) })
item_of (items.Var line ms b ds) = Var line ms.items b (map declarator_of ds.items)

-- the items of a unit, without where they lie in memory
abbrev pub unit_of : UnitOf → List ItemTree
unit_of u = map item_of u.items.items
