use Rattle.std.proofs.Common.{◌+◌, ◌++◌, [], map, ◌∙◌, refl, rules}
use Rattle.lp_tree.specs.UnitView.{item_of}
use Rattle.lp_layout.specs.Layout.{declared_names, names_in}
use Rattle.lp_layout.specs.Origins.{rowed}
use Rattle.lp_layout.proofs.Taken.{rows_more, taken_all}
use Rattle.lp_layout.proofs.rows.rows.Goals as goal

pub returns : goal.returns
returns c = λ h.
    let is = map item_of c.args.items.now in
    let ts = c.args.parents.now in
    let start = rowed c.in_ok-origins.origins in
    rows_more start (rowed c.take_parents.new.origins) (names_in ts) (declared_names is) (names_in ts ++ declared_names is) [] c.take_parents.new.rows.items c.take_items.new.rows.items refl c.in_ok-take_parents.ensures.left (search rules) (c.in_ok-take_items.ensures h)
    ∙ taken_all is ts (names_in ts ++ declared_names is) start c.in_ok-origins.ensures
