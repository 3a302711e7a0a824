use Rattle.std.proofs.Common.{◌≡◌, ◌+◌, ◌++◌, map, sym, ap, ◌∙◌, arith, rules}
use Rattle.lp_tree.specs.UnitView.{item_of}
use Rattle.lp_layout.specs.Layout.{inherited_rows, own_rows, parts_of}
use Rattle.lp_layout.proofs.Listing.{variables_both}
use Rattle.lp_layout.proofs.variables.variables.Goals as goal

pub returns : goal.returns
returns c = λ h.
    let is = map item_of c.args.items.now in
    let ts = c.args.parents.now in
    let t : c.args.total ≡ 0 + parts_of ts = omega (arith, c.requires.total) in
    let first : c.add_inherited.new.rows.items ≡ inherited_rows ts 0 = search rules in
    c.in_ok-add_own.ensures h ∙ ap (λ l. l ++ own_rows c.args.total is) first ∙ ap (λ n. inherited_rows ts 0 ++ own_rows n is) t ∙ sym (variables_both is ts 0)
