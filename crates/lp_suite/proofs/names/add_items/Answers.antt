use Rattle.std.proofs.Common.{◌∙◌, ◌++◌, ◌∷◌, [], List, map, take, ap, sym, append_assoc}
use Rattle.lp_tree.specs.UnitView.{item_of}
use Rattle.lp_suite.specs.Suite.{tests_in}
use Rattle.lp_suite.specs.declared.suite.Entry.{Entry}
use Rattle.lp_suite.proofs.Items.{one_more_item}
use Rattle.lp_suite.proofs.names.add_items.Goals as goal

pub loop-item-preserved : goal.loop-item-preserved
loop-item-preserved c =
    let path = c.args.path.now in
    let items = c.args.items.now in
    let i = c.loop-item.item-index in
    c.in_ok-add_item.ensures
    ∙ ap (λ (es : List Entry). es ++ tests_in path (item_of c.item-item.result ∷ [])) c.loop-item.invariant
    ∙ append_assoc c.args.entries.now.items (tests_in path (map item_of (take i items))) (tests_in path (item_of c.item-item.result ∷ []))
    ∙ ap (λ (es : List Entry). c.args.entries.now.items ++ es)
    (ap (λ x. tests_in path (map item_of (take i items)) ++ tests_in path (item_of x ∷ [])) c.item-item.is
    ∙ sym (one_more_item path items i c.item-item.result c.loop-item-test.true))
