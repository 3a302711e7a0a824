use Rattle.std.proofs.Common.{length, arith, ◌∙◌, ◌++◌, ◌∷◌, [], map, take, ap, sym}
use Rattle.lp_tree.specs.UnitView.{item_of}
use Rattle.lp_front.specs.Names.{parents_in}
use Rattle.lp_front.proofs.Inheriting.{one_more_parent, counted}
use Rattle.std.proofs.lemmas.List.{take_all}
use Rattle.lp_front.proofs.parents.parents_of.Goals as goal

pub loop-item-preserved : goal.loop-item-preserved
loop-item-preserved c =
    c.in_ok-add_parent.ensures
    ∙ ap (λ ps. ps ++ parents_in (item_of c.item-item.result ∷ [])) c.loop-item.invariant
    ∙ ap (λ x. parents_in (map item_of (take c.loop-item.item-index c.args.items.now)) ++ parents_in (item_of x ∷ [])) (c.item-item.is)
    ∙ sym (one_more_parent c.args.items.now c.loop-item.item-index c.item-item.result c.loop-item-test.true)

pub returns-clause-count : goal.returns-clause-count
returns-clause-count c =
    ap length (c.loop-item.invariant ∙ ap (λ xs. parents_in (map item_of xs)) (take_all c.loop-item.item-index c.args.items.now (omega (arith, c.loop-item-test.false))))
    ∙ counted (map item_of c.args.items.now)
