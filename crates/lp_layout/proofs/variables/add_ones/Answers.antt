use Rattle.std.proofs.Common.{◌≡◌, ◌+◌, ◌++◌, ◌∷◌, [], ℕ, List, take, map, ap, subst, ◌∙◌, rules}
use Rattle.lp_tree.specs.StatementView.{declarator_of}
use Rattle.lp_code.specs.declared.tables.VarRow.{VarRow}
use Rattle.lp_layout.specs.Layout.{AreSpelled, numbered_row}
use Rattle.lp_layout.proofs.Listing.{behind, ones_next, rows_next, spelled_first, spelled_second}
use Rattle.lp_layout.proofs.variables.add_ones.Goals as goal

pub loop-one-preserved : goal.loop-one-preserved
loop-one-preserved c = λ h.
    let ds = c.args.ones.now in
    let i = c.loop-one.one-index in
    let d = c.one-item.result in
    let f = numbered_row c.args.part c.args.number c.args.base in
    let xs : List (List ℕ) = map (λ e. e.name) (map declarator_of (take i ds)) in
    let ys : List (List ℕ) = d.name ∷ [] in
    let both : AreSpelled (xs ++ ys) = subst AreSpelled (ones_next ds i d c.loop-one-test.true c.one-item.is) h in
    let pushed : c.push.new.self.items ≡ c.loop-one.rows.items ++ c.in_ok-numbered_row.field-0 ∷ [] = search rules in
    behind c.args.rows.now.items c.loop-one.rows.items c.push.new.self.items (map f (map declarator_of (take i ds))) (f (declarator_of d) ∷ []) (map f (map declarator_of (take (i + 1) ds)))
    (rows_next c.args.part c.args.number c.args.base ds i d c.loop-one-test.true c.one-item.is) (c.loop-one.invariant (spelled_first xs ys both))
    (pushed ∙ ap (λ (r : VarRow). c.loop-one.rows.items ++ r ∷ []) (c.in_ok-numbered_row.ensures (spelled_second xs ys both).0))
