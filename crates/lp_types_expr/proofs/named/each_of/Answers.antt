use Rattle.std.proofs.Common.{◌≡◌, ◌+◌, List, [], ◌∷◌, ◌++◌, take, sym, subst, rules}
use Rattle.std.specs.List.{AllZip}
use Rattle.lp_types_expr.specs.declared.parent.Parent.{Parent}
use Rattle.lp_types_expr.specs.ParentRows.{IsParent}
use Rattle.lp_types_expr.proofs.Choosing.{zip_next}
use Rattle.lp_types_expr.proofs.named.each_of.Goals as goal

pub loop-parent-preserved : goal.loop-parent-preserved
loop-parent-preserved c =
    let pushed : c.push.new.self.items ≡ c.loop-parent.each.items ++ c.in_ok-parent_of.field-0 ∷ [] = search rules in
    subst (λ (l : List Parent). AllZip IsParent (take (c.loop-parent.parent-index + 1) c.args.parents.now) l) (sym pushed)
    (zip_next IsParent c.args.parents.now c.loop-parent.each.items c.loop-parent.parent-index c.parent-item.result c.in_ok-parent_of.field-0 c.loop-parent-test.true c.parent-item.is c.loop-parent.invariant c.in_ok-parent_of.ensures)
