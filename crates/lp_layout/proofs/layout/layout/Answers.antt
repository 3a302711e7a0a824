use Rattle.std.proofs.Common.{◌≡◌, ◌∷◌, [], rules, List, Option, None, true, map, sym, ap, subst, ◌∙◌}
use Rattle.std.specs.Prelude.{MatchOption, false}
use Rattle.lp_tree.specs.UnitView.{item_of, unit_of}
use Rattle.lp_tree.specs.declared.fault.FaultKind.TheVariants.{TooManyNames}
use Rattle.lp_tree.specs.Units.{ItemTree}
use Rattle.lp_tree.specs.declared.unit.Item.{Item}
use Rattle.lp_code.specs.declared.tables.Tables.{Tables}
use Rattle.lp_types_expr.specs.ExprFaults.{when}
use Rattle.lp_layout.specs.Layout.{IsSpelled, laid_tables}
use Rattle.lp_layout.specs.LayoutFaults.{first_fault, is_too_large, items_layout, limits}
use Rattle.lp_layout.proofs.FirstFaults.{never}
use Rattle.lp_layout.proofs.layout.layout.Goals as goal

pub returns-in-None-tables-clause-fault : goal.returns-in-None-tables-clause-fault
returns-in-None-tables-clause-fault c = λ h.
    let is = unit_of c.args.unit.now in
    let ts = c.args.parents.now in
    let same : map item_of c.as_slice-items.result.now ≡ is = ap (λ (l : List Item). map item_of l) c.as_slice-items.ensures.value in
    let made : IsSpelled is → MatchOption c.in_ok-tables.tables (is_too_large limits is ts ≡ true) (λ t. (is_too_large limits is ts ≡ false) × (t ≡ laid_tables is ts)) =
    subst (λ (l : List ItemTree). IsSpelled l → MatchOption c.in_ok-tables.tables (is_too_large limits l ts ≡ true) (λ t. (is_too_large limits l ts ≡ false) × (t ≡ laid_tables l ts))) same c.in_ok-tables.ensures in
    let large : is_too_large limits is ts ≡ true =
    subst (λ (o : Option Tables). MatchOption o (is_too_large limits is ts ≡ true) (λ t. (is_too_large limits is ts ≡ false) × (t ≡ laid_tables is ts))) c.in-None-tables.is (made h) in
    let none : c.is_none.result ≡ true = search rules in
    let first : first_fault (items_layout limits (TooManyNames ∷ []) [] ts is) ≡ None =
    ap (λ b. first_fault (items_layout limits (when b TooManyNames) [] ts is)) (sym none) ∙ ap (λ l. first_fault (items_layout limits (when c.is_none.result TooManyNames) [] ts l)) (sym same) ∙ sym c.in_ok-fault.ensures ∙ c.in-None.is in
    absurd (never is ts c.requires.each first large)
