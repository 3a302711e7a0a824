use Rattle.std.proofs.Common.{map, refl, sym, ap, subst, length}
use Rattle.lp_tree.specs.UnitView.{item_of}
use Rattle.lp_code.specs.Programs.{table_of}
use Rattle.lp_language.specs.Resolve.{own_variables}
use Rattle.lp_isa.specs.Programs.{own_functions}
use Rattle.lp_codegen_expr.specs.Names.{layout_of}
use Rattle.lp_codegen_expr.proofs.Refusals.{at_exit}
use Rattle.lp_codegen_flow.specs.Clear.{AreClearVariables}
use Rattle.lp_codegen_unit.specs.Finish.{Finishes}
use Rattle.lp_codegen_unit.specs.Stands.{option_list}
use Rattle.lp_codegen_unit.proofs.Standing.{all_done, rows_named, unit_code}
use Rattle.lp_codegen_unit.proofs.unit.gen_unit.Goals as goal

pub returns : goal.returns
returns c =
    let is = map item_of c.args.items.now.items in
    let vs = own_variables is in
    let made = subst (λ rs. Finishes c.gen_last.new.into rs c.in_ok-unit.unit) c.in_ok-add_row.ensures c.in_ok-unit.ensures.ok in (
      unit_code _ _ _ c.gen_last.new.into (own_functions is) vs c.args.first c.in_ok-rows.rows.items (option_list c.in_ok-last.last) c.in_ok-unit.unit (ap length c.new-2.ensures.items) refl c.clear.ensures.items c.in_ok-rows.ensures c.in_ok-last.ensures refl made,
      rows_named vs c.args.first _ _ _ c.gen_last.new.into _ c.in_ok-unit.unit (ap (λ rows. length (map table_of rows)) c.new-4.ensures.items) c.clear.ensures.items c.in_ok-rows.ensures c.in_ok-last.ensures refl made,
    )

pub returns-in_err-rows : goal.returns-in_err-rows
returns-in_err-rows c = at_exit _ _ _ _ c.from_residual.ensures.1 (λ u k. c.in_err-rows.ensures u k.functions)

pub returns-in_err-last : goal.returns-in_err-last
returns-in_err-last c =
    let vs = own_variables (map item_of c.args.items.now.items) in
    at_exit _ _ _ _ c.from_residual-in_err-last.ensures.1
    (λ u k. c.in_err-last.ensures u (subst (λ y. AreClearVariables (layout_of y) c.clear.new.self.items vs) (sym c.in_ok-rows.ensures.layout) (subst (λ ns. AreClearVariables (layout_of c.args.layout) ns vs) (sym c.clear.ensures.items) k.variables)))

pub returns-in_err-unit : goal.returns-in_err-unit
returns-in_err-unit c =
    at_exit _ _ _ _ c.from_residual-in_err-unit.ensures.1
    (λ u k. c.in_err-unit.ensures.err u (all_done (own_variables (map item_of c.args.items.now.items)) c.args.first _ _ _ (ap length c.new-2.ensures.items) c.clear.ensures.items c.in_ok-rows.ensures c.in_ok-last.ensures))
