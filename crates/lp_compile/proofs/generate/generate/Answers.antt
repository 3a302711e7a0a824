use Rattle.std.proofs.Common.{◌∙◌, map, refl, ap, subst, sym}
use Rattle.lp_tree.specs.UnitView.{item_of}
use Rattle.lp_language.specs.Resolve.{own_variables}
use Rattle.lp_isa.specs.Programs.{own_functions}
use Rattle.lp_codegen_expr.specs.Names.{layout_of}
use Rattle.lp_codegen_expr.proofs.Refusals.{at_exit}
use Rattle.lp_codegen_unit.specs.Stands.{IsClearUnit}
use Rattle.lp_sound_laws.specs.Heights.{gains}
use Rattle.lp_compile.proofs.Making.{generated}
use Rattle.lp_compile.proofs.generate.generate.Goals as goal

pub returns : goal.returns
returns c =
    generated (map item_of c.args.items.now.items) c.args.tables c.args.parents.now c.args.simuls.now (layout_of c.in_ok-layout.layout) c.in_ok-first.first c.in_ok-unit.unit _ c.in_ok-layout.ensures c.in_ok-first.ensures c.in_ok-unit.ensures.0 c.in_ok-unit.ensures.1 c.from_vec.ensures c.from_vec-2.ensures c.from_vec-3.ensures c.from_vec-4.ensures refl (c.in_ok-max_height.ensures ∙ ap gains (c.as_slice.ensures.value ∙ sym c.from_vec.ensures))

pub returns-in_err-unit : goal.returns-in_err-unit
returns-in_err-unit c =
    let items = map item_of c.args.items.now.items in
    at_exit _ _ _ _ c.from_residual-in_err-unit.ensures.1
    (λ u k. c.in_err-unit.ensures u (subst (λ l. IsClearUnit l (own_functions items) (own_variables items)) (sym c.in_ok-layout.ensures) k))
