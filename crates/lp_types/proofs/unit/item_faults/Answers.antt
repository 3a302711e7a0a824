use Rattle.std.proofs.Common.{ap, sym, subst}
use Rattle.lp_tree.specs.UnitView.{item_of}
use Rattle.lp_types_expr.specs.Surroundings.{around_of}
use Rattle.lp_types.specs.Checks.{TellsItem}
use Rattle.lp_types.proofs.CheckSteps.{inherit_told, proto_told, fun_told, var_told}
use Rattle.lp_types.proofs.unit.item_faults.Goals as goal

pub returns-in-Inherit : goal.returns-in-Inherit
returns-in-Inherit c =
    subst (λ x. TellsItem (around_of c.args.around.now) x c.args.funs.now c.args.vars.now c.args.funs.now c.args.vars.now c.args.faults.now.items c.args.faults.now.items) (sym (ap item_of c.in-Inherit.is)) (inherit_told _ _ _ _ _ _)

pub returns-in_ok-params_faults-in-Proto : goal.returns-in_ok-params_faults-in-Proto
returns-in_ok-params_faults-in-Proto c =
    subst (λ x. TellsItem (around_of c.args.around.now) x c.args.funs.now c.args.vars.now c.args.funs.now c.args.vars.now c.args.faults.now.items c.params_faults.new.faults.items) (sym (ap item_of c.in-Proto.is)) (proto_told _ _ _ _ _ _ _ _ _ c.missing_faults.new.faults.items _ c.in_ok-missing_faults-in-Proto.ensures c.in_ok-params_faults-in-Proto.ensures)

pub returns-in_ok-body_faults-in-Fun : goal.returns-in_ok-body_faults-in-Fun
returns-in_ok-body_faults-in-Fun c =
    subst (λ x. TellsItem (around_of c.args.around.now) x c.args.funs.now c.args.vars.now c.head_faults.new.funs c.args.vars.now c.args.faults.now.items c.body_faults.new.faults.items) (sym (ap item_of c.in-Fun.is))
    (fun_told _ _ _ _ _ _ _ _ _ _ _ c.head_faults.new.faults.items c.params_faults-in-Fun.new.faults.items _ c.in_ok-head_faults-in-Fun.ensures.faults c.in_ok-head_faults-in-Fun.ensures.names c.in_ok-params_faults-in-Fun.ensures c.in_ok-body_faults-in-Fun.ensures)

pub returns-in_ok-globals_faults-in-Var : goal.returns-in_ok-globals_faults-in-Var
returns-in_ok-globals_faults-in-Var c =
    subst (λ x. TellsItem (around_of c.args.around.now) x c.args.funs.now c.args.vars.now c.args.funs.now c.globals_faults.new.vars c.args.faults.now.items c.globals_faults.new.faults.items) (sym (ap item_of c.in-Var.is)) (var_told _ _ _ _ _ _ _ _ _ _ c.in_ok-globals_faults-in-Var.ensures)
