use Rattle.std.proofs.Common.{[], ◌∷◌, ◌∙◌, map, sym, ap, subst, append-nil}
use Rattle.lp_tree.specs.StatementView.{declarator_of}
use Rattle.lp_tree.specs.UnitView.{item_of}
use Rattle.lp_language.specs.Resolve.{own_variables}
use Rattle.lp_codegen_expr.specs.Names.{layout_of}
use Rattle.lp_codegen_expr.proofs.Refusals.{at_exit}
use Rattle.lp_codegen_flow.specs.Clear.{AreClearVariables}
use Rattle.lp_codegen_flow.specs.Initialisers.{variables_of}
use Rattle.lp_codegen_flow.proofs.Initialising.{init_as, init_none}
use Rattle.lp_codegen_flow.proofs.Sparing.{with_any}
use Rattle.lp_codegen_flow.proofs.globals.gen_item.Goals as goal

pub returns-in-Inherit : goal.returns-in-Inherit
returns-in-Inherit c = init_as c.args.scope.now (ap (λ i. own_variables (item_of i ∷ [])) (sym c.in-Inherit.is)) (init_none c.args.first c.args.scope.now _)

pub returns-in-Proto : goal.returns-in-Proto
returns-in-Proto c = init_as c.args.scope.now (ap (λ i. own_variables (item_of i ∷ [])) (sym c.in-Proto.is)) (init_none c.args.first c.args.scope.now _)

pub returns-in-Fun : goal.returns-in-Fun
returns-in-Fun c = init_as c.args.scope.now (ap (λ i. own_variables (item_of i ∷ [])) (sym c.in-Fun.is)) (init_none c.args.first c.args.scope.now _)

pub returns-in_ok-next-in-Var : goal.returns-in_ok-next-in-Var
returns-in_ok-next-in-Var c =
    let ms = c.in-Var.mods.items in
    let vs = variables_of ms (map declarator_of c.in-Var.ones.items) in
    init_as c.args.scope.now (sym (append-nil vs) ∙ ap (λ i. own_variables (item_of i ∷ [])) (sym c.in-Var.is)) (c.in_ok-next-in-Var.ensures ms)

pub returns-in_err-next-in-Var : goal.returns-in_err-next-in-Var
returns-in_err-next-in-Var c =
    let ms = c.in-Var.mods.items in
    let ds = map declarator_of c.in-Var.ones.items in
    let l = layout_of c.args.scope.now.layout in
    let ns = c.args.scope.now.locals.items in
    at_exit _ _ _ _ c.from_residual.ensures.1
    (λ u q. c.in_err-next-in-Var.ensures u
    (λ ls. with_any l ns ms ls ds (subst (AreClearVariables l ns) (append-nil (variables_of ms ds)) (subst (λ i. AreClearVariables l ns (own_variables (item_of i ∷ []))) c.in-Var.is q))))
