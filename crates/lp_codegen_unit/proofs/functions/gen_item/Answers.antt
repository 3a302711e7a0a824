use Rattle.std.proofs.Common.{List, [], ◌∷◌, map, refl, sym, ap}
use Rattle.lp_tree.specs.declared.unit.Param.{Param}
use Rattle.lp_tree.specs.StatementView.{stmt_of, stmt_trees}
use Rattle.lp_tree.specs.UnitView.{item_of}
use Rattle.lp_isa.specs.Programs.{own_functions}
use Rattle.lp_codegen_unit.specs.Stands.{function_of}
use Rattle.lp_codegen_unit.proofs.Standing.{functions_as, functions_none, one_function}
use Rattle.lp_codegen_unit.proofs.functions.gen_item.Goals as goal

pub returns-in-Inherit : goal.returns-in-Inherit
returns-in-Inherit c = functions_as (ap (λ i. own_functions (item_of i ∷ [])) (sym c.in-Inherit.is)) refl (functions_none c.args.scope.now _)

pub returns-in-Proto : goal.returns-in-Proto
returns-in-Proto c = functions_as (ap (λ i. own_functions (item_of i ∷ [])) (sym c.in-Proto.is)) refl (functions_none c.args.scope.now _)

pub returns-in-Var : goal.returns-in-Var
returns-in-Var c = functions_as (ap (λ i. own_functions (item_of i ∷ [])) (sym c.in-Var.is)) refl (functions_none c.args.scope.now _)

pub returns-in_ok-row-in-Fun : goal.returns-in_ok-row-in-Fun
returns-in_ok-row-in-Fun c =
    let of = λ (ps : List Param). function_of c.in-Fun.mods.items c.in-Fun.name ps (stmt_trees (map stmt_of c.in-Fun.body.stmts.items)) in
    functions_as (ap (λ i. own_functions (item_of i ∷ [])) (sym c.in-Fun.is)) refl
    (functions_as (ap (λ ps. of ps ∷ []) c.as_slice.ensures.value) refl (one_function (of c.as_slice.result.now) c.in_ok-row-in-Fun.row (c.in_ok-row-in-Fun.ensures c.in-Fun.mods.items)))
