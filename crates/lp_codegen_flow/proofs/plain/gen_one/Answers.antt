use Rattle.std.proofs.Common.{[], ◌∷◌, ◌++◌, refl, ap, ◌∙◌}
use Rattle.lp_tree.specs.StatementView.{declarator_of}
use Rattle.lp_codegen_flow.proofs.Scopes.{one_stands}
use Rattle.lp_codegen_flow.proofs.plain.gen_one.Goals as goal

pub returns : goal.returns
returns c =
    let ns = c.args.scope.now.locals.items in
    one_stands (declarator_of c.args.one.now) c.in_ok-slot.slot c.in_ok-gen_value_if.ensures (c.in_ok-slot.ensures ∙ c.len.ensures ∙ c.args.scope.now.locals.ok.0) c.in_ok-put_all.ensures refl (c.in_ok-push.ensures.items ∙ ap (λ n. ns ++ n ∷ []) c.in_ok-copy.ensures)
