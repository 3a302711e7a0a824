use Rattle.std.proofs.Common.{[], ◌∷◌, ◌++◌, refl, ap, ◌∙◌}
use Rattle.lp_instr.specs.declared.instr.Instr.TheVariants.{Pop}
use Rattle.lp_codegen_expr.proofs.Compose.{one_adds}
use Rattle.lp_codegen_flow.proofs.Scopes.{each_local, each_there}
use Rattle.lp_codegen_flow.proofs.plain.gen_each.Goals as goal

pub returns-in_ok-push-in-Some : goal.returns-in_ok-push-in-Some
returns-in_ok-push-in-Some c =
    let ns = c.args.scope.now.locals.items in
    each_local c.args.each.now _ c.in_ok-slot-in-Some.slot c.in-Some.is (c.in_ok-slot-in-Some.ensures ∙ c.len.ensures ∙ c.args.scope.now.locals.ok.0) c.in_ok-put_all-in-Some.ensures refl (c.in_ok-push-in-Some.ensures.items ∙ ap (λ n. ns ++ n ∷ []) c.in_ok-copy-in-Some.ensures)

pub returns-in_ok-put-in-None : goal.returns-in_ok-put-in-None
returns-in_ok-put-in-None c = each_there c.args.each.now c.in-None.is c.in_ok-gen_write_slot-in-None.ensures (one_adds Pop c.in_ok-put-in-None.ensures)
