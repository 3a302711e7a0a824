use Rattle.std.proofs.Common.{◌≡◌, ◌∙◌, ap, sym, subst, true, false}
use Rattle.std.specs.Prelude.{IfOk, if◌then◌else◌}
use Rattle.lp_language.specs.Resolve.{chain_of, first_with, function_of, target_here}
use Rattle.lp_meaning.specs.FunctionCalls.{goes_to_shadows}
use Rattle.lp_targets.specs.Callees.{IsTargetAnswer}
use Rattle.lp_targets.proofs.Lookups.{if_ok}
use Rattle.lp_targets.proofs.Shadows.{answer_here, as_with}
use Rattle.lp_targets.proofs.applies.apply_target.Goals as goal

pub returns-then-goes_to_shadows-clause-found : goal.returns-then-goes_to_shadows-clause-found
returns-then-goes_to_shadows-clause-found g c = λ x programs w h.
    let ob = c.args.ob in
    let name = c.args.name.now in
    let goes : goes_to_shadows name ≡ true = sym c.goes_to_shadows.ensures ∙ c.if-goes_to_shadows.true in
    let e = as_with w (chain_of w ob) name ∙ ap (λ b. if b then first_with w (chain_of w ob) name else target_here ob (function_of w ob name)) (sym goes) in
    subst (λ t. IfOk c.search_all.result (λ o. IsTargetAnswer programs w o t)) e (c.search_all.ensures.found x programs w h)

pub returns-else-goes_to_shadows-clause-found : goal.returns-else-goes_to_shadows-clause-found
returns-else-goes_to_shadows-clause-found g c = λ x programs w h.
    let ob = c.args.ob in
    let name = c.args.name.now in
    let stays : goes_to_shadows name ≡ false = sym c.goes_to_shadows.ensures ∙ c.if-goes_to_shadows.false in
    subst (λ t. IfOk c.function_in.result (λ o. IsTargetAnswer programs w o t)) (ap (λ b. if b then first_with w (chain_of w ob) name else target_here ob (function_of w ob name)) (sym stays))
    (if_ok c.function_in.result (λ r i. answer_here programs w ob r (function_of w ob name) i) (c.function_in.ensures.found x programs w h))
