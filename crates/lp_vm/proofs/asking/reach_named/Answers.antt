use Rattle.std.proofs.Common.{◌≡◌, ◌∙◌, subst}
use Rattle.std.specs.Prelude.{IfSome, string_bytes}
use Rattle.lp_vm.proofs.Reachings.{can_apply_by, foreign_applies}
use Rattle.lp_vm.proofs.asking.reach_named.Goals as goal

pub find_applied-requires-clause-can : goal.find_applied-requires-clause-can
find_applied-requires-clause-can g c =
    let same : c.as_str.result.now ≡ c.args.name.now = c.as_str.ensures.value ∙ subst (λ o. IfSome o (λ s. string_bytes s ≡ c.args.name.now)) c.in-Some.is c.in_ok-name.ensures.name in
    can_apply_by c.args.caller c.args.ob c.args.name.now c.as_str.result.now (g.W.SwapFile.content c.args.swap.now) c.args.live.now same c.requires.can

pub returns-in-None-clause-found : goal.returns-in-None-clause-found
returns-in-None-clause-found g c =
    foreign_applies c.args.caller c.args.ob c.args.name.now (g.W.SwapFile.content c.args.swap.now) c.args.live.now (λ ascii. c.in_ok-name.ensures.none c.in-None.is ascii)
