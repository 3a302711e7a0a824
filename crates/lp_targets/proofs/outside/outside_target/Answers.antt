use Rattle.std.proofs.Common.{◌∙◌, arith, ap, subst, drop}
use Rattle.std.specs.Prelude.{IfOk}
use Rattle.lp_language.specs.Resolve.{chain_of, searched}
use Rattle.lp_targets.specs.Callees.{IsTargetAnswer, first_wanted}
use Rattle.lp_targets.specs.declared.wants.Seeker.TheVariants as seekers
use Rattle.lp_targets.proofs.Shadows.{as_callable, starts}
use Rattle.lp_targets.proofs.outside.outside_target.Goals as goal

pub returns-then-count-at-clause-found : goal.returns-then-count-at-clause-found
returns-then-count-at-clause-found g c = λ x programs w h.
    let s = (starts w c.args.caller c.args.ob).inside in
    let a = c.start_of-at.ensures w.places w.shadows h.stands.rest.places in
    let n = c.shadow_count-count.ensures w.places w.shadows h.stands.rest.places in
    absurd (omega (arith, s, a, n))

pub returns-clause-found : goal.returns-clause-found
returns-clause-found g c = λ x programs w h.
    let name = c.args.name.now in
    let a = c.start_of-at.ensures w.places w.shadows h.stands.rest.places in
    let n = c.shadow_count-count.ensures w.places w.shadows h.stands.rest.places in
    let e = ap (λ k. first_wanted (seekers.Caller c.args.caller) w (drop k (chain_of w c.args.ob)) name) a ∙ ap (λ os. first_wanted (seekers.Caller c.args.caller) w os name) (starts w c.args.caller c.args.ob).is
    ∙ as_callable w c.args.caller (searched w c.args.caller c.args.ob) name in
    subst (λ t. IfOk c.search_from.result (λ o. IsTargetAnswer programs w o t)) e (c.search_from.ensures.found x programs w h (omega (arith, n)))
