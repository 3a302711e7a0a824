use Rattle.std.proofs.Common.{◌≡◌, Some, None, sym, ap, ◌∙◌, rules}
use Rattle.std.specs.Prelude.{is_some}
use Rattle.lp_types_expr.specs.NameMaps.{named}
use Rattle.lp_layout.specs.Standing.{nomask_versions}
use Rattle.lp_layout.proofs.nomask.overrides.Goals as goal

pub returns-in-None : goal.returns-in-None
returns-in-None c = λ ts k.
    let e : named c.args.known.now c.args.name.now ≡ None = search rules in
    ap (λ x. is_some (nomask_versions x)) (sym e) ∙ k.over c.args.name.now

pub returns-in-Some : goal.returns-in-Some
returns-in-Some c = λ ts k.
    let e : named c.args.known.now c.args.name.now ≡ Some c.in-Some.standing.now = search rules in
    let n : c.is_some.result ≡ is_some c.in-Some.standing.now.nomask = search rules in
    n ∙ ap (λ x. is_some (nomask_versions x)) (sym e) ∙ k.over c.args.name.now
