use Rattle.std.proofs.Common.{◌≡◌, ap, ◌∙◌, rules}
use Rattle.lp_types_expr.specs.NameMaps.{named}
use Rattle.lp_layout.specs.Standing.{clashes}
use Rattle.lp_layout.proofs.nomask.name_clashes.Goals as goal

pub returns : goal.returns
returns c =
    let name = c.args.name.now in
    let key : c.in_ok-key.key.items ≡ name = c.in_ok-key.ensures ∙ c.as_str.ensures in
    let was : c.copied.result ≡ named c.args.known.now c.in_ok-key.key.items = search rules in
    c.clashes.ensures ∙ ap (λ k. clashes k c.source.result) (was ∙ ap (named c.args.known.now) key) ∙ ap (clashes (named c.args.known.now name)) c.source.ensures
