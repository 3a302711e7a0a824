use Rattle.std.proofs.Common.{◌≡◌, List, sym, ap, subst, ◌∙◌}
use Rattle.lp_types_expr.specs.declared.row.Row.{Row}
use Rattle.lp_types_expr.specs.Placed.{ArePlaced, last_place}
use Rattle.lp_types_expr.specs.Scopes.{Scope, is_double}
use Rattle.lp_types_expr.proofs.Blocks.{doubled, at_least}
use Rattle.lp_types_expr.proofs.scopes.Scopes.is_double.Goals as goal

pub returns-in-None : goal.returns-in-None
returns-in-None c =
    let rs = c.self.inside.rows.items in
    let found : c.place.result ≡ last_place rs c.args.name.now = c.place.ensures (subst (λ (z : List Row). ArePlaced z c.self.inside.places) (sym c.as_slice.ensures.value) c.self.invariant.1) ∙ ap (λ (z : List Row). last_place z c.args.name.now) c.as_slice.ensures.value in
    ap (at_least c.self.inside.outer) (sym c.in-None.is ∙ found) ∙ sym (doubled rs c.self.inside.outer c.args.name.now) ∙ ap (λ (z : Scope). is_double z c.args.name.now) c.self.view_is

pub returns-in-Some : goal.returns-in-Some
returns-in-Some c =
    let rs = c.self.inside.rows.items in
    let found : c.place.result ≡ last_place rs c.args.name.now = c.place.ensures (subst (λ (z : List Row). ArePlaced z c.self.inside.places) (sym c.as_slice.ensures.value) c.self.invariant.1) ∙ ap (λ (z : List Row). last_place z c.args.name.now) c.as_slice.ensures.value in
    ap (at_least c.self.inside.outer) (sym c.in-Some.is ∙ found) ∙ sym (doubled rs c.self.inside.outer c.args.name.now) ∙ ap (λ (z : Scope). is_double z c.args.name.now) c.self.view_is
