use Rattle.std.proofs.Common.{◌≡◌, [], ◌∷◌, ◌++◌, rules, subst}
use Rattle.lp_types_expr.specs.Placed.{ArePlaced}
use Rattle.lp_types_expr.proofs.Places.{forgotten}
use Rattle.lp_types_expr.proofs.placed.forget.Goals as goal

pub returns-in-Some-clause-placed : goal.returns-in-Some-clause-placed
returns-in-Some-clause-placed c = λ p.
    let whole : c.args.rows.now.items ≡ c.pop.new.self.items ++ c.in-Some.field-0 ∷ [] = search rules in
    forgotten c.pop.new.self.items c.in-Some.field-0 c.args.places.now c.show_again.new.places (subst (λ z. ArePlaced z c.args.places.now) whole p) c.show_again.ensures
