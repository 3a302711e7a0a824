use Rattle.std.proofs.Common.{◌≡◌, [], Some, None, sym, ap, ◌∙◌, cond, Bool, arith}
use Rattle.lp_timers.proofs.SpotLemmas.{first_is, if_of, nat_eq_yes, nat_eq_no}
use Rattle.lp_timers.proofs.spot.first_spot.Goals as goal

pub returns-in-Some-clause-first : goal.returns-in-Some-clause-first
returns-in-Some-clause-first c =
    ap (λ (b : Bool). cond b (Some c.in-Some.spot.now) None) (sym (nat_eq_yes c.in-Some.spot.now.group c.args.group c.if-spot-group.true))
    ∙ ap (if_of c.args.group) (sym c.in-Some.ensures.steps ∙ c.range.ensures.between tt) ∙ first_is c.args.group c.args.spots.now.keys c.range.ensures.ordered

pub returns-in_default-clause-first : goal.returns-in_default-clause-first
returns-in_default-clause-first c =
    ap (λ (b : Bool). cond b (Some c.in-Some.spot.now) None) (sym (nat_eq_no c.in-Some.spot.now.group c.args.group c.if-spot-group.false))
    ∙ ap (if_of c.args.group) (sym c.in-Some.ensures.steps ∙ c.range.ensures.between tt) ∙ first_is c.args.group c.args.spots.now.keys c.range.ensures.ordered

pub returns-in_default-2-clause-first : goal.returns-in_default-2-clause-first
returns-in_default-2-clause-first c =
    let none : c.range.result ≡ [] = grind (arith, c.next.ensures.steps, c.in_default.is) in
    ap (if_of c.args.group) (sym none ∙ c.range.ensures.between tt) ∙ first_is c.args.group c.args.spots.now.keys c.range.ensures.ordered
