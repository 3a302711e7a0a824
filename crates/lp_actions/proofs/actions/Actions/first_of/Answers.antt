use Rattle.std.proofs.Common.{◌≡◌, Some, None, sym, ap, ◌∙◌, cond, Bool, [], arith}
use Rattle.lp_actions.proofs.Entries.{first_is, if_of, nat_eq_yes, nat_eq_no}
use Rattle.lp_actions.proofs.actions.Actions.first_of.Goals as goal

pub returns-in-Some : goal.returns-in-Some
returns-in-Some c =
    ap (λ (b : Bool). cond b (Some c.in-Some.place.now) None) (sym (nat_eq_yes c.in-Some.place.now.holder c.args.holder.0 c.if-place-holder.true))
    ∙ ap (if_of c.args.holder) (sym c.in-Some.ensures.steps ∙ c.range.ensures.between tt) ∙ first_is c.args.holder c.args.self.now.deeds.entries c.range.ensures.ordered

pub returns-in_default : goal.returns-in_default
returns-in_default c =
    ap (λ (b : Bool). cond b (Some c.in-Some.place.now) None) (sym (nat_eq_no c.in-Some.place.now.holder c.args.holder.0 c.if-place-holder.false))
    ∙ ap (if_of c.args.holder) (sym c.in-Some.ensures.steps ∙ c.range.ensures.between tt) ∙ first_is c.args.holder c.args.self.now.deeds.entries c.range.ensures.ordered

pub returns-in_default-2 : goal.returns-in_default-2
returns-in_default-2 c =
    let none : c.range.result ≡ [] = grind (arith, c.next.ensures.steps, c.in_default.is) in
    ap (if_of c.args.holder) (sym none ∙ c.range.ensures.between tt) ∙ first_is c.args.holder c.args.self.now.deeds.entries c.range.ensures.ordered
