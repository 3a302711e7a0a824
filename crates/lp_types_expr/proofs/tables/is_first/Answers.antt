use Rattle.std.proofs.Common.{ℕ, List, Option, sym, ap, ◌∙◌, not}
use Rattle.lp_code.specs.Slots.{first_place}
use Rattle.lp_types_expr.proofs.Showing.{first_row, place_is}
use Rattle.lp_types_expr.proofs.tables.is_first.Goals as goal

pub returns-in-None : goal.returns-in-None
returns-in-None c = λ h. first_row c.args.slots.now c.args.place c.args.slot.now h
    ∙ ap (λ (o : Option ℕ). not (place_is o c.args.place)) (ap (λ (n : List ℕ). first_place n c.args.slots.now) (sym c.as_str.ensures) ∙ sym c.place.ensures.is ∙ c.in-None.is)

pub returns-in-Some : goal.returns-in-Some
returns-in-Some c = λ h. first_row c.args.slots.now c.args.place c.args.slot.now h
    ∙ ap (λ (o : Option ℕ). not (place_is o c.args.place)) (ap (λ (n : List ℕ). first_place n c.args.slots.now) (sym c.as_str.ensures) ∙ sym c.place.ensures.is ∙ c.in-Some.is)
