use Rattle.std.proofs.Common.{◌≡◌, Bool, true, false, nat_eq, filter, length, is_some, ap, sym, subst, ◌∙◌, arith, if◌then◌else◌, ◌+◌}
use Rattle.lp_actions.specs.Held.{AreFallingBelow}
use Rattle.lp_actions.specs.Stored.{is_of}
use Rattle.lp_places.specs.Places.{is_object}
use Rattle.lp_actions.proofs.Entries.{others_stay, first_there, none_from_first}
use Rattle.lp_actions.proofs.Held.{dropped_is, falling_filter}
use Rattle.lp_actions.proofs.actions.Actions.drop_of.Goals as goal
use Rattle.std.specs.Prelude.{not}

pub loop-place-preserved-in-Some : goal.loop-place-preserved-in-Some
loop-place-preserved-in-Some c =
    let there = first_there c.args.holder c.in-Some.place c.loop-place.self.deeds.entries (sym c.first_of.ensures ∙ c.in-Some.is) in
    record {
      others = λ q apart. ap (filter (is_of q)) c.remove.ensures.entries
          ∙ others_stay c.in-Some.place q (subst (λ h. nat_eq h q.0 ≡ false) (sym there.0) apart) c.loop-place.self.deeds.entries
          ∙ c.loop-place.invariant.others q apart;
      next = c.loop-place.invariant.next;
    }

pub loop-place-smaller : goal.loop-place-smaller
loop-place-smaller c =
    let there = first_there c.args.holder c.in-Some.place c.loop-place.self.deeds.entries (sym c.first_of.ensures ∙ c.in-Some.is) in
    let one : is_some c.remove.result ≡ true = ap is_some c.remove.ensures.value ∙ there.1 in
    let fewer : length c.remove.new.self.entries + 1 ≡ length c.loop-place.self.deeds.entries = subst (λ (b : Bool). length c.remove.new.self.entries + (if b then 1 else 0) ≡ length c.loop-place.self.deeds.entries) one c.remove.ensures.len in
    omega arith

pub returns-clause-dropped : goal.returns-clause-dropped
returns-clause-dropped c = λ ss lists.
    let none = none_from_first c.args.holder c.loop-place.self.deeds.entries (sym c.first_of.ensures ∙ c.in_default.is) in
    record {
      each = λ q. dropped_is c.args.holder q ss c.args.self.now.deeds.entries c.loop-place.self.deeds.entries (lists.each q) (c.loop-place.invariant.others q) none;
      numbers = subst (λ n. AreFallingBelow n (filter (λ s. not (is_object s.holder c.args.holder)) ss)) (sym c.loop-place.invariant.next) (falling_filter (λ s. not (is_object s.holder c.args.holder)) c.args.self.now.next ss lists.numbers);
    }
