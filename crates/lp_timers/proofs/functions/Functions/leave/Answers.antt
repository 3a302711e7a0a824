use Rattle.std.proofs.Common.{rules, ◌≡◌, false, ap, sym, subst, ◌∙◌, nat_eq}
use Rattle.std.specs.Ordering.{is_eq}
use Rattle.std.specs.Cmp.Lexicographic.{pointwise}
use Rattle.std.specs.HashMap.{get}
use Rattle.std.proofs.lemmas.Slice.Eq.{bytes_eq-Decides}
use Rattle.lp_timers.specs.Spots.{spot_cmp, is_among}
use Rattle.lp_timers.specs.Functions.{keys_or_none}
use Rattle.lp_timers.proofs.FunctionLemmas.{at_one}
use Rattle.lp_timers.proofs.functions.Functions.leave.Goals as goal

pub returns-in-Some-clause-has : goal.returns-in-Some-clause-has
returns-in-Some-clause-has c = λ g s.
    let after = (c.get_mut.follows.holds c.remove.new.self).3 (search rules) in
    ap (λ o. is_among (keys_or_none o) s) (after.0 g)
    ∙ at_one (pointwise nat_eq c.args.fun.now g) (is_eq (spot_cmp c.args.spot s)) false s c.in-Some.spots.now c.remove.new.self (get (pointwise nat_eq) c.args.self.now.spots g)
    (λ e. subst (λ h. is_among (keys_or_none (get (pointwise nat_eq) c.args.self.now.spots h)) s ≡ is_among c.in-Some.spots.now.keys s) ((bytes_eq-Decides c.args.fun.now g).0 e)
    (ap (λ o. is_among (keys_or_none o) s) (sym c.in-Some.ensures.value)))
    (c.remove.ensures.updates.0 s)
