use Rattle.std.proofs.Common.{rules, ◌≡◌, true, ap, sym, subst, ◌∙◌, nat_eq}
use Rattle.std.specs.Ordering.{is_eq}
use Rattle.std.specs.Cmp.Lexicographic.{pointwise}
use Rattle.std.specs.HashMap.{get}
use Rattle.std.proofs.lemmas.Slice.Eq.{bytes_eq-Decides}
use Rattle.lp_timers.specs.Spots.{spot_cmp, is_among}
use Rattle.lp_timers.specs.Functions.{keys_or_none}
use Rattle.lp_timers.proofs.FunctionLemmas.{at_one, at_one_same}
use Rattle.lp_timers.proofs.functions.Functions.extend.Goals as goal

pub returns-in-Ok-clause-ok : goal.returns-in-Ok-clause-ok
returns-in-Ok-clause-ok c = λ g s.
    let after = (c.get_mut.follows.holds c.insert.new.self).3 (search rules) in
    ap (λ o. is_among (keys_or_none o) s) (after.0 g)
    ∙ at_one (pointwise nat_eq c.args.fun.now g) (is_eq (spot_cmp c.args.spot s)) true s c.in-Some.spots.now c.insert.new.self (get (pointwise nat_eq) c.args.self.now.spots g)
    (λ e. subst (λ h. is_among (keys_or_none (get (pointwise nat_eq) c.args.self.now.spots h)) s ≡ is_among c.in-Some.spots.now.keys s) ((bytes_eq-Decides c.args.fun.now g).0 e)
    (ap (λ o. is_among (keys_or_none o) s) (sym c.in-Some.ensures.value)))
    (c.in-Ok.ensures.updates.0 s)

pub returns-in-Err-clause-err : goal.returns-in-Err-clause-err
returns-in-Err-clause-err c = λ g s.
    let after = (c.get_mut.follows.holds c.insert.new.self).3 (search rules) in
    ap (λ o. is_among (keys_or_none o) s) (after.0 g)
    ∙ at_one_same (pointwise nat_eq c.args.fun.now g) s c.insert.new.self (get (pointwise nat_eq) c.args.self.now.spots g)
    (λ e. subst (λ h. is_among (keys_or_none (get (pointwise nat_eq) c.args.self.now.spots h)) s ≡ is_among c.insert.new.self.keys s) ((bytes_eq-Decides c.args.fun.now g).0 e)
    (ap (λ o. is_among (keys_or_none o) s) (sym c.in-Some.ensures.value) ∙ ap (λ ks. is_among ks s) (sym c.in-Err.ensures.err)))
