use Rattle.std.proofs.Common.{◌≡◌, ℕ, List, [], true, cond, Some, ap, sym, subst, ◌∙◌, nat_eq, ◌&&◌}
use Rattle.std.specs.Ordering.{is_eq}
use Rattle.std.specs.Cmp.Lexicographic.{pointwise}
use Rattle.std.specs.HashMap.{get}
use Rattle.std.proofs.lemmas.Slice.Eq.{bytes_eq-Decides}
use Rattle.lp_timers.specs.Spots.{spot_cmp, is_among}
use Rattle.lp_timers.specs.Functions.{keys_or_none}
use Rattle.lp_timers.proofs.FunctionLemmas.{at_new}
use Rattle.lp_timers.proofs.functions.Functions.begin.Goals as goal

pub returns-clause-ok : goal.returns-clause-ok
returns-clause-ok c = λ none g s.
    ap (λ o. is_among (keys_or_none o) s) (c.in_ok-insert-2.ensures.updates.0 g)
    ∙ subst (λ (fun : List ℕ). is_among (keys_or_none (cond (pointwise nat_eq fun g) (Some c.insert.new.self) (get (pointwise nat_eq) c.args.self.now.spots g))) s ≡ cond (pointwise nat_eq c.args.fun.now g && is_eq (spot_cmp c.args.spot s)) true (is_among (keys_or_none (get (pointwise nat_eq) c.args.self.now.spots g)) s)) (sym c.in_ok-copy.ensures)
    (at_new (pointwise nat_eq c.args.fun.now g) (is_eq (spot_cmp c.args.spot s)) s c.insert.new.self (get (pointwise nat_eq) c.args.self.now.spots g)
    (λ e. subst (λ h. keys_or_none (get (pointwise nat_eq) c.args.self.now.spots h) ≡ []) ((bytes_eq-Decides c.args.fun.now g).0 e) none)
    (c.in_ok-insert.ensures.updates.0 s ∙ ap (λ ks. cond (is_eq (spot_cmp c.args.spot s)) true (is_among ks s)) c.new-spots.ensures.empty))
