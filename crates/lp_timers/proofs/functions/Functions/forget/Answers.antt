use Rattle.std.proofs.Common.{◌≡◌, [], ap, subst, ◌∙◌, nat_eq}
use Rattle.std.specs.Cmp.Lexicographic.{pointwise}
use Rattle.std.specs.HashMap.{get}
use Rattle.std.proofs.lemmas.Slice.Eq.{bytes_eq-Decides}
use Rattle.lp_timers.specs.Spots.{is_among}
use Rattle.lp_timers.specs.Functions.{keys_or_none}
use Rattle.lp_timers.proofs.FunctionLemmas.{at_none}
use Rattle.lp_timers.proofs.functions.Functions.forget.Goals as goal

pub returns : goal.returns
returns c = λ none g s.
    ap (λ o. is_among (keys_or_none o) s) (c.remove.ensures.updates.0 g)
    ∙ at_none (pointwise nat_eq c.args.fun.now g) s (get (pointwise nat_eq) c.args.self.now.spots g)
    (λ e. subst (λ h. keys_or_none (get (pointwise nat_eq) c.args.self.now.spots h) ≡ []) ((bytes_eq-Decides c.args.fun.now g).0 e) none)
