use Rattle.std.proofs.Common.{rules, ap, sym, ◌∙◌}
use Rattle.std.proofs.lemmas.Map.Made.{filter_same_pairs}
use Rattle.lp_actions.specs.Stored.{of_holder}
use Rattle.lp_actions.proofs.Held.{kept_is, falling_filter}
use Rattle.lp_actions.proofs.actions.Actions.keep_reach.Goals as goal

pub returns-clause-kept : goal.returns-clause-kept
returns-clause-kept g c = λ ss lists.
    let kept = filter_same_pairs _ (λ e. g.R.Reach.reaches c.args.reach.now (record { 0 = e.0.holder }) e.1.giver) _ (λ k v b w f' t. search rules) _ _ c.retain.ensures.filtered in
    record {
      each = λ q. kept_is (g.R.Reach.reaches c.args.reach.now) q ss c.args.self.now.deeds.entries (lists.each q) ∙ ap (of_holder q) (sym kept);
      numbers = falling_filter (λ s. g.R.Reach.reaches c.args.reach.now s.holder s.giver) c.args.self.now.next ss lists.numbers;
    }
