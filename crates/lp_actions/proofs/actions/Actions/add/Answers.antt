use Rattle.std.proofs.Common.{filter, ap, ◌∙◌, arith}
use Rattle.lp_actions.specs.Stored.{is_of}
use Rattle.lp_actions.proofs.Entries.{appended}
use Rattle.lp_actions.proofs.Held.{added_is, below_next}
use Rattle.lp_actions.proofs.actions.Actions.add.Goals as goal

pub returns-clause-first : goal.returns-clause-first
returns-clause-first c = λ ss lists.
    let next = c.args.self.now.next in
    let es = c.args.self.now.deeds.entries in
    let below = below_next next c.args.holder ss es (lists.each c.args.holder) lists.numbers in
    record {
      each = λ q. rw (← c.in_ok-copy.ensures, ← c.in_ok-copy-2.ensures) (added_is c.args.holder next _ q ss es c.insert.new.self.entries (lists.each q)
          (ap (filter (is_of q)) c.in_ok-insert.ensures.entries ∙ appended c.args.holder.0 next _ es q c.insert.ensures.was_ordered below));
      numbers = (omega arith, lists.numbers);
    }
