use Rattle.std.proofs.Common.{rules}
use Rattle.lp_efuns.proofs.Changed.{no_random, some_random}
use Rattle.lp_efuns.proofs.changes.random.Goals as goal

pub returns-then-n-eq0-clause-does : goal.returns-then-n-eq0-clause-does
returns-then-n-eq0-clause-does c = λ caller turn. no_random caller c.args.args.now c.args.live.now turn c.bound-n.result (search rules) c.bound-n.ensures.value

pub returns-clause-does : goal.returns-clause-does
returns-clause-does c = λ caller turn.
    some_random caller c.args.args.now c.args.live.now turn c.bound-n.result c.count_did.result c.next_word-word.result c.next_word-word.new.generator (λ e. search rules) c.bound-n.ensures.value
    c.next_word-word.ensures c.count_did.ensures.value
