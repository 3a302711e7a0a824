use Rattle.std.proofs.Common.{sym}
use Rattle.lp_efuns.proofs.Changed.{key_dropped, nothing_dropped}
use Rattle.lp_efuns.proofs.changes.m_delete.Goals as goal

pub returns-in-Some-clause-does : goal.returns-in-Some-clause-does
returns-in-Some-clause-does c = λ caller turn.
    key_dropped caller c.args.args.now c.args.live.now c.drop_key.new.live turn c.in-Some.id c.in_ok-key.key (sym c.in-Some.ensures.value) (c.in-Some.ensures.there c.args.live.now.cells c.requires.there)
    c.in_ok-key.ensures.value c.drop_key.ensures.drops

pub returns-clause-does : goal.returns-clause-does
returns-clause-does c = λ caller turn. nothing_dropped caller c.args.args.now c.args.live.now turn (sym c.in-None.ensures.value)
