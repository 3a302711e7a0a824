use Rattle.std.proofs.Common.{◌<◌, length, refl, sym, subst}
use Rattle.lp_sessions.specs.Table.{Connections}
use Rattle.lp_sessions.proofs.Index.{index_fed}
use Rattle.lp_sessions.proofs.Tables.{fed_at, if_both, table_set}
use Rattle.lp_sessions.proofs.sessions.Sessions.feed.Goals as goal

pub invariant_of-self : goal.invariant_of-self
invariant_of-self c =
    let within : c.args.at < length c.self.inside.sessions.items = subst (λ (v : Connections). c.args.at < length v.sessions) (sym c.self.view_is) c.requires in
    (table_set _ c.args.at _ c.index_mut.result.now _ c.index_mut.result.now within c.index_mut.ensures.value refl c.self.invariant.0, index_fed _ c.args.at _ c.index_mut.result.now c.index_mut.result.now _ within c.index_mut.ensures.value c.self.invariant.1)

pub returns-clause-fed : goal.returns-clause-fed
returns-clause-fed c =
    let within : c.args.at < length c.self.inside.sessions.items = subst (λ (v : Connections). c.args.at < length v.sessions) (sym c.self.view_is) c.requires in
    rw (← c.self.view_is) (if_both c.feed.result _ _ _ (λ ended lines rest. fed_at c.args.at c.args.bytes.now ended.items c.self.inside.sessions.items c.index_mut.result.now c.index_mut.result.now c.feed.new.self within c.index_mut.ensures.value lines rest)
    c.feed.ensures.lines c.feed.ensures.rest)
