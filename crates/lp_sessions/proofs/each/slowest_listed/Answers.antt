use Rattle.std.proofs.Common.{◌≡◌, ◌<◌, length, drop, get_or, nat_lt, true, false, rules, sym, subst, ◌∙◌}
use Rattle.std.proofs.lemmas.Bool.{ltb-true}
use Rattle.std.proofs.lemmas.List.{drop_all, drop_more}
use Rattle.lp_wire.specs.Heard.{most_pending}
use Rattle.lp_sessions.specs.declared.session.Session.{Session}
use Rattle.lp_sessions.proofs.Index.{looks_end, looks_found, looks_none, looks_slow}
use Rattle.lp_sessions.proofs.each.slowest_listed.Goals as goal
use Rattle.lp_sessions.proofs.each.slowest_listed.Goals.{in-Some+else-is_slow, in-None}

pub returns-then-is_slow-clause-some : goal.returns-then-is_slow-clause-some
returns-then-is_slow-clause-some c =
    let slow : c.is_slow.result ≡ true = search rules in
    let large : most_pending < length c.index-sessions-i.result.outbox = ltb-true _ _ (sym c.is_slow.ensures ∙ slow) in
    looks_slow c.args.sessions.now (drop c.loop-at.at c.args.listed.now) _ _ c.loop-at.done c.in-Some.i c.index-sessions-i.result (drop_more c.args.listed.now c.loop-at.at 0 c.loop-at-test.true) c.requires.table c.in-Some.ensures.behind c.in-Some.ensures.within
    (c.in-Some.ensures.found c.index-sessions-i.result) (subst (λ (s : Session). most_pending < length s.outbox) c.index-sessions-i.is large) c.loop-at.invariant

pub loop-at-preserved : goal.loop-at-preserved
loop-at-preserved c =
    let ss = c.args.sessions.now in
    let v = c.loop-at.invariant in
    let split = drop_more c.args.listed.now c.loop-at.at 0 c.loop-at-test.true in
    elim c.match-place_behind.branch [
      | in-Some+else-is_slow w ↦
          let s = w.index-sessions-i.result in
          let small : nat_lt most_pending (length (get_or ss w.in-Some.i s).outbox) ≡ false =
          subst (λ (x : Session). nat_lt most_pending (length x.outbox) ≡ false) w.index-sessions-i.is (sym w.is_slow.ensures ∙ w.if-is_slow.false) in
          rw w.done-is (looks_found ss _ _ _ c.loop-at.done w.in-Some.i s split c.requires.table w.in-Some.ensures.behind w.in-Some.ensures.within (w.in-Some.ensures.found s) small v)
      | in-None w ↦ rw w.done-is (looks_none ss _ _ _ c.loop-at.done split w.in-None.ensures.none v)
    ]

pub returns-clause-none : goal.returns-clause-none
returns-clause-none c = looks_end c.args.sessions.now _ _ (drop_all c.loop-at.at c.args.listed.now c.loop-at-test.false) c.loop-at.invariant
