use Rattle.std.proofs.Common.{◌≡◌, ◌<◌, length, get_or, drop, List, ap, subst, ◌∙◌}
use Rattle.std.proofs.lemmas.List.{drop_all, drop_more}
use Rattle.lp_sessions.specs.All.{AreOther}
use Rattle.lp_sessions.specs.declared.session.Session.{Session}
use Rattle.lp_sessions.proofs.Index.{index_set, listed_at, walks_end, walks_found, walks_none}
use Rattle.lp_sessions.proofs.Outputs.{numbers_at}
use Rattle.lp_sessions.proofs.each.offer_listed.Goals as goal
use Rattle.lp_sessions.proofs.each.offer_listed.Goals.{in-Some, in-None}

pub loop-at-preserved : goal.loop-at-preserved
loop-at-preserved g c =
    let v = c.loop-at.invariant in
    let now = c.loop-at.sessions.items in
    let listed = c.args.listed.now in
    let split = drop_more listed c.loop-at.at 0 c.loop-at-test.true in
    elim c.match-place_behind.branch [
      | in-Some w ↦
          let s = w.index_mut.result.now in
          let within : w.in-Some.i < length now = subst (λ (ss : List Session). w.in-Some.i < length ss) c.as_slice.ensures.value w.in-Some.ensures.within in
          let at : (get_or now w.in-Some.i s).number ≡ get_or listed c.loop-at.at 0 = subst (λ (ss : List Session). (get_or ss w.in-Some.i s).number ≡ get_or listed c.loop-at.at 0) c.as_slice.ensures.value (w.in-Some.ensures.found s) in
          rw (w.sessions-is, w.wire-is, w.done-is)
          (record {
            walks = walks_found c.args.sessions.now.items now _ _ _ c.loop-at.done w.in-Some.i s w.offer.new.self s _ _ _ split c.requires.table w.in-Some.ensures.behind within at w.index_mut.ensures.value v.walks w.offer.ensures.tells;
            numbers = numbers_at w.in-Some.i now s w.offer.new.self s within w.index_mut.ensures.value w.offer.ensures.number ∙ v.numbers;
            index = index_set listed w.in-Some.i (get_or listed c.loop-at.at 0) now w.offer.new.self (w.offer.ensures.number ∙ ap (λ (x : Session). x.number) w.index_mut.ensures.value ∙ at) (listed_at listed c.loop-at.at 0 c.loop-at-test.true) v.index;
            faults = w.offer.ensures.faults ∙ v.faults;
            first = w.offer.ensures.first ∙ v.first;
          })
      | in-None w ↦
          let other = subst (λ (ss : List Session). AreOther (get_or listed c.loop-at.at 0) (drop c.loop-at.done ss)) c.as_slice.ensures.value w.in-None.ensures.none in
          rw (w.sessions-is, w.wire-is, w.done-is)
          (record {
            walks = walks_none c.args.sessions.now.items now _ _ _ c.loop-at.done _ _ split other v.walks;
            numbers = v.numbers;
            index = v.index;
            faults = v.faults;
            first = v.first;
          })
    ]

pub returns-clause-tells : goal.returns-clause-tells
returns-clause-tells g c = walks_end _ _ _ _ _ _ (drop_all c.loop-at.at c.args.listed.now c.loop-at-test.false) c.loop-at.invariant.walks
