use Rattle.std.proofs.Common.{subst}
use Rattle.std.proofs.lemmas.Result.{on_ok_weaker}
use Rattle.lp_records.specs.Records.{IsNoticeIn}
use Rattle.lp_turn.proofs.Ended.{nobody_told, player_told}
use Rattle.lp_turn.proofs.ends.tell_both.Goals as goal

pub returns-in_ok-tell-in-Some-clause-told : goal.returns-in_ok-tell-in-Some-clause-told
returns-in_ok-tell-in-Some-clause-told c =
    let a = c.args in
    on_ok_weaker c.tell-in-Some.result
    (λ e. player_told a.player a.out c.in-Some.text a.live.now c.tell.new.live c.tell-in-Some.new.live c.in_ok-tell-in-Some.ensures.told e (subst (IsNoticeIn a.live.now a.player) c.in-Some.is c.in_ok-text.ensures)) c.tell-in-Some.ensures.told

pub returns-in-None-clause-told : goal.returns-in-None-clause-told
returns-in-None-clause-told c =
    let a = c.args in
    on_ok_weaker c.tell-in-None.result (λ e. nobody_told a.player a.out a.live.now c.tell-in-None.new.live e (subst (IsNoticeIn a.live.now a.player) c.in-None.is c.in_ok-text.ensures)) c.tell-in-None.ensures.told
