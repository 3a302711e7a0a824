-- The laws of connections that stand for what was heard.
use Rattle.std.proofs.Common.{ap, ◌∙◌}
use Rattle.std.specs.List.{find}
use Rattle.lp_wire.specs.Heard.{slow_by}
use Rattle.lp_sessions.specs.Laws.{OutputsAreSent, GoneAreForgotten, SlowAreHeard}
use Rattle.lp_sessions.proofs.Serving.{sent, stands_gone, foresees_gone, none_slow, first_slow}

pub outputs_sent : OutputsAreSent
outputs_sent outs ss ss1 ss2 calls added takes offers = sent outs ss ss1 ss2 calls added takes offers

pub gone_forgotten : GoneAreForgotten
gone_forgotten = record {
  stands = λ i ss h calls d within s. stands_gone i ss h calls d within s;
  foresees = λ final i ss highest calls f. foresees_gone final i ss highest calls f;
}

pub slow_heard : SlowAreHeard
slow_heard = record {
  none = λ final ss h calls grows s quick. ap (find (λ k. slow_by final k (h.links k).text)) s.connected ∙ none_slow final h.links calls ss grows s.tied quick;
  first = λ final i ss h calls d grows s is last. ap (find (λ k. slow_by final k (h.links k).text)) s.connected ∙ first_slow final h.links calls ss i d grows s.tied is.within is.quick (is.slow d) last;
}
