-- Laws of connections that stand for what was heard.
use Rattle.std.specs.Prelude.{◌≡◌, ℕ, ◌<◌, ◌≤◌, List, length, get_or, Some, None}
use Rattle.std.specs.List.{remove}
use Rattle.lp_events.specs.declared.event.Event.TheVariants.{Gone}
use Rattle.lp_events.specs.declared.out.Out.{Out}
use Rattle.lp_events.specs.Script.{after_event}
use Rattle.lp_wire.specs.Heard.{Hearing, slowest, slow_by}
use Rattle.lp_wire.specs.Wires.{taken}
use Rattle.lp_wire.specs.declared.happening.WireCall.{WireCall}
use Rattle.lp_sessions.specs.declared.session.Session.{Session}
use Rattle.lp_sessions.specs.All.{OffersAll, TakesOuts}
use Rattle.lp_sessions.specs.Serving.{Stands, Foresees, Sent, AreQuick, IsSlowest}

-- where connections take outputs in and are offered what is pending, the outputs were sent
abbrev pub OutputsAreSent : Type 0
OutputsAreSent = (outs : List Out) (ss ss1 ss2 : List Session) (calls added : List WireCall) → TakesOuts outs ss ss1 → OffersAll ss1 ss2 added → Sent outs ss ss2 calls added

-- the connection at a place is gone: the others stand for what is heard then, and no more is taken for it
pub record GoneAreForgotten : Type 0 where
  pub stands : (i : ℕ) (ss : List Session) (h : Hearing) (calls : List WireCall) (d : Session) → i < length ss → Stands ss h calls
      → Stands (remove ss i) (record h { context = after_event h.context (Gone (get_or ss i d).number) }) calls
  pub foresees : (final : ℕ → ℕ) (i : ℕ) (ss : List Session) (highest : ℕ) (calls : List WireCall) → Foresees final (remove ss i) highest calls → Foresees final ss highest calls

-- The first connection for which too much is pending is the lowest that is slow by what is heard, where no more is taken for it; and where too much is pending for none, none is slow.
pub record SlowAreHeard : Type 0 where
  pub none : (final : ℕ → ℕ) (ss : List Session) (h : Hearing) (calls : List WireCall) → ((j : ℕ) → length (taken j calls) ≤ final j) → Stands ss h calls → AreQuick ss → slowest (slow_by final) h ≡ None
  pub first : (final : ℕ → ℕ) (i : ℕ) (ss : List Session) (h : Hearing) (calls : List WireCall) (d : Session) → ((j : ℕ) → length (taken j calls) ≤ final j) → Stands ss h calls → IsSlowest i ss
      → final (get_or ss i d).number ≡ length (taken (get_or ss i d).number calls) → slowest (slow_by final) h ≡ Some (get_or ss i d).number
