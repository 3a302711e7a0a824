-- Laws of the operator's connection.
use Rattle.std.specs.Prelude.{◌≡◌, ℕ, ◌<◌, List, [], ◌∷◌, ◌++◌, true, false, ◌⊎◌}
use Rattle.lp_wire.specs.Heard.{Hearing, hearing_from, answered, new_span, with_stream, new_lines}
use Rattle.lp_wire.specs.Wires.{taken, given, stalls, closed}
use Rattle.lp_wire.specs.declared.happening.WireCall.{WireCall}
use Rattle.lp_control.specs.Operator.{Operator, new_operator, with_answer, IsFed, OffersOperator, AreFronts, ControlStands}

-- WHAT OFFERS TO THE OPERATOR COME TO: nothing is given, and nothing is taken for another connection; and connection 0 is closed exactly where it comes to be closed.
pub record OffersApart (c c1 : Operator) (added : List WireCall) : Type 0 where
  pub none_given : given added ≡ []
  pub untaken : (j : ℕ) → 0 < j → taken j added ≡ []
  pub closes : ((closed added ≡ []) × (c1.is_closed ≡ c.is_closed)) ⊎ ((closed added ≡ 0 ∷ []) × (c.is_closed ≡ false) × (c1.is_closed ≡ true))

pub record AnswersAreFronts : Type 0 where
  -- at the beginning
  pub begins : (moment : ℕ) (calls : List WireCall) → taken 0 calls ≡ [] → ControlStands new_operator (hearing_from moment) calls
  -- its stream begins anew
  pub renewed : (c : Operator) (h : Hearing) (calls : List WireCall) → ControlStands c h calls → ControlStands new_operator (new_span h) calls
  -- a piece of its stream came: the lines that end in it are those that are heard
  pub fed : (bytes : List ℕ) (ended : List (List ℕ)) (c c1 : Operator) (h : Hearing) (calls : List WireCall) → IsFed bytes ended c c1 → ControlStands c h calls
      → (ended ≡ new_lines (h.links 0).stream bytes) × ControlStands c1 (with_stream 0 ((h.links 0).stream ++ bytes) h) calls
  -- a line is answered
  pub line_answered : (text : List ℕ) (c : Operator) (h : Hearing) (calls : List WireCall) → ControlStands c h calls → ControlStands (with_answer text c) (answered text h) calls
  -- it is offered what is pending
  pub offered : (c c1 : Operator) (added : List WireCall) (h : Hearing) (calls : List WireCall) → OffersOperator c c1 added → ControlStands c h calls → ControlStands c1 h (calls ++ added)
  -- what is left was offered in vain
  pub prompt : (c c1 : Operator) (added : List WireCall) (h : Hearing) (calls : List WireCall) → OffersOperator c c1 added → ControlStands c h calls → (c1.pending ≡ []) ⊎ (0 < stalls 0 added)
  pub apart : (c c1 : Operator) (added : List WireCall) → OffersOperator c c1 added → OffersApart c c1 added
  -- calls for others
  pub other_calls : (c : Operator) (h : Hearing) (calls added : List WireCall) → taken 0 added ≡ [] → ControlStands c h calls → ControlStands c h (calls ++ added)
  -- what is heard of others
  pub other_heard : (c : Operator) (h h1 : Hearing) (calls : List WireCall) → (h1.links 0).stream ≡ (h.links 0).stream → h1.spans ≡ h.spans → h1.answers ≡ h.answers → ControlStands c h calls → ControlStands c h1 calls
  -- what was taken is, span by span, a front of the answers
  pub fronts : (c : Operator) (h : Hearing) (calls : List WireCall) → ControlStands c h calls → AreFronts (taken 0 calls) (h.spans ++ h.answers ∷ [])
