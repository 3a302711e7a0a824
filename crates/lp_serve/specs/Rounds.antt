-- A served run, round by round.
use Rattle.std.specs.Prelude.{◌≡◌, ℕ, ◌<◌, List, [], ◌∷◌, ◌++◌, length, true}
use Rattle.lp_wire.specs.Courses.{Deed, Along}
use Rattle.lp_wire.specs.Heard.{Hearing, Slow, hearing_from, is_connected, next_heard}
use Rattle.lp_wire.specs.Wires.{given, stalls, taken}
use Rattle.lp_wire.specs.declared.happening.Happening.{Happening}
use Rattle.lp_wire.specs.declared.happening.WireCall.{WireCall}
use Rattle.lp_wire.specs.declared.happening.WireCall.TheVariants.{Gave}

-- how many bytes are taken in the end
abbrev pub in_the_end : List WireCall → ℕ → ℕ
in_the_end calls k = length (taken k calls)

-- something is pending for a connection that is there: not all of its text has been taken
pub record IsPending (k : ℕ) (calls : List WireCall) (h : Hearing) : Type 0 where
  pub there : is_connected k h ≡ true
  pub fewer : length (taken k calls) < length (h.links k).text

-- PROMPT: what is still pending behind a round was offered in vain in it
abbrev pub IsPrompt : List WireCall → List WireCall → Hearing → Type 0
IsPrompt calls round h = (k : ℕ) → IsPending k (calls ++ round) h → 0 < stalls k round

-- ONE ROUND: a poll gives a happening, and nothing else is given; what is heard of it is done; and what is pending then was offered
pub record IsRound (slow : Slow) (calls : List WireCall) (at : Hearing) (happening : Happening) (more : List WireCall) (deeds : List Deed) (after : Hearing) : Type 0 where
  pub none_given : given more ≡ []
  pub along : Along (next_heard slow happening at) deeds after
  pub prompt : IsPrompt calls (Gave happening ∷ more) after

-- A RUN, ROUND BY ROUND, from its opening moment
pub data Rounds (slow : Slow) (opening : ℕ) : List WireCall → List Deed → Hearing → Type 0 where
  no_round : Rounds slow opening [] [] (hearing_from opening)
  one_more : (calls : List WireCall) (before : List Deed) (at : Hearing) (happening : Happening) (more : List WireCall) (deeds : List Deed) (after : Hearing)
      → Rounds slow opening calls before at → IsRound slow calls at happening more deeds after → Rounds slow opening (calls ++ Gave happening ∷ more) (before ++ deeds) after
