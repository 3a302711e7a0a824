-- All connections of a server.
use Rattle.std.specs.Prelude.{◌≡◌, ℕ, ◌<◌, ⊤, List, [], ◌∷◌, ◌++◌, length, map, take, get_or, slice_set, Option, None, Some, nat_eq, false, ◌⊎◌}
use Rattle.lp_telnet.specs.Lines.{Place, lines_from}
use Rattle.lp_events.specs.declared.out.Out.{Out}
use Rattle.lp_events.specs.declared.out.Out.TheVariants.{Text, Hide, Show, Close, Log}
use Rattle.lp_wire.specs.WireText.{Link, behind_out, behind_outs}
use Rattle.lp_wire.specs.Wires.{taken, stalls, given}
use Rattle.lp_wire.specs.declared.happening.WireCall.{WireCall}
use Rattle.lp_sessions.specs.declared.session.Session.{Session}
use Rattle.lp_sessions.specs.Tied.{IsTied, OffersOne}

abbrev pub number_of : Session → ℕ
number_of s = s.number

abbrev pub numbers : List Session → List ℕ
numbers ss = map number_of ss

-- each is tied to its link, and to what was taken for it
abbrev pub AreTied : (ℕ → Link) → List WireCall → List Session → Type 0
AreTied links calls [] = ⊤
AreTied links calls (s ∷ ss) = IsTied s (links s.number) (taken s.number calls) × AreTied links calls ss

-- each number is above those before it, and above this one
abbrev pub AreAbove : ℕ → List ℕ → Type 0
AreAbove low [] = ⊤
AreAbove low (k ∷ ks) = (low < k) × AreAbove k ks

-- EACH CONNECTION IS OFFERED what is pending for it, one after another
pub data OffersAll : List Session → List Session → List WireCall → Type 0 where
  no_more : OffersAll [] [] []
  one_more : {s s1 : Session} {ss ss1 : List Session} {first others : List WireCall} → OffersOne s s1 first → OffersAll ss ss1 others → OffersAll (s ∷ ss) (s1 ∷ ss1) (first ++ others)

abbrev pub TellsAll : List Session → List Session → Option (List WireCall) → Option (List WireCall) → Type 0
TellsAll ss ss1 old now = (l : List WireCall) → now ≡ Some l → (l0 : List WireCall) × (added : List WireCall) × (old ≡ Some l0) × (l ≡ l0 ++ added) × OffersAll ss ss1 added

-- a number is none of theirs
abbrev pub AreOther : ℕ → List Session → Type 0
AreOther j [] = ⊤
AreOther j (s ∷ ss) = (nat_eq s.number j ≡ false) × AreOther j ss

-- PROMPT: where anything is still pending for a connection that is not over, the wire has taken fewer bytes than it was offered
abbrev pub ArePrompt : List WireCall → List Session → Type 0
ArePrompt added [] = ⊤
ArePrompt added (s ∷ ss) = ((s.outbox ≡ []) ⊎ (0 < stalls s.number added)) × ArePrompt added ss

-- WHAT OFFERS COME TO: the connections are tied to what was taken now, nothing is taken for another number, and the offers were prompt.
pub record Offered (links : ℕ → Link) (calls : List WireCall) (ss ss1 : List Session) (added : List WireCall) : Type 0 where
  pub same_numbers : numbers ss1 ≡ numbers ss
  pub tied : AreTied links (calls ++ added) ss1
  pub others : (j : ℕ) → AreOther j ss → taken j added ≡ []
  pub prompt : ArePrompt added ss1
  pub none_given : given added ≡ []

abbrev pub OffersCome : Type 0
OffersCome = (links : ℕ → Link) (calls : List WireCall) (low : ℕ) (ss ss1 : List Session) (added : List WireCall)
    → AreAbove low (numbers ss) → AreTied links calls ss → OffersAll ss ss1 added → Offered links calls ss ss1 added

-- the links behind an output, and behind outputs
abbrev pub links_behind_out : Out → (ℕ → Link) → ℕ → Link
links_behind_out out links k = behind_out k (links k) out

abbrev pub links_behind : List Out → (ℕ → Link) → ℕ → Link
links_behind outs links k = behind_outs k (links k) outs

-- THE CONNECTIONS TAKE AN OUTPUT IN: they stay tied, with the same numbers
pub record TakesOut (out : Out) (ss ss1 : List Session) : Type 0 where
  pub same_numbers : numbers ss1 ≡ numbers ss
  pub tied : (links : ℕ → Link) (calls : List WireCall) (low : ℕ) → AreAbove low (numbers ss) → AreTied links calls ss → AreTied (links_behind_out out links) calls ss1

pub record TakesOuts (outs : List Out) (ss ss1 : List Session) : Type 0 where
  pub same_numbers : numbers ss1 ≡ numbers ss
  pub tied : (links : ℕ → Link) (calls : List WireCall) (low : ℕ) → AreAbove low (numbers ss) → AreTied links calls ss → AreTied (links_behind outs links) calls ss1

-- without memory for one of the outputs, those before it were taken in
pub record TakesSome (outs : List Out) (ss ss1 : List Session) : Type 0 where
  pub count : ℕ
  pub fewer : count < length outs
  pub taken_in : TakesOuts (take count outs) ss ss1

-- THE CONNECTION AT A PLACE WAS FED a piece of its stream: these lines end in it, and whatever follows gives the lines of both together; nothing else changes
pub record Fed (at : ℕ) (bytes : List ℕ) (ended : List (List ℕ)) (ss ss1 : List Session) : Type 0 where
  pub place : Place
  pub after : (d : Session) → ss1 ≡ slice_set ss at (record (get_or ss at d) { telnet = place })
  pub lines : (d : Session) → ended ≡ lines_from (get_or ss at d).telnet bytes
  pub rest : (d : Session) (more : List ℕ) → ended ++ lines_from place more ≡ lines_from (get_or ss at d).telnet (bytes ++ more)

-- the connection that an output is for
abbrev pub goes_to : Out → Option ℕ
goes_to (Text k text) = Some k
goes_to (Hide k) = Some k
goes_to (Show k) = Some k
goes_to (Close k) = Some k
goes_to (Log text) = None
