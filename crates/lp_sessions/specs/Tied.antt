-- How a connection of a server stands to what was heard of it and what its wire took.
use Rattle.std.specs.Prelude.{◌≡◌, ℕ, ◌<◌, List, [], ◌∷◌, ◌++◌, length, true, false, Option, Some}
use Rattle.lp_telnet.specs.Lines.{beginning, lines_of, lines_from}
use Rattle.lp_wire.specs.WireText.{Link}
use Rattle.lp_wire.specs.Wires.{Offers}
use Rattle.lp_wire.specs.declared.happening.WireCall.{WireCall}
use Rattle.lp_wire.specs.declared.happening.WireCall.TheVariants.{Closed}
use Rattle.lp_sessions.specs.declared.session.Phase.{Phase}
use Rattle.lp_sessions.specs.declared.session.Phase.TheVariants.{Open, Closing, Over}
use Rattle.lp_sessions.specs.declared.session.Session.{Session}

-- a connection at its beginning
abbrev pub new_session : ℕ → Session
new_session k = record { number = k; telnet = beginning; outbox = []; phase = Open }

-- Of the text of a connection the wire has taken these bytes, and the others are pending; when it is over, all was taken.
abbrev pub HasText : Phase → List ℕ → Link → List ℕ → Type 0
HasText Open pending l t = (l.closed ≡ false) × (l.text ≡ t ++ pending)
HasText Closing pending l t = (l.closed ≡ true) × (l.text ≡ t ++ pending)
HasText Over pending l t = (l.closed ≡ true) × (l.text ≡ t ++ pending) × (pending ≡ [])

-- the lines that are still to come of a stream are those that its reader gives
abbrev pub HasStream : Session → Link → Type 0
HasStream s l = (rest : List ℕ) → lines_of (l.stream ++ rest) ≡ lines_of l.stream ++ lines_from s.telnet rest

-- A CONNECTION IS TIED to what was heard of it and what was taken for it.
pub record IsTied (s : Session) (l : Link) (t : List ℕ) : Type 0 where
  pub text : HasText s.phase s.outbox l t
  pub stream : HasStream s l

-- the driver has closed it
abbrev pub closed_phase : Phase → Phase
closed_phase Open = Closing
closed_phase Closing = Closing
closed_phase Over = Over

-- An offer of what is pending for one that the driver has closed: where nothing is left it is closed on the wire.
pub data ClosingOffers (k : ℕ) (phase : Phase) (before after : List ℕ) (added : List WireCall) : Type 0 where
  waits : phase ≡ Closing → 0 < length after → Offers k before after added → ClosingOffers k phase before after added
  closes : phase ≡ Over → after ≡ [] → (first : List WireCall) → Offers k before after first → added ≡ first ++ Closed k ∷ [] → ClosingOffers k phase before after added

abbrev pub PhaseOffers : ℕ → Phase → Phase → List ℕ → List ℕ → List WireCall → Type 0
PhaseOffers k Open phase before after added = (phase ≡ Open) × Offers k before after added
PhaseOffers k Closing phase before after added = ClosingOffers k phase before after added
PhaseOffers k Over phase before after added = (phase ≡ Over) × (after ≡ before) × (added ≡ [])

-- ONE CONNECTION IS OFFERED what is pending for it
pub record OffersOne (old now : Session) (added : List WireCall) : Type 0 where
  pub number : now.number ≡ old.number
  pub telnet : now.telnet ≡ old.telnet
  pub offers : PhaseOffers old.number old.phase now.phase old.outbox now.outbox added

-- as the wire tells it
abbrev pub TellsOne : Session → Session → Option (List WireCall) → Option (List WireCall) → Type 0
TellsOne s s1 old now = (l : List WireCall) → now ≡ Some l → (l0 : List WireCall) × (added : List WireCall) × (old ≡ Some l0) × (l ≡ l0 ++ added) × OffersOne s s1 added
