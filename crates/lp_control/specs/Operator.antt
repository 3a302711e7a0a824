-- The operator's connection, and how it stands to what was heard of it and what its wire took.
use Rattle.std.specs.Prelude.{◌≡◌, ℕ, ◌<◌, ◌≤◌, List, [], ◌∷◌, ◌++◌, length, Bool, true, false, Option, Some, if◌then◌else◌}
use Rattle.lp_telnet.specs.Lines.{Place, beginning, lines_of, lines_from}
use Rattle.lp_wire.specs.Heard.{Hearing, most_pending}
use Rattle.lp_wire.specs.Wires.{Offers, taken}
use Rattle.lp_wire.specs.declared.happening.WireCall.{WireCall}
use Rattle.lp_wire.specs.declared.happening.WireCall.TheVariants.{Closed}

-- The connection since its stream last began: where the stream stands, what is pending, and whether it was closed on the wire, because too much was.
pub record Operator : Type 0 where
  pub place : Place
  pub pending : List ℕ
  pub is_closed : Bool

-- a stream at its beginning
abbrev pub new_operator : Operator
new_operator = record { place = beginning; pending = []; is_closed = false }

-- an answer is to go out, unless the connection was closed
abbrev pub with_answer : List ℕ → Operator → Operator
with_answer text c = if c.is_closed then c else record c { pending = c.pending ++ text }

-- IT WAS FED a piece of its stream: these lines end in it, and whatever follows gives the lines of both together; nothing else changes
pub record IsFed (bytes : List ℕ) (ended : List (List ℕ)) (c c1 : Operator) : Type 0 where
  pub lines : ended ≡ lines_from c.place bytes
  pub rest : (more : List ℕ) → ended ++ lines_from c1.place more ≡ lines_from c.place (bytes ++ more)
  pub others : c1 ≡ record c { place = c1.place }

-- IT IS OFFERED what is pending, unless it was closed; where more than may be pending is left, it is closed on the wire, and that is dropped.
pub data OffersOperator (c c1 : Operator) (added : List WireCall) : Type 0 where
  is_over : c.is_closed ≡ true → c1 ≡ c → added ≡ [] → OffersOperator c c1 added
  offers : c.is_closed ≡ false → (left : List ℕ) → Offers 0 c.pending left added → length left ≤ most_pending → c1 ≡ record c { pending = left } → OffersOperator c c1 added
  closes : c.is_closed ≡ false → (left : List ℕ) → (first : List WireCall) → Offers 0 c.pending left first → most_pending < length left → added ≡ first ++ Closed 0 ∷ []
      → c1 ≡ record { place = c.place; pending = []; is_closed = true } → OffersOperator c c1 added

-- as the wire tells it
abbrev pub TellsOperator : Operator → Operator → Option (List WireCall) → Option (List WireCall) → Type 0
TellsOperator c c1 old now = (l : List WireCall) → now ≡ Some l → (l0 : List WireCall) × (added : List WireCall) × (old ≡ Some l0) × (l ≡ l0 ++ added) × OffersOperator c c1 added

-- fronts of answers, one of each span, in order
pub data AreFronts : List ℕ → List (List ℕ) → Type 0 where
  no_span : AreFronts [] []
  one_span : (piece rest whole more : List ℕ) {others : List (List ℕ)} → whole ≡ piece ++ rest → AreFronts more others → AreFronts (piece ++ more) (whole ∷ others)

-- Of the answers in a span the wire has taken these bytes, and the others are pending; where the connection was closed, more were not taken than may be pending.
abbrev pub HasAnswers : Bool → List ℕ → List ℕ → List ℕ → Type 0
HasAnswers false pending mine answers = answers ≡ mine ++ pending
HasAnswers true pending mine answers = (rest : List ℕ) × (answers ≡ mine ++ rest) × (most_pending < length rest) × (pending ≡ [])

-- the lines that are still to come of a stream are those that follow a place
abbrev pub ReadsOn : Place → List ℕ → Type 0
ReadsOn place stream = (rest : List ℕ) → lines_of (stream ++ rest) ≡ lines_of stream ++ lines_from place rest

-- THE OPERATOR'S CONNECTION STANDS FOR WHAT WAS HEARD, with what the wire has taken for it: before its stream last began a front of the answers of each span, and since
-- then what is answered and not pending.
pub record ControlStands (c : Operator) (h : Hearing) (calls : List WireCall) : Type 0 where
  pub earlier : List ℕ
  pub mine : List ℕ
  pub took : taken 0 calls ≡ earlier ++ mine
  pub fronts : AreFronts earlier h.spans
  pub present : HasAnswers c.is_closed c.pending mine h.answers
  pub reads : ReadsOn c.place (h.links 0).stream
