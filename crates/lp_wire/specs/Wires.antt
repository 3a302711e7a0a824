-- What a wire tells: its calls, in order.
use Rattle.std.specs.Prelude.{◌≡◌, ℕ, ◌+◌, List, [], ◌∷◌, ◌++◌, length, nat_eq, nat_lt, Bool, true, false, ◌&&◌, Option, Some, Result, Ok, Err, if◌then◌else◌}
use Rattle.lp_wire.specs.declared.happening.Happening.{Happening}
use Rattle.lp_wire.specs.declared.happening.WireCall.{WireCall}
use Rattle.lp_wire.specs.declared.happening.WireCall.TheVariants.{Gave, Took, Closed}
use Rattle.lp_wire.specs.declared.wire.WireError.{WireError}
use Rattle.lp_wire.specs.declared.wire.WireError.TheVariants as errors

-- the answer is that a poll failed
abbrev pub is_failed : {A : Type 0} → Result A WireError → Bool
is_failed (Ok x) = false
is_failed (Err errors.Failed) = true
is_failed (Err errors.NoMemory) = false

-- What is told behind a call, if anything is: what was told before, and these calls. What tells nothing never tells again.
abbrev pub Adds : Option (List WireCall) → Option (List WireCall) → List WireCall → Type 0
Adds old now added = (l : List WireCall) → now ≡ Some l → (l0 : List WireCall) × (old ≡ Some l0) × (l ≡ l0 ++ added)

-- the happenings that were given
abbrev pub given : List WireCall → List Happening
given [] = []
given (Gave h ∷ cs) = h ∷ given cs
given (Took j bytes offered ∷ cs) = given cs
given (Closed j ∷ cs) = given cs

-- the bytes that were taken for a connection
abbrev pub taken : ℕ → List WireCall → List ℕ
taken k [] = []
taken k (Gave h ∷ cs) = taken k cs
taken k (Took j bytes offered ∷ cs) = if nat_eq j k then bytes ++ taken k cs else taken k cs
taken k (Closed j ∷ cs) = taken k cs

-- how often fewer bytes were taken for a connection than were offered
abbrev pub stalls : ℕ → List WireCall → ℕ
stalls k [] = 0
stalls k (Gave h ∷ cs) = stalls k cs
stalls k (Took j bytes offered ∷ cs) = if nat_eq j k && nat_lt (length bytes) offered then 1 + stalls k cs else stalls k cs
stalls k (Closed j ∷ cs) = stalls k cs

-- the connections that were closed
abbrev pub closed : List WireCall → List ℕ
closed [] = []
closed (Gave h ∷ cs) = closed cs
closed (Took j bytes offered ∷ cs) = closed cs
closed (Closed j ∷ cs) = j ∷ closed cs

-- what is left of bytes from whose front some were taken
abbrev pub IsRest : List ℕ → List ℕ → Type 0
IsRest after before = (piece : List ℕ) × (before ≡ piece ++ after)

-- AN OFFER of what is pending for a connection, and what is left: nothing is offered where nothing is pending, and else all of it, once.
pub data Offers (k : ℕ) (before after : List ℕ) (added : List WireCall) : Type 0 where
  nothing : before ≡ [] → after ≡ [] → added ≡ [] → Offers k before after added
  offered : (bytes : List ℕ) → before ≡ bytes ++ after → added ≡ Took k bytes (length before) ∷ [] → Offers k before after added

-- what was offered, as the wire tells it
abbrev pub TellsOffer : ℕ → List ℕ → List ℕ → Option (List WireCall) → Option (List WireCall) → Type 0
TellsOffer k before after old now = (l : List WireCall) → now ≡ Some l → (l0 : List WireCall) × (added : List WireCall) × (old ≡ Some l0) × (l ≡ l0 ++ added) × Offers k before after added
