-- A wire in memory, as a caller sees it.
use Rattle.std.specs.Prelude.{ℕ, List, [], ◌∷◌, Option, Some, None, Bool, min, if◌then◌else◌}
use Rattle.lp_io.specs.Memory.{Calls}
use Rattle.lp_wire.specs.declared.happening.Happening.{Happening}
use Rattle.lp_wire.specs.declared.happening.Happening.TheVariants.{Idle}
use Rattle.lp_wire.specs.declared.happening.WireCall.{WireCall}

-- calls, where they are told
abbrev pub told_if : Bool → List WireCall → Option (List WireCall)
told_if tells calls = if tells then Some calls else None

-- the moment at which it begins; what is still to come; its polls, with the numbers of those that fail; the bounds of the sends that are still to come; and its calls
pub record InMemory : Type 0 where
  pub moment : ℕ
  pub coming : List Happening
  pub polls : Calls
  pub bounds : List ℕ
  pub calls : Option (List WireCall)

-- what the next poll gives: what comes next, and at the end that nothing comes
abbrev pub next_happening : List Happening → Happening
next_happening [] = Idle
next_happening (h ∷ hs) = h

-- how many of so many bytes the next send takes
abbrev pub room : List ℕ → ℕ → ℕ
room [] len = len
room (n ∷ ns) len = min len n

-- the bounds behind a send; the last holds for all that follow
abbrev pub after_send : List ℕ → List ℕ
after_send [] = []
after_send (n ∷ []) = n ∷ []
after_send (n ∷ m ∷ ns) = m ∷ ns
