-- Scripts without events, and why an input is none.
use Rattle.std.specs.Prelude.{◌≡◌, ◌≤◌, ◌⊎◌, ℕ, List, [], ◌∷◌, ◌++◌, length, take, Bool, true, false}
use Rattle.lp_io.specs.Counts.{Rose}
use Rattle.lp_events.specs.declared.event.Event.{Event}
use Rattle.lp_events.specs.declared.item.Item.{Item}
use Rattle.lp_events.specs.declared.item.Item.TheVariants as items
use Rattle.lp_events.specs.Script.{AllFit, IsBadScript, IsScript, IsTooLarge, beginning, events_of, longest_input, spellings}
use Rattle.lp_script.specs.declared.phase.Phase.TheVariants.{Giving}
use Rattle.lp_script.specs.declared.fault.ScriptFault.{ScriptFault}
use Rattle.lp_script.specs.declared.fault.ScriptFault.TheVariants as faults
use Rattle.lp_script.specs.Reader.{HasGiven, Reading}

-- the bytes begin with these items, each of which fits after those before it
pub record BeginsWithItems (bytes : List ℕ) (xs : List Item) : Type 0 where
  pub others : List ℕ
  pub spelled : bytes ≡ spellings xs ++ others
  pub fit : AllFit beginning xs

-- the input begins with these items, within the bytes that a script may lie in
abbrev pub Holds : List ℕ → List Item → Type 0
Holds bytes xs = BeginsWithItems (take longest_input bytes) xs

-- the start stands among these items
abbrev pub has_started : List Item → Bool
has_started [] = false
has_started (items.Start ∷ xs) = true
has_started (_ ∷ xs) = has_started xs

-- the moment at which the run begins
abbrev pub moment_of : List Item → ℕ
moment_of (items.Head seed moment ∷ xs) = moment
moment_of _ = 0

-- THE BYTES ARE A SCRIPT WITHOUT EVENTS, which is not too long.
pub record IsWhole (bytes : List ℕ) (xs : List Item) : Type 0 where
  pub script : IsScript bytes xs
  pub short : length bytes ≤ longest_input
  pub eventless : events_of xs ≡ []

-- behind these items an event stands at this offset
pub record IsEventAt (bytes : List ℕ) (xs : List Item) (at : ℕ) : Type 0 where
  pub event : Event
  pub holds : Holds bytes (xs ++ items.Event event ∷ [])
  pub place : at ≡ length (spellings xs)

-- WHY AN INPUT IS NO SCRIPT WITHOUT EVENTS, which begins with these items
abbrev pub IsFaultOf : List ℕ → List Item → ScriptFault → Type 0
IsFaultOf bytes xs (faults.BadScript at) = IsBadScript bytes xs at ⊎ IsEventAt bytes xs at
IsFaultOf bytes xs faults.TooLarge = IsTooLarge bytes xs
IsFaultOf bytes xs faults.InputFault = Holds bytes xs
IsFaultOf bytes xs faults.NoMemory = Holds bytes xs

-- reading behind these items gave this fault, by these items or these and an `end`
pub record EndsReading (bytes : List ℕ) (xs : List Item) (fault : ScriptFault) : Type 0 where
  pub read : List Item
  pub same : (read ≡ xs) ⊎ (read ≡ xs ++ items.End ∷ [])
  pub ends : IsFaultOf bytes read fault

-- the input is blamed only where the source's count of faults rose between two moments
abbrev pub BlamesInput : ScriptFault → ℕ → ℕ → Type 0
BlamesInput f before now = f ≡ faults.InputFault → Rose before now

-- the reader has given these items, and `start`
pub record IsAtStart (r : Reading) (xs : List Item) : Type 0 where
  pub given : HasGiven r (xs ++ items.Start ∷ [])
  pub phase : r.phase ≡ Giving
  pub not_started : has_started xs ≡ false

abbrev pub is_start : Item → Bool
is_start items.Start = true
is_start x = false

abbrev pub is_end : Item → Bool
is_end items.End = true
is_end x = false
