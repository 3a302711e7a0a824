-- A reader of scripts, as a caller sees it.
use Rattle.std.specs.Prelude.{◌≡◌, ℕ, ◌+◌, ◌<◌, ◌≤◌, List, [], ◌∷◌, ◌++◌, length, take, drop, nat_le, Bool, true, false, Option, Some, None, Result, Ok, Err, ⊤, ◌⊎◌}
use Rattle.lp_io.specs.Told.{before_giving}
use Rattle.lp_events.specs.declared.item.Item.{Item}
use Rattle.lp_events.specs.declared.item.Item.TheVariants as items
use Rattle.lp_events.specs.Script.{Context, Over as over, beginning, after_item, after_items, Fits, AllFit, spelling, spellings, longest_input, IsBadScript, IsTooLarge}
use Rattle.lp_script.specs.Behind.{Behind}
use Rattle.lp_script.specs.declared.behind.Refusal.TheVariants as refusals
use Rattle.lp_script.specs.declared.fault.ScriptFault.{ScriptFault}
use Rattle.lp_script.specs.declared.fault.ScriptFault.TheVariants as faults
use Rattle.lp_script.specs.declared.phase.Ending.{Ending}
use Rattle.lp_script.specs.declared.phase.Ending.TheVariants.{Whole, Bad, Large, Failed}
use Rattle.lp_script.specs.declared.phase.Phase.{Phase}
use Rattle.lp_script.specs.declared.phase.Phase.TheVariants.{Taking, Giving, Over}

-- a reader: the bytes that it took, how many of them spell the items that it gave, where the item that it gave last begins, what stands before the next one, and where it is
pub record Reading : Type 0 where
  pub taken : List ℕ
  pub cut : ℕ
  pub at : ℕ
  pub before : Context
  pub phase : Phase

-- before the first call
abbrev pub fresh : Reading
fresh = record { taken = []; cut = 0; at = 0; before = beginning; phase = Taking }

-- it has not ended
abbrev pub GoesOn : Phase → Type 0
GoesOn Taking = ⊤
GoesOn Giving = ⊤
GoesOn (Over ending) = ⊥

-- what a reader keeps: where it stands lies within the bytes that a script may lie in, nothing is given while it takes, and no item is the last one before it has ended
pub record IsKept (r : Reading) : Type 0 where
  pub most : length r.taken ≤ longest_input + 1
  pub within : r.cut ≤ length (take longest_input r.taken)
  pub nothing : r.phase ≡ Taking → r.cut ≡ 0
  pub goes : GoesOn r.phase → r.before.stage ≡ over → ⊥

-- it gave these items, and no others
pub record HasGiven (r : Reading) (xs : List Item) : Type 0 where
  pub within : r.cut ≤ length (take longest_input r.taken)
  pub spelled : take r.cut r.taken ≡ spellings xs
  pub fit : AllFit beginning xs
  pub before : r.before ≡ after_items beginning xs

-- what was taken of an input: all of it, or one byte more than a script may have
abbrev pub IsInput : List ℕ → List ℕ → Type 0
IsInput bytes taken = taken ≡ take (longest_input + 1) bytes

-- These are the bytes of the input, where the source tells what is left of it: those that were taken
-- and those that are left. Once a reader has all that it wants, that is the input, or its front.
abbrev pub Reads : List ℕ → Reading → Option (List ℕ) → Type 0
Reads bytes r told = elim r.phase [
  | Taking ↦ before_giving r.taken told ≡ Some bytes
  | Giving ↦ IsInput bytes r.taken × (before_giving r.taken told ≡ Some bytes)
  | Over ending ↦ elim ending [ Failed ↦ before_giving r.taken told ≡ Some bytes | _ ↦ IsInput bytes r.taken × (before_giving r.taken told ≡ Some bytes) ]
]

-- at most the bytes of the longest script and one more are gone from the front of an input
abbrev pub GoneAtMost : List ℕ → Option (List ℕ) → Type 0
GoneAtMost bytes told = (n : ℕ) × (n ≤ longest_input + 1) × (told ≡ Some (drop n bytes))

-- where a reader is after an answer
abbrev pub IsAfter : Result Item ScriptFault → Phase → Type 0
IsAfter (Ok items.End) p = p ≡ Over Whole
IsAfter (Ok x) p = p ≡ Giving
IsAfter (Err (faults.BadScript at)) p = p ≡ Over (Bad at)
IsAfter (Err faults.TooLarge) p = p ≡ Over Large
IsAfter (Err faults.InputFault) p = p ≡ Over Failed
IsAfter (Err faults.NoMemory) p = GoesOn p

-- what a reader that has ended answers
abbrev pub ending_of : Result Item ScriptFault → Option Ending
ending_of (Ok items.End) = Some Whole
ending_of (Ok x) = None
ending_of (Err (faults.BadScript at)) = Some (Bad at)
ending_of (Err faults.TooLarge) = Some Large
ending_of (Err faults.InputFault) = Some Failed
ending_of (Err faults.NoMemory) = None

-- a read failed
abbrev pub is_input_fault : Result Item ScriptFault → Bool
is_input_fault (Ok x) = false
is_input_fault (Err (faults.BadScript at)) = false
is_input_fault (Err faults.TooLarge) = false
is_input_fault (Err faults.InputFault) = true
is_input_fault (Err faults.NoMemory) = false

-- What a fault says of the input, of which these items were given before: no script begins with
-- these items and goes on so, or with these and an `end`; or it is too large.
abbrev pub Says : ScriptFault → List ℕ → List Item → Type 0
Says (faults.BadScript at) bytes xs = IsBadScript bytes xs at ⊎ IsBadScript bytes (xs ++ items.End ∷ []) at
Says faults.TooLarge bytes xs = IsTooLarge bytes xs ⊎ IsTooLarge bytes (xs ++ items.End ∷ [])
Says faults.InputFault bytes xs = ⊤
Says faults.NoMemory bytes xs = ⊤

-- ---- one step of a reader that has all bytes

-- the bytes that a script may lie in
abbrev pub window : Reading → List ℕ
window r = take longest_input r.taken

-- the input does not go on behind them
abbrev pub is_whole : Reading → Bool
is_whole r = nat_le (length r.taken) longest_input

-- an item stands at the cut, and ends here
pub record StandsNext (r : Reading) (x : Item) (behind : ℕ) : Type 0 where
  pub fits : Fits r.before x
  pub within : behind ≤ length (window r)
  pub spelled : drop r.cut (window r) ≡ spelling x ++ drop behind (window r)

-- why no item is given: none stands there, or an `end` that is not the last one
abbrev pub Refuses : Reading → ScriptFault → Type 0
Refuses r (faults.BadScript at) = Behind r.before (window r) (is_whole r) r.cut (Err (refusals.Bad at)) ⊎ (StandsNext r items.End at × (at < length (window r)))
Refuses r faults.TooLarge = Behind r.before (window r) (is_whole r) r.cut (Err refusals.Large) ⊎ (StandsNext r items.End (length (window r)) × (is_whole r ≡ false))
Refuses r faults.InputFault = ⊥
Refuses r faults.NoMemory = ⊤

-- an `end` is the last item of the whole input
abbrev pub EndsWhole : Reading → Item → ℕ → Type 0
EndsWhole r items.End behind = (behind ≡ length (window r)) × (is_whole r ≡ true)
EndsWhole r x behind = ⊤

-- an item is given and passed, or nothing but the phase changes
abbrev pub Steps : Reading → Result Item ScriptFault → Reading → Type 0
Steps r (Ok x) now = StandsNext r x now.cut × EndsWhole r x now.cut × (now ≡ record r { cut = now.cut; at = r.cut; before = after_item r.before x; phase = now.phase })
Steps r (Err f) now = Refuses r f × (now ≡ record r { phase = now.phase })
