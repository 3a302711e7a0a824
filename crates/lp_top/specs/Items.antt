-- The items of a script, and the run that they mean.
use Rattle.std.specs.Prelude.{◌≡◌, ℕ, List, [], ◌∷◌, ◌++◌, length, map, take, Bool, true, false}
use Rattle.lp_tree.specs.declared.fault.Fault.{Fault}
use Rattle.lp_events.specs.declared.item.Item.{Item}
use Rattle.lp_events.specs.declared.item.Item.TheVariants as items
use Rattle.lp_events.specs.declared.out.Out.{Out}
use Rattle.lp_events.specs.Script.{AllFit, beginning, spellings, seed_of, files_of, events_of, longest_input}
use Rattle.lp_events.specs.Transcript.{blocks}
use Rattle.lp_language.specs.World.{File, World}
use Rattle.lp_meaning.specs.FrontEnd.{FrontEnd}
use Rattle.lp_meaning.specs.Closing.{MakesNoMaster, Run, Starts}
use Rattle.lp_front_end.specs.FrontEnds.{IsFrontEnd}

-- the bytes begin with these items, each of which fits after those before it
pub record BeginsWithItems (bytes : List ℕ) (xs : List Item) : Type 0 where
  pub others : List ℕ
  pub spelled : bytes ≡ spellings xs ++ others
  pub fit : AllFit beginning xs

-- the input begins with these items, within the bytes that a script may lie in
abbrev pub Holds : List ℕ → List Item → Type 0
Holds bytes xs = BeginsWithItems (take longest_input bytes) xs

-- the start stands among these items
abbrev pub has_started : List Item → Bool
has_started [] = false
has_started (items.Start ∷ xs) = true
has_started (_ ∷ xs) = has_started xs

-- an item that has a turn: the start, or an event
abbrev pub has_turn : Item → Bool
has_turn items.Start = true
has_turn (items.Event event) = true
has_turn x = false

-- the moment at which the run begins
abbrev pub moment_of : List Item → ℕ
moment_of (items.Head seed moment ∷ xs) = moment
moment_of _ = 0

-- a file of a script, as a world has it
abbrev pub world_file : List ℕ × List ℕ → File
world_file f = record { path = f.0; bytes = f.1 }

-- the files, in order
abbrev pub world_files : List Item → List File
world_files xs = map world_file (files_of xs)

-- Behind these items stands one whose turn was not carried out: the start, or an event.
pub record StopsAt (bytes : List ℕ) (xs : List Item) : Type 0 where
  pub item : Item
  pub begins : Holds bytes (xs ++ item ∷ [])
  pub turns : has_turn item ≡ true

-- THE RUN of these items has these outputs, that of the start first: on their files, with their seed and their moment, and a turn
-- for each of their events. It is that of the written meaning, by each front end that there is, and there is one.
abbrev pub IsRunOf : List Item → List (List Out) → Type 0
IsRunOf xs outputs = (front : FrontEnd) → IsFrontEnd front → (last : World) × Run front (seed_of xs) (moment_of xs) (world_files xs) (events_of xs) outputs last

-- no master is made of the files of these items, for these faults
abbrev pub HasNoMaster : List Item → List Fault → Type 0
HasNoMaster xs fs = (front : FrontEnd) → IsFrontEnd front → MakesNoMaster front (world_files xs) (seed_of xs) (moment_of xs) fs

-- a master is made of them
abbrev pub HasMaster : List Item → Type 0
HasMaster xs = (front : FrontEnd) → IsFrontEnd front → (outs : List Out) × (first : World) × Starts front (world_files xs) (seed_of xs) (moment_of xs) outs first

-- The bytes that the items up to here give: the blocks of the start and of each event, and nothing before the start.
pub data Blocks (xs : List Item) : List ℕ → Type 0 where
  before : has_started xs ≡ false → Blocks xs []
  started : (outputs : List (List Out)) → has_started xs ≡ true → IsRunOf xs outputs → Blocks xs (blocks outputs)
