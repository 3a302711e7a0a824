-- Scripts: which bytes spell which items, and which item may stand after which.
use Rattle.std.specs.Prelude.{◌≡◌, ℕ, ◌+◌, ◌<◌, ◌≤◌, ◌^◌, List, [], ◌∷◌, ◌++◌, length, take, drop, map, filter, flat_map, not, Bool, nat_le, ◌==◌, ◌&&◌, ◌||◌, if◌then◌else◌, Contains, codes, ◌⊎◌}
use Rattle.std.specs.List.{AllPass}
use Rattle.std.specs.Ordering.{nat_cmp}
use Rattle.std.specs.Cmp.Lexicographic.{slice_cmp}
use Rattle.std.specs.declared.cmp.Ordering.TheVariants.{Less}
use Rattle.std.specs.Int.Digits.{digits_of}
use Rattle.lp_events.specs.declared.event.Event.{Event}
use Rattle.lp_events.specs.declared.event.Event.TheVariants.{Connect, Line, Gone, Tick, Reload, Swap}
use Rattle.lp_events.specs.declared.item.Item.{Item}
use Rattle.lp_events.specs.declared.item.Item.TheVariants as items

-- a number in decimal, without sign and without a leading zero
unfoldable pub numeral : ℕ → List ℕ
numeral n = if n == 0 then 48 ∷ [] else map (λ d. 48 + d) (digits_of 10 n)

-- how many bytes follow, then the bytes on lines of their own
abbrev pub counted : List ℕ → List ℕ
counted bytes = numeral (length bytes) ++ codes "\n" ++ bytes ++ codes "\n"

-- the bytes of an event
unfoldable pub event_spelling : Event → List ℕ
event_spelling (Connect k) = codes "connect " ++ numeral k ++ codes "\n"
event_spelling (Line k bytes) = codes "line " ++ numeral k ++ codes " " ++ counted bytes
event_spelling (Gone k) = codes "gone " ++ numeral k ++ codes "\n"
event_spelling (Tick moment) = codes "tick " ++ numeral moment ++ codes "\n"
event_spelling (Reload path bytes) = codes "reload " ++ path ++ codes " " ++ counted bytes
event_spelling (Swap name) = codes "swap " ++ name ++ codes "\n"

-- the bytes of an item
unfoldable pub spelling : Item → List ℕ
spelling (items.Head seed moment) = codes "mudscript 1 " ++ numeral seed ++ codes " " ++ numeral moment ++ codes "\n"
spelling (items.File path bytes) = codes "file " ++ path ++ codes " " ++ counted bytes
spelling items.Start = codes "start\n"
spelling (items.Event event) = event_spelling event
spelling items.End = codes "end\n"

-- the bytes of items, one after another
abbrev pub spellings : List Item → List ℕ
spellings xs = flat_map spelling xs

-- a byte of a path's part: a letter, a digit, `_`, `-` or `.`
abbrev pub is_part_byte : ℕ → Bool
is_part_byte c = (nat_le 97 c && nat_le c 122) || (nat_le 65 c && nat_le c 90) || (nat_le 48 c && nat_le c 57) || (c == 95) || (c == 45) || (c == 46)

-- a part of a path: not empty, and neither `.` nor `..`
pub record IsPart (part : List ℕ) : Type 0 where
  pub some : 0 < length part
  pub bytes : AllPass is_part_byte part
  pub not_here : part ≡ 46 ∷ [] → ⊥
  pub not_above : part ≡ 46 ∷ 46 ∷ [] → ⊥

-- each part of a list is a part of a path
abbrev pub AreParts : List (List ℕ) → Type 0
AreParts [] = Unit {0}
AreParts (part ∷ parts) = IsPart part × AreParts parts

-- parts with a `/` before each
abbrev pub path_of : List (List ℕ) → List ℕ
path_of [] = []
path_of (part ∷ parts) = (47 ∷ part) ++ path_of parts

-- a path: one part or more, at most 256 bytes
pub record IsPath (path : List ℕ) : Type 0 where
  pub parts : List (List ℕ)
  pub some : 0 < length parts
  pub each : AreParts parts
  pub joined : path ≡ path_of parts
  pub short : length path ≤ 256

-- a text ends with `.c`
abbrev pub EndsInC : List ℕ → Type 0
EndsInC text = (front : List ℕ) × (text ≡ front ++ codes ".c")

-- the name of an object: a path that does not end with `.c`, and `#` with a number for a clone
pub record IsObjectName (name : List ℕ) : Type 0 where
  pub path : List ℕ
  pub is_path : IsPath path
  pub no_source : EndsInC path → ⊥
  pub spelled : (name ≡ path) ⊎ ((n : ℕ) × (name ≡ path ++ codes "#" ++ numeral n))

-- a byte that a line may have: not 0, newline or carriage return
abbrev pub is_line_byte : ℕ → Bool
is_line_byte c = not (c == 0) && not (c == 10) && not (c == 13)

-- how far a script has come
pub data Stage : Type 0 where
  Beginning Filing Running Over : Stage

-- what stands before an item, as far as the next one depends on it
pub record Context : Type 0 where
  pub stage : Stage
  -- the present moment
  pub moment : ℕ
  -- the path of the latest file, or nothing
  pub last_path : List ℕ
  -- the highest number of a connection so far, or 0
  pub highest : ℕ
  -- the connections that are not gone
  pub connected : List ℕ

-- before the first item
abbrev pub beginning : Context
beginning = record { stage = Beginning; moment = 0; last_path = []; highest = 0; connected = [] }

-- a connection is not gone
abbrev pub IsConnected : Context → ℕ → Type 0
IsConnected c k = Contains c.connected k

-- an event may stand here
abbrev pub FitsEvent : Context → Event → Type 0
FitsEvent c (Connect k) = (c.highest < k) × (k ≤ 4294967295)
FitsEvent c (Line k bytes) = IsConnected c k × (length bytes ≤ 4096) × AllPass is_line_byte bytes
FitsEvent c (Gone k) = IsConnected c k
FitsEvent c (Tick moment) = (c.moment ≤ moment) × (moment ≤ 1000000000000)
FitsEvent c (Reload path bytes) = IsPath path
FitsEvent c (Swap name) = IsObjectName name

-- an item may stand here
abbrev pub Fits : Context → Item → Type 0
Fits c (items.Head seed moment) = (c.stage ≡ Beginning) × (seed < 2 ^ 64) × (moment ≤ 1000000000000)
Fits c (items.File path bytes) = (c.stage ≡ Filing) × IsPath path × (slice_cmp nat_cmp c.last_path path ≡ Less)
Fits c items.Start = c.stage ≡ Filing
Fits c (items.Event event) = (c.stage ≡ Running) × FitsEvent c event
Fits c items.End = c.stage ≡ Running

-- what stands before the item after an event
abbrev pub after_event : Context → Event → Context
after_event c (Connect k) = record c { highest = k; connected = c.connected ++ k ∷ [] }
after_event c (Line k bytes) = c
after_event c (Gone k) = record c { connected = filter (λ j. not (j == k)) c.connected }
after_event c (Tick moment) = record c { moment = moment }
after_event c (Reload path bytes) = c
after_event c (Swap name) = c

-- what stands before the item after this one
abbrev pub after_item : Context → Item → Context
after_item c (items.Head seed moment) = record c { stage = Filing; moment = moment }
after_item c (items.File path bytes) = record c { last_path = path }
after_item c items.Start = record c { stage = Running }
after_item c (items.Event event) = after_event c event
after_item c items.End = record c { stage = Over }

-- what stands before the item after these
abbrev pub after_items : Context → List Item → Context
after_items c [] = c
after_items c (x ∷ xs) = after_items (after_item c x) xs

-- each item fits after those before it
abbrev pub AllFit : Context → List Item → Type 0
AllFit c [] = Unit {0}
AllFit c (x ∷ xs) = Fits c x × AllFit (after_item c x) xs

-- the bytes begin with the spelling of an item that fits
pub record BeginsWith (c : Context) (bytes : List ℕ) (x : Item) : Type 0 where
  pub fits : Fits c x
  pub others : List ℕ
  pub spelled : bytes ≡ spelling x ++ others

-- the bytes are a proper front of the spelling of an item that fits
pub record IsBegun (c : Context) (bytes : List ℕ) : Type 0 where
  pub item : Item
  pub fits : Fits c item
  pub others : List ℕ
  pub some : 0 < length others
  pub spelled : spelling item ≡ bytes ++ others

-- The longest list of items that a front of the bytes spells, each fitting after those before it, and the length of that front.
pub record IsFront (bytes : List ℕ) (xs : List Item) (cut : ℕ) : Type 0 where
  pub within : cut ≤ length bytes
  pub spelled : take cut bytes ≡ spellings xs
  pub fit : AllFit beginning xs
  pub longest : (x : Item) → BeginsWith (after_items beginning xs) (drop cut bytes) x → ⊥

-- The bytes are the script of these items.
pub record IsScript (bytes : List ℕ) (xs : List Item) : Type 0 where
  pub spelled : bytes ≡ spellings xs
  pub fit : AllFit beginning xs
  pub over : (after_items beginning xs).stage ≡ Over

-- A script ends, or a fault stands, within this many bytes.
abbrev pub longest_input : ℕ
longest_input = 67108864

-- The input has more bytes than a script may have, and where these items end there is nothing, or an item is begun.
abbrev pub IsTooLarge : List ℕ → List Item → Type 0
IsTooLarge bytes xs = (longest_input < length bytes) × (cut : ℕ) × IsFront (take longest_input bytes) xs cut × ((cut ≡ longest_input) ⊎ IsBegun (after_items beginning xs) (drop cut (take longest_input bytes)))

-- The items end here, and neither is the whole a script nor is it too large.
abbrev pub IsBadScript : List ℕ → List Item → ℕ → Type 0
IsBadScript bytes xs at = IsFront (take longest_input bytes) xs at × (IsScript bytes xs → ⊥) × (IsTooLarge bytes xs → ⊥)

-- the seed of the generator
abbrev pub seed_of : List Item → ℕ
seed_of (items.Head seed moment ∷ xs) = seed
seed_of _ = 0

-- the files, in order
abbrev pub files_of : List Item → List (List ℕ × List ℕ)
files_of [] = []
files_of (items.File path bytes ∷ xs) = (path, bytes) ∷ files_of xs
files_of (_ ∷ xs) = files_of xs

-- the events, in order
abbrev pub events_of : List Item → List Event
events_of [] = []
events_of (items.Event event ∷ xs) = event ∷ events_of xs
events_of (_ ∷ xs) = events_of xs
