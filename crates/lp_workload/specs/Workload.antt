-- The workload: a mudlib of eight boxes, and events that the words of a generator choose.
use Rattle.std.specs.Prelude.{ℕ, zero, suc, ◌+◌, ◌/◌, ◌%◌, ◌==◌, List, [], ◌∷◌, ◌++◌, map, flat_map, codes, if◌then◌else◌}
use Rattle.rand_xoshiro.specs.SplitMix64.{mix_u64}
use Rattle.lp_events.specs.declared.event.Event.{Event}
use Rattle.lp_events.specs.declared.event.Event.TheVariants.{Connect, Line, Tick, Swap}
use Rattle.lp_events.specs.declared.item.Item.{Item}
use Rattle.lp_events.specs.declared.item.Item.TheVariants as items
use Rattle.lp_events.specs.Script.{numeral}

-- lines, each ended by a newline
abbrev pub lines : List (List ℕ) → List ℕ
lines texts = flat_map (λ text. text ++ codes "\n") texts

abbrev pub box_path : List ℕ
box_path = codes "/obj/box.c"

-- a box has an array of two numbers, which it may share with another box
unfoldable pub box_source : List ℕ
box_source = lines (
    codes "int *v;"
    ∷ codes "void create() { v = ({0, 0}); }"
    ∷ codes "int *query() { return v; }"
    ∷ codes "void share(object o) { if (random(2)) v = o->query(); }"
    ∷ codes "void put(int x) { v[0] = x; v[1]++; }"
    ∷ codes "int get() { return v[0] * 1000 + v[1]; }"
    ∷ [])

abbrev pub master_path : List ℕ
master_path = codes "/secure/master.c"

-- the master makes eight boxes, and has the commands `put` and `get`, which take one of them at random
unfoldable pub master_source : List ℕ
master_source = lines (
    codes "object *b;"
    ∷ codes "object connect() { return this_object(); }"
    ∷ codes "int logon() {"
    ∷ codes "  int i;"
    ∷ codes "  b = allocate(8);"
    ∷ codes "  for (i = 0; i < 8; i++) b[i] = clone_object(\"/obj/box\");"
    ∷ codes "  for (i = 0; i < 8; i++) b[i]->share(b[(i + 1) % 8]);"
    ∷ codes "  enable_commands(); add_action(\"put\", \"put\"); add_action(\"get\", \"get\");"
    ∷ codes "  return 1;"
    ∷ codes "}"
    ∷ codes "int put(string s) { b[random(8)]->put(random(1000)); return 1; }"
    ∷ codes "int get(string s) { write(b[random(8)]->get() + \"\\n\"); return 1; }"
    ∷ [])

-- the name of a box: they are numbered from 1 to 8
abbrev pub box_name : ℕ → List ℕ
box_name choice = codes "/obj/box#" ++ numeral (1 + choice % 8)

-- The event that a word of the generator chooses at a moment: its lowest two bits say which kind, and the others which moment or box.
unfoldable pub event_for : ℕ → ℕ → Event
event_for moment word =
    if word % 4 == 0 then Line 1 (codes "put")
    else (if word % 4 == 1 then Line 1 (codes "get")
    else (if word % 4 == 2 then Tick (moment + 1 + (word / 4) % 5)
    else Swap (box_name (word / 4))))

-- the moment after an event
abbrev pub moment_after : ℕ → Event → ℕ
moment_after moment (Tick later) = later
moment_after moment event = moment

-- So many events, by the words of the generator from a state on, at a moment.
unfoldable pub events_from : ℕ → ℕ → ℕ → List Event
events_from zero state moment = []
events_from (suc count) state moment =
    let event = event_for moment (mix_u64 state).0 in
    event ∷ events_from count (mix_u64 state).1 (moment_after moment event)

-- the head, and the two files, in the order of their paths
abbrev pub mudlib : ℕ → List Item
mudlib seed = items.Head seed 0 ∷ items.File box_path box_source ∷ items.File master_path master_source ∷ []

-- the driver starts, and one connection opens
abbrev pub beginning : List Item
beginning = items.Start ∷ items.Event (Connect 1) ∷ []

-- the events that the generator chooses, from a state on, at a moment
abbrev pub chosen : ℕ → ℕ → ℕ → List Item
chosen count state moment = map (λ e. items.Event e) (events_from count state moment)

-- the script of the workload: so many events behind its mudlib and its beginning, by the generator with this seed
abbrev pub workload : ℕ → ℕ → List Item
workload count seed = ((mudlib seed ++ beginning) ++ chosen count seed 0) ++ items.End ∷ []
